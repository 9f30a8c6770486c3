use Rattle.std.proofs.Common.{◌≡◌, [], drop, take, map}
use Rattle.cg_sv.specs.Views.{entry_of, module_of}
use Rattle.cg_svcheck.specs.Fitting.{entries_fit}
use Rattle.cg_svcheck.proofs.fitting.entries_fit.Given as goal

-- the entries from here on fit where all do
abbrev pub invariant-loop-place : goal.invariant-loop-place
invariant-loop-place l =
    entries_fit (module_of l.«module») (map entry_of (take l.place l.entries)) (map entry_of (drop l.place l.entries))
    ≡ entries_fit (module_of l.«module») [] (map entry_of l.entries)
