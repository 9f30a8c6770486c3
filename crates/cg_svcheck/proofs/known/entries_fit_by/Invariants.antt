use Rattle.cg_sv.specs.Views.{module_of}
use Rattle.cg_svcheck.proofs.Growing.{Above}
use Rattle.cg_svcheck.proofs.known.entries_fit_by.Given as goal

-- the tables say what stands above, and the entries from here on fit where all do
abbrev pub invariant-loop-entry : goal.invariant-loop-entry
invariant-loop-entry l =
    Above (module_of l.«module») l.entry-index l.«module».entries l.nets
