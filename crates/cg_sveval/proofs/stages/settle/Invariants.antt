use Rattle.std.proofs.Common.{◌≡◌, ℕ, List, drop, map}
use Rattle.cg_sv.specs.Views.{entry_of}
use Rattle.cg_sveval.specs.Lookups.{value_in}
use Rattle.cg_sveval.specs.Tables.{settled}
use Rattle.cg_sveval.proofs.stages.settle.Given as goal

-- what is known, with the nets that are left, is all
abbrev pub invariant-loop-entry : goal.invariant-loop-entry
invariant-loop-entry l = (n : List ℕ) → settled (value_in l.known) (map entry_of (drop l.entry-index l.entries)) n ≡ settled (value_in l.fn.known) (map entry_of l.entries) n
