use Rattle.std.proofs.Common.{ℕ, ◌≡◌, ◌<◌, [], length, get_or}
use Rattle.cg_space.specs.Inner.Marks.{marks_of}
use Rattle.cg_space.proofs.graph.all_reached.Given as goal

abbrev pub invariant-loop-number : goal.invariant-loop-number
invariant-loop-number l = record { all : length l.all ≡ l.number; each : (x : ℕ) → x < l.number → get_or l.all x [] ≡ marks_of l.links x }
