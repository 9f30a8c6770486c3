use Rattle.std.proofs.Common.{◌≡◌}
use Rattle.cg_space.specs.Inner.Leaves.{Adds, AtPlace, Below, range_row}
use Rattle.cg_space.proofs.leaves.add_ranges.Given as goal

-- the rows of the ranges so far are there
abbrev pub invariant-loop-range : goal.invariant-loop-range
invariant-loop-range l = Adds l.initial.rows l.rows (Below (AtPlace (λ k range row. row ≡ range_row l.host l.xbar l.node range) l.ranges) l.range-index)
