use Rattle.std.proofs.Common.{◌≤◌, ◌^◌}
use Rattle.cg_svspec.specs.Printable.{AllOf}
use Rattle.cg_rows_tops.proofs.shared.ranges_of.Given as goal

-- those so far have sizes of at most 2^32
abbrev pub invariant-loop-line : goal.invariant-loop-line
invariant-loop-line l = AllOf (λ range. range.size ≤ 2 ^ 32) l.ranges
