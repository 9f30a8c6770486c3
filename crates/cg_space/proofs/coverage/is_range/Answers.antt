use Rattle.std.proofs.Common.{arith}
use Rattle.std.proofs.lemmas.Bool.{false≢true}
use Rattle.cg_space.proofs.Shapes.{ends_of, four_at_least, power_is_next, range_of}
use Rattle.cg_space.proofs.coverage.is_range.Goals as goal

pub returns-then-next_power_of_two-range : goal.returns-then-next_power_of_two-range
returns-then-next_power_of_two-range c = (
  λ h. absurd (false≢true h),
  λ range. absurd (c.if-next_power_of_two-range.true (power_is_next c.args.range.size c.next_power_of_two.result range.power c.if-range-lt4.false c.next_power_of_two.ensures.power
      c.next_power_of_two.ensures.lower_bound c.next_power_of_two.ensures.upper_bound range.size_is)),
)

pub returns : goal.returns
returns c = (
  λ h. range_of c.args.range c.next_power_of_two.result c.next_power_of_two.ensures.power c.if-next_power_of_two-range.false c.if-range-lt4.false
      (rw c.from-base.ensures at c.if-base-range-ne0.false) (rw c.from-base.ensures at h),
  λ range. rw c.from-base.ensures (ends_of c.args.range range),
)

pub returns-then-range-lt4 : goal.returns-then-range-lt4
returns-then-range-lt4 c = (λ h. absurd (false≢true h), λ range. absurd (omega (arith, four_at_least c.args.range range, c.if-range-lt4.true)))
