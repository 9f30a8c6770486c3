use Rattle.std.proofs.Common.{◌*◌, refl, subst, arith}
use Rattle.std.specs.Int.{IsNextPowerOfTwo}
use Rattle.cg_desc.specs.Offsets.{IsSpan}
use Rattle.cg_layout.specs.Inner.Extents.{Extends}
use Rattle.cg_layout.proofs.Ends.{power_within, row_extends}
use Rattle.cg_layout.proofs.offsets.extent_of.Goals as goal
use Rattle.cg_layout.proofs.offsets.extent_of.Goals.{After-next_power_of_two}

-- the span of a window
power : (c : After-next_power_of_two) → IsNextPowerOfTwo (4 * c.in-Window.window.items) c.next_power_of_two.result
power c =
    let is = c.next_power_of_two.ensures in
    subst (λ n. IsNextPowerOfTwo (4 * n) c.next_power_of_two.result) c.from.ensures (is.power, is.lower_bound, is.upper_bound)

pub row_extent-requires-clause-power : goal.row_extent-requires-clause-power
row_extent-requires-clause-power c = (2, refl)

pub row_extent-requires-in-Window-clause-span : goal.row_extent-requires-in-Window-clause-span
row_extent-requires-in-Window-clause-span c =
    let valid = rw c.in-Window.is at c.requires.valid in
    power_within (4 * c.in-Window.window.items) c.next_power_of_two.result 24 (power c) (omega (arith, valid.few_items))

pub returns-in-Reg : goal.returns-in-Reg
returns-in-Reg c = rw c.in-Reg.is (row_extends IsSpan.register c.row_extent.ensures.first c.row_extent.ensures.end)

pub returns-in-Window : goal.returns-in-Window
returns-in-Window c =
    rw c.in-Window.is
    (row_extends (IsSpan.window (power (goal.at.returns-in-Window c).After-next_power_of_two)) c.row_extent-in-Window.ensures.first c.row_extent-in-Window.ensures.end)

pub returns-in-SkipTo : goal.returns-in-SkipTo
returns-in-SkipTo c = rw (c.in-SkipTo.is, c.from-in-SkipTo.ensures, c.from-in-SkipTo-2.ensures) Extends.skip

pub returns-in-Reserved : goal.returns-in-Reserved
returns-in-Reserved c = rw (c.in-Reserved.is, c.from-in-Reserved.ensures) Extends.reserved
