use Rattle.std.proofs.Common.{sym, ◌∙◌, arith}
use Rattle.std.proofs.lemmas.Bool.{true≢false}
use Rattle.cg_space.proofs.Sharing.{first_at, have_addresses, none_at_all}
use Rattle.cg_space.proofs.shared.first_shared.Goals as goal

pub meet-requires : goal.meet-requires
meet-requires c = record { addresses = rw c.deref.ensures.value (have_addresses c.args.ranges.now c.in_ok-extents.extents.items c.in_ok-extents.ensures.are) }

pub returns-then-not-meet : goal.returns-then-not-meet
returns-then-not-meet c =
    none_at_all c.args.ranges.now c.in_ok-extents.extents.items _ c.in_ok-extents.ensures.are (omega arith)
    (λ both. true≢false (sym (c.meet.ensures.1 (rw c.deref.ensures.value both)) ∙ c.if-not-meet.true))

pub meet-requires-in-loop-low : goal.meet-requires-in-loop-low
meet-requires-in-loop-low c =
    record { addresses = rw c.deref-in-loop-low.ensures.value (have_addresses c.args.ranges.now c.in_ok-extents.extents.items c.in_ok-extents.ensures.are) }

pub returns : goal.returns
returns c =
    first_at c.args.ranges.now c.in_ok-extents.extents.items c.loop-low.low c.loop-low.high c.in_ok-extents.ensures.are c.in_ok-extents.ensures.rise c.loop-low-test.false
    c.loop-low.invariant
