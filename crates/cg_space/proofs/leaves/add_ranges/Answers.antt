use Rattle.std.proofs.Common.{◌≡◌}
use Rattle.std.proofs.lemmas.Option.{slice_get-get_or}
use Rattle.cg_space.specs.Inner.Leaves.{AtPlace, range_row}
use Rattle.cg_space.proofs.Growing.{adds_all, adds_at, adds_item, adds_next}
use Rattle.cg_space.proofs.leaves.add_ranges.Goals as goal

pub loop-range-preserved : goal.loop-range-preserved
loop-range-preserved c =
    adds_next c.args.rows.now c.loop-range.rows c.push.new.self (AtPlace (λ k range row. row ≡ range_row c.args.host c.args.xbar c.args.node range) c.args.ranges.now) c.loop-range.range-index
    c.loop-range.invariant
    (adds_at c.loop-range.rows c.push.new.self (λ k range row. row ≡ range_row c.args.host c.args.xbar c.args.node range) c.args.ranges.now c.loop-range.range-index _
    (slice_get-get_or c.args.ranges.now c.loop-range.range-index _ c.loop-range-test.true) (rw c.range_row.ensures at (adds_item c.loop-range.rows c.push.new.self c.range_row.result c.in_ok-push.ensures.ok)))

pub returns : goal.returns
returns c =
    adds_all c.args.rows.now c.loop-range.rows (λ k range row. row ≡ range_row c.args.host c.args.xbar c.args.node range) c.args.ranges.now c.loop-range.range-index c.loop-range-test.false c.loop-range.invariant
