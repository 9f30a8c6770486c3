use Rattle.std.proofs.Common.{sym}
use Rattle.std.proofs.lemmas.List.{drop_all}
use Rattle.cg_space.proofs.Tabling.{cut_at, device_at, goes_on_end, goes_on_more, kept_read}
use Rattle.cg_space.proofs.table.coverage_of_all.Goals as goal

pub add-requires : goal.add-requires
add-requires c =
    let device = device_at c.args.top.now c.args.xbar c.args.to.now c.loop-device.device-index 0 c.requires.devices c.loop-device-test.true in
    let kept = kept_read c.args.top.now c.args.xbar _ c.args.table.now c.index-table-device.result c.requires.table device in
    let here = rw (sym c.index-table-device.is) at kept in
    (c.loop-device.invariant.ranges, here.0, c.loop-device.invariant.is, here.2)

pub loop-device-preserved : goal.loop-device-preserved
loop-device-preserved c =
    let device = device_at c.args.top.now c.args.xbar c.args.to.now c.loop-device.device-index 0 c.requires.devices c.loop-device-test.true in
    let kept = kept_read c.args.top.now c.args.xbar _ c.args.table.now c.index-table-device.result c.requires.table device in
    goes_on_more c.args.top.now c.args.xbar c.args.to.now _ _ c.loop-device.coverage c.index-table-device.result c.add.new.self (rw (sym c.index-table-device.is) at kept)
    c.in_ok-add.ensures (rw (cut_at c.args.to.now c.loop-device.device-index 0 c.loop-device-test.true) at c.loop-device.invariant)

pub returns : goal.returns
returns c = goes_on_end c.args.top.now c.args.xbar c.args.to.now _ _ (drop_all c.loop-device.device-index c.args.to.now c.loop-device-test.false) c.loop-device.invariant
