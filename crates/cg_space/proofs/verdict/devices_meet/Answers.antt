use Rattle.cg_space.proofs.Judging.{meet_read}
use Rattle.cg_space.proofs.Tabling.{kept_read}
use Rattle.cg_space.proofs.verdict.devices_meet.Goals as goal

pub share-requires-clause-left : goal.share-requires-clause-left
share-requires-clause-left c =
    let kept = kept_read c.args.top.now c.args.xbar c.args.first c.args.table.now c.index-table-first.result c.requires.table c.requires.first in
    rw c.as_slice.ensures kept.2.region

pub share-requires-clause-right : goal.share-requires-clause-right
share-requires-clause-right c =
    let kept = kept_read c.args.top.now c.args.xbar c.args.second c.args.table.now c.index-table-second.result c.requires.table c.requires.second in
    rw c.as_slice-2.ensures kept.2.region

pub returns : goal.returns
returns c =
    let first = kept_read c.args.top.now c.args.xbar c.args.first c.args.table.now c.index-table-first.result c.requires.table c.requires.first in
    let second = kept_read c.args.top.now c.args.xbar c.args.second c.args.table.now c.index-table-second.result c.requires.table c.requires.second in
    meet_read c.args.top.now c.args.xbar c.args.first c.args.second _ _ c.share.result c.requires.sound first second
    (rw (c.as_slice.ensures, c.as_slice-2.ensures) at c.share.ensures)
