use Rattle.std.proofs.Common.{length, refl}
use Rattle.std.proofs.lemmas.Option.{slice_get_read}
use Rattle.cg_desc.specs.Merged.{design_of}
use Rattle.cg_merge.specs.NodeEnds.{AreEndsOf}
use Rattle.cg_merge.proofs.NodeEnds.{all_are, none_yet, one_more}
use Rattle.cg_merge.proofs.ends.ends_of.Goals as goal

pub loop-outer-init : goal.loop-outer-init
loop-outer-init c = rw c.new-ends.ensures (none_yet (AreEndsOf (design_of c.args.top.now)) c.args.top.now.xbars)

pub loop-outer-preserved : goal.loop-outer-preserved
loop-outer-preserved c =
    let less = rw c.as_slice-outer-items.ensures at c.loop-outer-test.true in
    let is = rw c.as_slice-outer-items.ensures at c.outer-item.is in
    let there = slice_get_read c.args.top.now.xbars (length c.args.top.now.xbars) c.loop-outer.outer-index c.outer-item.result refl less is in
    one_more (AreEndsOf (design_of c.args.top.now)) c.args.top.now.xbars c.loop-outer.ends c.push.new.self c.loop-outer.outer-index c.outer-item.result c.in_ok-ends_of_nodes.field-0 there
    c.loop-outer.invariant (c.in_ok-ends_of_nodes.ensures c.loop-outer.outer-index there) c.in_ok-push.ensures.ok

pub returns : goal.returns
returns c =
    let within = rw c.as_slice-outer-items.ensures at c.loop-outer.auto.outer-index-end in
    let most = rw c.as_slice-outer-items.ensures at c.loop-outer-test.false in
    all_are (AreEndsOf (design_of c.args.top.now)) c.args.top.now.xbars c.loop-outer.ends c.loop-outer.outer-index within most c.loop-outer.invariant
