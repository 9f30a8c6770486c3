use Rattle.std.proofs.Common.{length, refl}
use Rattle.std.proofs.lemmas.Option.{slice_get_read}
use Rattle.cg_desc.specs.Ends.{StandsFor}
use Rattle.cg_desc.specs.Merged.{design_of}
use Rattle.cg_merge.proofs.NodeEnds.{all_are, none_yet, one_more}
use Rattle.cg_merge.proofs.ends.ends_of_nodes.Goals as goal

pub loop-node-init : goal.loop-node-init
loop-node-init c x there = rw c.new-ends.ensures (none_yet (λ n node e. StandsFor (design_of c.args.top.now) x node e) c.args.outer.now.nodes)

pub loop-node-preserved : goal.loop-node-preserved
loop-node-preserved c x there =
    let less = rw c.as_slice-node-items.ensures at c.loop-node-test.true in
    let is = rw c.as_slice-node-items.ensures at c.node-item.is in
    let at = slice_get_read c.args.outer.now.nodes (length c.args.outer.now.nodes) c.loop-node.node-index c.node-item.result refl less is in
    one_more (λ n node e. StandsFor (design_of c.args.top.now) x node e) c.args.outer.now.nodes c.loop-node.ends c.push.new.self c.loop-node.node-index c.node-item.result c.in_ok-end_of.field-0 at
    (c.loop-node.invariant x there) (c.in_ok-end_of.ensures x there) c.in_ok-push.ensures.ok

pub returns : goal.returns
returns c x there =
    let within = rw c.as_slice-node-items.ensures at c.loop-node.auto.node-index-end in
    let most = rw c.as_slice-node-items.ensures at c.loop-node-test.false in
    all_are (λ n node e. StandsFor (design_of c.args.top.now) x node e) c.args.outer.now.nodes c.loop-node.ends c.loop-node.node-index within most (c.loop-node.invariant x there)
