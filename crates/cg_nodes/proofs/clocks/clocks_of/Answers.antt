use Rattle.std.proofs.Common.{sym, ap, map, ◌∙◌}
use Rattle.cg_nodes.proofs.ClocksUsed.{first_use, inserted, last_use, next_use}
use Rattle.cg_nodes.proofs.clocks.clocks_of.Goals as goal

pub loop-node-init : goal.loop-node-init
loop-node-init c =
    first_use c.args.xbar.now c.insert.new.self.keys c.as_str.result c.as_slice-node-items.result.now
    (c.in_ok-insert.ensures.keys ∙ ap (λ keys. inserted keys c.as_str.result) c.new-used.ensures.empty) c.as_str.ensures c.as_slice-node-items.ensures

pub loop-node-preserved : goal.loop-node-preserved
loop-node-preserved c =
    next_use c.loop-node.used.keys c.insert-in-loop-node.new.self.keys c.as_str-in-loop-node.result c.as_slice-node-items.result.now c.loop-node.node-index
    c.node-item.result _ _ c.loop-node-test.true c.node-item.is c.as_str-in-loop-node.ensures c.in_ok-insert-2.ensures.keys c.loop-node.invariant

pub returns : goal.returns
returns c =
    c.in_ok-texts_of.ensures ∙ ap (map (λ n. n.now)) c.as_slice.ensures.keys
    ∙ sym (last_use c.loop-node.used.keys c.as_slice-node-items.result.now c.loop-node.node-index c.loop-node-test.false) ∙ c.loop-node.invariant
