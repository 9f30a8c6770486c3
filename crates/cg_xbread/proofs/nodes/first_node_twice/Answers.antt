use Rattle.std.proofs.Common.{ap, sym, take, ◌∙◌, not}
use Rattle.cg_finding.proofs.Loops.{no_more_after, one_more_after}
use Rattle.cg_xbread.specs.Listed.{node_twice}
use Rattle.cg_keys.proofs.SeenNames.{has, one_more_name}
use Rattle.cg_xbread.proofs.Elements.{node_by_set}
use Rattle.cg_xbread.proofs.nodes.first_node_twice.Goals as goal

pub loop-node-preserved : goal.loop-node-preserved
loop-node-preserved c = record {
  seen =
      one_more_name (λ n. n.name) c.args.nodes.now c.loop-node.node-index c.node-item.result _ c.as_str.result.now c.loop-node.seen.keys c.insert.new.self.keys
      c.loop-node-test.true c.node-item.is c.as_str.ensures
      (λ n. c.in_ok-is_new.ensures.updates.0 (record { ref_ptr = (0, 0); now = n })) c.loop-node.invariant.seen;
  rest =
      one_more_after node_twice c.args.nodes.now c.loop-node.node-index c.node-item.result _ _ _ _
      c.loop-node-test.true c.node-item.is
      (node_by_set (take c.loop-node.node-index c.args.nodes.now) c.node-item.result c.loop-node.seen.keys _ _
      c.loop-node.invariant.seen (c.in_ok-is_new.ensures.added ∙ ap (λ n. not (has c.loop-node.seen.keys n)) c.as_str.ensures) c.repeat_of.ensures)
      c.earlier_of-first.ensures
      ∙ c.loop-node.invariant.rest;
}

pub returns : goal.returns
returns c =
    sym (no_more_after node_twice c.args.nodes.now c.loop-node.node-index _ c.loop-node-test.false) ∙ c.loop-node.invariant.rest
