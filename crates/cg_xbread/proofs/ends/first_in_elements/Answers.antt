use Rattle.std.proofs.Common.{sym, take, ◌∙◌}
use Rattle.cg_finding.proofs.Loops.{no_more_after, one_more_after}
use Rattle.cg_xbread.specs.Listed.{element_faults_after}
use Rattle.cg_xbread.specs.Written.{text_of}
use Rattle.cg_keys.proofs.SeenNames.{one_more_name}
use Rattle.cg_xbread.proofs.Elements.{element_by_set}
use Rattle.cg_xbread.proofs.ends.first_in_elements.Goals as goal

pub loop-element-preserved : goal.loop-element-preserved
loop-element-preserved c = record {
  seen =
      one_more_name text_of c.args.elements.now c.loop-element.element-index c.element-item.result _ c.text_of-name.result.now c.loop-element.seen.keys c.insert.new.self.keys
      c.loop-element-test.true c.element-item.is c.text_of-name.ensures
      (λ n. c.in_ok-is_new.ensures.updates.0 (record { ref_ptr = (0, 0); now = n })) c.loop-element.invariant.seen;
  rest =
      one_more_after (element_faults_after c.args.nodes.now) c.args.elements.now c.loop-element.element-index c.element-item.result _ _ _ _
      c.loop-element-test.true c.element-item.is
      (element_by_set c.args.nodes.now (take c.loop-element.element-index c.args.elements.now) c.element-item.result c.text_of-name.result.now c.loop-element.seen.keys _ _ _
      c.text_of-name.ensures c.loop-element.invariant.seen c.in_ok-is_new.ensures.added c.is_named-is_device.ensures c.first_in_element.ensures)
      c.earlier_of-first.ensures
      ∙ c.loop-element.invariant.rest;
}

pub returns : goal.returns
returns c =
    sym (no_more_after (element_faults_after c.args.nodes.now) c.args.elements.now c.loop-element.element-index _ c.loop-element-test.false) ∙ c.loop-element.invariant.rest
