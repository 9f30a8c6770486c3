use Rattle.std.proofs.Common.{◌∙◌, sym}
use Rattle.cg_xbread.proofs.Heard.{all_elements, one_element}
use Rattle.cg_xbread.proofs.ends.hear.Goals as goal

pub loop-element-preserved : goal.loop-element-preserved
loop-element-preserved c = λ n.
    one_element c.args.elements.now c.loop-element.element-index c.element-item.result _ c.text_of.result.now c.loop-element.names.keys c.insert.new.self.keys n
    c.loop-element-test.true c.element-item.is c.text_of.ensures (λ m. c.in_ok-insert.ensures.updates.0 (record { ref_ptr = (0, 0); now = m }))
    ∙ c.loop-element.invariant n

pub returns : goal.returns
returns c = λ n.
    sym (all_elements c.args.elements.now c.loop-element.element-index c.loop-element.names.keys n c.loop-element-test.false)
    ∙ c.loop-element.invariant n
