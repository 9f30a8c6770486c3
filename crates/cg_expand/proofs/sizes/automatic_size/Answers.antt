use Rattle.std.proofs.Common.{◌+◌, ◌*◌, cond, sym, ◌∙◌}
use Rattle.cg_expand.specs.Parts.Sizes.{capped}
use Rattle.cg_expand.proofs.AutomaticCounts.{automatic_fields, automatic_rows, capped_twice}
use Rattle.cg_expand.proofs.sizes.automatic_size.Goals as goal

pub returns : goal.returns
returns c =
    let p = c.has_interrupt_registers.ensures in
    let q = c.has_alert_register.ensures in
    let interrupts = c.size_if-interrupts.ensures ∙ (λ i. capped (cond (p i) 3 0) (cond (p i) (3 * c.len.ensures i) 0)) in
    let alerts = c.size_if-alerts.ensures ∙ (λ i. capped (cond (q i) 1 0) (cond (q i) (1 * c.len-2.ensures i) 0)) in
    c.plus.ensures
    ∙ (λ i. capped ((interrupts i).rows + (alerts i).rows) ((interrupts i).fields + (alerts i).fields))
    ∙ capped_twice _ _ _ _
    ∙ (λ i. capped (sym (automatic_rows c.args.block.now) i) (sym (automatic_fields c.args.block.now) i))
