use Rattle.std.proofs.Common.{◌++◌, [], ◌∷◌, ◌∙◌}
use Rattle.cg_expand.proofs.Ranges.{three_more}
use Rattle.cg_expand.proofs.automatic.add_interrupt_registers.Goals as goal

pub returns : goal.returns
returns c =
    three_more c.args.items.now c.push.new.self c.push-2.new.self c.push-3.new.self _ _ _ c.in_ok-push.ensures.ok c.in_ok-push-2.ensures.ok c.in_ok-push-3.ensures.ok
    ∙ (λ i. c.args.items.now ++ (c.in_ok-interrupt_register.ensures i ∷ c.in_ok-interrupt_register-2.ensures i ∷ c.in_ok-interrupt_register-3.ensures i ∷ []))
