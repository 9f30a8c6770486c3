use Rattle.std.proofs.Common.{sym, ◌∙◌}
use Rattle.cg_finding.proofs.Loops.{no_more, one_more}
use Rattle.cg_blkread.specs.Values.{wide_reset}
use Rattle.cg_blkread.proofs.values.first_wide_reset.Goals as goal

pub loop-field-preserved : goal.loop-field-preserved
loop-field-preserved c =
    one_more (wide_reset c.args.register.now) c.args.fields.now c.loop-field.field-index c.field-item.result _ _ _ _
    c.loop-field-test.true c.field-item.is c.wide_reset.ensures c.earlier_of-first.ensures
    ∙ c.loop-field.invariant

pub returns : goal.returns
returns c = sym (no_more (wide_reset c.args.register.now) c.args.fields.now c.loop-field.field-index _ c.loop-field-test.false) ∙ c.loop-field.invariant
