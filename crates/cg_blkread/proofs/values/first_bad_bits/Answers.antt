use Rattle.std.proofs.Common.{sym, ◌∙◌}
use Rattle.cg_finding.proofs.Loops.{no_more, one_more}
use Rattle.cg_blkread.specs.Values.{bad_bits}
use Rattle.cg_blkread.proofs.values.first_bad_bits.Goals as goal

pub loop-field-preserved : goal.loop-field-preserved
loop-field-preserved c =
    one_more (bad_bits c.args.register.now) c.args.fields.now c.loop-field.field-index c.field-item.result _ _ _ _
    c.loop-field-test.true c.field-item.is c.bad_bits.ensures c.earlier_of-first.ensures
    ∙ c.loop-field.invariant

pub returns : goal.returns
returns c = sym (no_more (bad_bits c.args.register.now) c.args.fields.now c.loop-field.field-index _ c.loop-field-test.false) ∙ c.loop-field.invariant
