use Rattle.std.proofs.Common.{arith}
use Rattle.cg_blkhdr.proofs.Sums.{next, none_left}
use Rattle.cg_blkhdr.proofs.values.reset_word.Goals as goal

pub overflow_mul-word : goal.overflow_mul-word
overflow_mul-word c =
    let more = next c.args.fields.now c.loop-field.word c.loop-field.field-index c.field-item.result c.loop-field-test.true c.field-item.is c.loop-field.invariant.sum c.loop-field.invariant.small in
    let bound = more.sum in
    let word = c.requires.word in
    omega arith

pub overflow_add-word : goal.overflow_add-word
overflow_add-word c =
    let more = next c.args.fields.now c.loop-field.word c.loop-field.field-index c.field-item.result c.loop-field-test.true c.field-item.is c.loop-field.invariant.sum c.loop-field.invariant.small in
    let bound = more.sum in
    let word = c.requires.word in
    omega arith

pub loop-field-preserved : goal.loop-field-preserved
loop-field-preserved c =
    let more = next c.args.fields.now c.loop-field.word c.loop-field.field-index c.field-item.result c.loop-field-test.true c.field-item.is c.loop-field.invariant.sum c.loop-field.invariant.small in
    record { sum = more.sum; small = more.small }

pub returns : goal.returns
returns c = none_left c.args.fields.now c.loop-field.word c.loop-field.field-index c.loop-field-test.false c.loop-field.invariant.sum
