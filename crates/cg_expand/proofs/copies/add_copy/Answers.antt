use Rattle.std.proofs.Common.{◌≡◌, [], ◌++◌, ◌*◌, map, drop, append-nil, ap, sym, ◌∙◌, arith}
use Rattle.std.proofs.lemmas.List.{drop_all}
use Rattle.cg_desc.specs.Items.{copy_bits, copy_fields}
use Rattle.cg_expand.specs.Parts.Copies.{moved}
use Rattle.cg_expand.proofs.Multiregs.{placed, placed_field}
use Rattle.cg_expand.proofs.copies.add_copy.Goals as goal

pub overflow_cast-shift : goal.overflow_cast-shift
overflow_cast-shift c =
    let here = placed c.args.multireg.now c.args.place c.requires.valid c.requires.room in
    omega (arith, here.few, ap (λ n. n * c.args.place) (c.copy_bits.ensures ∙ ap copy_bits c.as_slice.ensures))

pub overflow_mul-shift : goal.overflow_mul-shift
overflow_mul-shift c =
    let here = placed c.args.multireg.now c.args.place c.requires.valid c.requires.room in
    omega (arith, here.few, ap (λ n. n * c.args.place) (c.copy_bits.ensures ∙ ap copy_bits c.as_slice.ensures))

pub moved_field-requires-clause-msb : goal.moved_field-requires-clause-msb
moved_field-requires-clause-msb c =
    let higher = placed_field c.args.multireg.now.reg.fields c.as_slice-field-items.result.now _ _ c.loop-field.field-index c.field-item.result
    (placed c.args.multireg.now c.args.place c.requires.valid c.requires.room) c.as_slice-field-items.ensures c.loop-field.invariant.shift
    c.loop-field-test.true c.field-item.is in
    omega (arith, higher.0)

pub moved_field-requires-clause-lsb : goal.moved_field-requires-clause-lsb
moved_field-requires-clause-lsb c =
    let higher = placed_field c.args.multireg.now.reg.fields c.as_slice-field-items.result.now _ _ c.loop-field.field-index c.field-item.result
    (placed c.args.multireg.now c.args.place c.requires.valid c.requires.room) c.as_slice-field-items.ensures c.loop-field.invariant.shift
    c.loop-field-test.true c.field-item.is in
    omega (arith, higher.1)

pub returns : goal.returns
unfolding copy_fields
returns c =
    let fs = c.args.multireg.now.reg.fields in
    let end : drop c.loop-field.field-index c.as_slice-field-items.result.now ≡ [] = drop_all c.loop-field.field-index c.as_slice-field-items.result.now c.loop-field-test.false in
    sym (ap (λ gs. c.loop-field.fields ++ map (moved c.args.number (c.copy_bits.result * c.args.place)) gs) end ∙ append-nil c.loop-field.fields)
    ∙ c.loop-field.invariant.fields
    ∙ ap (λ n. c.args.fields.now ++ map (moved c.args.number n) fs) c.loop-field.invariant.shift
