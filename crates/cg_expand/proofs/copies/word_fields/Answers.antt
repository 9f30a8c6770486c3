use Rattle.std.proofs.Common.{ℕ, ◌≡◌, ◌+◌, ◌*◌, ◌++◌, ap, sym, ◌∙◌, arith}
use Rattle.std.specs.List.{flat_map, range_with_len}
use Rattle.cg_desc.specs.Items.{copies_per_word, copy_fields, word_fields}
use Rattle.cg_expand.proofs.Multiregs.{filled, word_starts}
use Rattle.cg_expand.proofs.Ranges.{over_more}
use Rattle.cg_expand.proofs.copies.word_fields.Goals as goal

pub overflow_mul-first : goal.overflow_mul-first
overflow_mul-first c =
    let few = c.requires.valid.few_copies in
    omega (arith, word_starts c.args.multireg.now c.args.number c.requires.valid c.requires.word, ap (λ n. c.args.number * n) c.copies_per_word.ensures)

pub loop-place-preserved : goal.loop-place-preserved
loop-place-preserved c =
    let m = c.args.multireg.now in
    let f = λ (place : ℕ). copy_fields m (c.args.number * copies_per_word m + place) place in
    c.in_ok-add_copy.ensures
    ∙ ap (λ n. c.loop-place.fields ++ copy_fields m (c.args.number * n + c.loop-place.place) c.loop-place.place) c.copies_per_word.ensures
    ∙ ap (λ fs. fs ++ f c.loop-place.place) c.loop-place.invariant
    ∙ sym (over_more f c.loop-place.place)

pub returns : goal.returns
unfolding word_fields
returns c =
    let m = c.args.multireg.now in
    let f = λ (place : ℕ). copy_fields m (c.args.number * copies_per_word m + place) place in
    let all : c.loop-place.place ≡ c.copies_in_word-count.result = omega arith in
    c.loop-place.invariant ∙ ap (λ n. flat_map f (range_with_len 0 n)) (all ∙ c.copies_in_word-count.ensures)

pub overflow_add-first : goal.overflow_add-first
overflow_add-first c =
    let few = c.requires.valid.few_copies in
    let here = filled c.args.multireg.now c.args.number c.requires.valid c.requires.word in
    omega (arith, here.left, c.copies_in_word-count.ensures, ap (λ n. c.args.number * n) c.copies_per_word.ensures)

pub add_copy-requires-clause-room : goal.add_copy-requires-clause-room
add_copy-requires-clause-room c =
    let here = filled c.args.multireg.now c.args.number c.requires.valid c.requires.word in
    omega (arith, here.room, c.copies_in_word-count.ensures)
