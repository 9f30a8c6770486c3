use Rattle.std.proofs.Common.{ℕ, ◌++◌, [], ◌∷◌, map, append_assoc, ap, sym, ◌∙◌, arith}
use Rattle.std.proofs.lemmas.List.FromFn.{map-range_with_len_more}
use Rattle.std.specs.List.{range_with_len}
use Rattle.cg_desc.specs.Items.{multireg_word}
use Rattle.cg_desc.specs.declared.block.Item.TheVariants.{Reg}
use Rattle.cg_expand.proofs.entries.add_words.Goals as goal

pub loop-number-preserved : goal.loop-number-preserved
loop-number-preserved c =
    let word = λ (j : ℕ). Reg (multireg_word c.args.multireg.now j) in
    let n = c.loop-number.number in
    c.in_ok-push.ensures.ok
    ∙ (λ i. c.loop-number.invariant i ++ Reg (c.in_ok-multireg_word.ensures i) ∷ [])
    ∙ append_assoc c.args.items.now (map word (range_with_len 0 n)) (word n ∷ [])
    ∙ ap (λ xs. c.args.items.now ++ xs) (sym (map-range_with_len_more word 0 n n (omega arith)))
