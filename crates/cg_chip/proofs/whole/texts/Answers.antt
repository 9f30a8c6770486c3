use Rattle.std.proofs.Common.{subst, sym, ◌∙◌}
use Rattle.std.proofs.lemmas.Result.{err_from_is_err_and}
use Rattle.cg_outputs.specs.Inner.{put_outputs}
use Rattle.cg_chip.specs.Inner.{block_texts, blocks_fault, crossbar_texts, crossbars_fault}
use Rattle.cg_chip.proofs.Telling.{Told}
use Rattle.cg_chip.proofs.Tops.{blocks_told, crossbars_told, none_told_at_all, own_told, texts_put}
use Rattle.cg_chip.proofs.whole.texts.Goals as goal

-- a name comes twice in the top's own texts
pub returns-in_err-outputs-clause-tells : goal.returns-in_err-outputs-clause-tells
returns-in_err-outputs-clause-tells c =
    let p = err_from_is_err_and c.from_residual.result c.from_residual.ensures.1 in
    rw (p.1, p.2) (own_told c.args.chip.now c.in_err-outputs.field-0.0 c.in_err-outputs.ensures.tells)

pub put_crossbars-requires-clause-fit : goal.put_crossbars-requires-clause-fit
put_crossbars-requires-clause-fit c = rw (c.as_slice.ensures, c.as_slice-2.ensures) c.requires.ranges

-- one comes twice in a crossbar's text
pub returns-in_err-put_crossbars-clause-tells : goal.returns-in_err-put_crossbars-clause-tells
returns-in_err-put_crossbars-clause-tells c =
    let p = err_from_is_err_and c.from_residual-in_err-put_crossbars.result c.from_residual-in_err-put_crossbars.ensures.1 in
    rw (p.1, p.2) (crossbars_told c.args.chip.now c.in_err-put_crossbars.field-0.0 c.in_ok-outputs.ensures.tells
    (subst (Told c.in_err-put_crossbars.field-0.0) (λ i. crossbars_fault (c.as_slice.ensures i) (c.as_slice-2.ensures i)) c.in_err-put_crossbars.ensures.tells))

pub put_blocks-requires-clause-described : goal.put_blocks-requires-clause-described
put_blocks-requires-clause-described c = rw (c.as_slice-3.ensures, c.as_slice-4.ensures) c.requires.blocks

-- one comes twice in a block's texts
pub returns-in_err-put_blocks-clause-tells : goal.returns-in_err-put_blocks-clause-tells
returns-in_err-put_blocks-clause-tells c =
    let p = err_from_is_err_and c.from_residual-in_err-put_blocks.result c.from_residual-in_err-put_blocks.ensures.1 in
    rw (p.1, p.2) (blocks_told c.args.chip.now c.in_err-put_blocks.field-0.0 c.in_ok-outputs.ensures.tells
    (sym (λ i. crossbars_fault (c.as_slice.ensures i) (c.as_slice-2.ensures i)) ∙ c.in_ok-put_crossbars.ensures.tells)
    (subst (Told c.in_err-put_blocks.field-0.0) (λ i. blocks_fault (c.as_slice-3.ensures i) (c.as_slice-4.ensures i)) c.in_err-put_blocks.ensures.tells))

-- all texts are put
pub returns-clause-made : goal.returns-clause-made
returns-clause-made c =
    texts_put c.args.chip.now _ _ _ c.in_ok-outputs.ensures.made
    (c.in_ok-put_crossbars.ensures.put ∙ (λ i. put_outputs c.in_ok-outputs.outputs (crossbar_texts (c.as_slice.ensures i) (c.as_slice-2.ensures i))))
    (c.in_ok-put_blocks.ensures.put ∙ (λ i. put_outputs c.put_crossbars.new.outputs (block_texts (c.as_slice-3.ensures i) (c.as_slice-4.ensures i))))

-- and no name comes twice
pub returns-clause-tells : goal.returns-clause-tells
returns-clause-tells c =
    none_told_at_all c.args.chip.now c.in_ok-outputs.ensures.tells
    (sym (λ i. crossbars_fault (c.as_slice.ensures i) (c.as_slice-2.ensures i)) ∙ c.in_ok-put_crossbars.ensures.tells)
    (sym (λ i. blocks_fault (c.as_slice-3.ensures i) (c.as_slice-4.ensures i)) ∙ c.in_ok-put_blocks.ensures.tells)
