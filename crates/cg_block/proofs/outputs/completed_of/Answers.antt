use Rattle.std.proofs.Common.{◌≡◌, sym, ap, subst}
use Rattle.cg_desc.specs.declared.block.BlockDesc.{BlockDesc}
use Rattle.cg_blkread.specs.Described.{block_of}
use Rattle.cg_block.proofs.outputs.completed_of.Goals as goal

-- the description is the tree's
pub done_block-requires-clause-described : goal.done_block-requires-clause-described
unfolding block_of
done_block-requires-clause-described c =
    let is = c.requires.1.is_good.laid_out.is_laid.description in
    subst (λ n. c.args.laid.now.desc ≡ block_of n c.args.tree.now) (sym (ap (λ (d : BlockDesc). d.file) is)) is
