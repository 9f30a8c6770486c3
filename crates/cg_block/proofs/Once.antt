-- A file is of one good block at most, and then breaks nothing.
use Rattle.std.proofs.Common.{◌≡◌, ℕ, Some, None, sym, ap, ◌∙◌, subst}
use Rattle.cg_desc.specs.declared.block.LaidBlock.{LaidBlock}
use Rattle.cg_finding.specs.Finding.{Finding}
use Rattle.cg_hjson.specs.declared.tree.Tree.{Tree}
use Rattle.cg_files.proofs.OneTree.{same_tree, unbroken}
use Rattle.cg_block.specs.Stages.{IsLaidOutAs}
use Rattle.cg_block.specs.Outputs.{clash_of}
use Rattle.cg_block.specs.Breaks.{BreaksTree, IsGoodBlock, up_to_layout, clash, of_file, of_tree}
use Rattle.cg_block.specs.Laws.{GoodFileBreaksNothing, GoodFileIsOne}
use Rattle.cg_block.proofs.FirstOnes.{laid_unbroken, one_layout}

pub good_tree_unbroken : (number : ℕ) (t : Tree) (laid : LaidBlock) (f : Finding) → IsGoodBlock number t laid → ¬ BreaksTree number t f
good_tree_unbroken number t laid _ good (up_to_layout {f} broken) = laid_unbroken number t laid f good.laid_out broken
good_tree_unbroken number t laid _ good (clash {name} other is comes) =
    let e : Some name ≡ None = sym comes ∙ ap clash_of (one_layout number t other laid is good.laid_out) ∙ good.no_clash in cc

pub good_unbroken : GoodFileBreaksNothing
good_unbroken file t laid _ good (of_file {f} broken) = unbroken file t f good.has_tree broken
good_unbroken file t laid _ good (of_tree {f} u has broken) =
    good_tree_unbroken file.number t laid f good.is_good (subst (λ x. BreaksTree file.number x f) (same_tree file u t has good.has_tree) broken)

pub good_one : GoodFileIsOne
good_one file t u laid other good also =
    let same : t ≡ u = same_tree file t u good.has_tree also.has_tree in
    (same, one_layout file.number u laid other (subst (λ x. IsLaidOutAs file.number x laid) same good.is_good.laid_out) also.is_good.laid_out)
