use Rattle.std.proofs.Common.{◌≡◌, length, refl, sym, ap, ◌∙◌, arith}
use Rattle.std.specs.Vec.Iter.{into_iter_items}
use Rattle.cg_design.specs.declared.block.BlockSource.{BlockSource}
use Rattle.cg_design.proofs.Parts.{no_items, part_all, part_next, part_none}
use Rattle.cg_design.proofs.blocks.parted.Goals as goal

pub loop-source-init : goal.loop-source-init
loop-source-init c =
    let gives = c.into_iter-source-iterator.ensures.into_iter_gives in
    let all : into_iter_items c.into_iter-source-iterator.result ≡ c.args.sources = gives.0 ∙ c.into_vec-source-items.ensures in record {
      trees = part_none (λ (s : BlockSource). s.tree) c.new-trees.result _ _ c.args.sources c.new-trees.ensures all refl;
      blocks = part_none (λ (s : BlockSource). s.laid) c.new-blocks.result _ _ c.args.sources c.new-blocks.ensures all refl;
      counted = gives.1 ∙ sym (ap length gives.0 ∙ sym c.into_vec-source-items.result.ok.0);
    }

pub loop-source-preserved : goal.loop-source-preserved
loop-source-preserved c = record {
  trees = part_next (λ (s : BlockSource). s.tree) c.loop-source.trees _ _ _ _ _ c.in-Some.ensures.steps.0 c.loop-source.invariant.trees c.in_ok-push.ensures.ok;
  blocks = part_next (λ (s : BlockSource). s.laid) c.loop-source.blocks _ _ _ _ _ c.in-Some.ensures.steps.0 c.loop-source.invariant.blocks c.in_ok-push-2.ensures.ok;
  counted = let gone = c.in-Some.ensures.steps.1 in let short = ap length c.in-Some.ensures.steps.0 in let count = c.loop-source.invariant.counted in omega arith;
}

pub returns : goal.returns
returns c =
    let none = c.in-None.ensures.steps.0 in
    let empty = no_items _ (sym c.loop-source.invariant.counted ∙ none) in (
      part_all (λ (s : BlockSource). s.tree) c.loop-source.trees _ _ empty c.loop-source.invariant.trees,
      part_all (λ (s : BlockSource). s.laid) c.loop-source.blocks _ _ empty c.loop-source.invariant.blocks,
    )
