use Rattle.std.proofs.Common.{◌≡◌, ◌++◌, length, map}
use Rattle.std.specs.Vec.Iter.{into_iter_items, into_iter_len}
use Rattle.cg_design.specs.declared.block.BlockSource.{BlockSource}
use Rattle.cg_design.proofs.blocks.parted.Given as goal

-- the trees and blocks so far, with those that are left, and how many are left
abbrev pub invariant-loop-source : goal.invariant-loop-source
invariant-loop-source l = record {
  trees : l.trees ++ map (λ (s : BlockSource). s.tree) (into_iter_items l.source-iterator) ≡ map (λ (s : BlockSource). s.tree) l.fn.sources;
  blocks : l.blocks ++ map (λ (s : BlockSource). s.laid) (into_iter_items l.source-iterator) ≡ map (λ (s : BlockSource). s.laid) l.fn.sources;
  counted : into_iter_len l.source-iterator ≡ length (into_iter_items l.source-iterator);
}
