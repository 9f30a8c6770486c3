use Rattle.std.proofs.Common.{◌≡◌, drop}
use Rattle.cg_outputs.specs.Inner.{put_outputs}
use Rattle.cg_chip.specs.Inner.{block_texts, blocks_fault}
use Rattle.cg_chip.proofs.blocks.put_blocks.Given as goal

-- what is put and what is left are all, and no name so far comes twice
abbrev pub invariant-loop-number : goal.invariant-loop-number
invariant-loop-number l = record {
  put : put_outputs l.outputs (block_texts (drop l.number l.blocks) (drop l.number l.trees)) ≡ put_outputs l.fn.outputs (block_texts l.blocks l.trees);
  clear : blocks_fault (drop l.number l.blocks) (drop l.number l.trees) ≡ blocks_fault l.blocks l.trees;
}
