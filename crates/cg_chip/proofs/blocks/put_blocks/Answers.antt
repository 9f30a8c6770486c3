use Rattle.std.proofs.Common.{◌<◌, length, sym, ap, ◌∙◌, arith}
use Rattle.cg_outputs.specs.Inner.{put_outputs}
use Rattle.cg_chip.proofs.Loops.{block_clear, block_put, block_refused, no_block_left, one_described}
use Rattle.cg_chip.proofs.blocks.put_blocks.Goals as goal
use Rattle.cg_chip.proofs.blocks.put_blocks.Goals.{After-put_block}

-- the block is one of them
within : (c : After-put_block) → c.loop-number.number < length c.args.blocks.now
within c = omega (arith, c.loop-number-test.true)

pub put_block-requires : goal.put_block-requires
put_block-requires c =
    let h : c.loop-number.number < length c.args.blocks.now = omega (arith, c.loop-number-test.true) in
    record { described = one_described c.args.blocks.now c.args.trees.now c.loop-number.number _ _ c.requires.described h c.requires.count c.index-blocks-number.is c.index-trees-number.is }

-- one block's files more are put
pub loop-number-preserved : goal.loop-number-preserved
loop-number-preserved c =
    let h = within (goal.at.loop-number-preserved c).After-put_block in
    record {
      put = block_put c.args.blocks.now c.args.trees.now c.loop-number.number _ _ _ _ _ h c.requires.count c.index-blocks-number.is c.index-trees-number.is c.in-Ok.ensures.put c.loop-number.invariant.put;
      clear = block_clear c.args.blocks.now c.args.trees.now c.loop-number.number _ _ _ h c.requires.count c.index-blocks-number.is c.index-trees-number.is c.in-Ok.ensures.tells c.loop-number.invariant.clear;
    }

-- the first that is told is told
pub returns-in-Err-clause-tells : goal.returns-in-Err-clause-tells
returns-in-Err-clause-tells c =
    block_refused c.args.blocks.now c.args.trees.now c.loop-number.number _ _ _ _ (within (goal.at.returns-in-Err-clause-tells c).After-put_block) c.requires.count c.index-blocks-number.is c.index-trees-number.is
    c.loop-number.invariant.clear c.in-Err.ensures.tells

-- all are put
pub returns-clause-put : goal.returns-clause-put
unfolding put_outputs
returns-clause-put c =
    let left = no_block_left c.args.blocks.now c.args.trees.now c.loop-number.number (omega (arith, c.loop-number-test.false)) in
    sym (ap (put_outputs c.loop-number.outputs) left.0) ∙ c.loop-number.invariant.put

-- and no name comes twice
pub returns-clause-tells : goal.returns-clause-tells
returns-clause-tells c =
    let left = no_block_left c.args.blocks.now c.args.trees.now c.loop-number.number (omega (arith, c.loop-number-test.false)) in
    sym c.loop-number.invariant.clear ∙ left.1
