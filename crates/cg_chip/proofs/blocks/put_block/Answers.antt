use Rattle.cg_chip.proofs.Described.{described_few, described_named, described_unit}
use Rattle.cg_chip.proofs.Telling.{clash_told}
use Rattle.cg_chip.proofs.blocks.put_block.Goals as goal

pub block_texts-requires-clause-few : goal.block_texts-requires-clause-few
block_texts-requires-clause-few c = described_few c.args.laid.now c.args.tree.now c.requires.described

pub block_texts-requires-clause-laid : goal.block_texts-requires-clause-laid
block_texts-requires-clause-laid c = c.requires.described.valid.laid

pub block_texts-requires-clause-named : goal.block_texts-requires-clause-named
block_texts-requires-clause-named c = described_named c.args.laid.now c.args.tree.now c.requires.described

-- a name comes twice
pub returns-in-Err-Clash-clause-tells : goal.returns-in-Err-Clash-clause-tells
returns-in-Err-Clash-clause-tells c = clash_told _ _ _ c.in-Err-Clash.name _ c.clash.ensures (c.block_texts.ensures.clash c.in-Err-Clash.name (cc))

-- the block has its texts
pub put_block_outputs-requires : goal.put_block_outputs-requires
put_block_outputs-requires c =
    described_unit c.args.laid.now c.args.tree.now _ c.requires.described c.in-Ok.ensures.apart c.in-Ok.ensures.modules c.in-Ok.ensures.header
