use Rattle.cg_files.proofs.FirstOnes.{named}
use Rattle.cg_block.proofs.FirstOnes.{clash_first}
use Rattle.cg_block.proofs.Modules.{few_faces, is_named}
use Rattle.cg_block.proofs.unit.texts_of.Goals as goal

pub block_texts-requires-clause-few : goal.block_texts-requires-clause-few
block_texts-requires-clause-few c = few_faces _ c.args.laid.now c.requires.valid c.requires.stage.is_laid

pub block_texts-requires-clause-named : goal.block_texts-requires-clause-named
block_texts-requires-clause-named c = is_named _ c.args.laid.now c.requires.valid c.requires.stage.is_laid c.requires.laid

-- a name comes twice
pub returns-in-Err-Clash-clause-finds : goal.returns-in-Err-Clash-clause-finds
returns-in-Err-Clash-clause-finds c =
    let repeat = c.block_texts.ensures.clash c.in-Err-Clash.name (cc) in
    named _ _ _ _ c.clash.ensures (clash_first c.args.file c.args.tree.now c.args.laid.now _ c.requires.stage repeat)
