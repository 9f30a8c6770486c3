use Rattle.cg_blkhdr.proofs.Laid.{named_small}
use Rattle.cg_blkhdr.proofs.header.block_header.Goals as goal

pub definitions_of-requires : goal.definitions_of-requires
definitions_of-requires c = named_small c.args.block.now c.requires.named
