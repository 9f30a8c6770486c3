use Rattle.cg_space.proofs.Sound.{block_read}
use Rattle.cg_space.proofs.nodes.block_at.Goals as goal

pub returns : goal.returns
returns c =
    block_read c.args.top.now c.args.inst 0 c.index-as_slice-as_slice.result c.requires (rw (c.as_slice.ensures, c.as_slice-2.ensures) at c.index-as_slice-as_slice.is)
