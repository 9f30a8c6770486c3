use Rattle.cg_space.proofs.Sound.{face_read}
use Rattle.cg_space.proofs.nodes.face_at.Goals as goal

pub returns : goal.returns
returns c =
    face_read c.args.top.now c.args.inst c.args.face c.block_at.result.now c.index-as_slice-face.result c.requires c.block_at.ensures (rw c.as_slice.ensures at c.index-as_slice-face.is)
