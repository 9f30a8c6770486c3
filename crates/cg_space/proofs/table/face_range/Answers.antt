use Rattle.cg_space.proofs.Tabling.{face_range_is}
use Rattle.cg_space.proofs.table.face_range.Goals as goal

pub returns : goal.returns
returns c = face_range_is c.args.top.now c.args.inst c.args.face c.base.result c.from.result c.face_at.result.now c.face_at.ensures c.base.ensures c.from.ensures
