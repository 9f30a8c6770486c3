use Rattle.cg_svreg.proofs.Narrow.{laid_narrow}
use Rattle.cg_svreg.proofs.module.face_module.Goals as goal

pub any_module-requires : goal.any_module-requires
any_module-requires c = laid_narrow c.args.face.now c.requires.laid
