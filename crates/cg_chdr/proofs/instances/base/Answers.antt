use Rattle.std.proofs.Common.{None, Some, ap}
use Rattle.std.specs.Prelude.{unwrap_or}
use Rattle.cg_chdr.proofs.Lookups.{base_read}
use Rattle.cg_chdr.proofs.instances.base.Goals as goal

pub returns-in-None : goal.returns-in-None
returns-in-None c = ap (λ o. unwrap_or o 0) (base_read c.args.top.now c.args.inst c.args.face None c.requires.files c.requires.kinds c.in-None.ensures)

pub returns-in-Some : goal.returns-in-Some
returns-in-Some c = ap (λ o. unwrap_or o 0) (base_read c.args.top.now c.args.inst c.args.face (Some c.in-Some.base) c.requires.files c.requires.kinds c.in-Some.ensures)
