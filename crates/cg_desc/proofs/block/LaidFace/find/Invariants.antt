use Rattle.std.proofs.Common.{◌≡◌, drop}
use Rattle.cg_desc.specs.Target.{target_from}
use Rattle.cg_desc.proofs.block.LaidFace.find.Given as goal

abbrev pub invariant-loop-number : goal.invariant-loop-number
invariant-loop-number l = target_from l.number (drop l.number l.self.rows) l.addr ≡ target_from 0 l.self.rows l.addr
