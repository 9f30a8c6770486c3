use Rattle.std.proofs.Common.{◌≡◌, Some, None, sym, ◌∙◌}
use Rattle.cg_desc.proofs.FoundBases.{has_base}
use Rattle.cg_desc.proofs.top.MergedTop.base.Goals as goal

pub returns-in-None : goal.returns-in-None
returns-in-None c =
    let base = has_base c.args.self.now c.requires.merged c.args.inst c.args.face c.requires.interface.0 c.requires.interface.1 in
    let e : Some base.0 ≡ None = sym ((c.find_base.ensures base.0).1 base.1) ∙ c.in-None.is in
    cc
