use Rattle.std.proofs.Common.{sym, ◌∙◌}
use Rattle.cg_desc.proofs.FoundBases.{found_is, is_found}
use Rattle.cg_desc.proofs.top.MergedTop.find_base.Goals as goal

pub returns : goal.returns
returns c base = (
  λ is. found_is c.args.self.now c.requires.files c.requires.kinds c.args.inst c.args.face base (sym c.found_base.ensures ∙ is),
  λ is. c.found_base.ensures ∙ is_found c.args.self.now c.requires.files c.requires.kinds c.args.inst c.args.face base is,
)
