use Rattle.std.proofs.Common.{subst, sym, ap, ◌∙◌}
use Rattle.cg_desc.specs.Top.{AreTypes}
use Rattle.cg_topread.specs.Types.{types_of}
use Rattle.cg_topread.proofs.TypesOnce.{types_listed}
use Rattle.cg_topread.proofs.types.types_of.Goals as goal

pub returns-clause-types : goal.returns-clause-types
returns-clause-types c = subst (AreTypes c.args.top.now.insts) (sym (c.in_ok-listed_types.ensures ∙ ap types_of c.as_slice.ensures)) (types_listed c.args.top.now.insts)
