use Rattle.std.proofs.Common.{sym}
use Rattle.cg_keep.proofs.Building.{refused_so, top_refused}
use Rattle.cg_keep.proofs.build.source_of.Goals as goal

-- the top's own file breaks a rule by itself
pub returns-in-Err-clause-describes : goal.returns-in-Err-clause-describes
returns-in-Err-clause-describes c =
    refused_so c.args.top.now c.args.files.now _ (top_refused c.args.top.now c.args.files.now _ c.in-Err.refused (sym c.get-own.ensures) c.in-Err.ensures.finds)
