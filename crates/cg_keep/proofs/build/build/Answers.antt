use Rattle.cg_keep.proofs.Building.{built_of, refuses_so}
use Rattle.cg_keep.proofs.build.build.Goals as goal

-- the files break a rule up to the ranges
pub returns-in-Err : goal.returns-in-Err
returns-in-Err c = refuses_so c.args.top.now c.args.files.now c.in-Err.refused c.in-Err.ensures.describes

-- they describe something, and it is built
pub returns-in-Ok : goal.returns-in-Ok
returns-in-Ok c = built_of c.args.top.now c.args.files.now c.in-Ok.source c.build_source.result c.in-Ok.ensures.describes c.build_source.ensures
