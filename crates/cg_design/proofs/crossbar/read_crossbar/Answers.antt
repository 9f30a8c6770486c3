use Rattle.std.proofs.Common.{option_map, sym, ap, subst, ◌∙◌}
use Rattle.cg_finding.specs.Found.{sees}
use Rattle.cg_design.specs.Files.{given_file}
use Rattle.cg_design.specs.Inner.{KeepsFirst}
use Rattle.cg_design.proofs.OfFiles.{crossbar_described, crossbar_file_first, crossbar_misnamed, crossbar_refused}
use Rattle.cg_design.proofs.crossbar.read_crossbar.Goals as goal

-- the file has no tree
pub returns-in-Err-clause-finds : goal.returns-in-Err-clause-finds
returns-in-Err-clause-finds c = crossbar_file_first (given_file c.args.file c.args.before (option_map (λ b. b.now) c.args.given)) c.args.name.now c.in-Err.refused c.in-Err.ensures

-- a crossbar, which has the right name
pub returns-in-Ok-None-clause-finds : goal.returns-in-Ok-None-clause-finds
returns-in-Ok-None-clause-finds c =
    crossbar_described (given_file c.args.file c.args.before (option_map (λ b. b.now) c.args.given)) c.args.name.now c.in-Ok.tree c.in-Ok.ensures
    c.in-Ok-None.crossbar c.in-Ok-None.ensures.reads c.in-Ok-None.ensures.valid (sym c.first_misnamed-misnamed.ensures ∙ ap sees c.in-Ok-None.is-1)

-- or another one
pub returns-in-Ok-Some-clause-finds : goal.returns-in-Ok-Some-clause-finds
returns-in-Ok-Some-clause-finds c =
    crossbar_misnamed (given_file c.args.file c.args.before (option_map (λ b. b.now) c.args.given)) c.args.name.now c.in-Ok.tree c.in-Ok.ensures
    c.in-Ok-Some.field-0-0 c.refusal.result _ c.in-Ok-Some.ensures.reads (sym c.first_misnamed-misnamed.ensures ∙ ap sees c.in-Ok-Some.is-1) c.refusal.ensures.names

-- or none
pub returns-clause-finds : goal.returns-clause-finds
returns-clause-finds c =
    crossbar_refused (given_file c.args.file c.args.before (option_map (λ b. b.now) c.args.given)) c.args.name.now c.in-Ok.tree c.in-Ok.ensures
    c.in-Err-default.refused c.earlier_refusal.result c.in-Err-default.ensures.reads (subst (λ o. KeepsFirst c.in-Err-default.refused o c.args.file c.earlier_refusal.result) c.first_misnamed-misnamed.ensures c.earlier_refusal.ensures)
