use Rattle.std.proofs.Common.{option_map, sym, ap, subst, ◌∙◌}
use Rattle.cg_finding.specs.Found.{sees}
use Rattle.cg_design.specs.Files.{given_file}
use Rattle.cg_design.specs.Inner.{KeepsFirst}
use Rattle.cg_design.proofs.OfFiles.{block_described, block_file_first, block_misnamed, block_refused, laid_valid}
use Rattle.cg_design.proofs.block.read_block.Goals as goal

-- the file has no tree
pub returns-in-Err-clause-finds : goal.returns-in-Err-clause-finds
returns-in-Err-clause-finds c = block_file_first (given_file c.args.file c.args.before (option_map (λ b. b.now) c.args.given)) c.args.kind.now c.in-Err.refused c.in-Err.ensures

-- a block, which has the right name
pub returns-in-Ok-None-clause-finds : goal.returns-in-Ok-None-clause-finds
returns-in-Ok-None-clause-finds c =
    block_described (given_file c.args.file c.args.before (option_map (λ b. b.now) c.args.given)) c.args.kind.now c.in-Ok.tree c.in-Ok.ensures
    c.in-Ok-None.laid c.in-Ok-None.ensures.finds c.in-Ok-None.ensures.valid (sym c.first_misnamed-misnamed.ensures ∙ ap sees c.in-Ok-None.is-1)

pub returns-in-Ok-None-clause-valid : goal.returns-in-Ok-None-clause-valid
returns-in-Ok-None-clause-valid c =
    laid_valid c.args.file c.in-Ok.tree c.in-Ok-None.laid c.in-Ok-None.ensures.finds c.in-Ok-None.ensures.valid c.in-Ok-None.ensures.laid

-- or another one
pub returns-in-Ok-Some-clause-finds : goal.returns-in-Ok-Some-clause-finds
returns-in-Ok-Some-clause-finds c =
    block_misnamed (given_file c.args.file c.args.before (option_map (λ b. b.now) c.args.given)) c.args.kind.now c.in-Ok.tree c.in-Ok.ensures
    c.in-Ok-Some.field-0-0 c.refusal.result _ c.in-Ok-Some.ensures.finds (sym c.first_misnamed-misnamed.ensures ∙ ap sees c.in-Ok-Some.is-1) c.refusal.ensures.names

-- or none
pub returns-in-Err-default-clause-finds : goal.returns-in-Err-default-clause-finds
returns-in-Err-default-clause-finds c =
    block_refused (given_file c.args.file c.args.before (option_map (λ b. b.now) c.args.given)) c.args.kind.now c.in-Ok.tree c.in-Ok.ensures
    c.in-Err-default.refused c.earlier_refusal.result c.in-Err-default.ensures.finds (subst (λ o. KeepsFirst c.in-Err-default.refused o c.args.file c.earlier_refusal.result) c.first_misnamed-misnamed.ensures c.earlier_refusal.ensures)
