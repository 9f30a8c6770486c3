use Rattle.std.proofs.Common.{◌≡◌, ap, subst, sym, ◌∙◌}
use Rattle.std.specs.FinMap as fin
use Rattle.cg_finding.specs.Violations.{IsFirstFault}
use Rattle.cg_keep.specs.Files.{AreWanted, IsBuilt, Violates}
use Rattle.cg_keep.specs.Kept.{Kept}
use Rattle.cg_gen.specs.Sample.{IsSampleDue, due_of_refusal, files_of_sample, name_at, refuses, sample_name}
use Rattle.cg_gen.proofs.Planning.{if_ok}
use Rattle.cg_gen.proofs.samples.sample_due.Goals as goal

-- the sample was built
pub returns-in-Ok-clause-due : goal.returns-in-Ok-clause-due
returns-in-Ok-clause-due g c =
    let r = c.in-Ok.ensures.refreshes in
    let kept = c.in_ok-keep.ensures in
    c.built_due.ensures c.args.number r.1.0 (r.0.top ∙ ap (λ (k : Kept). k.top) kept) (r.0.files ∙ ap (λ (k : Kept). k.files) kept) r.1.1
    (subst (λ (k : Kept). IsBuilt k.top k.files r.1.0.files) kept r.1.2)

-- it was refused
pub returns-in-Err-Refused-clause-due : goal.returns-in-Err-Refused-clause-due
returns-in-Err-Refused-clause-due g c =
    let r = rw c.in-Err-Refused.field-0-is at c.in-Err-Refused.ensures.refreshes in
    let kept = c.in_ok-keep.ensures in
    let fault = c.in-Err-Refused.fault in
    let names = c.as_slice.result.now in
    let wanted : AreWanted (fin.get (files_of_sample c.args.number) sample_name) sample_name names =
    subst (AreWanted (fin.get (files_of_sample c.args.number) sample_name) sample_name) (sym c.as_slice.ensures)
    (subst (λ (k : Kept). AreWanted (fin.get k.files k.top) k.top c.in_ok-names.names) kept c.in_ok-names.ensures) in
    let first : IsFirstFault (Violates sample_name (files_of_sample c.args.number)) fault = subst (λ (k : Kept). IsFirstFault (Violates k.top k.files) fault) kept r.2 in
    if_ok (λ due. due ≡ due_of_refusal (name_at names fault.file) fault) (IsSampleDue c.args.number) c.refused_due.result
    (λ due same. subst (IsSampleDue c.args.number) (sym same) (refuses fault names first wanted)) c.refused_due.ensures
