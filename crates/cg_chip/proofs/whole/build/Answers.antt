use Rattle.std.proofs.Common.{[], ◌∷◌, ◌++◌, ap, ◌∙◌}
use Rattle.std.proofs.lemmas.Result.{err_from_is_err_and}
use Rattle.cg_manifest.specs.Manifest.{manifest_of}
use Rattle.cg_outputs.specs.declared.out_file.OutFile.{OutFile}
use Rattle.cg_chip.proofs.Built.{built, refused}
use Rattle.cg_chip.proofs.whole.build.Goals as goal

-- a name comes twice
pub returns-in_err-outputs : goal.returns-in_err-outputs
returns-in_err-outputs c = λ given computed.
    let p = err_from_is_err_and c.from_residual.result c.from_residual.ensures.1 in
    rw (p.1, p.2) (refused c.files_are_of_one_top.ensures.merged c.files_are_of_one_build.ensures.chip c.args.chip.now c.requires given computed c.in_err-outputs.field-0.0 c.in_err-outputs.ensures.tells)

-- none does, and the manifest stands behind the texts
pub returns : goal.returns
returns c = λ given computed.
    built c.files_are_of_one_top.ensures.merged c.files_are_of_one_build.ensures.chip c.args.chip.now c.requires given computed c.in_ok-outputs.outputs c.push.new.self c.in_ok-outputs.ensures.tells
    c.in_ok-outputs.ensures.made
    (c.in_ok-push.ensures.ok
    ∙ ap (λ (m : OutFile). c.in_ok-outputs.outputs ++ m ∷ []) (c.in_ok-manifest.ensures ∙ (λ i. manifest_of (c.as_str-top.ensures i) (c.as_slice.ensures i))))
