use Rattle.std.proofs.Common.{[], ◌∷◌}
use Rattle.cg_words.specs.declared.command.Command.TheVariants.{Tlgen}
use Rattle.cg_crossbar.specs.Breaks.{BreaksAlone, IsGoodFile}
use Rattle.cg_crossbar.proofs.Once.{good_unbroken, good_one}
use Rattle.cg_gen.specs.Reads.{read}
use Rattle.cg_gen.specs.Inner.{IsDueFrom}
use Rattle.cg_gen.specs.Tlgen.{IsAskedFor}
use Rattle.cg_gen.proofs.OneFile.{fault_told, outputs_told}
use Rattle.cg_gen.proofs.Planning.{if_ok}
use Rattle.cg_gen.proofs.Units.{text_is_asked_for}
use Rattle.cg_gen.proofs.tlgen.tlgen_due.Goals as goal

-- nothing is broken
pub returns-in_ok-outputs-in-Ok : goal.returns-in_ok-outputs-in-Ok
returns-in_ok-outputs-in-Ok c g given =
    let out = c.in-Ok.ensures g given in
    if_ok _ (λ due. IsDueFrom (Tlgen c.args.file.now c.args.dir.now) (read c.args.file.now g ∷ []) due) c.outputs_due.result
    (λ d told. outputs_told BreaksAlone IsGoodFile IsAskedFor good_unbroken good_one _ _ g out.crossbar _ d out.is_good (text_is_asked_for _ _ _ out.is c.in_ok-outputs-in-Ok.ensures) told) c.outputs_due.ensures

-- the first fault is told
pub returns-in-Err-Fault : goal.returns-in-Err-Fault
returns-in-Err-Fault c g given =
    if_ok _ (λ due. IsDueFrom (Tlgen c.args.file.now c.args.dir.now) (read c.args.file.now g ∷ []) due) c.fault_due.result
    (λ d told. fault_told BreaksAlone IsGoodFile IsAskedFor _ _ g c.in-Err-Fault.fault _ d c.in-Err-Fault.field-0-is (c.in-Err-Fault.ensures g given) told)
    c.fault_due.ensures
