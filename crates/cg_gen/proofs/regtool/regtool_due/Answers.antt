use Rattle.std.proofs.Common.{[], ◌∷◌}
use Rattle.cg_words.specs.declared.command.Command.TheVariants.{Regtool}
use Rattle.cg_block.specs.Breaks.{BreaksBlock}
use Rattle.cg_gen.specs.Reads.{read}
use Rattle.cg_gen.specs.Inner.{IsDueFrom, only_file}
use Rattle.cg_gen.specs.Regtool.{Describes, IsAskedFor, block}
use Rattle.cg_gen.proofs.Reading.{some_given}
use Rattle.cg_gen.proofs.OneFile.{fault_told, outputs_told}
use Rattle.cg_gen.proofs.Planning.{if_ok}
use Rattle.cg_gen.proofs.Units.{block_unbroken, block_one}
use Rattle.cg_gen.proofs.regtool.regtool_due.Goals as goal

-- the unit is that of the file
pub outputs_of-requires : goal.outputs_of-requires
outputs_of-requires c = let given = some_given c.args.given.now in (only_file given.0, c.in-Ok.ensures given.0 given.1)

-- nothing is broken
pub returns-in_ok-outputs-in-Ok : goal.returns-in_ok-outputs-in-Ok
returns-in_ok-outputs-in-Ok c g given =
    let unit = c.in-Ok.ensures g given in
    if_ok _ (λ due. IsDueFrom (Regtool c.args.made c.args.dir.now c.args.file.now) (read c.args.file.now g ∷ []) due) c.outputs_due.result
    (λ d told. outputs_told BreaksBlock Describes (IsAskedFor c.args.made) block_unbroken block_one _ _ g (block c.in-Ok.unit.tree c.in-Ok.unit.laid) _ d unit.is_good c.in_ok-outputs-in-Ok.ensures told)
    c.outputs_due.ensures

-- the first fault is told
pub returns-in-Err-Fault : goal.returns-in-Err-Fault
returns-in-Err-Fault c g given =
    if_ok _ (λ due. IsDueFrom (Regtool c.args.made c.args.dir.now c.args.file.now) (read c.args.file.now g ∷ []) due) c.fault_due.result
    (λ d told. fault_told BreaksBlock Describes (IsAskedFor c.args.made) _ _ g c.in-Err-Fault.fault _ d c.in-Err-Fault.field-0-is (c.in-Err-Fault.ensures g given) told)
    (rw c.in-Err-Fault.field-0-is at c.fault_due.ensures)
