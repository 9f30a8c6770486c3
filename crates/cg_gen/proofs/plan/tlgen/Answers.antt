use Rattle.cg_words.specs.declared.command.Command.TheVariants.{Tlgen}
use Rattle.cg_gen.proofs.Planning.{tlgen_reads_one, planned, read_stopped}
use Rattle.cg_gen.proofs.plan.tlgen.Goals as goal

-- the read of the description stopped
pub returns-in-Err-clause-ends : goal.returns-in-Err-clause-ends
returns-in-Err-clause-ends g c words is =
    read_stopped (Tlgen c.args.file.now c.args.dir.now) c.args.file.now (tlgen_reads_one _ _) c.in-Err.stop words _ _ _ _ _ is c.read_file.ensures.asked c.in-Err.ensures.rose

-- this is due for the description as it was given
pub returns-in-Ok-tlgen_due-clause-ends : goal.returns-in-Ok-tlgen_due-clause-ends
returns-in-Ok-tlgen_due-clause-ends g c words is =
    let held = c.in-Ok.ensures.gave in
    planned (Tlgen c.args.file.now c.args.dir.now) c.args.file.now (tlgen_reads_one _ _) words _ _ _ held.0 c.in-Ok-tlgen_due.due is tt held.2 c.read_file.ensures.asked
    (c.in-Ok-tlgen_due.ensures held.0 held.1)
