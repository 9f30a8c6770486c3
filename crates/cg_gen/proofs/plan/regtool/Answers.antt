use Rattle.cg_words.specs.declared.command.Command.TheVariants.{Regtool}
use Rattle.cg_gen.proofs.Planning.{regtool_reads_one, planned, read_stopped}
use Rattle.cg_gen.proofs.plan.regtool.Goals as goal

-- the read of the description stopped
pub returns-in-Err-clause-ends : goal.returns-in-Err-clause-ends
returns-in-Err-clause-ends g c words is =
    read_stopped (Regtool c.args.made c.args.dir.now c.args.file.now) c.args.file.now (regtool_reads_one _ _ _) c.in-Err.stop words _ _ _ _ _ is c.read_file.ensures.asked c.in-Err.ensures.rose

-- this is due for the description as it was given
pub returns-in-Ok-regtool_due-clause-ends : goal.returns-in-Ok-regtool_due-clause-ends
returns-in-Ok-regtool_due-clause-ends g c words is =
    let held = c.in-Ok.ensures.gave in
    planned (Regtool c.args.made c.args.dir.now c.args.file.now) c.args.file.now (regtool_reads_one _ _ _) words _ _ _ held.0 c.in-Ok-regtool_due.due is tt held.2 c.read_file.ensures.asked
    (c.in-Ok-regtool_due.ensures held.0 held.1)
