use Rattle.std.proofs.Common.{refl, subst, sym, ◌+◌, length}
use Rattle.cg_inputs.specs.Input.{del_file, build_files}
use Rattle.cg_session.specs.Taking.{TakesNext}
use Rattle.cg_session.proofs.Gots.{put_says, line_command, line_end, line_false}
use Rattle.cg_session.proofs.command.behind_line.Goals as goal

pub put_bytes-requires : goal.put_bytes-requires
put_bytes-requires g c = put_says c.args.text.now c.in-Some-Put.name.now c.in-Some-Put.count (rw c.in-Some-Put.field-0-is at c.in-Some-Put.ensures)

pub returns-in_ok-name-in-Some-Del : goal.returns-in_ok-name-in-Some-Del
returns-in_ok-name-in-Some-Del g c = λ first f t l.
    subst (λ n. TakesNext (del_file n) (length c.args.text.now + 1 + c.args.room.now) c.args.room.now first (g.I.Source.left c.args.input.now) f (g.I.Source.faults c.args.input.now)) (sym c.in_ok-name-in-Some-Del.ensures)
    (line_command c.args.text.now c.args.room.now first _ f _ t l (del_file c.in-Some-Del.name.now) refl (rw c.in-Some-Del.field-0-is at c.in-Some-Del.ensures))

pub returns-in-Some-Build : goal.returns-in-Some-Build
returns-in-Some-Build g c = λ first f t l. line_command c.args.text.now c.args.room.now first _ f _ t l build_files refl (rw c.in-Some-Build.field-0-is at c.in-Some-Build.ensures)

pub returns-in-Some-Finish : goal.returns-in-Some-Finish
returns-in-Some-Finish g c = λ first f t l. line_end c.args.text.now c.args.room.now first _ f _ t l (rw c.in-Some-Finish.field-0-is at c.in-Some-Finish.ensures)

pub returns-in-None : goal.returns-in-None
returns-in-None g c = λ first f t l. line_false c.args.text.now c.args.room.now first _ f _ t l c.requires c.in-None.ensures
