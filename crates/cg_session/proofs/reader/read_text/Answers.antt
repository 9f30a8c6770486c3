use Rattle.std.proofs.Common.{◌+◌, ◌≤◌, length, subst}
use Rattle.cg_inputs.specs.Reading.{least_rest}
use Rattle.cg_session.proofs.LineReading.{read_broken, read_more, read_whole}
use Rattle.cg_session.proofs.Takes.{then_some, unfound}
use Rattle.cg_session.proofs.reader.read_text.Goals as goal

-- one piece more of the line
pub loop-text-preserved : goal.loop-text-preserved
loop-text-preserved g c =
    let i = c.loop-text.invariant in
    let r = read_more c.args.room c.ask_for-ask.result c.loop-text.text.items c.next_of_line.new.text.items _ _ _ _ _ _
    (subst (λ t. length t + c.ask_for-ask.result ≤ c.args.room) c.deref.ensures.value c.ask_for-ask.ensures.fits) (record { taken = i.taken; is_line = i.is_line; within = i.within; later = i.later })
    (rw c.in-More.is at c.in_ok-next_of_line.ensures) in
    record { taken = r.taken; is_line = r.is_line; within = r.within; later = r.later }

pub returns-in-Whole : goal.returns-in-Whole
returns-in-Whole g c =
    let i = c.loop-text.invariant in
    read_whole c.args.room c.ask_for-ask.result c.loop-text.text.items c.next_of_line.new.text.items _ _ _ _ _ _
    (subst (λ t. length t + c.ask_for-ask.result ≤ c.args.room) c.deref.ensures.value c.ask_for-ask.ensures.fits) (record { taken = i.taken; is_line = i.is_line; within = i.within; later = i.later })
    (rw c.in-Whole.is at c.in_ok-next_of_line.ensures)

pub returns-in-Beyond : goal.returns-in-Beyond
returns-in-Beyond g c =
    let i = c.loop-text.invariant in
    read_broken c.args.room c.ask_for-ask.result c.loop-text.text.items c.next_of_line.new.text.items _ _ _ _ _ _
    (subst (λ t. length t + c.ask_for-ask.result ≤ c.args.room) c.deref.ensures.value c.ask_for-ask.ensures.fits)
    (subst (λ t. c.ask_for-ask.result ≤ least_rest t) c.deref.ensures.value c.ask_for-ask.ensures.least) (record { taken = i.taken; is_line = i.is_line; within = i.within; later = i.later })
    (rw c.in-Beyond.is at c.in_ok-next_of_line.ensures)

pub returns-in_err-next_of_line : goal.returns-in_err-next_of_line
returns-in_err-next_of_line g c =
    unfound c.from_residual.result c.args.room c.next_of_line.new.text.items _ _ _ _ c.from_residual.ensures.0
    (then_some c.args.room c.ask_for-ask.result _ _ _ c.loop-text.text.items _ _ _ c.loop-text.invariant.taken c.loop-text.invariant.later
    (subst (λ t. length t + c.ask_for-ask.result ≤ c.args.room) c.deref.ensures.value c.ask_for-ask.ensures.fits) c.in_err-next_of_line.ensures)
