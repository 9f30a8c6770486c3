use Rattle.std.proofs.Common.{sym}
use Rattle.cg_irq.proofs.Passing.{few_alerts, few_interrupts, first_told, unbroken}
use Rattle.cg_irq.proofs.numbering.numbers.Goals as goal

pub returns-in-Some : goal.returns-in-Some
returns-in-Some c =
    let t = rw c.in-Some.is at c.first_past_limit.ensures in
    first_told c.args.top.now _ t c.refusal.result (c.refusal.ensures.refuses t.faults (sym t.first))

pub listed-requires-clause-few_interrupts : goal.listed-requires-clause-few_interrupts
listed-requires-clause-few_interrupts c = few_interrupts c.args.top.now c.requires.has_blocks (rw c.in_default.is at c.first_past_limit.ensures)

pub listed-requires-clause-few_alerts : goal.listed-requires-clause-few_alerts
listed-requires-clause-few_alerts c = few_alerts c.args.top.now c.requires.has_blocks (rw c.in_default.is at c.first_past_limit.ensures)

pub returns-in-Ok : goal.returns-in-Ok
returns-in-Ok c = record { unbroken = unbroken c.args.top.now (rw c.in_default.is at c.first_past_limit.ensures); are_its = rw c.in-Ok.is at c.listed.ensures }
