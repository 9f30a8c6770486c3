use Rattle.std.proofs.Common.{sym}
use Rattle.cg_clkrst.proofs.FirstLacks.{first_told, have_sources, unbroken}
use Rattle.cg_clkrst.proofs.tying.ties.Goals as goal

pub returns-in-Ok-Some : goal.returns-in-Ok-Some
returns-in-Ok-Some c =
    let t = rw c.in-Ok-Some.field-0-is at (rw c.in-Ok-Some.is at c.first_lacking.ensures) in
    first_told c.args.top.now _ t c.refusal.result (c.refusal.ensures.refuses t.faults (sym t.first))

pub all_ties-requires-clause-sourced : goal.all_ties-requires-clause-sourced
all_ties-requires-clause-sourced c = have_sources c.args.top.now c.requires.has_blocks (rw c.in-Ok-None.field-0-is at (rw c.in-Ok-None.is at c.first_lacking.ensures))

pub returns-in-Ok : goal.returns-in-Ok
returns-in-Ok c =
    let tied = rw c.in-Ok.is at c.all_ties.ensures in
    let none = rw c.in-Ok-None.field-0-is at (rw c.in-Ok-None.is at c.first_lacking.ensures) in
    record { unbroken = unbroken c.args.top.now none; are_its = record { ports = tied.ports; sources = tied.sources } }
