use Rattle.std.proofs.Common.{sym}
use Rattle.cg_finding.specs.Found.{seen}
use Rattle.cg_pinmux.proofs.Telling.{refused, unbroken_of}
use Rattle.cg_pinmux.proofs.Tying.{pinned}
use Rattle.cg_pinmux.proofs.pinning.pins.Goals as goal

pub returns-in-Some : goal.returns-in-Some
returns-in-Some c =
    let told = rw c.in-Some.is at c.first_in_signals.ensures in
    refused c.args.top.now (seen c.in-Some.found) c.refusal.result told (c.refusal.ensures.refuses told.faults (sym told.first))

pub returns : goal.returns
returns c =
    let told = rw c.in_default-first_in_signals.is at c.first_in_signals.ensures in
    pinned c.args.top.now c.in-Ok.looked.signals c.in-Ok.ensures.resolved (unbroken_of c.args.top.now told) c.in-Ok.looked.ins c.in-Ok.looked.outs c.in-Ok-ties.pads c.in-Ok.ensures.ins c.in-Ok.ensures.outs
    (rw c.as_slice-signals.ensures at c.in-Ok-ties.ensures)
