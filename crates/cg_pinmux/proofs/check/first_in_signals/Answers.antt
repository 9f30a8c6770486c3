use Rattle.std.proofs.Common.{length, refl, arith}
use Rattle.std.proofs.lemmas.Option.{slice_get_read}
use Rattle.cg_finding.proofs.Told.{tells_as}
use Rattle.cg_pinmux.specs.Pins.{SignalIs}
use Rattle.cg_pinmux.proofs.Telling.{Breaks, tells_signals}
use Rattle.cg_pinmux.proofs.Walks.{walk_end, walk_next, walk_start}
use Rattle.cg_pinmux.proofs.check.first_in_signals.Goals as goal

pub is_broken-breaks-requires-clause-within : goal.is_broken-breaks-requires-clause-within
is_broken-breaks-requires-clause-within c =
    let less = rw c.as_slice-signal-items.ensures at c.loop-number-test.true in
    let count = c.requires.resolved.count in
    omega (arith, less, count)

pub loop-number-init : goal.loop-number-init
loop-number-init c = walk_start (Breaks c.args.top.now) c.args.top.now.top.signals

pub loop-number-preserved : goal.loop-number-preserved
loop-number-preserved c =
    let less = rw c.as_slice-signal-items.ensures at c.loop-number-test.true in
    let is = rw c.as_slice-signal-items.ensures at c.signal-item.is in
    let there : SignalIs c.args.top.now c.loop-number.number c.signal-item.result = slice_get_read c.args.top.now.top.signals (length c.args.top.now.top.signals) c.loop-number.number c.signal-item.result refl less is in
    let decides = c.is_broken-breaks.ensures c.signal-item.result there in
    walk_next (Breaks c.args.top.now) c.args.top.now.top.signals c.loop-number.number c.signal-item.result _ _ _ there c.loop-number.invariant
    (tells_as c.first_in_signal.ensures (λ f broken. (decides.0 broken.0, broken.1)) (λ f broken. (decides.1 broken.0, broken.1))) c.earlier_of-first.ensures

pub returns : goal.returns
returns c =
    let most = rw c.as_slice-signal-items.ensures at c.loop-number-test.false in
    tells_signals c.args.top.now (walk_end (Breaks c.args.top.now) c.args.top.now.top.signals _ c.loop-number.number most c.loop-number.invariant)
