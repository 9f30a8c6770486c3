use Rattle.std.proofs.Common.{length, refl, arith}
use Rattle.std.proofs.lemmas.Option.{slice_get_read}
use Rattle.cg_pinmux.specs.Pins.{SignalIs}
use Rattle.cg_pinmux.proofs.Kept.{kept_all, kept_next, kept_none}
use Rattle.cg_pinmux.proofs.resolved.resolve_all.Goals as goal

pub loop-signal-init : goal.loop-signal-init
loop-signal-init c = kept_none c.args.top.now _ c.new-signals.ensures

pub loop-signal-preserved : goal.loop-signal-preserved
loop-signal-preserved c =
    let less = rw c.as_slice-signal-items.ensures at c.loop-signal-test.true in
    let is = rw c.as_slice-signal-items.ensures at c.signal-item.is in
    let there : SignalIs c.args.top.now c.loop-signal.signal-index c.signal-item.result =
    slice_get_read c.args.top.now.top.signals (length c.args.top.now.top.signals) c.loop-signal.signal-index c.signal-item.result refl less is in
    kept_next c.args.top.now c.loop-signal.signals _ c.loop-signal.signal-index c.signal-item.result c.resolve.result there c.resolve.ensures c.in_ok-push.ensures.ok c.loop-signal.invariant

pub returns : goal.returns
returns c =
    let most = rw c.as_slice-signal-items.ensures at c.loop-signal-test.false in
    let within = rw c.as_slice-signal-items.ensures at c.loop-signal.auto.signal-index-end in
    kept_all c.args.top.now c.loop-signal.signals c.loop-signal.signal-index (omega (arith, most, within)) c.loop-signal.invariant
