use Rattle.std.proofs.Common.{◌≡◌, length, ap, ◌∙◌, arith}
use Rattle.std.proofs.lemmas.Option.{slice_get-get_or}
use Rattle.cg_pinmux.specs.Listed.{ties_below}
use Rattle.cg_pinmux.proofs.Tying.{ties_next, ties_none}
use Rattle.cg_pinmux.proofs.pinning.ties.Goals as goal

pub loop-signal-init : goal.loop-signal-init
loop-signal-init c = ties_none c.args.signals.now _ c.new-ties.ensures

pub loop-signal-preserved : goal.loop-signal-preserved
loop-signal-preserved c =
    ties_next c.args.signals.now c.loop-signal.signal-index _ c.loop-signal.ties _ (slice_get-get_or c.args.signals.now c.loop-signal.signal-index _ c.loop-signal-test.true) c.loop-signal.invariant c.in_ok-add_tie.ensures

pub returns : goal.returns
returns c =
    let last : c.loop-signal.signal-index ≡ length c.args.signals.now = omega (arith, c.loop-signal-test.false, c.loop-signal.auto.signal-index-end) in
    c.loop-signal.invariant ∙ ap (ties_below c.args.signals.now) last
