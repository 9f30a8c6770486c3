use Rattle.std.proofs.Common.{arith}
use Rattle.std.proofs.lemmas.Option.{slice_get-get_or}
use Rattle.cg_pinmux.proofs.Counting.{bits_all, bits_next, bits_none, bits_past}
use Rattle.cg_pinmux.proofs.numbered.number_bits.Goals as goal

pub loop-number-init : goal.loop-number-init
loop-number-init c = bits_none c.args.top.now c.args.side c.args.signals.now _ c.new-bits.ensures

pub returns-then-len-gt-MOST_BITS : goal.returns-then-len-gt-MOST_BITS
returns-then-len-gt-MOST_BITS c =
    let next = bits_next c.args.top.now c.args.side c.args.signals.now c.loop-number.number _ c.loop-number.bits _ (slice_get-get_or c.args.signals.now c.loop-number.number _ c.loop-number-test.true) c.loop-number.invariant.0 c.in_ok-add_signal.ensures in
    bits_past c.args.top.now c.args.side c.args.signals.now c.loop-number.number c.loop-number.bits _ c.loop-number-test.true c.loop-number.invariant next
    (let count = c.len.ensures in omega (arith, count, c.if-len-gt-MOST_BITS.true))

pub loop-number-preserved : goal.loop-number-preserved
loop-number-preserved c = (
  bits_next c.args.top.now c.args.side c.args.signals.now c.loop-number.number _ c.loop-number.bits _ (slice_get-get_or c.args.signals.now c.loop-number.number _ c.loop-number-test.true) c.loop-number.invariant.0 c.in_ok-add_signal.ensures,
  (let count = c.len.ensures in omega (arith, count, c.if-len-gt-MOST_BITS.false)),
)

pub returns : goal.returns
returns c =
    bits_all c.args.top.now c.args.side c.args.signals.now c.loop-number.number c.loop-number.bits (omega (arith, c.loop-number-test.false, c.loop-number.auto.number-end)) c.loop-number.invariant
