use Rattle.std.proofs.Common.{◌≡◌, ◌-◌, refl, ap, ◌∙◌, arith}
use Rattle.cg_pinmux.specs.Listed.{bits_of_port}
use Rattle.cg_pinmux.proofs.Loops.{grown_all, grown_next, grown_none}
use Rattle.cg_pinmux.proofs.numbered.add_port.Goals as goal

pub loop-place-init : goal.loop-place-init
loop-place-init c = grown_none _ c.args.bits.now

pub loop-place-preserved : goal.loop-place-preserved
loop-place-preserved c = grown_next _ c.loop-place.place c.args.bits.now c.loop-place.bits c.push.new.self _ c.loop-place.invariant refl c.in_ok-push.ensures.ok

pub returns : goal.returns
unfolding bits_of_port
returns c =
    let all : c.loop-place.place ≡ c.min.result - c.args.region.low = omega (arith, c.loop-place.auto.place-end, c.loop-place-test.false) in
    grown_all _ c.loop-place.place _ c.args.bits.now c.loop-place.bits (all ∙ ap (λ n. n - c.args.region.low) c.min.ensures) c.loop-place.invariant
