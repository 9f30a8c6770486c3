use Rattle.std.proofs.Common.{List, ◌≡◌, ◌-◌, ◌+◌, ◌<◌, length, slice_get, refl, ap, sym, ◌∙◌, arith}
use Rattle.std.proofs.lemmas.Option.{slice_get_read}
use Rattle.cg_desc.specs.declared.block.IoDesc.{IoDesc}
use Rattle.cg_pinmux.specs.Listed.{bits_of_region, side_bits}
use Rattle.cg_pinmux.proofs.Loops.{grown_all, grown_next, grown_none}
use Rattle.cg_pinmux.proofs.numbered.add_region.Goals as goal

pub loop-place-init : goal.loop-place-init
loop-place-init c = grown_none _ c.args.bits.now

pub loop-place-preserved : goal.loop-place-preserved
loop-place-preserved c =
    let number = c.args.region.first + c.loop-place.place in
    let less : number < length c.ports_of-ports.result.now = (let last = c.requires.there in let same = ap length c.ports_of-ports.ensures in let end = c.loop-place-test.true in omega (arith, last, same, end)) in
    let read = slice_get_read c.ports_of-ports.result.now (length c.ports_of-ports.result.now) number c.index-ports-number.result refl less c.index-ports-number.is in
    let there = ap (λ (ports : List IoDesc). slice_get ports number) (sym c.ports_of-ports.ensures) ∙ read in
    grown_next _ c.loop-place.place c.args.bits.now c.loop-place.bits c.add_side.new.bits _ c.loop-place.invariant (ap (side_bits c.args.side c.args.region number) (sym there)) c.in_ok-add_side.ensures

pub returns : goal.returns
unfolding bits_of_region
returns c =
    let all : c.loop-place.place ≡ c.args.region.end - c.args.region.first = omega (arith, c.loop-place.auto.place-end, c.loop-place-test.false) in
    grown_all _ c.loop-place.place _ c.args.bits.now c.loop-place.bits all c.loop-place.invariant
