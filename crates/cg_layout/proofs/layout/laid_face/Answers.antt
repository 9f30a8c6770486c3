use Rattle.std.proofs.Common.{length, sym, ap, subst, ◌∙◌, arith}
use Rattle.std.specs.Int.{IsNextPowerOfTwo}
use Rattle.cg_layout.proofs.Ends.{extent_first}
use Rattle.cg_layout.proofs.Laying.{laying_end, laying_other, laying_row, laying_within}
use Rattle.cg_layout.proofs.Lists.{nothing_left}
use Rattle.cg_layout.proofs.layout.laid_face.Goals as goal

pub overflow_cast-first : goal.overflow_cast-first
overflow_cast-first c =
    let within = laying_within c.in-Some.ensures.steps.0 c.loop-item.invariant.laying c.extent_of-first.ensures in
    omega (arith, within, extent_first c.extent_of-first.ensures)

pub loop-item-preserved-in_ok-push : goal.loop-item-preserved-in_ok-push
loop-item-preserved-in_ok-push c = record {
  laying = laying_row c.in-Some.ensures.steps.0 c.loop-item.invariant.laying c.extent_of-first.ensures c.words_of.result c.push.new.self
      (sym c.is_row.ensures ∙ c.if-is_row.true) c.words_of.ensures c.in_ok-push.ensures.ok;
  counted = let gone = c.in-Some.ensures.steps.1 in let short = ap length c.in-Some.ensures.steps.0 in let count = c.loop-item.invariant.counted in omega arith;
}

pub loop-item-preserved : goal.loop-item-preserved
loop-item-preserved c = record {
  laying = laying_other c.in-Some.ensures.steps.0 c.loop-item.invariant.laying c.extent_of-first.ensures (sym c.is_row.ensures ∙ c.if-is_row.false);
  counted = let gone = c.in-Some.ensures.steps.1 in let short = ap length c.in-Some.ensures.steps.0 in let count = c.loop-item.invariant.counted in omega arith;
}

pub returns : goal.returns
returns c =
    let is = c.next_power_of_two.ensures in
    let none = c.in-None.ensures.steps.0 in (
      c.in_ok-copied.ensures,
      laying_end (nothing_left _ (sym c.loop-item.invariant.counted ∙ none)) c.loop-item.invariant.laying
          (subst (λ n. IsNextPowerOfTwo n c.next_power_of_two.result) c.max.ensures (is.power, is.lower_bound, is.upper_bound)),
    )
