use Rattle.std.proofs.Common.{◌-◌, arith}
use Rattle.cg_svreg.proofs.Terms.{first_terms, next_term, no_term, all_terms}
use Rattle.cg_svreg.proofs.hits.window_terms.Goals as goal

pub loop-bit-init : goal.loop-bit-init
loop-bit-init c = record {
  terms = first_terms _ _ _ c.args.items c.args.first c.new-terms.ensures c.from-left.ensures c.from-word.ensures;
  whole = omega arith;
}

pub loop-bit-preserved-then-size-left : goal.loop-bit-preserved-then-size-left
loop-bit-preserved-then-size-left c = record {
  terms = next_term c.loop-bit.terms _ c.in_ok-term.term c.loop-bit.bit (c.loop-bit.bit - 1) _ _ _ _ (omega arith) c.power_of_two-size.ensures c.if-size-left.true
      c.in_ok-term.ensures c.in_ok-push.ensures.ok c.loop-bit.invariant.terms;
  whole = omega arith;
}

pub loop-bit-preserved : goal.loop-bit-preserved
loop-bit-preserved c = record {
  terms = no_term c.loop-bit.terms c.loop-bit.bit (c.loop-bit.bit - 1) _ _ _ _ (omega arith) c.power_of_two-size.ensures c.if-size-left.false c.loop-bit.invariant.terms;
  whole = c.loop-bit.invariant.whole;
}

pub returns : goal.returns
returns c = all_terms c.loop-bit.terms c.loop-bit.bit _ _ _ (omega arith) c.loop-bit.invariant.terms
