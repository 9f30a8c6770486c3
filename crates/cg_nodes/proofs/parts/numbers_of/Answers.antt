use Rattle.std.proofs.Common.{◌≡◌, Bool, true, false, not, cond, refl, sym, ◌∙◌}
use Rattle.std.specs.Bool.{beq}
use Rattle.cg_nodes.proofs.Numbers.{no_more, one_passed, one_taken}
use Rattle.cg_nodes.proofs.parts.numbers_of.Goals as goal

other_side : (host h : Bool) → not (beq h host) ≡ true → cond host h (not h) ≡ false
other_side true true e = cc
other_side true false e = refl
other_side false true e = refl
other_side false false e = cc

same_side : (host h : Bool) → not (beq h host) ≡ false → cond host h (not h) ≡ true
same_side true true e = refl
same_side true false e = cc
same_side false true e = cc
same_side false false e = refl

pub loop-number-preserved-then-node-host : goal.loop-number-preserved-then-node-host
loop-number-preserved-then-node-host c =
    one_passed c.args.host c.args.nodes.now c.loop-number.number c.index-nodes-number.result _ _ _ c.loop-number-test.true c.index-nodes-number.is
    (other_side c.args.host c.index-nodes-number.result.host c.if-node-host.true) c.loop-number.invariant

pub loop-number-preserved : goal.loop-number-preserved
loop-number-preserved c =
    one_taken c.args.host c.args.nodes.now c.loop-number.number c.index-nodes-number.result _ _ _ _ c.loop-number-test.true c.index-nodes-number.is
    (same_side c.args.host c.index-nodes-number.result.host c.if-node-host.false) c.in_ok-push.ensures.ok c.loop-number.invariant

pub returns : goal.returns
returns c = sym (no_more c.args.host c.args.nodes.now c.loop-number.number c.loop-number.numbers c.loop-number-test.false) ∙ c.loop-number.invariant
