use Rattle.std.proofs.Common.{◌∙◌, refl, arith}
use Rattle.std.proofs.lemmas.Bool.{false≢true}
use Rattle.cg_space.proofs.Tabling.{inner_host_is, none_so_far_more}
use Rattle.cg_space.proofs.table.inner_to.Goals as goal

pub is_inner_host-requires-clause-there : goal.is_inner_host-requires-clause-there
is_inner_host-requires-clause-there c = (c.node_count-node-end.ensures.nodes c.loop-node.node).0 c.loop-node-test.true

pub returns-then-is_inner_host : goal.returns-then-is_inner_host
returns-then-is_inner_host c k host inner =
    c.as_slice.ensures ∙ inner_host_is c.args.top.now c.args.outer c.args.xbar c.loop-node.node c.node_at.result.now k host c.requires.sound c.node_at.ensures (c.if-is_inner_host.ensures.0 refl) inner

pub loop-node-preserved : goal.loop-node-preserved
loop-node-preserved c =
    none_so_far_more c.args.top.now c.args.outer c.args.xbar c.loop-node.node (λ h. false≢true (c.if-is_inner_host.ensures.1 h)) c.loop-node.invariant

pub returns : goal.returns
returns c k host inner =
    absurd (omega (arith, c.loop-node.invariant k host inner, c.loop-node-test.false, (c.node_count-node-end.ensures.nodes k).1 (host, inner.is)))
