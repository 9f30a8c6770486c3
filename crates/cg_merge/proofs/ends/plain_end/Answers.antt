use Rattle.std.proofs.Common.{ℕ, Bool, arith}
use Rattle.std.proofs.lemmas.Option.{slice_get_within}
use Rattle.cg_desc.specs.Merged.{design_of}
use Rattle.cg_merge.specs.Nodes.{Names}
use Rattle.cg_merge.proofs.NodeEnds.{plain_outside}
use Rattle.cg_merge.proofs.Repeats.{none_more}
use Rattle.cg_merge.proofs.ends.plain_end.Goals as goal

pub loop-number-init : goal.loop-number-init
loop-number-init c i less = absurd (omega (arith, less))

pub loop-number-preserved : goal.loop-number-preserved
loop-number-preserved c i less =
    let here = rw c.in_default.is at c.in_ok-end.ensures in
    none_more (λ k. (host : Bool) × ((f : ℕ) × Names (design_of c.args.top.now) host c.args.node.now k f)) c.loop-number.number c.loop-number.invariant
    (λ named. here named.0 named.1.0 named.1.1) i less

pub returns : goal.returns
returns c =
    let most = rw c.as_slice-inst-items.ensures at c.loop-number-test.false in
    plain_outside (design_of c.args.top.now) c.args.node.now c.requires.plain
    (λ i host f names.
    let within = slice_get_within c.args.top.now.top.insts i names.inst names.is.instance in
    c.loop-number.invariant i (omega arith) (host, (f, names)))
