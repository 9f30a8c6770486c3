use Rattle.cg_desc.specs.Merged.{design_of}
use Rattle.cg_merge.specs.Violations.{BreaksSpace}
use Rattle.cg_merge.proofs.Walks.{walk_end, walk_next, walk_start}
use Rattle.cg_merge.proofs.top_rules.first_in_spaces.Goals as goal

pub loop-number-init : goal.loop-number-init
loop-number-init c = walk_start (BreaksSpace (design_of c.args.top.now)) c.args.top.now.top.spaces

pub loop-number-preserved : goal.loop-number-preserved
loop-number-preserved c =
    let less = rw c.as_slice-space-items.ensures at c.loop-number-test.true in
    let is = rw c.as_slice-space-items.ensures at c.space-item.is in
    walk_next (BreaksSpace (design_of c.args.top.now)) c.args.top.now.top.spaces c.loop-number.number c.space-item.result _ _ _ less is c.loop-number.invariant c.first_in_space.ensures c.earlier_of-first.ensures

pub returns : goal.returns
returns c =
    let most = rw c.as_slice-space-items.ensures at c.loop-number-test.false in
    walk_end (BreaksSpace (design_of c.args.top.now)) c.args.top.now.top.spaces _ c.loop-number.number most c.loop-number.invariant
