use Rattle.cg_merge.specs.Checks.{BreaksListing}
use Rattle.cg_merge.proofs.Walks.{walk_end, walk_next, walk_start}
use Rattle.cg_merge.proofs.instances.first_in_bases.Goals as goal

pub loop-base-init : goal.loop-base-init
loop-base-init c = walk_start (λ k b. BreaksListing c.args.top.now c.args.inst.now.at b.space) c.args.inst.now.base

pub loop-base-preserved : goal.loop-base-preserved
loop-base-preserved c =
    let less = rw c.as_slice-base-items.ensures at c.loop-base-test.true in
    let is = rw c.as_slice-base-items.ensures at c.base-item.is in
    let here = rw c.as_str.ensures at c.first_unlisted.ensures in
    walk_next (λ k b. BreaksListing c.args.top.now c.args.inst.now.at b.space) c.args.inst.now.base c.loop-base.base-index c.base-item.result _ _ _ less is c.loop-base.invariant
    here c.earlier_of-first.ensures

pub returns : goal.returns
returns c =
    let most = rw c.as_slice-base-items.ensures at c.loop-base-test.false in
    walk_end (λ k b. BreaksListing c.args.top.now c.args.inst.now.at b.space) c.args.inst.now.base _ c.loop-base.base-index most c.loop-base.invariant
