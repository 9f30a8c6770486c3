use Rattle.std.proofs.Common.{length, refl}
use Rattle.std.proofs.lemmas.Option.{slice_get_read}
use Rattle.cg_irq.proofs.Walks.{walk_end, walk_next, walk_start}
use Rattle.cg_clkrst.specs.Owned.{OwnerLacks}
use Rattle.cg_clkrst.specs.declared.tie.Owner.TheVariants.{Inst}
use Rattle.cg_clkrst.proofs.missing.first_in_instances.Goals as goal

pub loop-number-init : goal.loop-number-init
loop-number-init c = walk_start (λ i inst. OwnerLacks c.args.top.now (Inst i) inst.at) c.args.top.now.top.insts

pub first_in_instance-requires-clause-there : goal.first_in_instance-requires-clause-there
first_in_instance-requires-clause-there c =
    let less = rw c.as_slice-inst-items.ensures at c.loop-number-test.true in
    let is = rw c.as_slice-inst-items.ensures at c.inst-item.is in
    slice_get_read c.args.top.now.top.insts (length c.args.top.now.top.insts) c.loop-number.number c.inst-item.result refl less is

pub loop-number-preserved : goal.loop-number-preserved
loop-number-preserved c =
    let less = rw c.as_slice-inst-items.ensures at c.loop-number-test.true in
    let is = rw c.as_slice-inst-items.ensures at c.inst-item.is in
    walk_next (λ i inst. OwnerLacks c.args.top.now (Inst i) inst.at) c.args.top.now.top.insts c.loop-number.number c.inst-item.result _ _ _ less is c.loop-number.invariant c.in_ok-first_in_instance.ensures c.earlier_of-first.ensures

pub returns : goal.returns
returns c =
    let most = rw c.as_slice-inst-items.ensures at c.loop-number-test.false in
    walk_end (λ i inst. OwnerLacks c.args.top.now (Inst i) inst.at) c.args.top.now.top.insts _ c.loop-number.number most c.loop-number.invariant
