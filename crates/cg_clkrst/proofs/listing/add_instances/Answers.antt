use Rattle.std.proofs.Common.{◌≤◌, length, refl, sym, subst}
use Rattle.std.proofs.lemmas.Option.{slice_get_read}
use Rattle.cg_clkrst.proofs.Tyings.{all_instances}
use Rattle.cg_clkrst.proofs.listing.add_instances.Goals as goal

pub add_instance-requires-clause-there : goal.add_instance-requires-clause-there
add_instance-requires-clause-there c =
    let less = rw c.as_slice-inst-items.ensures at c.loop-number-test.true in
    let is = rw c.as_slice-inst-items.ensures at c.inst-item.is in
    slice_get_read c.args.top.now.top.insts (length c.args.top.now.top.insts) c.loop-number.number c.inst-item.result refl less is

pub loop-number-preserved : goal.loop-number-preserved
loop-number-preserved c are = c.in_ok-add_instance.ensures (c.loop-number.invariant are)

pub returns : goal.returns
returns c are =
    let most = rw c.as_slice-inst-items.ensures at c.loop-number-test.false in
    all_instances c.args.top.now c.loop-number.number _ (subst (λ n. n ≤ c.loop-number.number) (sym c.requires.has_blocks.count) most) (c.loop-number.invariant are)
