use Rattle.std.proofs.Common.{length, refl}
use Rattle.std.proofs.lemmas.Option.{slice_get_read}
use Rattle.cg_irq.proofs.Walks.{walk_end, walk_next, walk_start}
use Rattle.cg_clkrst.specs.Owned.{OwnerLacks}
use Rattle.cg_clkrst.specs.declared.tie.Owner.TheVariants.{Xbar}
use Rattle.cg_clkrst.proofs.missing.first_in_crossbars.Goals as goal

pub loop-number-init : goal.loop-number-init
loop-number-init c = walk_start (λ i listed. OwnerLacks c.args.top.now (Xbar i) listed.at) c.args.top.now.top.xbars

pub first_in_crossbar-requires-clause-there : goal.first_in_crossbar-requires-clause-there
first_in_crossbar-requires-clause-there c =
    let less = rw c.as_slice-listed-items.ensures at c.loop-number-test.true in
    let is = rw c.as_slice-listed-items.ensures at c.listed-item.is in
    slice_get_read c.args.top.now.top.xbars (length c.args.top.now.top.xbars) c.loop-number.number c.listed-item.result refl less is

pub loop-number-preserved : goal.loop-number-preserved
loop-number-preserved c =
    let less = rw c.as_slice-listed-items.ensures at c.loop-number-test.true in
    let is = rw c.as_slice-listed-items.ensures at c.listed-item.is in
    walk_next (λ i listed. OwnerLacks c.args.top.now (Xbar i) listed.at) c.args.top.now.top.xbars c.loop-number.number c.listed-item.result _ _ _ less is c.loop-number.invariant c.in_ok-first_in_crossbar.ensures c.earlier_of-first.ensures

pub returns : goal.returns
returns c =
    let most = rw c.as_slice-listed-items.ensures at c.loop-number-test.false in
    walk_end (λ i listed. OwnerLacks c.args.top.now (Xbar i) listed.at) c.args.top.now.top.xbars _ c.loop-number.number most c.loop-number.invariant
