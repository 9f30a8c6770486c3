use Rattle.std.proofs.Common.{length, refl}
use Rattle.std.proofs.lemmas.Option.{slice_get_read}
use Rattle.cg_clkrst.proofs.Tyings.{all_crossbars}
use Rattle.cg_clkrst.proofs.listing.add_crossbars.Goals as goal

pub add_crossbar-requires-clause-there : goal.add_crossbar-requires-clause-there
add_crossbar-requires-clause-there c =
    let less = rw c.as_slice-listed-items.ensures at c.loop-number-test.true in
    let is = rw c.as_slice-listed-items.ensures at c.listed-item.is in
    slice_get_read c.args.top.now.top.xbars (length c.args.top.now.top.xbars) c.loop-number.number c.listed-item.result refl less is

pub loop-number-preserved : goal.loop-number-preserved
loop-number-preserved c are = c.in_ok-add_crossbar.ensures (c.loop-number.invariant are)

pub returns : goal.returns
returns c are =
    let most = rw c.as_slice-listed-items.ensures at c.loop-number-test.false in
    all_crossbars c.args.top.now c.loop-number.number _ most (c.loop-number.invariant are)
