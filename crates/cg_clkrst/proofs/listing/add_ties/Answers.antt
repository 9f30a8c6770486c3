use Rattle.cg_clkrst.proofs.Tyings.{first_ties, last_ties, source_among, tie_next}
use Rattle.cg_clkrst.proofs.listing.add_ties.Goals as goal

pub loop-number-init : goal.loop-number-init
loop-number-init c uses are apart = first_ties c.args.top.now c.args.owned.now.owner c.args.ports.now uses _ are

pub add_tie-requires-clause-sourced : goal.add_tie-requires-clause-sourced
add_tie-requires-clause-sourced c = source_among c.args.top.now c.args.owned.now.owner c.args.ports.now c.loop-number.number _ c.loop-number-test.true c.requires.sourced

pub loop-number-preserved : goal.loop-number-preserved
loop-number-preserved c uses are apart =
    tie_next c.args.top.now c.args.owned.now.owner c.args.ports.now c.loop-number.number _ _ _ c.loop-number-test.true c.in_ok-add_tie.ensures uses apart (c.loop-number.invariant uses are apart)

pub returns : goal.returns
returns c uses are apart =
    last_ties c.args.top.now c.args.owned.now.owner c.args.ports.now c.loop-number.number uses _ c.loop-number-test.false (c.loop-number.invariant uses are apart)
