use Rattle.std.proofs.Common.{◌<◌, length, sym, ap, ◌∙◌, arith}
use Rattle.cg_outputs.specs.Inner.{put_outputs}
use Rattle.cg_chip.proofs.Loops.{both_fit, crossbar_clear, crossbar_put, crossbar_refused, no_crossbar_left}
use Rattle.cg_chip.proofs.crossbars.put_crossbars.Goals as goal
use Rattle.cg_chip.proofs.crossbars.put_crossbars.Goals.{After-crossbar_text}

-- the crossbar is one of them
within : (c : After-crossbar_text) → c.loop-number.number < length c.args.xbars.now
within c = omega (arith, c.loop-number-test.true)

pub crossbar_text-requires-clause-valid : goal.crossbar_text-requires-clause-valid
crossbar_text-requires-clause-valid c =
    let h : c.loop-number.number < length c.args.xbars.now = omega (arith, c.loop-number-test.true) in
    (both_fit c.args.xbars.now c.args.ranges.now c.loop-number.number _ _ c.requires.fit h c.requires.count c.index-xbars-number.is c.index-ranges-number.is).0

pub crossbar_text-requires-clause-ranges : goal.crossbar_text-requires-clause-ranges
crossbar_text-requires-clause-ranges c =
    let h : c.loop-number.number < length c.args.xbars.now = omega (arith, c.loop-number-test.true) in
    (both_fit c.args.xbars.now c.args.ranges.now c.loop-number.number _ _ c.requires.fit h c.requires.count c.index-xbars-number.is c.index-ranges-number.is).1

-- one text more is put
pub loop-number-preserved : goal.loop-number-preserved
loop-number-preserved c =
    let h = within (goal.at.loop-number-preserved c).After-crossbar_text in
    record {
      put = crossbar_put c.args.xbars.now c.args.ranges.now c.loop-number.number _ _ _ _ _ _ h c.requires.count c.index-xbars-number.is c.index-ranges-number.is c.in-Ok.ensures.made c.in-Ok-put_by_name.ensures.ok c.loop-number.invariant.put;
      clear = crossbar_clear c.args.xbars.now c.args.ranges.now c.loop-number.number _ _ _ h c.requires.count c.index-xbars-number.is c.index-ranges-number.is c.in-Ok.ensures.tells c.loop-number.invariant.clear;
    }

-- the first that is told is told
pub returns-in-Err-clause-tells : goal.returns-in-Err-clause-tells
returns-in-Err-clause-tells c =
    crossbar_refused c.args.xbars.now c.args.ranges.now c.loop-number.number _ _ _ _ (within (goal.at.returns-in-Err-clause-tells c).After-crossbar_text) c.requires.count c.index-xbars-number.is c.index-ranges-number.is
    c.loop-number.invariant.clear c.in-Err.ensures.tells

-- all are put
pub returns-clause-put : goal.returns-clause-put
unfolding put_outputs
returns-clause-put c =
    let left = no_crossbar_left c.args.xbars.now c.args.ranges.now c.loop-number.number (omega (arith, c.loop-number-test.false)) in
    sym (ap (put_outputs c.loop-number.outputs) left.0) ∙ c.loop-number.invariant.put

-- and no name comes twice
pub returns-clause-tells : goal.returns-clause-tells
returns-clause-tells c =
    let left = no_crossbar_left c.args.xbars.now c.args.ranges.now c.loop-number.number (omega (arith, c.loop-number-test.false)) in
    sym c.loop-number.invariant.clear ∙ left.1
