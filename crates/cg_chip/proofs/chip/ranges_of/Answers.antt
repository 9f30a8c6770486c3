use Rattle.std.proofs.Common.{length, ap, arith}
use Rattle.cg_desc.specs.Merged.{of_top}
use Rattle.cg_chip.proofs.Ranged.{all_fit, all_ranged, none_ranged, one_counted, one_ranged}
use Rattle.cg_chip.proofs.chip.ranges_of.Goals as goal

pub ranges-requires-clause-valid : goal.ranges-requires-clause-valid
ranges-requires-clause-valid c = of_top c.requires.merged

pub loop-xbar-init : goal.loop-xbar-init
loop-xbar-init c = record { count = ap length c.new-all.ensures; each = none_ranged _ _ c.new-all.ensures }

-- one crossbar more has its ranges
pub loop-xbar-preserved : goal.loop-xbar-preserved
loop-xbar-preserved c = record {
  count = one_counted _ _ c.loop-xbar.xbar _ c.loop-xbar.invariant.count c.in_ok-push.ensures.ok;
  each = one_ranged c.args.top.now _ _ c.loop-xbar.xbar _ c.loop-xbar.invariant.count c.loop-xbar.invariant.each
      (record { are = c.in_ok-ranges.ensures.are; fit = c.in_ok-ranges.ensures.fit }) c.in_ok-push.ensures.ok;
}

-- all have theirs
pub returns-clause-are : goal.returns-clause-are
returns-clause-are c = all_ranged c.args.top.now c.loop-xbar.all (omega (arith, c.loop-xbar.invariant.count, c.loop-xbar-test.false, c.len-xbar-end.ensures)) c.loop-xbar.invariant.each

pub returns-clause-fit : goal.returns-clause-fit
returns-clause-fit c = all_fit c.args.top.now c.loop-xbar.all c.requires.merged c.loop-xbar.invariant.each
