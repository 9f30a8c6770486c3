use Rattle.std.proofs.Common.{[], ◌≤◌, length, arith}
use Rattle.cg_space.specs.Inner.Leaves.{IsRowIn}
use Rattle.cg_space.proofs.Checking.{ranks_fall}
use Rattle.cg_space.proofs.Growing.{adds_next}
use Rattle.cg_space.proofs.Rising.{are_rows, crossbars_before}
use Rattle.cg_space.proofs.Spacing.{unbroken_free}
use Rattle.cg_space.proofs.map.all_rows.Goals as goal

pub add_crossbar-requires-clause-fall : goal.add_crossbar-requires-clause-fall
add_crossbar-requires-clause-fall c =
    rw (c.as_slice-in-loop-xbar.ensures, c.in_ok-ranks.ensures, c.as_slice.ensures)
    (ranks_fall c.args.top.now c.in_ok-marks.ensures.0 c.in_ok-marks.marks c.requires.sound c.in_ok-marks.ensures.1 c.in_ok-marks.ensures.2 (unbroken_free c.args.top.now c.requires.unbroken))

pub loop-xbar-preserved : goal.loop-xbar-preserved
loop-xbar-preserved c = record {
  adds = adds_next [] c.loop-xbar.rows c.add_crossbar.new.rows (IsRowIn c.args.top.now) c.loop-xbar.xbar c.loop-xbar.invariant.adds c.in_ok-add_crossbar.ensures.members;
  rises = c.in_ok-add_crossbar.ensures.order c.loop-xbar.invariant.rises (crossbars_before c.args.top.now c.loop-xbar.xbar c.loop-xbar.rows c.loop-xbar.invariant.adds);
}

pub returns : goal.returns
returns c =
    let all : length c.args.top.now.xbars ≤ c.loop-xbar.xbar = omega (arith, c.len-xbar-end.ensures, c.loop-xbar-test.false) in
    are_rows c.args.top.now c.loop-xbar.xbar c.loop-xbar.rows all c.loop-xbar.invariant.adds c.loop-xbar.invariant.rises
