use Rattle.std.proofs.Common.{length, refl}
use Rattle.std.proofs.lemmas.Option.{slice_get_read}
use Rattle.cg_desc.specs.Merged.{design_of}
use Rattle.cg_merge.specs.Violations.{BreaksCrossbar, BreaksTop}
use Rattle.cg_merge.proofs.FirstFaults.{below_all, below_next, below_none, tells_file}
use Rattle.cg_merge.proofs.faults.first_fault.Goals as goal

pub loop-number-init : goal.loop-number-init
loop-number-init c =
    below_none (design_of c.args.top.now) c.in_ok-first.first
    (rw c.in_ok-first.ensures (tells_file (BreaksTop (design_of c.args.top.now)) c.args.top.now.top.file _ c.first_in_top.ensures))

pub first_in_crossbar-requires-clause-there : goal.first_in_crossbar-requires-clause-there
first_in_crossbar-requires-clause-there c =
    let less = rw c.as_slice-xbar-items.ensures at c.loop-number-test.true in
    let is = rw c.as_slice-xbar-items.ensures at c.xbar-item.is in
    slice_get_read c.args.top.now.xbars (length c.args.top.now.xbars) c.loop-number.number c.xbar-item.result refl less is

pub loop-number-preserved : goal.loop-number-preserved
loop-number-preserved c =
    let less = rw c.as_slice-xbar-items.ensures at c.loop-number-test.true in
    let is = rw c.as_slice-xbar-items.ensures at c.xbar-item.is in
    let there = slice_get_read c.args.top.now.xbars (length c.args.top.now.xbars) c.loop-number.number c.xbar-item.result refl less is in
    below_next (design_of c.args.top.now) c.loop-number.number c.xbar-item.result c.loop-number.first c.in_ok-here.here c.earlier_fault-first.result there c.earlier_fault-first.ensures c.loop-number.invariant
    (rw c.in_ok-here.ensures (tells_file (BreaksCrossbar (design_of c.args.top.now) c.loop-number.number c.xbar-item.result) c.xbar-item.result.file _ c.first_in_crossbar.ensures))

pub returns : goal.returns
returns c =
    let most = rw c.as_slice-xbar-items.ensures at c.loop-number-test.false in
    below_all (design_of c.args.top.now) c.loop-number.number c.loop-number.first most c.loop-number.invariant
