use Rattle.std.proofs.Common.{◌≡◌, ◌∙◌, ◌<◌, length, arith}
use Rattle.cg_space.specs.Inner.Verdicts.{AreVerdicts, IsRangeVerdict}
use Rattle.cg_space.proofs.Numbering.{all_verdicts, none_below, one_below}
use Rattle.cg_space.proofs.Tabling.{table_read}
use Rattle.cg_space.proofs.verdicts.wrong_ranges.Goals as goal

pub loop-xbar-init : goal.loop-xbar-init
loop-xbar-init c = rw c.new-all.ensures (none_below (AreVerdicts c.args.top.now (IsRangeVerdict c.args.top.now)))

pub wrong_in-requires-clause-table : goal.wrong_in-requires-clause-table
wrong_in-requires-clause-table c =
    let here : c.loop-xbar.xbar < length c.args.top.now.xbars = omega (arith, c.loop-xbar-test.true, c.len-xbar-end.ensures) in
    let there : c.loop-xbar.xbar < length c.args.tables.now = omega (arith, here, c.requires.tables.count) in
    table_read c.args.top.now c.loop-xbar.xbar c.args.tables.now _ _ there (c.as_slice.ensures ∙ c.index-tables-xbar.is) (c.requires.tables.each c.loop-xbar.xbar here)

pub loop-xbar-preserved : goal.loop-xbar-preserved
loop-xbar-preserved c =
    one_below (AreVerdicts c.args.top.now (IsRangeVerdict c.args.top.now)) c.loop-xbar.xbar c.loop-xbar.all _ c.in_ok-wrong_in.field-0 c.in_ok-wrong_in.ensures c.in_ok-push.ensures.ok c.loop-xbar.invariant

pub returns : goal.returns
returns c =
    let all : c.loop-xbar.xbar ≡ length c.args.top.now.xbars = omega (arith, c.loop-xbar.auto.xbar-end, c.loop-xbar-test.false, c.len-xbar-end.ensures) in
    all_verdicts c.args.top.now (IsRangeVerdict c.args.top.now) c.loop-xbar.all (rw all at c.loop-xbar.invariant)
