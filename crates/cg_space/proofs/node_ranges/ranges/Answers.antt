use Rattle.std.proofs.Common.{◌∙◌, ◌<◌, length, arith}
use Rattle.cg_space.specs.Inner.Tables.{IsTable}
use Rattle.cg_space.proofs.Merged.{is_sound}
use Rattle.cg_space.proofs.Spacing.{entries_are, entries_fit, unbroken_free}
use Rattle.cg_space.proofs.Tabling.{if_ok, table_read}
use Rattle.cg_space.proofs.node_ranges.ranges.Goals as goal
use Rattle.cg_space.proofs.node_ranges.ranges.Goals.{After-entries}

pub marks_of-requires : goal.marks_of-requires
marks_of-requires c = is_sound c.args.top.now c.requires.valid

pub tables_of-requires-clause-sound : goal.tables_of-requires-clause-sound
tables_of-requires-clause-sound c = is_sound c.args.top.now c.requires.valid

pub tables_of-requires-clause-free : goal.tables_of-requires-clause-free
tables_of-requires-clause-free c = unbroken_free c.args.top.now c.requires.unbroken

-- the crossbar's table
table : (c : After-entries) → IsTable c.args.top.now c.args.xbar c.as_slice-3.result.now
table c =
    let there : c.args.xbar < length c.in_ok-tables.tables = omega (arith, c.in_ok-tables.ensures.count, c.requires.there) in
    table_read c.args.top.now c.args.xbar c.in_ok-tables.tables c.index-as_slice-xbar.result _ there (c.as_slice-3.ensures ∙ rw c.as_slice-2.ensures at c.index-as_slice-xbar.is)
    (c.in_ok-tables.ensures.each c.args.xbar c.requires.there)

pub returns-clause-are : goal.returns-clause-are
returns-clause-are c =
    if_ok c.entries.result c.entries.ensures (λ entries is. rw is (entries_are c.args.top.now c.args.xbar _ c.requires.unbroken (table (goal.at.returns-clause-are c).After-entries)))

pub returns-clause-fit : goal.returns-clause-fit
returns-clause-fit c =
    if_ok c.entries.result c.entries.ensures (λ entries is. λ x at. rw is
    (entries_fit c.args.top.now c.args.xbar _ x (is_sound c.args.top.now c.requires.valid) c.requires.unbroken (table (goal.at.returns-clause-fit c).After-entries) at))
