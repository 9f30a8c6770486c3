use Rattle.std.proofs.Common.{refl, sym, ◌∙◌}
use Rattle.cg_finding.proofs.Loops.{no_more_viewed, one_more_viewed}
use Rattle.cg_keys.specs.Table.{key_faults, key_of}
use Rattle.cg_keys.proofs.table.first_in_table.Goals as goal

pub loop-row-preserved : goal.loop-row-preserved
loop-row-preserved c =
    one_more_viewed (key_faults c.args.opener c.args.members.now) key_of c.args.rows.now c.loop-row.row-index _ _ _ _ _
    c.loop-row-test.true refl c.first_at_key.ensures c.earlier_of-first.ensures
    ∙ c.loop-row.invariant

pub returns : goal.returns
returns c =
    sym (no_more_viewed (key_faults c.args.opener c.args.members.now) key_of c.args.rows.now c.loop-row.row-index _ c.loop-row-test.false)
    ∙ c.loop-row.invariant
