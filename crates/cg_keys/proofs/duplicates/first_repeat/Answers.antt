use Rattle.std.proofs.Common.{sym, ◌∙◌}
use Rattle.cg_keys.proofs.Repeats.{no_more_keys, one_more_key}
use Rattle.cg_keys.proofs.duplicates.first_repeat.Goals as goal

pub loop-member-preserved : goal.loop-member-preserved
loop-member-preserved c =
    one_more_key c.args.members.now c.loop-member.member-index c.member-item.result _ _ c.loop-member.seen.keys c.insert.new.self.keys _ _ _ c.in_ok-is_new.is_new
    c.loop-member-test.true c.member-item.is c.as_str.ensures c.in_ok-is_new.ensures.added
    (λ n. c.in_ok-is_new.ensures.updates.0 (record { ref_ptr = (0, 0); now = n }))
    c.repeat_of.ensures c.earlier_of-first.ensures
    ∙ c.loop-member.invariant

pub returns : goal.returns
returns c =
    sym (no_more_keys c.args.members.now c.loop-member.member-index c.loop-member.seen.keys _ c.loop-member-test.false)
    ∙ c.loop-member.invariant
