use Rattle.std.proofs.Common.{sym, ◌∙◌}
use Rattle.cg_blkread.proofs.NameSets.{all_keys, one_key}
use Rattle.cg_blkread.proofs.shape.keys_of.Goals as goal

pub loop-member-preserved : goal.loop-member-preserved
loop-member-preserved c = λ n.
    one_key c.args.members.now c.loop-member.member-index c.member-item.result _ c.as_str.result.now c.loop-member.keys.keys c.insert.new.self.keys n
    c.loop-member-test.true c.member-item.is c.as_str.ensures (λ m. c.in_ok-insert.ensures.updates.0 (record { ref_ptr = (0, 0); now = m }))
    ∙ c.loop-member.invariant n

pub returns : goal.returns
returns c = λ n.
    sym (all_keys c.args.members.now c.loop-member.member-index c.loop-member.keys.keys n c.loop-member-test.false) ∙ c.loop-member.invariant n
