use Rattle.cg_sv.proofs.Repeats.{unseen, seen_again}
use Rattle.cg_sv.proofs.names.first_repeat.Goals as goal

pub returns-then-not-branch : goal.returns-then-not-branch
returns-then-not-branch c =
    seen_again c.args.names.now c.loop-name.name-index _ c.loop-name.seen.keys _ _ c.loop-name-test.true
    c.in_ok-insert.ensures.added c.if-not-branch.true c.loop-name.invariant

pub loop-name-preserved : goal.loop-name-preserved
loop-name-preserved c =
    unseen c.args.names.now c.loop-name.name-index _ c.loop-name.seen.keys c.insert.new.self.keys _ _ c.loop-name-test.true
    c.in_ok-insert.ensures.added c.if-not-branch.false (λ n. c.in_ok-insert.ensures.updates.0 (record { ref_ptr = (0, 0); now = n })) c.loop-name.invariant
