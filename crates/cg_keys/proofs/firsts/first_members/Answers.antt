use Rattle.std.proofs.Common.{◌≡◌, [], ◌∷◌, ◌++◌, List, map, ap, sym, ◌∙◌}
use Rattle.std.proofs.lemmas.List.{map-append}
use Rattle.cg_hjson.specs.declared.tree.Member.{Member}
use Rattle.cg_keys.proofs.SeenNames.{all_looked, passed, taken}
use Rattle.cg_keys.proofs.firsts.first_members.Goals as goal

pub loop-member-preserved-then-not-branch : goal.loop-member-preserved-then-not-branch
loop-member-preserved-then-not-branch c =
    passed c.args.members.now c.loop-member.member-index c.member-item.result _ c.as_str-key.result.now c.loop-member.seen.keys c.insert.new.self.keys _ _ _
    c.loop-member-test.true c.member-item.is c.as_str-key.ensures c.in_ok-insert.ensures.added
    (λ n. c.in_ok-insert.ensures.updates.0 (record { ref_ptr = (0, 0); now = n })) c.if-not-branch.true c.loop-member.invariant

pub loop-member-preserved : goal.loop-member-preserved
loop-member-preserved c =
    let firsts : List Member = map (λ m. m.now) c.loop-member.firsts.items in
    let pushed : map (λ m. m.now) c.push.new.self.items ≡ firsts ++ c.member-item.result ∷ [] =
    ap (map (λ m. m.now)) c.in_ok-push.ensures.items ∙ map-append (λ m. m.now) c.loop-member.firsts.items _ in
    rw pushed
    (taken c.args.members.now c.loop-member.member-index c.member-item.result _ c.as_str-key.result.now c.loop-member.seen.keys c.insert.new.self.keys _ firsts _
    c.loop-member-test.true c.member-item.is c.as_str-key.ensures c.in_ok-insert.ensures.added
    (λ n. c.in_ok-insert.ensures.updates.0 (record { ref_ptr = (0, 0); now = n })) c.if-not-branch.false c.loop-member.invariant)

pub returns : goal.returns
returns c =
    sym (all_looked c.args.members.now c.loop-member.member-index c.loop-member.seen.keys (map (λ m. m.now) c.loop-member.firsts.items) c.loop-member-test.false)
    ∙ c.loop-member.invariant
