use Rattle.std.proofs.Common.{◌∙◌, ◌<◌, length, get_or, ap, false, arith}
use Rattle.std.proofs.lemmas.Bool.{false≢true}
use Rattle.cg_space.proofs.Judging.{circle_at, circle_verdict_is, no_circle_at}
use Rattle.cg_space.proofs.Linking.{nested_there}
use Rattle.cg_space.proofs.Marking.{all_rounds_length}
use Rattle.cg_space.proofs.Sound.{xbar_within}
use Rattle.cg_space.proofs.verdict.circle_verdict.Goals as goal
use Rattle.cg_space.proofs.verdict.circle_verdict.Goals.{In-Some}

-- the inner crossbar is there
inner_within : (c : In-Some) → c.in-Some.inner < length c.args.top.now.xbars
inner_within c =
    let nested = (c.nested_in.ensures c.in-Some.inner).0 c.in-Some.is in
    nested_there c.args.top.now c.args.xbar c.in-Some.inner c.requires.sound
    (record { number = c.args.node; device = nested.0.0; is = nested.0.1; is_device = nested.0.2; stands = nested.1 })

pub is_marked-is_in_circle-requires-clause-from : goal.is_marked-is_in_circle-requires-clause-from
is_marked-is_in_circle-requires-clause-from c = omega (arith, c.requires.links.1.count, c.requires.links.2.count, inner_within (goal.at.is_marked-is_in_circle-requires-clause-from c).In-Some)

pub is_marked-is_in_circle-requires-clause-to : goal.is_marked-is_in_circle-requires-clause-to
is_marked-is_in_circle-requires-clause-to c =
    let known : c.in-Some.inner < length c.requires.links.0 = omega (arith, c.requires.links.1.count, inner_within (goal.at.is_marked-is_in_circle-requires-clause-to c).In-Some) in
    let all = ap length (c.requires.links.2.each c.in-Some.inner known) ∙ all_rounds_length c.requires.links.0 c.in-Some.inner in
    omega (arith, all, c.requires.links.1.count, xbar_within c.args.top.now c.args.xbar c.args.node c.requires.there)

pub returns-in-Some : goal.returns-in-Some
returns-in-Some c =
    let known : c.in-Some.inner < length c.requires.links.0 = omega (arith, c.requires.links.1.count, inner_within (goal.at.returns-in-Some c).In-Some) in
    circle_verdict_is c.args.top.now c.args.xbar c.args.node _
    (circle_at c.args.top.now c.args.xbar c.args.node c.in-Some.inner c.requires.links.0 _ c.requires.sound c.requires.links.1
    ((c.nested_in.ensures c.in-Some.inner).0 c.in-Some.is) (c.is_marked-is_in_circle.ensures ∙ ap (λ l. get_or l c.args.xbar false) (c.requires.links.2.each c.in-Some.inner known)))

pub returns-in-None : goal.returns-in-None
returns-in-None c =
    circle_verdict_is c.args.top.now c.args.xbar c.args.node false
    (λ h. absurd (false≢true h), λ circle. absurd (no_circle_at c.args.top.now c.args.xbar c.args.node (λ y nested. absurd (let h = (c.nested_in.ensures y).1 nested in cc)) circle))
