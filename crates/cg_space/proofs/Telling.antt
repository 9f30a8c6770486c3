-- The first fault of all nodes.
use Rattle.std.proofs.Common.{◌≡◌, ◌↔◌, ℕ, ◌+◌, ◌<◌, ◌≤◌, Bool, true, false, List, ◌⊎◌, inl, inr, Option, Some, None, slice_get, refl, sym, ap, ◌∙◌, subst, arith}
use Rattle.std.specs.Ordering.{is_gt, ordering_reverse}
use Rattle.std.specs.declared.cmp.Ordering.{Ordering}
use Rattle.std.specs.declared.cmp.Ordering.TheVariants.{Less, Equal, Greater}
use Rattle.std.proofs.lemmas.Bool.{cases_lt, false≢true}
use Rattle.std.proofs.lemmas.Cmp.{upto}
use Rattle.std.proofs.lemmas.Option.{slice_get_within}
use Rattle.cg_desc.specs.Crossbar.{IsValidCrossbar}
use Rattle.cg_desc.specs.Ends.{CrossbarIs}
use Rattle.cg_desc.specs.Faults.{Before, fault_cmp}
use Rattle.cg_desc.specs.Merged.{design_of, NodeAt}
use Rattle.cg_desc.specs.declared.crossbar.NodeDesc.{NodeDesc}
use Rattle.cg_desc.specs.declared.crossbar.XbarDesc.{XbarDesc}
use Rattle.cg_desc.specs.declared.fault.Fault.{Fault}
use Rattle.cg_desc.specs.declared.fault.DescFault.TheVariants as refusal
use Rattle.cg_desc.specs.declared.top.MergedTop.{MergedTop}
use Rattle.cg_desc.proofs.FaultOrder.{before_irreflexive, before_transitive, fault_cmp-Less, fault_cmp_total}
use Rattle.cg_finding.specs.Finding.{Finding, earlier, in_file}
use Rattle.cg_finding.specs.Rules as rules
use Rattle.cg_finding.specs.Told.{TellsFirst}
use Rattle.cg_finding.specs.Violations.{IsFirstFault, RefusesFirst}
use Rattle.cg_finding.proofs.Told.{BrokenBelow, none_broken, tells_all, tells_as, tells_either, tells_nothing, tells_one}
use Rattle.cg_space.specs.Inner.Sound.{HasNode, IsSound}
use Rattle.cg_space.specs.Inner.Verdicts.{CrossbarTells, FaultBelow, FaultOf, IsEarlier, IsFirstIfAny, NodeTells, Tells}
use Rattle.cg_space.specs.declared.verdict.Verdict.{Verdict}
use Rattle.cg_space.proofs.Sound.{one_node, one_there}
use Rattle.cg_space.proofs.Tabling.{all_at}

-- ---- one node

-- a finding, where the flag is set
abbrev pub If : Bool → Finding → Finding → Type 0
If flag g f = (flag ≡ true) × (f ≡ g)

pub tells_flag : (flag : Bool) (g : Finding) → flag ≡ true → TellsFirst (Some g) (If flag g)
tells_flag flag g h = tells_one g (h, refl) (λ f broken. broken.1)

pub tells_no_flag : (flag : Bool) (g : Finding) → flag ≡ false → TellsFirst None (If flag g)
tells_no_flag flag g h = tells_nothing (λ f broken. false≢true (sym h ∙ broken.0))

pub tells_node : (node : NodeDesc) (v : Verdict) (circle range overlap told : Option Finding) → TellsFirst circle (If v.is_in_circle (rules.crossbars_in_a_circle node.at node.name))
    → TellsFirst range (If v.is_bad (rules.bad_range node.at node.name)) → TellsFirst overlap (If v.is_shared (rules.ranges_overlap node.at node.name))
    → told ≡ earlier circle (earlier range overlap) → TellsFirst told (Tells node v)
tells_node node v circle range overlap told p q r is = rw is (tells_as (tells_either p (tells_either q r)) to from) where
  to : (f : Finding) → If v.is_in_circle (rules.crossbars_in_a_circle node.at node.name) f ⊎ (If v.is_bad (rules.bad_range node.at node.name) f ⊎ If v.is_shared (rules.ranges_overlap node.at node.name) f) → Tells node v f
  to f (inl h) = rw h.1 (Tells.circle h.0)
  to f (inr (inl h)) = rw h.1 (Tells.bad_range h.0)
  to f (inr (inr h)) = rw h.1 (Tells.overlap h.0)

  from : (f : Finding) → Tells node v f → If v.is_in_circle (rules.crossbars_in_a_circle node.at node.name) f ⊎ (If v.is_bad (rules.bad_range node.at node.name) f ⊎ If v.is_shared (rules.ranges_overlap node.at node.name) f)
  from f (Tells.circle h) = inl (h, refl)
  from f (Tells.bad_range h) = inr (inl (h, refl))
  from f (Tells.overlap h) = inr (inr (h, refl))

-- ---- one crossbar

pub few_nodes : (m : MergedTop) (x n : ℕ) → IsSound m → HasNode m x n → n < 64
few_nodes m x n sound has =
    let at = has.1 in
    let few = (all_at IsValidCrossbar m.xbars x at.crossbar sound.crossbars at.crossbar_is).few_nodes in
    omega (arith, few, slice_get_within at.crossbar.nodes n has.0 at.is)

-- what the node that is read tells
pub tells_here : (m : MergedTop) (x n : ℕ) (verdicts : List Verdict) (node : NodeDesc) (v : Verdict) (told : Option Finding) → NodeAt m x n node → slice_get verdicts n ≡ Some v
    → TellsFirst told (Tells node v) → TellsFirst told (NodeTells m x verdicts n)
tells_here m x n verdicts node v told at is t = tells_as t
    (λ f tells. record { node = node; is = at; verdict = v; verdict_is = is; tells = tells })
    (λ f broken.
    let same : broken.node ≡ node = one_node m x n broken.node node broken.is at in
    let flag : broken.verdict ≡ v = one_there verdicts n broken.verdict v broken.verdict_is is in
    subst (λ (d : NodeDesc). Tells d v f) same (subst (λ (w : Verdict). Tells broken.node w f) flag broken.tells))

pub tells_crossbar : (m : MergedTop) (x k : ℕ) (verdicts : List Verdict) (told : Option Finding) → ((n : ℕ) → (n < k) ↔ HasNode m x n)
    → TellsFirst told (BrokenBelow (NodeTells m x verdicts) k) → TellsFirst told (CrossbarTells m x verdicts)
tells_crossbar m x k verdicts told nodes t =
    tells_all k t (λ f n broken. (n, broken)) (λ f broken. (broken.0, (nodes broken.0).1 (broken.1.node, broken.1.is), broken.1))

-- ---- one file

pub no_fault : (m : MergedTop) (x : ℕ) (verdicts : List Verdict) → TellsFirst None (CrossbarTells m x verdicts) → (f : Fault) → ¬ FaultOf m x verdicts f
no_fault m x verdicts t f fault = none_broken t fault.finding fault.tells

pub first_in_file : (m : MergedTop) (x : ℕ) (xbar : XbarDesc) (verdicts : List Verdict) (fault : Fault) → CrossbarIs (design_of m) x xbar
    → RefusesFirst (refusal.Fault fault) xbar.file (CrossbarTells m x verdicts) → IsFirstFault (FaultOf m x verdicts) fault
first_in_file m x xbar verdicts fault is refuses = record {
  violates = record { xbar = xbar; crossbar_is = is; finding = refuses.0; tells = refuses.2.violates; says = refuses.1 };
  least = λ other broken before.
      let same : broken.xbar ≡ xbar = one_there m.xbars x broken.xbar xbar broken.crossbar_is is in
      let file : other ≡ in_file xbar.file broken.finding = broken.says ∙ ap (λ (c : XbarDesc). in_file c.file broken.finding) same in
      refuses.2.least xbar.file broken.finding broken.tells (rw refuses.1 at (rw file at before));
}

-- ---- two files

cmp_not_before : (f g : Fault) → ¬ Before g f → is_gt (fault_cmp f g) ≡ false
cmp_not_before f g not = by (fault_cmp f g) refl where
  by : (o : Ordering) → fault_cmp f g ≡ o → is_gt o ≡ false
  by Less e = refl
  by Equal e = refl
  by Greater e = absurd (not ((fault_cmp-Less g f).0 (fault_cmp_total.antisymm g f ∙ ap ordering_reverse e)))

cmp_before : (f g : Fault) → is_gt (fault_cmp f g) ≡ false → ¬ Before g f
cmp_before f g e before =
    let less : fault_cmp g f ≡ Less = (fault_cmp-Less g f).1 before in
    let greater : fault_cmp f g ≡ Greater = fault_cmp_total.antisymm f g ∙ ap ordering_reverse less in
    false≢true (sym e ∙ ap is_gt greater)

-- what is not before one that is not before another is not before that
not_before_on : (f g h : Fault) → ¬ Before g f → ¬ Before h g → ¬ Before h f
not_before_on f g h p q = cmp_before f h (upto fault_cmp_total f g h (cmp_not_before f g p) (cmp_not_before g h q))

not_back : (f g : Fault) → Before f g → ¬ Before g f
not_back f g before back = before_irreflexive f (before_transitive f g f before back)

pub first_of_two : (P Q : Fault → Type 0) (a b kept : Option Fault) → IsEarlier a b kept → IsFirstIfAny P a → IsFirstIfAny Q b → IsFirstIfAny (λ f. P f ⊎ Q f) kept
first_of_two P Q None None kept is p q = rw is (λ f broken. elim broken [ inl l ↦ p f l | inr r ↦ q f r ])
first_of_two P Q None (Some g) kept is p q =
    rw is (record { violates = inr q.violates; least = λ other broken. elim broken [ inl l ↦ absurd (p other l) | inr r ↦ q.least other r ] })
first_of_two P Q (Some f) None kept is p q =
    rw is (record { violates = inl p.violates; least = λ other broken. elim broken [ inl l ↦ p.least other l | inr r ↦ absurd (q other r) ] })
first_of_two P Q (Some f) (Some g) kept (inl h) p q =
    rw h.0 (record { violates = inl p.violates; least = λ other broken. elim broken [ inl l ↦ p.least other l | inr r ↦ not_before_on f g other h.1 (q.least other r) ] })
first_of_two P Q (Some f) (Some g) kept (inr h) p q =
    rw h.0 (record { violates = inr q.violates; least = λ other broken. elim broken [ inl l ↦ not_before_on g f other (not_back g f h.1) (p.least other l) | inr r ↦ q.least other r ] })

pub first_as : (P Q : Fault → Type 0) (kept : Option Fault) → ((f : Fault) → P f → Q f) → ((f : Fault) → Q f → P f) → IsFirstIfAny P kept → IsFirstIfAny Q kept
first_as P Q None to from p = λ f broken. p f (from f broken)
first_as P Q (Some fault) to from p = record { violates = to fault p.violates; least = λ other broken. p.least other (from other broken) }

-- ---- all files

pub none_below : (m : MergedTop) (all : List (List Verdict)) → IsFirstIfAny (FaultBelow m all 0) None
none_below m all f broken = absurd (omega (arith, broken.below))

pub first_more : (m : MergedTop) (all : List (List Verdict)) (k : ℕ) (verdicts : List Verdict) (first fault kept : Option Fault) → slice_get all k ≡ Some verdicts
    → IsEarlier first fault kept → IsFirstIfAny (FaultBelow m all k) first → IsFirstIfAny (FaultOf m k verdicts) fault → IsFirstIfAny (FaultBelow m all (k + 1)) kept
first_more m all k verdicts first fault kept is earlier_is p q = first_as _ _ kept to from (first_of_two (FaultBelow m all k) (FaultOf m k verdicts) first fault kept earlier_is p q) where
  to : (f : Fault) → FaultBelow m all k f ⊎ FaultOf m k verdicts f → FaultBelow m all (k + 1) f
  to f (inl b) = record { number = b.number; below = omega (arith, b.below); verdicts = b.verdicts; verdicts_are = b.verdicts_are; fault = b.fault }
  to f (inr b) = record { number = k; below = omega arith; verdicts = verdicts; verdicts_are = is; fault = b }

  by : (f : Fault) (b : FaultBelow m all (k + 1) f) → (b.number < k) ⊎ (k ≤ b.number) → FaultBelow m all k f ⊎ FaultOf m k verdicts f
  by f b (inl less) = inl (record { number = b.number; below = less; verdicts = b.verdicts; verdicts_are = b.verdicts_are; fault = b.fault })
  by f b (inr more) =
      let here : b.number ≡ k = omega (arith, more, b.below) in
      let same : b.verdicts ≡ verdicts = one_there all k b.verdicts verdicts (subst (λ i. slice_get all i ≡ Some b.verdicts) here b.verdicts_are) is in
      inr (subst (λ (vs : List Verdict). FaultOf m k vs f) same (subst (λ i. FaultOf m i b.verdicts f) here b.fault))

  from : (f : Fault) → FaultBelow m all (k + 1) f → FaultBelow m all k f ⊎ FaultOf m k verdicts f
  from f b = by f b (cases_lt b.number k)
