-- What stands behind a place does not come before what is found at it.
use Rattle.std.proofs.Common.{◌≡◌, ◌<◌, nat_lt, Bool, true, false, cond, List, [], ◌∷◌, ◌++◌, Some, inl, inr, refl, sym, ap, ◌∙◌, subst, arith}
use Rattle.std.specs.Cmp.{nat_cmp_is}
use Rattle.std.specs.Cmp.Lexicographic.{slice_cmp}
use Rattle.std.specs.List.{list_all, list_any}
use Rattle.std.specs.Ordering.{is_gt, nat_cmp, ordering_then}
use Rattle.std.specs.declared.cmp.Ordering.TheVariants.{Less, Equal}
use Rattle.std.proofs.lemmas.Bool.{and_parts}
use Rattle.std.proofs.lemmas.Bool.Decides.{nat_tests}
use Rattle.cg_desc.specs.declared.place.At.{At}
use Rattle.cg_finding.specs.Finding.{Among, Finding, In, earlier, finding, finding_cmp, first_of}
use Rattle.cg_finding.proofs.Firsts.{earlier-None, earlier_assoc, first_of-append, first_of-one}
use Rattle.cg_finding.proofs.Members.{in_flat_map, in_when}
use Rattle.cg_expand.specs.Violations.{Named}
use Rattle.cg_expand.specs.Parts.Faults.{bits_faults}
use Rattle.cg_expand.specs.Parts.Labels.{is_behind, is_earlier, labels_twice, twice_among}

-- the finding is of the same phase, at a later place
pub record IsLater (f g : Finding) : Type 0 where
  pub phase : f.phase ≡ g.phase
  pub place : f.at.byte < g.at.byte

-- a finding is not after a later one
not_after : (f g : Finding) → IsLater f g → is_gt (finding_cmp f g) ≡ false
unfolding finding_cmp
not_after f g later =
    λ i. is_gt (ordering_then (sym (nat_cmp_is f.phase g.phase Equal later.phase) i)
    (ordering_then (sym (nat_cmp_is f.at.byte g.at.byte Less later.place) i) (ordering_then (nat_cmp f.rule g.rule) (slice_cmp nat_cmp f.name g.name))))

stays_before_one : (f g : Finding) → IsLater f g → earlier (Some f) (Some g) ≡ Some f
unfolding earlier
stays_before_one f g later = λ i. Some (cond (not_after f g later i) g f)

-- a finding comes before later ones
pub stays_first : (f : Finding) (gs : List Finding) → ((g : Finding) → In g gs → IsLater f g) → earlier (Some f) (first_of gs) ≡ Some f
unfolding first_of
stays_first f [] later = earlier-None (Some f)
stays_first f (g ∷ gs) later =
    sym (earlier_assoc (Some f) (Some g) (first_of gs))
    ∙ ap (λ o. earlier o (first_of gs)) (stays_before_one f g (later g (inl refl)))
    ∙ stays_first f gs (λ h among. later h (inr among))

-- each of these passes the test
pub passes : {X : Type 0} (test : X → Bool) (xs : List X) (x : X) → list_all test xs ≡ true → Among x xs → test x ≡ true
passes test [] x all among = absurd among
passes test (y ∷ ys) x all (inl is) = ap test is ∙ (and_parts (test y) (list_all test ys) all).0
passes test (y ∷ ys) x all (inr among) = passes test ys x (and_parts (test y) (list_all test ys) all).1 among

-- what names break that stand behind a place stands behind it
pub twice_behind : (at : At) (ls : List Named) (g : Finding) → list_all (is_behind at) ls ≡ true → In g (labels_twice ls) → (4 ≡ g.phase) × (at.byte < g.at.byte)
unfolding labels_twice twice_among
twice_behind at ls g all among =
    let one = in_flat_map (twice_among ls) ls g among in
    let is = (in_when (list_any (is_earlier one.item) ls) g (finding 4 34 one.item.at one.item.name) one.found).1 in
    let behind : nat_lt at.byte one.item.at.byte ≡ true = passes (is_behind at) ls one.item all one.among in
    let later : at.byte < one.item.at.byte = grind (arith, nat_tests) in
    (ap (λ (f : Finding). f.phase) (sym is), subst (λ (f : Finding). at.byte < f.at.byte) (sym is) later)

-- too many bits come before names that stand behind their place
pub many_first : (many : Bool) (at : At) (ls : List Named) → many ≡ true → list_all (is_behind at) ls ≡ true
    → first_of (bits_faults many at ++ labels_twice ls) ≡ first_of (bits_faults many at)
unfolding bits_faults
many_first false at ls h all = cc
many_first true at ls h all =
    let bits : Finding = finding 4 42 at [] in
    first_of-append (bits ∷ []) (labels_twice ls)
    ∙ ap (λ o. earlier o (first_of (labels_twice ls))) (first_of-one bits)
    ∙ stays_first bits (labels_twice ls) (λ g among. let there = twice_behind at ls g all among in record { phase = there.0; place = there.1 })
    ∙ sym (first_of-one bits)
