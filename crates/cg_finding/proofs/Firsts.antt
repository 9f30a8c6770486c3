-- The first of two lists of findings is the earlier of their firsts, and it is one that none of them is before.
use Rattle.std.proofs.Common.{ℕ, ◌≡◌, Bool, true, false, cond, List, [], ◌∷◌, ◌++◌, Option, Some, None, inl, inr, refl, sym, ap, ◌∙◌, subst}
use Rattle.std.specs.Ordering.{nat_cmp, ordering_then, ordering_reverse, is_gt}
use Rattle.std.specs.Cmp.{IsTotalOrder}
use Rattle.std.specs.Cmp.Lexicographic.{slice_cmp}
use Rattle.std.specs.declared.cmp.Ordering.{Ordering}
use Rattle.std.specs.declared.cmp.Ordering.TheVariants.{Less, Equal, Greater}
use Rattle.std.proofs.lemmas.Bool.{false≢true}
use Rattle.std.proofs.lemmas.Cmp.{nat_cmp_total, nat_list_cmp_total, on_total, then_total, tied_itself, upto}
use Rattle.cg_desc.specs.Faults.{Before, fault_cmp}
use Rattle.cg_desc.specs.declared.fault.DescFault.{DescFault}
use Rattle.cg_desc.specs.declared.fault.DescFault.TheVariants.{Fault, Memory}
use Rattle.cg_desc.proofs.FaultOrder.{fault_cmp-Less}
use Rattle.cg_finding.specs.Finding.{Finding, In, IsFirst, earlier, finding_cmp, first_of, in_file, of_least_phase, the_earlier}
use Rattle.cg_finding.specs.Refusal.{Names, Refuses}

-- the comparison of findings is a total order
finding_cmp_total : IsTotalOrder finding_cmp
unfolding finding_cmp
finding_cmp_total =
    then_total (on_total (λ f. f.phase) nat_cmp_total)
    (then_total (on_total (λ f. f.at.byte) nat_cmp_total)
    (then_total (on_total (λ f. f.rule) nat_cmp_total)
    (on_total (λ f. f.name) nat_list_cmp_total)))

-- no finding is after itself
not_after_itself : (f : Finding) → is_gt (finding_cmp f f) ≡ false
not_after_itself f = ap is_gt (tied_itself finding_cmp_total f)

-- being not after is transitive
not_after_trans : (f g h : Finding) → is_gt (finding_cmp f g) ≡ false → is_gt (finding_cmp g h) ≡ false → is_gt (finding_cmp f h) ≡ false
not_after_trans = upto finding_cmp_total

-- of a comparison and its reverse not both are `Greater`
one_greater : (a b : Ordering) → a ≡ ordering_reverse b → is_gt b ≡ true → is_gt a ≡ false
one_greater a Greater e h = ap is_gt e
one_greater a Less e h = absurd (false≢true h)
one_greater a Equal e h = absurd (false≢true h)

-- a finding is not after what is after it
not_after_later : (f g : Finding) → is_gt (finding_cmp f g) ≡ true → is_gt (finding_cmp g f) ≡ false
not_after_later f g h = one_greater _ _ (finding_cmp_total.antisymm g f) h

-- the earlier of three, by the answers of their comparisons
the_earlier_assoc : (f g h : Finding) (p q r : Bool) → is_gt (finding_cmp f g) ≡ p → is_gt (finding_cmp g h) ≡ q → is_gt (finding_cmp f h) ≡ r
    → the_earlier (the_earlier f g) h ≡ the_earlier f (the_earlier g h)
the_earlier_assoc f g h false false false a b c = simp (a, b, c)
the_earlier_assoc f g h false false true a b c = let e : is_gt (finding_cmp f h) ≡ false = not_after_trans f g h a b in cc
the_earlier_assoc f g h false true r a b c = simp (a, b)
the_earlier_assoc f g h true false r a b c = simp (a, b)
the_earlier_assoc f g h true true true a b c = simp (a, b, c)
the_earlier_assoc f g h true true false a b c = let e : is_gt (finding_cmp f g) ≡ false = not_after_trans f h g c (not_after_later g h b) in cc

pub earlier_assoc : (a b c : Option Finding) → earlier (earlier a b) c ≡ earlier a (earlier b c)
unfolding earlier
earlier_assoc None b c = refl
earlier_assoc (Some f) None c = refl
earlier_assoc (Some f) (Some g) None = refl
earlier_assoc (Some f) (Some g) (Some h) = ap Some (the_earlier_assoc f g h _ _ _ refl refl refl)

pub earlier-None : (a : Option Finding) → earlier a None ≡ a
unfolding earlier
earlier-None None = refl
earlier-None (Some f) = refl

pub None-earlier : (a : Option Finding) → earlier None a ≡ a
unfolding earlier
None-earlier a = refl

pub first_of-append : (xs ys : List Finding) → first_of (xs ++ ys) ≡ earlier (first_of xs) (first_of ys)
unfolding earlier first_of
first_of-append [] ys = refl
first_of-append (x ∷ xs) ys = ap (earlier (Some x)) (first_of-append xs ys) ∙ sym (earlier_assoc (Some x) (first_of xs) (first_of ys))

pub first_of-empty : first_of [] ≡ None
unfolding first_of
first_of-empty = refl

pub first_of-one : (f : Finding) → first_of (f ∷ []) ≡ Some f
unfolding first_of earlier
first_of-one f = refl

-- what merges the findings of several rules
pub ruleset firsts = (first_of-append, earlier_assoc, earlier-None, None-earlier, first_of-empty, first_of-one)

-- the earlier of a finding and any other is one
earlier_is_some : (f : Finding) (o : Option Finding) → earlier (Some f) o ≡ None → ⊥
unfolding earlier
earlier_is_some f None h = cc
earlier_is_some f (Some g) h = cc

-- only an empty list has no first
pub none_is_empty : (fs : List Finding) → first_of fs ≡ None → fs ≡ []
unfolding first_of
none_is_empty [] h = refl
none_is_empty (f ∷ fs) h = absurd (earlier_is_some f (first_of fs) h)

-- the finding is one of these, and after none of them
record Leads (f : Finding) (fs : List Finding) : Type 0 where
  among : In f fs
  least : (g : Finding) → In g fs → is_gt (finding_cmp f g) ≡ false

-- a list with one more in front, by whether that is after what leads the rest
leads_more : (g : Finding) (gs : List Finding) (k : Finding) (after : Bool) → is_gt (finding_cmp g k) ≡ after → Leads k gs → Leads (cond after k g) (g ∷ gs)
leads_more g gs k true e leads = record {
  among = inr leads.among;
  least = λ h. λ among. elim among [ inl is ↦ rw is (not_after_later g k e) | inr among ↦ leads.least h among ];
}
leads_more g gs k false e leads = record {
  among = inl refl;
  least = λ h. λ among. elim among [ inl is ↦ rw is (not_after_itself g) | inr among ↦ not_after_trans g k h e (leads.least h among) ];
}

leads_alone : (g : Finding) (gs : List Finding) → gs ≡ [] → Leads g (g ∷ gs)
leads_alone g gs e =
    subst (λ (xs : List Finding). Leads g (g ∷ xs)) (sym e)
    (record { among = inl refl; least = λ h. λ among. elim among [ inl is ↦ rw is (not_after_itself g) | inr none ↦ absurd none ] })

-- what leads a list, by what is first in its rest
leads_by_rest : (g : Finding) (gs : List Finding) (f : Finding) (o : Option Finding) → first_of gs ≡ o → earlier (Some g) o ≡ Some f
    → ((k : Finding) → first_of gs ≡ Some k → Leads k gs) → Leads f (g ∷ gs)
unfolding earlier
leads_by_rest g gs f None e h rest = let is : g ≡ f = cc in subst (λ (x : Finding). Leads x (g ∷ gs)) is (leads_alone g gs (none_is_empty gs e))
leads_by_rest g gs f (Some k) e h rest = let is : the_earlier g k ≡ f = cc in subst (λ (x : Finding). Leads x (g ∷ gs)) is (leads_more g gs k _ refl (rest k e))

-- the first leads
first_leads : (fs : List Finding) (f : Finding) → first_of fs ≡ Some f → Leads f fs
unfolding first_of
first_leads [] f h = cc
first_leads (g ∷ gs) f h = leads_by_rest g gs f (first_of gs) refl h (λ k e. first_leads gs k e)

-- as faults of one file findings are compared as findings are
same_order : (file : ℕ) (f g : Finding) → fault_cmp (in_file file f) (in_file file g) ≡ finding_cmp f g
unfolding fault_cmp finding_cmp
same_order file f g =
    ap (λ (o : Ordering). ordering_then (nat_cmp f.phase g.phase) (ordering_then o (ordering_then (nat_cmp f.at.byte g.at.byte) (ordering_then (nat_cmp f.rule g.rule) (slice_cmp nat_cmp f.name g.name)))))
    (tied_itself nat_cmp_total file)

-- what a finding is not after is not before it
not_before : (file : ℕ) (f g : Finding) → is_gt (finding_cmp f g) ≡ false → ¬ Before (in_file file g) (in_file file f)
not_before file f g h before =
    let less : finding_cmp g f ≡ Less = sym (same_order file g f) ∙ (fault_cmp-Less (in_file file g) (in_file file f)).1 before in
    let greater : finding_cmp f g ≡ Greater = finding_cmp_total.antisymm f g ∙ ap ordering_reverse less in
    false≢true (sym h ∙ ap is_gt greater)

-- `first_of` gives the first
pub first_of_is_first : (fs : List Finding) (f : Finding) → first_of fs ≡ Some f → IsFirst f fs
first_of_is_first fs f h = let leads = first_leads fs f h in record {
  among = leads.among;
  least = λ file g among. not_before file f g (leads.least g among);
}

-- a refusal that names what `first_of` gives refuses
pub names_first : (e : DescFault) (file : ℕ) (f : Finding) (fs : List Finding) → Names e file f → first_of fs ≡ Some f → Refuses e file fs
names_first (Fault fault) file f fs names h = (f, names, first_of_is_first fs f h)
names_first Memory file f fs names h = tt

-- where the findings of a phase have a first, they are those of the least phase
pub least_phase_is_here : (fs later : List Finding) (f : Finding) → first_of fs ≡ Some f → of_least_phase fs later ≡ fs
unfolding first_of
least_phase_is_here [] later f h = cc
least_phase_is_here (g ∷ gs) later f h = refl

-- where they have none, the later ones are
pub least_phase_is_later : (fs later : List Finding) → first_of fs ≡ None → of_least_phase fs later ≡ later
least_phase_is_later fs later h = ap (λ (xs : List Finding). of_least_phase xs later) (none_is_empty fs h)
