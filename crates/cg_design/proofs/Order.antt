-- The order of faults, seen from what is not before.
use Rattle.std.proofs.Common.{◌≡◌, ◌<◌, ℕ, Bool, true, false, inl, inr, refl, sym, ap, ◌∙◌, arith}
use Rattle.std.specs.Ordering.{is_gt, ordering_reverse}
use Rattle.std.specs.declared.cmp.Ordering.{Ordering}
use Rattle.std.specs.declared.cmp.Ordering.TheVariants.{Less, Equal, Greater}
use Rattle.std.proofs.lemmas.Bool.{false≢true}
use Rattle.std.proofs.lemmas.Cmp.{upto}
use Rattle.cg_desc.specs.Faults.{Before, fault_cmp}
use Rattle.cg_desc.specs.declared.fault.Fault.{Fault}
use Rattle.cg_desc.proofs.FaultOrder.{fault_cmp-Less, fault_cmp_total}
use Rattle.cg_finding.specs.Finding.{Finding, in_file}

-- not before is not after, seen from the other
greater_less : (a b : Ordering) → a ≡ ordering_reverse b → is_gt a ≡ true → b ≡ Less
greater_less a Less e h = refl
greater_less a Equal e h = absurd (false≢true (sym (ap is_gt e) ∙ h))
greater_less a Greater e h = absurd (false≢true (sym (ap is_gt e) ∙ h))

not_after : (f g : Fault) → ¬ Before g f → is_gt (fault_cmp f g) ≡ false
not_after f g none = by (is_gt (fault_cmp f g)) refl where
  by : (b : Bool) → is_gt (fault_cmp f g) ≡ b → b ≡ false
  by true is = absurd (none ((fault_cmp-Less g f).0 (greater_less (fault_cmp f g) (fault_cmp g f) (fault_cmp_total.antisymm f g) is)))
  by false is = refl

less_greater : (a b : Ordering) → a ≡ ordering_reverse b → b ≡ Less → is_gt a ≡ true
less_greater a Less e h = ap is_gt e
less_greater a Equal e h = cc
less_greater a Greater e h = cc

is_after : (f g : Fault) → Before g f → is_gt (fault_cmp f g) ≡ true
is_after f g before = less_greater (fault_cmp f g) (fault_cmp g f) (fault_cmp_total.antisymm f g) ((fault_cmp-Less g f).1 before)

-- what is not before one that is not before a third is not before the third
pub not_before_trans : (f g h : Fault) → ¬ Before g f → ¬ Before h g → ¬ Before h f
not_before_trans f g h no_gf no_hg before =
    false≢true (sym (upto fault_cmp_total f g h (not_after f g no_gf) (not_after g h no_hg)) ∙ is_after f h before)

-- in one file or another, findings come in one order
pub in_any_file : (a b : ℕ) (f g : Finding) → Before (in_file a g) (in_file a f) → Before (in_file b g) (in_file b f)
unfolding Before
in_any_file a b f g (inl earlier) = inl earlier
in_any_file a b f g (inr (same, inl less)) = absurd (irreflexive a less) where
  irreflexive : (n : ℕ) → n < n → ⊥
  irreflexive n less = omega arith
in_any_file a b f g (inr (same, inr (also, rest))) = inr (same, inr (refl, rest))
