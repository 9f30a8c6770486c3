-- Where an item stands there is one place for it, and what its offsets break is one finding at most.
use Rattle.std.proofs.Common.{◌≡◌, ℕ, suc, ◌+◌, ◌*◌, ◌/◌, ◌%◌, ◌^◌, ◌<◌, ◌≤◌, max, List, [], ◌∷◌, ◌⊎◌, inl, inr, Option, Some, None, refl, sym, ap, subst, ◌∙◌, arith, pow-suc}
use Rattle.std.specs.Int.{IsNextPowerOfTwo}
use Rattle.std.proofs.lemmas.Bool.{cases_lt}
use Rattle.std.proofs.lemmas.Nat.{pow_pos}
use Rattle.std.proofs.Math.Pow.{pow_mono}
use Rattle.cg_base.specs.Arithmetic.{IsLeastMultiple}
use Rattle.cg_base.proofs.ArithmeticLemmas.{IsLeastMultiple-near, IsLeastMultiple-unique}
use Rattle.cg_svspec.specs.Printable.{AllOf}
use Rattle.cg_desc.specs.declared.place.At.{At}
use Rattle.cg_desc.specs.declared.block.Item.{Item}
use Rattle.cg_desc.specs.Offsets.{Ends, IsSpan}
use Rattle.cg_desc.specs.Valid.{IsValidItem}
use Rattle.cg_finding.specs.Finding.{Finding, finding}
use Rattle.cg_layout.specs.Inner.Extents.{Extends}
use Rattle.cg_finding.specs.Told.{TellsFirst}
use Rattle.cg_layout.specs.Violations.{BreaksOffsets, IsSkipBack, end_limit, own_name, place_of}
use Rattle.cg_finding.proofs.Told.{tells_as, tells_nothing, tells_one}

-- of two powers of two that are the least for n, the one is not below the other
not_below : (n j k : ℕ) → n ≤ 2 ^ j → 2 ^ k / 2 < max 1 n → j < k → ⊥
not_below n j k reaches least less =
    let step : suc j ≤ k = omega arith in
    let twice : 2 ^ suc j ≤ 2 ^ k = pow_mono step in
    let double : 2 ^ suc j ≡ 2 ^ j * 2 = pow-suc 2 j in
    let some : 0 < 2 ^ j = pow_pos j in
    omega arith

-- two that are the least are one
same_exponent : (n j k : ℕ) → n ≤ 2 ^ j → n ≤ 2 ^ k → 2 ^ j / 2 < max 1 n → 2 ^ k / 2 < max 1 n → (j < k) ⊎ (k ≤ j) → (k < j) ⊎ (j ≤ k) → 2 ^ j ≡ 2 ^ k
same_exponent n j k a b c d (inl less) e = absurd (not_below n j k a d less)
same_exponent n j k a b c d (inr more) (inl less) = absurd (not_below n k j b c less)
same_exponent n j k a b c d (inr more) (inr most) = let e : j ≡ k = omega arith in ap (λ i. 2 ^ i) e

-- there is one least power of two
pub power_once : (n p q : ℕ) → IsNextPowerOfTwo n p → IsNextPowerOfTwo n q → p ≡ q
power_once n p q (power, reaches, least) (other, also, lowest) =
    let a : n ≤ 2 ^ power.0 = subst (λ x. n ≤ x) power.1 reaches in
    let b : n ≤ 2 ^ other.0 = subst (λ x. n ≤ x) other.1 also in
    let c : 2 ^ power.0 / 2 < max 1 n = subst (λ x. x / 2 < max 1 n) power.1 least in
    let d : 2 ^ other.0 / 2 < max 1 n = subst (λ x. x / 2 < max 1 n) other.1 lowest in
    power.1 ∙ same_exponent n power.0 other.0 a b c d (cases_lt power.0 other.0) (cases_lt other.0 power.0) ∙ sym other.1

-- a least power of two passes no power of two that n does not pass
pub power_within : (n p e : ℕ) → IsNextPowerOfTwo n p → n ≤ 2 ^ e → p ≤ 2 ^ e
power_within n p e (power, reaches, least) within =
    let lowest : 2 ^ power.0 / 2 < max 1 n = subst (λ x. x / 2 < max 1 n) power.1 least in
    subst (λ x. x ≤ 2 ^ e) (sym power.1) (elim (cases_lt e power.0) [
      | inl less ↦ absurd (not_below n e power.0 within lowest less)
      | inr more ↦ pow_mono more
    ])

-- a multiple that is not below n, and less than one step above it, is the least one
pub least_from_rest : (to n m : ℕ) → 0 < to → m % to ≡ 0 → n ≤ m → m < n + to → IsLeastMultiple to n m
least_from_rest to n m some whole reaches near =
    let e : m / to * to ≡ m = omega arith in
    subst (λ x. IsLeastMultiple to n x) e (IsLeastMultiple-near to n (m / to) (omega arith) (omega arith))

-- one span
pub span_once : {item : Item} {s t : ℕ} → IsSpan item s → IsSpan item t → s ≡ t
span_once IsSpan.register IsSpan.register = refl
span_once (IsSpan.window {w} p) (IsSpan.window q) = power_once (4 * w.items) _ _ p q

-- one first byte
pub first_once : {low s t first other : ℕ} → s ≡ t → IsLeastMultiple s low first → IsLeastMultiple t low other → first ≡ other
first_once {low} {s} {t} {first} {other} e p q = IsLeastMultiple-unique t low first other (subst (λ x. IsLeastMultiple x low first) e p) q

-- one end
pub ends_once : {low : ℕ} {item : Item} {end other : ℕ} → Ends low item end → Ends low item other → end ≡ other
ends_once (Ends.row s p) (Ends.row t q) = let e = span_once s t in let f = first_once e p q in cc
ends_once (Ends.row s p) Ends.skip = elim s [ ]
ends_once (Ends.row s p) Ends.reserved = elim s [ ]
ends_once Ends.skip (Ends.row s p) = elim s [ ]
ends_once Ends.skip Ends.skip = refl
ends_once Ends.reserved (Ends.row s p) = elim s [ ]
ends_once Ends.reserved Ends.reserved = refl

-- an item ends where its extent ends
pub extent_ends : {low : ℕ} {item : Item} {first end : ℕ} → Extends low item first end → Ends low item end
extent_ends (Extends.row s p) = Ends.row s p
extent_ends Extends.skip = Ends.skip
extent_ends Extends.reserved = Ends.reserved

-- a row's extent, with its end said apart
pub row_extends : {low span first end : ℕ} {item : Item} → IsSpan item span → IsLeastMultiple span low first → end ≡ first + span → Extends low item first end
row_extends {low} {span} {first} {end} {item} s p e = subst (λ x. Extends low item first x) (sym e) (Extends.row s p)

-- and begins no later
pub extent_first : {low : ℕ} {item : Item} {first end : ℕ} → Extends low item first end → first ≤ end
extent_first (Extends.row s p) = omega arith
extent_first Extends.skip = omega arith
extent_first Extends.reserved = omega arith

-- ---- what the items break, at the first of them

-- an item that skips back is all that is told
back_alone : {low : ℕ} {item : Item} {items : List Item} {f : Finding} → IsSkipBack low item → BreaksOffsets low (item ∷ items) f
    → f ≡ finding 5 39 (place_of item) []
back_alone skips (BreaksOffsets.back b) = refl
back_alone skips (BreaksOffsets.past forth e over) = absurd (forth skips)
back_alone skips (BreaksOffsets.later forth e within b) = absurd (forth skips)

-- so is one that ends past the limit
past_alone : {low end : ℕ} {item : Item} {items : List Item} {f : Finding} → ¬ IsSkipBack low item → Ends low item end → end_limit < end
    → BreaksOffsets low (item ∷ items) f → f ≡ finding 5 41 (place_of item) (own_name item)
past_alone forth e over (BreaksOffsets.back b) = absurd (forth b)
past_alone forth e over (BreaksOffsets.past also d past) = refl
past_alone forth e over (BreaksOffsets.later also d within b) = let same = ends_once e d in absurd (omega arith)

-- behind any other, what is broken is broken later
only_later : {low end : ℕ} {item : Item} {items : List Item} {f : Finding} → ¬ IsSkipBack low item → Ends low item end → end ≤ end_limit
    → BreaksOffsets low (item ∷ items) f → BreaksOffsets end items f
only_later forth e within (BreaksOffsets.back b) = absurd (forth b)
only_later forth e within (BreaksOffsets.past also d past) = let same = ends_once e d in absurd (omega arith)
only_later {f} forth e within (BreaksOffsets.later {items} also d limit b) = subst (λ x. BreaksOffsets x items f) (ends_once d e) b

-- ---- a walk over the items, which has come to those that are left

-- what ends at `low` is within the limit, and what is left breaks what all the items break
pub record IsReached (items : List Item) (low : ℕ) (rest : List Item) : Type 0 where
  pub within : low ≤ end_limit
  pub valid : AllOf IsValidItem rest
  pub told : (told : Option Finding) → TellsFirst told (BreaksOffsets low rest) → TellsFirst told (BreaksOffsets 0 items)

-- no item is left
pub reached_end : {items rest : List Item} {low : ℕ} → rest ≡ [] → IsReached items low rest → TellsFirst None (BreaksOffsets 0 items)
reached_end {items} {rest} {low} e reached =
    reached.told None (subst (λ left. TellsFirst None (BreaksOffsets low left)) (sym e) (tells_nothing (λ f b. elim b [ ])))

-- one more item
module _ {items rest more : List Item} {low : ℕ} {item : Item} (e : rest ≡ item ∷ more) (reached : IsReached items low rest) where
  pub reached_valid : IsValidItem item × AllOf IsValidItem more
  reached_valid = subst (AllOf IsValidItem) e reached.valid

  told_here : (told : Option Finding) → TellsFirst told (BreaksOffsets low (item ∷ more)) → TellsFirst told (BreaksOffsets 0 items)
  told_here told t = reached.told told (subst (λ left. TellsFirst told (BreaksOffsets low left)) (sym e) t)

  pub reached_back : (at : At) → at ≡ place_of item → IsSkipBack low item → TellsFirst (Some (finding 5 39 at [])) (BreaksOffsets 0 items)
  reached_back at place skips =
      rw place (told_here _ (tells_one _ (BreaksOffsets.back skips) (λ f b. back_alone skips b)))

  pub reached_past : (at : At) (name : List ℕ) (end : ℕ) → at ≡ place_of item → name ≡ own_name item → ¬ IsSkipBack low item → Ends low item end
      → end_limit < end → TellsFirst (Some (finding 5 41 at name)) (BreaksOffsets 0 items)
  reached_past at name end place called forth ends over =
      rw (place, called) (told_here _ (tells_one _ (BreaksOffsets.past forth ends over) (λ f b. past_alone forth ends over b)))

  pub reached_later : (end : ℕ) → ¬ IsSkipBack low item → Ends low item end → end ≤ end_limit → IsReached items end more
  reached_later end forth ends within = record {
    within = within;
    valid = reached_valid.1;
    told = λ told t. told_here told (tells_as t (λ f b. BreaksOffsets.later forth ends within b) (λ f b. only_later forth ends within b));
  }
