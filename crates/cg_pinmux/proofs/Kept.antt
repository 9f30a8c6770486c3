-- Signals that are looked up one after the other.
use Rattle.std.proofs.Common.{◌≡◌, ℕ, zero, suc, ◌+◌, ◌⊎◌, List, [], ◌∷◌, ◌++◌, length, Some, inl, inr, refl, ap, subst, ◌∙◌, arith}
use Rattle.std.specs.List.{slice_get}
use Rattle.std.proofs.lemmas.List.{length-append}
use Rattle.cg_desc.specs.declared.top.MergedTop.{MergedTop}
use Rattle.cg_desc.specs.declared.top.SignalDesc.{SignalDesc}
use Rattle.cg_desc.proofs.Numbered.{item_number, same_item}
use Rattle.cg_pinmux.specs.Checks.{AreNormal, IsNormalIfAny}
use Rattle.cg_pinmux.specs.Pins.{SignalIs}
use Rattle.cg_pinmux.specs.Resolved.{AreResolved, IsResolved}
use Rattle.cg_pinmux.specs.declared.resolved.Resolved.{Resolved}
use Rattle.cg_pinmux.proofs.Breaking.{normal_at}
use Rattle.cg_pinmux.proofs.Lists.{among_all}

-- the first n signals are looked up
pub record AreKept (m : MergedTop) (rs : List Resolved) (n : ℕ) : Type 0 where
  pub count : length rs ≡ n
  pub each : (s : ℕ) (signal : SignalDesc) (r : Resolved) → SignalIs m s signal → slice_get rs s ≡ Some r → IsResolved m signal r

pub kept_none : (m : MergedTop) (rs : List Resolved) → rs ≡ [] → AreKept m rs 0
kept_none m [] is = record { count = refl; each = λ s signal r there kept. cc }
kept_none m (r ∷ rs) is = cc

-- an item of a list with one more
last_or : {X : Type 0} (xs : List X) (x y : X) (i : ℕ) → slice_get (xs ++ x ∷ []) i ≡ Some y → (slice_get xs i ≡ Some y) ⊎ ((i ≡ length xs) × (x ≡ y))
last_or [] x y zero is = let e : x ≡ y = cc in inr (refl, e)
last_or [] x y (suc i) is = cc
last_or (z ∷ xs) x y zero is = inl is
last_or (z ∷ xs) x y (suc i) is = elim (last_or xs x y i is) [ inl here ↦ inl here | inr last ↦ let place = last.0 in inr (omega (arith, place), last.1) ]

pub kept_next : (m : MergedTop) (rs new : List Resolved) (n : ℕ) (signal : SignalDesc) (r : Resolved) → SignalIs m n signal → IsResolved m signal r → new ≡ rs ++ r ∷ [] → AreKept m rs n
    → AreKept m new (n + 1)
kept_next m rs new n signal r is resolved so kept = record {
  count = let count = kept.count in let more = ap length so ∙ length-append rs (r ∷ []) in omega (arith, count, more);
  each = each;
} where
  each : (s : ℕ) (other : SignalDesc) (x : Resolved) → SignalIs m s other → slice_get new s ≡ Some x → IsResolved m other x
  each s other x there at = by (last_or rs r x s (subst (λ (xs : List Resolved). slice_get xs s ≡ Some x) so at)) where
    by : (slice_get rs s ≡ Some x) ⊎ ((s ≡ length rs) × (r ≡ x)) → IsResolved m other x
    by (inl here) = kept.each s other x there here
    by (inr (last, same)) =
        let place : s ≡ n = last ∙ kept.count in
        let one : signal ≡ other = same_item m.top.signals n signal other is (subst (λ (k : ℕ). SignalIs m k other) place there) in
        subst (IsResolved m other) same (subst (λ (z : SignalDesc). IsResolved m z r) one resolved)

pub kept_all : (m : MergedTop) (rs : List Resolved) (n : ℕ) → n ≡ length m.top.signals → AreKept m rs n → AreResolved m rs
kept_all m rs n most kept = record { count = kept.count ∙ most; each = kept.each }

pub are_normal : (m : MergedTop) (rs : List Resolved) → AreResolved m rs → AreNormal m rs
are_normal m rs are = among_all (λ (r : Resolved). IsNormalIfAny m r.region) rs (λ r among. let at = item_number rs r among in normal_at m rs are at.0 r at.1)
