-- The bits that have numbers, signal by signal, up to the limit.
use Rattle.std.proofs.Common.{◌≡◌, ℕ, suc, ◌+◌, ◌<◌, ◌≤◌, List, [], ◌++◌, length, Some, sym, ap, ◌∙◌, arith}
use Rattle.std.specs.List.{slice_get}
use Rattle.cg_desc.specs.declared.top.MergedTop.{MergedTop}
use Rattle.cg_irq.specs.declared.bits.Bit.{Bit}
use Rattle.cg_pinmux.specs.Checks.{IsNumbered}
use Rattle.cg_pinmux.specs.Listed.{bits_below, bits_of_joint, bits_of_signal}
use Rattle.cg_pinmux.specs.declared.numbered.Side.{Side}
use Rattle.cg_pinmux.specs.declared.resolved.Resolved.{Resolved}
use Rattle.cg_pinmux.proofs.Lists.{below_next, below_none, length_below}

-- the bits of the first signals, which are not too many
abbrev pub Fit : MergedTop → Side → List Resolved → ℕ → List Bit → Type 0
Fit m side rs n bits = (bits ≡ bits_below m side rs n) × (length bits ≤ 65536)

module _ (m : MergedTop) (side : Side) (rs : List Resolved) where
  bits_at : ℕ → List Bit
  bits_at s = bits_of_signal m side (slice_get rs s)

  pub bits_none : (bits : List Bit) → bits ≡ [] → Fit m side rs 0 bits
  bits_none bits is = (is ∙ sym (below_none (λ s. bits_of_signal m side (slice_get rs s))), let none = ap length is in omega (arith, none))

  pub bits_next : (n : ℕ) (r : Resolved) (bits new : List Bit) → slice_get rs n ≡ Some r → bits ≡ bits_below m side rs n → new ≡ bits ++ bits_of_joint m side r.joint r.region
      → new ≡ bits_below m side rs (n + 1)
  bits_next n r bits new there is so =
      let here : bits_of_signal m side (slice_get rs n) ≡ bits_of_joint m side r.joint r.region = ap (bits_of_signal m side) there in
      let next : bits_below m side rs (suc n) ≡ bits_below m side rs n ++ bits_of_signal m side (slice_get rs n) = below_next (λ s. bits_of_signal m side (slice_get rs s)) n in
      let one : suc n ≡ n + 1 = omega arith in
      so ∙ ap (λ (xs : List Bit). xs ++ bits_of_joint m side r.joint r.region) is ∙ ap (λ (xs : List Bit). bits_below m side rs n ++ xs) (sym here) ∙ sym next ∙ ap (bits_below m side rs) one

  -- fewer signals have no more bits
  few : (n : ℕ) (bits : List Bit) → Fit m side rs n bits → (s : ℕ) → s ≤ n → length (bits_below m side rs s) ≤ 65536
  few n bits fit s less =
      let most = length_below (λ k. bits_of_signal m side (slice_get rs k)) s n less in
      let count = ap length fit.0 in
      let limit = fit.1 in
      omega (arith, most, count, limit)

  pub bits_past : (n : ℕ) (bits new : List Bit) → n < length rs → Fit m side rs n bits → new ≡ bits_below m side rs (n + 1) → 65536 < length new
      → IsNumbered m side rs (record { bits = new; full_from = n })
  bits_past n bits new within fit is past = record {
    most = omega arith;
    few = few n bits fit;
    full = λ less. let one : n + 1 ≡ suc n = omega arith in let count = ap length (is ∙ ap (bits_below m side rs) one) in omega (arith, count, past);
    all = λ same. absurd (omega (arith, same, within));
  }

  pub bits_all : (n : ℕ) (bits : List Bit) → n ≡ length rs → Fit m side rs n bits → IsNumbered m side rs (record { bits = bits; full_from = length rs })
  bits_all n bits last fit = record {
    most = omega arith;
    few = λ s less. few n bits fit s (omega (arith, less, last));
    full = λ less. absurd (omega (arith, less));
    all = λ same. fit.0 ∙ ap (bits_below m side rs) last;
  }
