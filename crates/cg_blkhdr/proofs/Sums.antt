-- The word of reset values, one field more.
use Rattle.std.proofs.Common.{◌≡◌, ℕ, suc, ◌+◌, ◌*◌, ◌%◌, ◌^◌, ◌<◌, ◌≤◌, List, ◌∷◌, length, get_or, drop, drop-cons, add-one, ap, sym, subst, arith}
use Rattle.std.proofs.Math.ListN.{drop_of_length-le}
use Rattle.std.proofs.Math.Pow.{pow_mono}
use Rattle.cg_desc.specs.declared.block.FieldDesc.{FieldDesc}
use Rattle.cg_hdrspec.specs.BlockHeader.{reset_word}
use Rattle.cg_blkhdr.specs.Small.{FieldsAreSmall}

-- a field's value at its bits, as it is computed
abbrev pub added : FieldDesc → ℕ
added f = f.resval * (1 * 2 ^ f.lsb % 4294967296)

-- the word so far and this field's value, with what is left
pub record Next (fields : List FieldDesc) (word i : ℕ) (f : FieldDesc) : Type 0 where
  pub sum : (word + added f) + reset_word (drop (i + 1) fields) ≡ reset_word fields
  pub small : FieldsAreSmall (drop (i + 1) fields)

-- the number of a bit of 32 is not cut
place : (lsb msb : ℕ) → lsb ≤ msb → msb < 32 → 1 * 2 ^ lsb % 4294967296 ≡ 2 ^ lsb
place lsb msb order within = let below : 2 ^ lsb ≤ 2 ^ 31 = pow_mono {j = 31} (omega arith) in omega arith

step : (fields rest : List FieldDesc) (word : ℕ) (f : FieldDesc) → FieldsAreSmall (f ∷ rest) → word + reset_word (f ∷ rest) ≡ reset_word fields
    → (word + added f) + reset_word rest ≡ reset_word fields
unfolding reset_word
step fields rest word f small sum =
    let same : added f ≡ f.resval * 2 ^ f.lsb = ap (λ z. f.resval * z) (place f.lsb f.msb small.0 small.1) in
    omega arith

-- from the loop's invariant
pub next : (fields : List FieldDesc) (word i : ℕ) (f : FieldDesc) → i < length fields → f ≡ get_or fields i f
    → word + reset_word (drop i fields) ≡ reset_word fields → FieldsAreSmall (drop i fields) → Next fields word i f
next fields word i f lt is sum small =
    let rest : List FieldDesc = drop (i + 1) fields in
    let here : drop i fields ≡ f ∷ rest = rw (add-one, drop-cons fields i f lt) (ap (λ (g : FieldDesc). g ∷ drop (suc i) fields) (sym is)) in
    let now = subst FieldsAreSmall here small in
    record {
      sum = step fields rest word f now (subst (λ l. word + reset_word l ≡ reset_word fields) here sum);
      small = now.2;
    }

-- the word of no fields
pub none_left : (fields : List FieldDesc) (word i : ℕ) → length fields ≤ i → word + reset_word (drop i fields) ≡ reset_word fields → word ≡ reset_word fields
unfolding reset_word
none_left fields word i past sum = let rest = ap reset_word (drop_of_length-le fields past) in omega arith
