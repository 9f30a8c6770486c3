-- The words of a valid register's copies are valid registers.
use Rattle.std.proofs.Common.{ℕ, ◌≡◌, ◌+◌, ◌-◌, ◌*◌, ◌/◌, ◌^◌, ◌<◌, ◌≤◌, zero, suc, Bool, true, false, nat_lt, cond, List, [], ◌∷◌, ◌++◌, map, length, get_or, append-nil, refl, sym, subst, arith}
use Rattle.std.specs.List.{flat_map, range_with_len}
use Rattle.std.specs.Fmt.{decimal}
use Rattle.std.proofs.Math.Nat.{mul-zero}
use Rattle.std.proofs.lemmas.Bool.{or_right}
use Rattle.cg_svspec.specs.Characters.{Each, IsWord, is_digit, is_first, is_name_character}
use Rattle.cg_svspec.specs.Printable.{AllOf}
use Rattle.cg_svspec.proofs.Numerals.{decimal_digits}
use Rattle.cg_desc.specs.declared.block.FieldDesc.{FieldDesc}
use Rattle.cg_desc.specs.declared.block.MultiDesc.{MultiDesc}
use Rattle.cg_desc.specs.Items.{copies_in_word, copies_per_word, copy_bits, copy_fields, multireg_word, numbered, word_count, word_fields}
use Rattle.cg_desc.specs.Laid.{FieldsFit, HasField}
use Rattle.cg_desc.specs.Valid.{HasOneField, IsValidMultireg, IsValidRegister}
use Rattle.cg_expand.specs.Parts.Copies.{moved}
use Rattle.cg_expand.proofs.Multiregs.{Placed, filled, per_word, placed_by, word_starts}

-- ---- names

each_join : (p : ℕ → Bool) (xs ys : List ℕ) → Each p xs → Each p ys → Each p (xs ++ ys)
each_join p [] ys first second = second
each_join p (x ∷ xs) ys first second = (first.0, each_join p xs ys first.1 second)

digits_in_name : (cs : List ℕ) → Each is_digit cs → Each is_name_character cs
digits_in_name [] each = tt
digits_in_name (c ∷ cs) each = (or_right (is_first c) (is_digit c) each.0, digits_in_name cs each.1)

-- a word with a number is a word
word_numbered : (name : List ℕ) (k : ℕ) → IsWord name → IsWord (numbered name k)
word_numbered [] k word = absurd word
word_numbered (c ∷ cs) k word = (word.0, each_join is_name_character cs (95 ∷ decimal k) word.1 (refl, digits_in_name (decimal k) (decimal_digits k)))

word_by : (b : Bool) (name : List ℕ) (k : ℕ) → IsWord name → IsWord (cond b (numbered name k) name)
word_by true name k word = word_numbered name k word
word_by false name k word = word

-- ---- fields

-- a reset value that fits a field fits it elsewhere
value_fits : (value width other : ℕ) → width ≡ other → value < 2 ^ width → value < 2 ^ other
value_fits value width other same fits = subst (λ n. value < 2 ^ n) same fits

-- the fields of one copy, so many bits higher
moved_fit : (number shift from low : ℕ) (fs : List FieldDesc) → FieldsFit from fs → low ≤ from + shift → AllOf (λ f. f.msb + shift < 32) fs
    → FieldsFit low (map (moved number shift) fs)
moved_fit number shift from low [] fit below tops = tt
moved_fit number shift from low (f ∷ fs) fit below tops =
    let ordered : from ≤ f.lsb = fit.1 in
    let bits : f.lsb ≤ f.msb = fit.2 in
    let width : suc f.msb - f.lsb ≡ suc (f.msb + shift) - (f.lsb + shift) = omega arith in (
      word_numbered f.name number fit.0,
      omega arith,
      omega arith,
      tops.0,
      value_fits f.resval (suc f.msb - f.lsb) (suc (f.msb + shift) - (f.lsb + shift)) width fit.4,
      moved_fit number shift (suc f.msb) (suc (f.msb + shift)) fs fit.5 (omega arith) tops.1,
    )

all_by_place : (P : FieldDesc → Type 0) (fs : List FieldDesc) → ((i : ℕ) (d : FieldDesc) → i < length fs → P (get_or fs i d)) → AllOf P fs
all_by_place P [] each = tt
all_by_place P (f ∷ fs) each = (each 0 f (omega arith), all_by_place P fs (λ i d lt. each (suc i) d (omega arith)))

-- what a word is made of: so many copies, from one on
abbrev copies : List FieldDesc → (ℕ → ℕ) → ℕ → ℕ → List FieldDesc
copies fs number a n = flat_map (λ place. map (moved (number place) (copy_bits fs * place)) fs) (range_with_len a n)

-- the copies of a sole field, one behind the other
sole_fit : (f : FieldDesc) (number : ℕ → ℕ) (a n : ℕ) → FieldsFit 0 (f ∷ []) → ((k : ℕ) → k < a + n → f.msb + (f.msb + 1) * k < 32)
    → FieldsFit ((f.msb + 1) * a) (copies (f ∷ []) number a n)
sole_fit f number a zero fit tops = tt
sole_fit f number a (suc n) fit tops =
    let bits : f.lsb ≤ f.msb = fit.2 in
    let shift : ℕ = (f.msb + 1) * a in
    let width : suc f.msb - f.lsb ≡ suc (f.msb + shift) - (f.lsb + shift) = omega arith in
    let next : (f.msb + 1) * (a + 1) ≡ suc (f.msb + shift) = omega arith in
    let rest : FieldsFit ((f.msb + 1) * (a + 1)) (copies (f ∷ []) number (a + 1) n) = sole_fit f number (a + 1) n fit (λ k lt. tops k (omega arith)) in (
      word_numbered f.name (number a) fit.0,
      omega arith,
      omega arith,
      tops a (omega arith),
      value_fits f.resval (suc f.msb - f.lsb) (suc (f.msb + shift) - (f.lsb + shift)) width fit.4,
      subst (λ from. FieldsFit from (copies (f ∷ []) number (a + 1) n)) next rest,
    )

-- the fields of a word fit, and there is one
record AreFields (fs : List FieldDesc) : Type 0 where
  some : HasField fs
  fit : FieldsFit 0 fs

-- there is a field where there is a copy
some_copy : (fs : List FieldDesc) (number : ℕ → ℕ) (n : ℕ) → HasField fs → 0 < n → HasField (copies fs number 0 n)
some_copy [] number n some h = absurd some
some_copy (f ∷ fs) number zero some h = absurd (omega arith)
some_copy (f ∷ fs) number (suc n) some h = tt

compacted_fit : (fs : List FieldDesc) (number : ℕ → ℕ) (n : ℕ) → FieldsFit 0 fs → HasOneField fs → ((k : ℕ) → k < n → Placed fs (copy_bits fs * k))
    → FieldsFit 0 (copies fs number 0 n)
compacted_fit [] number n fit sole placed = absurd sole
compacted_fit (f ∷ (g ∷ fs)) number n fit sole placed = absurd sole
compacted_fit (f ∷ []) number n fit sole placed =
    subst (λ from. FieldsFit from (copies (f ∷ []) number 0 n)) (mul-zero (f.msb + 1))
    (sole_fit f number 0 n fit (λ k lt. (placed k (omega arith)).msb 0 f (omega arith)))

alone_fit : (fs : List FieldDesc) (number : ℕ → ℕ) (n : ℕ) → FieldsFit 0 fs → n ≡ 1 → ((k : ℕ) → k < n → Placed fs (copy_bits fs * k)) → FieldsFit 0 (copies fs number 0 n)
alone_fit fs number n fit one placed =
    let shift : ℕ = copy_bits fs * 0 in
    let fields : FieldsFit 0 (map (moved (number 0) shift) fs) =
    moved_fit (number 0) shift 0 0 fs fit (omega arith) (all_by_place (λ f. f.msb + shift < 32) fs (placed 0 (omega arith)).msb) in
    subst (λ k. FieldsFit 0 (copies fs number 0 k)) (sym one) (subst (FieldsFit 0) (sym (append-nil (map (moved (number 0) shift) fs))) fields)

word_fit_by : (compact : Bool) (fs : List FieldDesc) (number : ℕ → ℕ) (n : ℕ) → FieldsFit 0 fs → (compact ≡ true → HasOneField fs)
    → n ≤ cond compact (32 / copy_bits fs) 1 → 0 < n → FieldsFit 0 (copies fs number 0 n)
word_fit_by true fs number n fit sole few some = compacted_fit fs number n fit (sole refl) (λ k lt. placed_by true fs k fit sole (omega arith))
word_fit_by false fs number n fit sole few some = alone_fit fs number n fit (omega arith) (λ k lt. placed_by false fs k fit sole (omega arith))

-- a word holds a copy
holds_one : (m : MultiDesc) (j : ℕ) → IsValidMultireg m → j < word_count m → 0 < copies_in_word m j
unfolding copies_in_word
holds_one m j valid h =
    let start : j * copies_per_word m < m.count = word_starts m j valid h in
    let room : 0 < copies_per_word m = (per_word m valid).some in
    omega arith

word_fit : (m : MultiDesc) (j : ℕ) → IsValidMultireg m → j < word_count m → FieldsFit 0 (word_fields m j)
unfolding word_fields copy_fields copies_per_word
word_fit m j valid h =
    word_fit_by m.compact m.reg.fields (λ place. j * copies_per_word m + place) (copies_in_word m j) valid.register.fields valid.sole (filled m j valid h).room (holds_one m j valid h)

word_some : (m : MultiDesc) (j : ℕ) → IsValidMultireg m → j < word_count m → HasField (word_fields m j)
unfolding word_fields copy_fields
word_some m j valid h = some_copy m.reg.fields (λ place. j * copies_per_word m + place) (copies_in_word m j) valid.register.some_field (holds_one m j valid h)

pub word_valid : (m : MultiDesc) (j : ℕ) → IsValidMultireg m → j < word_count m → IsValidRegister (multireg_word m j)
unfolding multireg_word
word_valid m j valid h = record {
  name = word_by (nat_lt 1 (word_count m)) m.reg.name j valid.register.name;
  some_field = word_some m j valid h;
  fields = word_fit m j valid h;
}
