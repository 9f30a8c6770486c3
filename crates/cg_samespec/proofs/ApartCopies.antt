-- Fields of copies of a register stand at places of their own, or have names of their own.
use Rattle.std.proofs.Common.{◌≡◌, ℕ, zero, suc, ◌+◌, ◌-◌, ◌*◌, ◌^◌, ◌<◌, ◌≤◌, Bool, true, false, List, [], ◌∷◌, ◌++◌, map, inl, inr, refl, sym, ap, subst, ◌∙◌, arith, append-nil}
use Rattle.std.specs.Prelude.{decimal}
use Rattle.std.specs.Char.{to_ascii_lowercase}
use Rattle.std.specs.List.{flat_map, range_with_len}
use Rattle.std.specs.Str.{str_eq_ignore_ascii_case, str_to_ascii_lowercase}
use Rattle.std.proofs.lemmas.Bool.Decides.{nat_tests}
use Rattle.std.proofs.lemmas.List.{append_cancel_left, map-append}
use Rattle.std.proofs.lemmas.Slice.Eq.{bytes_eq-Decides}
use Rattle.cg_svspec.specs.Characters.{Each, is_digit}
use Rattle.cg_svspec.specs.Printable.{AllOf}
use Rattle.cg_svspec.proofs.Numerals.{decimal_digits, decimal_same}
use Rattle.cg_desc.specs.Items.{copies_in_word, copies_per_word, copy_bits, copy_fields, multireg_word, numbered, word_fields}
use Rattle.cg_desc.specs.Valid.{HasOneField, IsValidMultireg}
use Rattle.cg_desc.specs.declared.block.FieldDesc.{FieldDesc}
use Rattle.cg_desc.specs.declared.block.Item.TheVariants.{Reg}
use Rattle.cg_desc.specs.declared.block.MultiDesc.{MultiDesc}
use Rattle.cg_samespec.specs.Same.{NamesApart}
use Rattle.cg_samespec.proofs.ApartFields.{Differ, PlacesApart}
use Rattle.cg_samespec.proofs.ApartNames.{IsPlaced}

-- ---- names with different numbers

-- a digit is in both cases the same
digit_stays : (c : ℕ) → is_digit c ≡ true → to_ascii_lowercase c ≡ c
digit_stays c e = grind (arith, nat_tests)

digits_stay : (s : List ℕ) → Each is_digit s → str_to_ascii_lowercase s ≡ s
digits_stay [] e = refl
digits_stay (c ∷ s) e = λ i. digit_stays c e.0 i ∷ digits_stay s e.1 i

abbrev behind_first : List ℕ → List ℕ
behind_first [] = []
behind_first (c ∷ s) = s

lower_numbered : (name : List ℕ) (k : ℕ) → str_to_ascii_lowercase (numbered name k) ≡ str_to_ascii_lowercase name ++ (95 ∷ decimal k)
lower_numbered name k =
    map-append to_ascii_lowercase name (95 ∷ decimal k)
    ∙ ap (λ s. str_to_ascii_lowercase name ++ (95 ∷ s)) (digits_stay (decimal k) (decimal_digits k))

same_number : (name : List ℕ) (k l : ℕ) → k < 2 ^ 64 → l < 2 ^ 64 → str_eq_ignore_ascii_case (numbered name k) (numbered name l) ≡ true → k ≡ l
same_number name k l small few e =
    let lower : List ℕ = str_to_ascii_lowercase name in
    let same = (bytes_eq-Decides (str_to_ascii_lowercase (numbered name k)) (str_to_ascii_lowercase (numbered name l))).0 e in
    let spelled : lower ++ (95 ∷ decimal k) ≡ lower ++ (95 ∷ decimal l) = sym (lower_numbered name k) ∙ same ∙ lower_numbered name l in
    decimal_same k l small few (ap behind_first (append_cancel_left lower (95 ∷ decimal k) (95 ∷ decimal l) spelled))

numbers_differ : (name : List ℕ) (k l : ℕ) → k < l → l < 2 ^ 64 → str_eq_ignore_ascii_case (numbered name k) (numbered name l) ≡ false
numbers_differ name k l below small = by (str_eq_ignore_ascii_case (numbered name k) (numbered name l)) refl where
  by : (b : Bool) → str_eq_ignore_ascii_case (numbered name k) (numbered name l) ≡ b → str_eq_ignore_ascii_case (numbered name k) (numbered name l) ≡ false
  by true e = absurd (omega (arith, same_number name k l (omega (arith, below, small)) small e, below))
  by false e = e

-- ---- copies of one field

-- the field of copy k that stands at this place of its word
abbrev copied : MultiDesc → ℕ → ℕ → FieldDesc → FieldDesc
copied m k place f = record {
  name = numbered f.name k;
  msb = f.msb + copy_bits m.reg.fields * place;
  lsb = f.lsb + copy_bits m.reg.fields * place;
  sw = f.sw;
  hw = f.hw;
  resval = f.resval;
  mubi = f.mubi;
  at = f.at;
}

fields_copied : (m : MultiDesc) (k place : ℕ) (fs : List FieldDesc) → m.reg.fields ≡ fs → copy_fields m k place ≡ map (copied m k place) fs
unfolding copy_fields
fields_copied m k place fs is = ap (map (copied m k place)) is

-- the copies from place a on, so many
abbrev copies_from : MultiDesc → ℕ → ℕ → ℕ → List FieldDesc
copies_from m base a n = flat_map (λ place. copy_fields m (base + place) place) (range_with_len a n)

-- a copy of the sole field in front of others
sole_in_front : (m : MultiDesc) (f : FieldDesc) (base a n : ℕ) → m.reg.fields ≡ f ∷ []
    → copies_from m base a (suc n) ≡ copied m (base + a) a f ∷ copies_from m base (a + 1) n
sole_in_front m f base a n is = ap (λ fs. fs ++ copies_from m base (a + 1) n) (fields_copied m (base + a) a (f ∷ []) is)

later_differ : (m : MultiDesc) (f : FieldDesc) (k base a n : ℕ) → m.reg.fields ≡ f ∷ [] → k < base + a → base + (a + n) ≤ 4096
    → AllOf (λ g. str_eq_ignore_ascii_case (numbered f.name k) g.name ≡ false) (copies_from m base a n)
later_differ m f k base a zero is below few = tt
later_differ m f k base a (suc n) is below few =
    subst (AllOf (λ g. str_eq_ignore_ascii_case (numbered f.name k) g.name ≡ false)) (sym (sole_in_front m f base a n is))
    (numbers_differ f.name k (base + a) below (omega (arith, few)), later_differ m f k base (a + 1) n is (omega (arith, below)) (omega (arith, few)))

sole_names : (m : MultiDesc) (f : FieldDesc) (base a n : ℕ) → m.reg.fields ≡ f ∷ [] → base + (a + n) ≤ 4096 → NamesApart (copies_from m base a n)
sole_names m f base a zero is few = tt
sole_names m f base a (suc n) is few =
    subst NamesApart (sym (sole_in_front m f base a n is))
    (later_differ m f (base + a) base (a + 1) n is (omega arith) (omega (arith, few)), sole_names m f base (a + 1) n is (omega (arith, few)))

-- as many copies as there are, if there are any
some_names : (m : MultiDesc) (fs : List FieldDesc) (base n : ℕ) → m.reg.fields ≡ fs → HasOneField fs → n ≤ 4096 - base → NamesApart (copies_from m base 0 n)
some_names m [] base n is one few = absurd one
some_names m (f ∷ g ∷ fs) base n is one few = absurd one
some_names m (f ∷ []) base zero is one few = tt
some_names m (f ∷ []) base (suc n) is one few = sole_names m f base 0 (suc n) is (omega (arith, few))

-- ---- copies that have words of their own

map_differ : (m : MultiDesc) (k place : ℕ) (f : FieldDesc) (gs : List FieldDesc) → AllOf (Differ f) gs → AllOf (Differ (copied m k place f)) (map (copied m k place) gs)
map_differ m k place f [] apart = tt
map_differ m k place f (g ∷ gs) apart = (apart.0, map_differ m k place f gs apart.1)

map_apart : (m : MultiDesc) (k place : ℕ) (fs : List FieldDesc) → PlacesApart fs → PlacesApart (map (copied m k place) fs)
map_apart m k place [] apart = tt
map_apart m k place (f ∷ fs) apart = (map_differ m k place f fs apart.0, map_apart m k place fs apart.1)

copy_apart : (m : MultiDesc) (k place : ℕ) → PlacesApart m.reg.fields → PlacesApart (copy_fields m k place)
copy_apart m k place apart = subst PlacesApart (sym (fields_copied m k place m.reg.fields refl)) (map_apart m k place m.reg.fields apart)

alone_apart : (m : MultiDesc) (base n : ℕ) → n ≤ 1 → PlacesApart m.reg.fields → PlacesApart (copies_from m base 0 n)
alone_apart m base zero few apart = tt
alone_apart m base (suc zero) few apart = subst PlacesApart (sym (append-nil (copy_fields m (base + 0) 0))) (copy_apart m (base + 0) 0 apart)
alone_apart m base (suc (suc n)) few apart = absurd (omega (arith, few))

-- ---- a word of copies

fewer : (m : MultiDesc) (j : ℕ) → m.count ≤ 4096 → copies_in_word m j ≤ 4096 - j * copies_per_word m
unfolding copies_in_word
fewer m j few = omega (arith, few)

at_most_one : (m : MultiDesc) (j : ℕ) → m.compact ≡ false → copies_in_word m j ≤ 1
unfolding copies_in_word copies_per_word
at_most_one m j plain = rw plain (omega arith)

pub word_placed : (m : MultiDesc) (j : ℕ) → IsValidMultireg m → PlacesApart m.reg.fields → IsPlaced (Reg (multireg_word m j))
unfolding multireg_word word_fields
word_placed m j valid apart = by m.compact refl where
  by : (b : Bool) → m.compact ≡ b → IsPlaced (Reg (multireg_word m j))
  by true compact =
      inr (some_names m m.reg.fields (j * copies_per_word m) (copies_in_word m j) refl (valid.sole compact) (fewer m j valid.few_copies))
  by false plain = inl (alone_apart m (j * copies_per_word m) (copies_in_word m j) (at_most_one m j plain) apart)
