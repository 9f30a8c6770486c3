-- Fields as they are written, of which nothing is found, have descriptions that fit.
use Rattle.std.proofs.Common.{ℕ, ◌≡◌, ◌+◌, ◌*◌, ◌-◌, ◌^◌, ◌/◌, ◌<◌, ◌≤◌, suc, Bool, true, false, ◌&&◌, ◌==◌, nat_le, cond, ◌⊎◌, inl, inr, List, [], ◌∷◌, ◌++◌, map, take, drop, codes, Option, Some, None, refl, subst, arith}
use Rattle.std.proofs.Math.Nat.{mod-lt}
use Rattle.std.proofs.lemmas.Bool.{or_right}
use Rattle.std.proofs.lemmas.Bool.Decides.{nat_tests}
use Rattle.std.proofs.lemmas.Nat.{pow_pos}
use Rattle.std.proofs.lemmas.Option.{cond_some, option_and_then_some, same_Some}
use Rattle.std.specs.Fmt.{decimal}
use Rattle.std.specs.List.{position}
use Rattle.std.specs.Option.{option_and_then, option_map_or, unwrap_or}
use Rattle.cg_svspec.proofs.Numerals.{decimal_digits}
use Rattle.cg_svspec.specs.Characters.{Each, IsWord, is_digit, is_first, is_name_character}
use Rattle.cg_svspec.specs.Printable.{AllOf}
use Rattle.cg_desc.specs.declared.block.FieldDesc.{FieldDesc}
use Rattle.cg_hjson.specs.declared.tree.Tree.{Tree}
use Rattle.cg_finding.specs.Finding.{each_after}
use Rattle.cg_keys.specs.Forms.{if_within, number_in, number_within}
use Rattle.cg_keys.specs.Lookups.{text_at}
use Rattle.cg_keys.specs.Table.{value_at}
use Rattle.cg_keys.specs.Values.{members_of, text_in}
use Rattle.cg_blkread.specs.Bits.{bit_number, bits_in, in_order, number_or_range, parts_at, range_in, up_to_31}
use Rattle.cg_blkread.specs.Described.{field_desc, field_part, no_bits}
use Rattle.cg_blkread.specs.Raw.{Shared, filled_name, raw_field, raw_fields}
use Rattle.cg_blkread.specs.Values.{is_too_wide, overlap, shares_bit}
use Rattle.cg_blkread.specs.declared.raw.Bits.{Bits}
use Rattle.cg_blkread.specs.declared.raw.RawField.{RawField}
use Rattle.cg_blkread.proofs.Sound.Empty.{all_from, empty_parts, empty_when, none_passes}
use Rattle.cg_blkread.proofs.Sound.Words.{NamesFit, WordIfAny}
use Rattle.cg_blkread.proofs.Sound.Fields.{AllApart, Apart, FieldFits}

-- ---- bits

-- bits of a register, the higher one first
abbrev pub AreGood : Bits → Type 0
AreGood b = (b.lsb ≤ b.msb) × (b.msb < 32)

up_to_31_small : (sum : ℕ) (cs : List ℕ) (n : ℕ) → sum ≤ 31 → up_to_31 sum cs ≡ Some n → n ≤ 31
unfolding up_to_31
up_to_31_small sum [] n small h = let same : sum ≡ n = cc in omega arith
up_to_31_small sum (c ∷ cs) n small h =
    by (is_digit c && nat_le (sum * 10 + (c - 48)) 31) refl h (λ (within : sum * 10 + (c - 48) ≤ 31) later. up_to_31_small (sum * 10 + (c - 48)) cs n within later) where
      by : (b : Bool) → (is_digit c && nat_le (sum * 10 + (c - 48)) 31) ≡ b → cond b (up_to_31 (sum * 10 + (c - 48)) cs) None ≡ Some n
          → (sum * 10 + (c - 48) ≤ 31 → up_to_31 (sum * 10 + (c - 48)) cs ≡ Some n → n ≤ 31) → n ≤ 31
      by true e is step = let within : sum * 10 + (c - 48) ≤ 31 = grind (arith, nat_tests) in step within is
      by false e is step = cc

bit_number_small : (s : List ℕ) (n : ℕ) → bit_number s ≡ Some n → n ≤ 31
unfolding bit_number
bit_number_small [] n h = cc
bit_number_small (c ∷ cs) n h = up_to_31_small 0 (c ∷ cs) n (omega arith) h

in_order_good : (msb lsb : ℕ) (b : Bits) → msb ≤ 31 → in_order msb lsb ≡ Some b → AreGood b
in_order_good msb lsb b small h =
    let parts = cond_some (nat_le lsb msb) (record { msb = msb; lsb = lsb }) b h in
    let passes : nat_le lsb msb ≡ true = parts.0 in
    let ordered : lsb ≤ msb = grind (arith, nat_tests) in
    subst AreGood parts.1 (ordered, omega arith)

range_good : (s : List ℕ) (b : Bits) → range_in s ≡ Some b → AreGood b
unfolding range_in
range_good s b h =
    option_and_then_some (parts_at s) (position (λ c. c == 58) s) b h (λ colon found is.
    option_and_then_some (λ msb. option_and_then (in_order msb) (bit_number (drop (colon + 1) s))) (bit_number (take colon s)) b is (λ msb high rest.
    option_and_then_some (in_order msb) (bit_number (drop (colon + 1) s)) b rest (λ lsb low ordered.
    in_order_good msb lsb b (bit_number_small (take colon s) msb high) ordered)))

within_small : (t : Tree) (n : ℕ) → number_within 0 31 t ≡ Some n → n ≤ 31
unfolding number_within
within_small t n h = option_and_then_some (if_within 0 31) (number_in t) n h (λ m found is.
    let parts = cond_some (nat_le 0 m && nat_le m 31) m n is in
    let passes : (nat_le 0 m && nat_le m 31) ≡ true = parts.0 in
    let small : m ≤ 31 = grind (arith, nat_tests) in
    subst (λ k. k ≤ 31) parts.1 small)

pub bits_good : (t : Tree) (b : Bits) → bits_in t ≡ Some b → AreGood b
unfolding bits_in
bits_good t b h = by (number_within 0 31 t) refl h where
  by : (o : Option ℕ) → number_within 0 31 t ≡ o → number_or_range o (text_in t) ≡ Some b → AreGood b
  by (Some n) e is = let small : n ≤ 31 = within_small t n e in subst AreGood (same_Some (record { msb = n; lsb = n }) b is) (omega arith, omega arith)
  by None e is = option_and_then_some range_in (text_in t) b is (λ s found range. range_good s b range)

-- what a field that breaks no rule on bits has
abbrev pub HasGoodBits : Option Bits → Type 0
HasGoodBits None = ⊥
HasGoodBits (Some b) = AreGood b

-- the bits of a field, where it has any, are good
abbrev pub GoodIfAny : Option Bits → Type 0
GoodIfAny None = Unit {0}
GoodIfAny (Some b) = AreGood b

-- ---- names

each_digit_is_name : (cs : List ℕ) → Each is_digit cs → Each is_name_character cs
each_digit_is_name [] each = tt
each_digit_is_name (c ∷ cs) each = (or_right (is_first c) (is_digit c) each.0, each_digit_is_name cs each.1)

-- the name that counts for a field is a word
filled_is_word : (written : Option (List ℕ)) (register : List ℕ) (sole : Bool) (number : ℕ) → WordIfAny written → IsWord register
    → IsWord (filled_name written register sole number)
filled_is_word (Some name) register sole number own word = own
filled_is_word None register true number own word = word
filled_is_word None register false number own word =
    (refl, (refl, (refl, (refl, (refl, each_digit_is_name (decimal number) (decimal_digits number))))))

-- ---- one field

-- a field as it is written has a name, and good bits where it has any
pub record Written (f : RawField) : Type 0 where
  pub name : IsWord f.name
  pub bits : GoodIfAny f.bits

pub bits_if_any : (o : Option Tree) → GoodIfAny (option_and_then bits_in o)
bits_if_any None = tt
bits_if_any (Some t) = by (bits_in t) refl where
  by : (o : Option Bits) → bits_in t ≡ o → GoodIfAny o
  by None e = tt
  by (Some b) e = bits_good t b e

field_written : (shared : Shared) (number : ℕ) (t : Tree) → NamesFit t → IsWord shared.name → Written (raw_field shared number t)
unfolding raw_field
field_written shared number t own word = record {
  name = filled_is_word (text_at (codes "name") (members_of t)) shared.name shared.sole number own word;
  bits = bits_if_any (value_at (codes "bits") (members_of t));
}

pub fields_written : (shared : Shared) (number : ℕ) (ts : List Tree) → AllOf NamesFit ts → IsWord shared.name → AllOf Written (raw_fields shared number ts)
fields_written shared number [] own word = tt
fields_written shared number (t ∷ ts) own word = (field_written shared number t own.0 word, fields_written shared (number + 1) ts own.1 word)

-- the description of a field with these bits
abbrev described_with : Option ℕ → RawField → Option Bits → FieldDesc
described_with register f o =
    let bits = unwrap_or o no_bits in
    record {
      name = f.name;
      msb = bits.msb;
      lsb = bits.lsb;
      sw = f.sw;
      hw = f.hw;
      resval = unwrap_or f.resval (option_map_or (λ v. field_part v bits) register 0);
      mubi = f.mubi;
      at = f.at;
    }

resval_fits : (b : Bits) (own register : Option ℕ) → AreGood b → is_too_wide (Some b) own ≡ false
    → unwrap_or own (option_map_or (λ v. field_part v b) register 0) < 2 ^ (suc b.msb - b.lsb)
resval_fits b own register good fits =
    let ordered : b.lsb ≤ b.msb = good.0 in
    let width : b.msb - b.lsb + 1 ≡ suc b.msb - b.lsb = omega arith in
    subst (λ w. unwrap_or own (option_map_or (λ v. field_part v b) register 0) < 2 ^ w) width (by own register fits) where
      by : (own register : Option ℕ) → is_too_wide (Some b) own ≡ false
          → unwrap_or own (option_map_or (λ v. field_part v b) register 0) < 2 ^ (b.msb - b.lsb + 1)
      by (Some v) register fits = grind (arith, nat_tests)
      by None (Some v) fits = mod-lt (v / 2 ^ b.lsb) (pow_pos (b.msb - b.lsb + 1))
      by None None fits = pow_pos (b.msb - b.lsb + 1)

with_bits_fits : (register : Option ℕ) (f : RawField) (o : Option Bits) → IsWord f.name → HasGoodBits o → is_too_wide o f.resval ≡ false
    → FieldFits (described_with register f o)
with_bits_fits register f None name good fits = absurd good
with_bits_fits register f (Some b) name good fits = record {
  name = name;
  ordered = good.0;
  within = good.1;
  resval = resval_fits b f.resval register good fits;
}

-- a field of which nothing is found
pub record IsSound (f : RawField) : Type 0 where
  pub name : IsWord f.name
  pub bits : HasGoodBits f.bits
  pub resval : is_too_wide f.bits f.resval ≡ false

sound_fits : (register : Option ℕ) (f : RawField) → IsSound f → FieldFits (field_desc register f)
unfolding field_desc
sound_fits register f sound = with_bits_fits register f f.bits sound.name sound.bits sound.resval

-- ---- fields together

-- no field shares a bit with a later one
abbrev pub NoneShares : List RawField → Type 0
NoneShares [] = Unit {0}
NoneShares (f ∷ fs) = AllOf (λ g. shares_bit f.bits g.bits ≡ false) fs × NoneShares fs

all_parts : {X : Type 0} (P : X → Type 0) (xs : List X) (x : X) → AllOf P (xs ++ x ∷ []) → AllOf P xs × P x
all_parts P [] x all = (tt, all.0)
all_parts P (y ∷ ys) x all = let parts = all_parts P ys x all.1 in ((all.0, parts.0), parts.1)

-- fields of which none overlaps an earlier one
pub none_overlaps : (before fs : List RawField) → each_after overlap before fs ≡ []
    → AllOf (λ f. AllOf (λ b. shares_bit b.bits f.bits ≡ false) before) fs × NoneShares fs
unfolding each_after
none_overlaps before [] h = (tt, tt)
none_overlaps before (f ∷ fs) h =
    let parts = empty_parts (overlap before f) (each_after overlap (before ++ f ∷ []) fs) h in
    let later = none_overlaps (before ++ f ∷ []) fs parts.1 in
    let here : AllOf (λ (b : RawField). shares_bit b.bits f.bits ≡ false) before = none_passes (λ b. shares_bit b.bits f.bits) before (empty_when _ _ parts.0) in (
      (here, all_from _ (λ g. AllOf (λ b. shares_bit b.bits g.bits ≡ false) before) fs (λ g all. (all_parts _ before f all).0) later.0),
      (all_from _ (λ g. shares_bit f.bits g.bits ≡ false) fs (λ g all. (all_parts _ before f all).1) later.0, later.1),
    )

apart_bits : (a b : Bits) → AreGood a → AreGood b → shares_bit (Some a) (Some b) ≡ false → (a.msb < b.lsb) ⊎ (b.msb < a.lsb)
apart_bits a b first second h = by (nat_le a.lsb b.msb) refl h where
  by : (t : Bool) → nat_le a.lsb b.msb ≡ t → (t && nat_le b.lsb a.msb) ≡ false → (a.msb < b.lsb) ⊎ (b.msb < a.lsb)
  by true e above = inl (grind (arith, nat_tests))
  by false e above = inr (grind (arith, nat_tests))

apart_with : (register : Option ℕ) (f g : RawField) (o p : Option Bits) → HasGoodBits o → HasGoodBits p → shares_bit o p ≡ false
    → Apart (described_with register f o) (described_with register g p)
apart_with register f g None p first second h = absurd first
apart_with register f g (Some a) None first second h = absurd second
apart_with register f g (Some a) (Some b) first second h = apart_bits a b first second h

sound_apart : (register : Option ℕ) (f g : RawField) → IsSound f → IsSound g → shares_bit f.bits g.bits ≡ false
    → Apart (field_desc register f) (field_desc register g)
unfolding field_desc
sound_apart register f g first second h = apart_with register f g f.bits g.bits first.bits second.bits h

apart_from : (register : Option ℕ) (f : RawField) (gs : List RawField) → IsSound f → AllOf IsSound gs → AllOf (λ g. shares_bit f.bits g.bits ≡ false) gs
    → AllOf (Apart (field_desc register f)) (map (field_desc register) gs)
apart_from register f [] own sound none = tt
apart_from register f (g ∷ gs) own sound none = (sound_apart register f g own sound.0 none.0, apart_from register f gs own sound.1 none.1)

pub all_apart : (register : Option ℕ) (fs : List RawField) → AllOf IsSound fs → NoneShares fs → AllApart (map (field_desc register) fs)
all_apart register [] sound none = tt
all_apart register (f ∷ fs) sound none = (apart_from register f fs sound.0 sound.1 none.0, all_apart register fs sound.1 none.1)

pub all_fit : (register : Option ℕ) (fs : List RawField) → AllOf IsSound fs → AllOf FieldFits (map (field_desc register) fs)
all_fit register [] sound = tt
all_fit register (f ∷ fs) sound = (sound_fits register f sound.0, all_fit register fs sound.1)
