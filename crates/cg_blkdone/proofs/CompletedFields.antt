-- A completed field is the same field, and complete.
use Rattle.std.proofs.Common.{◌≡◌, ℕ, ◌+◌, ◌-◌, ◌^◌, ◌/◌, ◌≤◌, Bool, true, false, List, [], ◌∷◌, Option, Some, None, option_and_then, unwrap_or, cond, codes, arith, refl, sym, ap, ◌∙◌, subst}
use Rattle.std.proofs.Math.Nat.{div-le_self, mod-le}
use Rattle.std.specs.Option.{option_map_or}
use Rattle.std.specs.Str.{bytes_eq}
use Rattle.serde_json.specs.Data.{Data, boolean, string}
use Rattle.serde_json.specs.Find.{get}
use Rattle.cg_hjson.specs.declared.tree.Tree.{Tree}
use Rattle.cg_hjson.specs.declared.tree.Member.{Member}
use Rattle.cg_keys.specs.Forms.{hardware, number_in, number_within, or_else, software}
use Rattle.cg_keys.specs.Lookups.{boolean_at, hardware_at, number_at, software_at, text_at}
use Rattle.cg_keys.specs.Table.{value_at}
use Rattle.cg_keys.specs.Values.{members_of}
use Rattle.cg_blkread.specs.Bits.{bits_in}
use Rattle.cg_blkread.specs.Described.{field_desc, field_part, no_bits}
use Rattle.cg_blkread.specs.Raw.{Shared, boolean_or_number, boolean_reset, field_reset, filled_name, is_true, raw_field}
use Rattle.cg_blkread.specs.declared.raw.Bits.{Bits}
use Rattle.cg_blkread.specs.declared.raw.RawField.{RawField}
use Rattle.cg_blkdone.specs.Full.{bits_text, field_pairs, hardware_word, number_of, pair, reset_of, said_with, software_word}
use Rattle.cg_blkdone.specs.Places.{field_unplaced, start}
use Rattle.cg_blkdone.proofs.Bits.{AreBits, AreBitsIf, bits_are, bits_back, found_within, number_back}
use Rattle.cg_blkdone.proofs.Completion.{Completed, HasAt, boolean_has, by_object, completed_twice, number_has, stands_at, text_has}
use Rattle.cg_blkdone.proofs.Lookups.{bits_at_told, bits_told_in, is_object}
use Rattle.cg_blkdone.proofs.Puts.{last_at}
use Rattle.cg_blkdone.proofs.Told.{told}
use Rattle.cg_blkdone.proofs.Words.{hardware_back, software_back}

-- ---- reset values have 32 bits

-- a number of 32 bits, if there is one
abbrev pub IsWord : Option ℕ → Type 0
IsWord o = (v : ℕ) → o ≡ Some v → v ≤ 4294967295

value_word : (o : Option Tree) → IsWord (option_and_then (number_within 0 4294967295) o)
unfolding number_within
value_word None v h = absurd cc
value_word (Some t) v h = found_within 0 4294967295 v (number_in t) h

-- a number that is read at a key has 32 bits
pub word_at : (key : List ℕ) (ms : List Member) → IsWord (number_at 0 4294967295 key ms)
unfolding number_at number_within
word_at key ms v = value_word (value_at key ms) v

boolean_word : (mubi b : Bool) → boolean_reset mubi b ≤ 4294967295
boolean_word true true = omega arith
boolean_word true false = omega arith
boolean_word false true = omega arith
boolean_word false false = omega arith

-- so has a reset value that may be a boolean
pub boolean_or_word : (mubi : Bool) (b : Option Bool) (n : Option ℕ) → IsWord n → IsWord (boolean_or_number mubi b n)
boolean_or_word mubi None n word v h = word v h
boolean_or_word mubi (Some b) n word v h = let same : boolean_reset mubi b ≡ v = ap (λ o. unwrap_or o v) h in omega (arith, same, boolean_word mubi b)

zero_or_word : (b : Bool) (o : Option ℕ) → IsWord o → IsWord (cond b (Some 0) o)
zero_or_word true o word v h = let same : 0 ≡ v = ap (λ o. unwrap_or o v) h in omega (arith, same)
zero_or_word false o word v h = word v h

field_reset_word : (mubi : Bool) (ms : List Member) → IsWord (field_reset mubi ms)
unfolding field_reset
field_reset_word mubi ms =
    zero_or_word (option_map_or (bytes_eq (codes "x")) (text_at (codes "resval") ms) false) _
    (boolean_or_word mubi (boolean_at (codes "resval") ms) (number_at 0 4294967295 (codes "resval") ms) (word_at (codes "resval") ms))

part_word : (register_resval : Option ℕ) (b : Bits) → IsWord register_resval → option_map_or (λ v. field_part v b) register_resval 0 ≤ 4294967295
part_word None b word = omega arith
part_word (Some v) b word =
    omega (arith, word v refl, div-le_self v (2 ^ b.lsb), mod-le (v / 2 ^ b.lsb) (2 ^ (b.msb - b.lsb + 1)))

own_or_part_word : (own : Option ℕ) (part : ℕ) → IsWord own → part ≤ 4294967295 → unwrap_or own part ≤ 4294967295
own_or_part_word None part own low = low
own_or_part_word (Some v) part own low = own v refl

-- so has the reset value that counts for a field
pub reset_word : (register_resval : Option ℕ) (shared : Shared) (n : ℕ) (t : Tree) → IsWord register_resval → reset_of register_resval (raw_field shared n t) ≤ 4294967295
unfolding field_desc raw_field
reset_word register_resval shared n t word =
    own_or_part_word (field_reset (is_true (codes "mubi") (members_of t)) (members_of t)) _ (field_reset_word (is_true (codes "mubi") (members_of t)) (members_of t))
    (part_word register_resval (unwrap_or (raw_field shared n t).bits no_bits) word)

-- ---- the same fields but for places

-- what two fields have alike
pub record SameField (register_resval : Option ℕ) (f g : RawField) : Type 0 where
  pub name : g.name ≡ f.name
  pub bits : unwrap_or g.bits no_bits ≡ unwrap_or f.bits no_bits
  pub sw : g.sw ≡ f.sw
  pub hw : g.hw ≡ f.hw
  pub reset : reset_of register_resval g ≡ reset_of register_resval f
  pub mubi : g.mubi ≡ f.mubi

-- are described alike
pub described_field : (register_resval : Option ℕ) (f g : RawField) → SameField register_resval f g → field_unplaced (field_desc register_resval g) ≡ field_unplaced (field_desc register_resval f)
unfolding field_desc
described_field register_resval f g same = λ i. record {
  name = same.name i;
  msb = (same.bits i).msb;
  lsb = (same.bits i).lsb;
  sw = same.sw i;
  hw = same.hw i;
  resval = same.reset i;
  mubi = same.mubi i;
  at = start;
}

-- and completed alike
pub completed_field : (register_resval : Option ℕ) (f g : RawField) → SameField register_resval f g → field_pairs register_resval g ≡ field_pairs register_resval f
unfolding field_pairs
completed_field register_resval f g same = λ i.
    pair (codes "bits") (string (bits_text (same.bits i)))
    ∷ pair (codes "name") (string (same.name i))
    ∷ pair (codes "swaccess") (string (software_word (same.sw i)))
    ∷ pair (codes "hwaccess") (string (hardware_word (same.hw i)))
    ∷ pair (codes "resval") (number_of (same.reset i))
    ∷ pair (codes "mubi") (boolean (same.mubi i))
    ∷ []

-- fields with the same members
by_members : (register_resval : Option ℕ) (shared : Shared) (n : ℕ) (t u : Tree) → members_of u ≡ members_of t → SameField register_resval (raw_field shared n t) (raw_field shared n u)
unfolding raw_field field_desc
by_members register_resval shared n t u same = record {
  name = ap (λ ms. filled_name (text_at (codes "name") ms) shared.name shared.sole n) same;
  bits = ap (λ ms. unwrap_or (option_and_then bits_in (value_at (codes "bits") ms)) no_bits) same;
  sw = ap (λ ms. unwrap_or (software_at (codes "swaccess") ms) shared.sw) same;
  hw = ap (λ ms. unwrap_or (hardware_at (codes "hwaccess") ms) shared.hw) same;
  reset = ap (λ ms. unwrap_or (field_reset (is_true (codes "mubi") ms) ms)
      (option_map_or (λ v. field_part v (unwrap_or (option_and_then bits_in (value_at (codes "bits") ms)) no_bits)) register_resval 0)) same;
  mubi = ap (λ ms. is_true (codes "mubi") ms) same;
}

-- ---- fields that are objects

bits_of_if : (o : Option Data) → AreBitsIf (option_and_then bits_told_in o)
bits_of_if None = tt
bits_of_if (Some d) = bits_are d

are_or_none : (o : Option Bits) → AreBitsIf o → AreBits (unwrap_or o no_bits)
are_or_none None is = (omega arith, omega arith)
are_or_none (Some b) is = is

field_bits_are : (shared : Shared) (n : ℕ) (t : Tree) → AreBits (unwrap_or (raw_field shared n t).bits no_bits)
unfolding raw_field
field_bits_are shared n t =
    are_or_none (option_and_then bits_in (value_at (codes "bits") (members_of t)))
    (subst AreBitsIf (sym (bits_at_told (codes "bits") t)) (bits_of_if (get (codes "bits") (told t))))

module _ (register_resval : Option ℕ) (shared : Shared) (n : ℕ) (t u : Tree) (word : IsWord register_resval)
    (done : Completed (field_pairs register_resval (raw_field shared n t)) t u) (is : is_object (told t) ≡ true) where
  abbrev field : RawField
  field = raw_field shared n t

  abbrev again : RawField
  again = raw_field shared n u

  here : (key : List ℕ) → get key (told u) ≡ or_else (last_at key (field_pairs register_resval field)) (get key (told t))
  here key = stands_at (field_pairs register_resval field) t u done is key

  same_name : again.name ≡ field.name
  unfolding raw_field field_pairs
  same_name = ap (λ o. filled_name o shared.name shared.sole n) (text_has (codes "name") u (string field.name) (here (codes "name")))

  same_bits : again.bits ≡ Some (unwrap_or field.bits no_bits)
  unfolding raw_field field_pairs
  same_bits = bits_at_told (codes "bits") u ∙ ap (option_and_then bits_told_in) (here (codes "bits"))
      ∙ bits_back (unwrap_or field.bits no_bits) (field_bits_are shared n t)

  same_sw : again.sw ≡ field.sw
  unfolding raw_field field_pairs software_at
  same_sw = ap (λ o. unwrap_or o shared.sw)
      (ap (option_and_then software) (text_has (codes "swaccess") u (string (software_word field.sw)) (here (codes "swaccess"))) ∙ software_back field.sw)

  same_hw : again.hw ≡ field.hw
  unfolding raw_field field_pairs hardware_at
  same_hw = ap (λ o. unwrap_or o shared.hw)
      (ap (option_and_then hardware) (text_has (codes "hwaccess") u (string (hardware_word field.hw)) (here (codes "hwaccess"))) ∙ hardware_back field.hw)

  same_mubi : again.mubi ≡ field.mubi
  unfolding raw_field field_pairs
  same_mubi = ap (λ o. unwrap_or o false) (boolean_has (codes "mubi") u (boolean field.mubi) (here (codes "mubi")))

  own_reset : again.resval ≡ Some (reset_of register_resval field)
  unfolding raw_field field_pairs field_reset
  own_reset =
      let value : Data = number_of (reset_of register_resval field) in
      let there : HasAt (codes "resval") u value = here (codes "resval") in
      (λ i. cond (option_map_or (bytes_eq (codes "x")) (text_has (codes "resval") u value there i) false) (Some 0)
      (boolean_or_number again.mubi (boolean_has (codes "resval") u value there i) (number_has 0 4294967295 (codes "resval") u value there i)))
      ∙ number_back (reset_of register_resval field) (reset_word register_resval shared n t word)

  same_reset : reset_of register_resval again ≡ reset_of register_resval field
  unfolding field_desc
  same_reset = ap (λ o. unwrap_or o (option_map_or (λ v. field_part v (unwrap_or again.bits no_bits)) register_resval 0)) own_reset

  object_field : SameField register_resval field again
  object_field = record {
    name = same_name;
    bits = ap (λ o. unwrap_or o no_bits) same_bits;
    sw = same_sw;
    hw = same_hw;
    reset = same_reset;
    mubi = same_mubi;
  }

-- a completed field is the same
pub same_field : (register_resval : Option ℕ) (shared : Shared) (n : ℕ) (t u : Tree) → IsWord register_resval → Completed (field_pairs register_resval (raw_field shared n t)) t u
    → SameField register_resval (raw_field shared n t) (raw_field shared n u)
same_field register_resval shared n t u word done =
    by_object (field_pairs register_resval (raw_field shared n t)) t u done (object_field register_resval shared n t u word done) (by_members register_resval shared n t u)

-- and complete
pub field_twice : (register_resval : Option ℕ) (shared : Shared) (n : ℕ) (t u : Tree) → IsWord register_resval → Completed (field_pairs register_resval (raw_field shared n t)) t u
    → said_with (field_pairs register_resval (raw_field shared n u)) u ≡ said_with (field_pairs register_resval (raw_field shared n t)) t
field_twice register_resval shared n t u word done =
    completed_twice (field_pairs register_resval (raw_field shared n t)) (field_pairs register_resval (raw_field shared n u)) t u done
    (completed_field register_resval (raw_field shared n t) (raw_field shared n u) (same_field register_resval shared n t u word done))
