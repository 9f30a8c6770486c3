-- A completed field breaks no rule.
use Rattle.std.proofs.Common.{◌≡◌, ℕ, ◌+◌, ◌-◌, ◌^◌, ◌/◌, ◌<◌, ◌≤◌, Bool, true, false, not, ◌&&◌, ◌||◌, cond, is_some, inl, inr, codes, bytes_eq, List, [], ◌∷◌, ◌++◌, Option, Some, None, option_and_then, unwrap_or, arith, refl, sym, ap, ◌∙◌, subst}
use Rattle.std.proofs.Math.Nat.{mod-lt}
use Rattle.std.proofs.lemmas.Nat.{pow_pos}
use Rattle.std.proofs.lemmas.Bool.{and_parts}
use Rattle.std.proofs.lemmas.Bool.Decides.{nat_tests}
use Rattle.std.specs.Fmt.{decimal, digits}
use Rattle.std.specs.Option.{option_map_or}
use Rattle.serde_json.specs.Data.{Data, boolean, string}
use Rattle.serde_json.specs.Find.{as_str, get}
use Rattle.cg_desc.specs.declared.block.SwAccess.{SwAccess}
use Rattle.cg_desc.specs.declared.block.SwAccess.TheVariants.{Nothing}
use Rattle.cg_desc.specs.declared.block.HwAccess.TheVariants.{Hro}
use Rattle.cg_finding.specs.Finding.{Among}
use Rattle.cg_hjson.specs.declared.tree.Tree.{Tree}
use Rattle.cg_keys.specs.Forms.{hardware, is_name, name_limit, software}
use Rattle.cg_keys.specs.Lookups.{hardware_at, software_at, text_at}
use Rattle.cg_keys.specs.Table.{Key}
use Rattle.cg_keys.specs.Values.{members_of}
use Rattle.cg_keys.specs.declared.forms.Form.TheVariants.{Boolean, Name, Word}
use Rattle.cg_keys.specs.declared.words.Words.{Words}
use Rattle.cg_keys.specs.declared.words.Words.TheVariants.{Hardware, Software, Unknown}
use Rattle.cg_blkread.proofs.Plain.{AreWordsOf, hardware_words, kind_of_text, software_words}
use Rattle.cg_blkread.specs.Bits.{width_of}
use Rattle.cg_blkread.specs.Described.{field_desc, field_part, no_bits}
use Rattle.cg_blkread.specs.Keys.{has_other_kind, has_other_width, is_other_than_rw, is_written_by_hardware}
use Rattle.cg_blkread.specs.Raw.{boolean_or_number, filled_name, raw_field, shared_of}
use Rattle.cg_blkread.specs.Tables.{field_keys}
use Rattle.cg_blkread.specs.Values.{is_too_wide}
use Rattle.cg_blkread.specs.declared.raw.Bits.{Bits}
use Rattle.cg_blkread.specs.declared.raw.RawField.{RawField}
use Rattle.cg_blkdone.specs.Full.{bits_text, field_pairs, hardware_word, number_of, reset_of, said_with, software_word}
use Rattle.cg_blkdone.proofs.Bits.{AreBits, AreBitsIf, below, below_holds, bits_are, bits_back, number_back}
use Rattle.cg_blkdone.proofs.CompletedFields.{IsWord, reset_word}
use Rattle.cg_blkdone.proofs.Lookups.{bits_told_in, boolean_at_told, boolean_told_in, is_object, number_told_in, text_at_told}
use Rattle.cg_blkdone.proofs.SoundCompleted.{Puts, hardware_fits, has_put, name_fits, not_true_is, object_completed, object_of, only_form, software_fits, table_of, word_fits}
use Rattle.cg_blkdone.proofs.SoundEntries.{field_good, fit_at_told, hardware_told, is_not_true, is_true_told, kind_by_word, kind_told, kinds_good, mubi_good, takes_other}
use Rattle.cg_blkdone.proofs.SoundNone.{not_false}
use Rattle.cg_blkdone.proofs.SoundTables.{fits_told, key_good, object_good, table_good}
use Rattle.cg_blkdone.proofs.SoundValues.{bits_by_told, is_narrow, own_bits, own_reset, own_reset_by_told}
use Rattle.cg_blkdone.proofs.Told.{told}
use Rattle.cg_blkdone.proofs.Words.{hardware_back, software_back}

-- ---- names

-- the name of a field that has none, by its place
by_place : ℕ → Bool
by_place n = is_name name_limit (codes "field" ++ decimal n)

places_are_names : below 34 by_place ≡ true
unfolding by_place is_name digits
places_are_names = refl

place_is_name : (n : ℕ) → n ≤ 33 → is_name name_limit (codes "field" ++ decimal n) ≡ true
unfolding by_place
place_is_name n low = below_holds 34 n by_place places_are_names (omega (arith, low))

-- a name, if there is one
abbrev IsNameIf : Option (List ℕ) → Type 0
IsNameIf None = Unit {0}
IsNameIf (Some s) = is_name name_limit s ≡ true

filled_fits : (own : Option (List ℕ)) (register : List ℕ) (sole : Bool) (n : ℕ) → n ≤ 33 → IsNameIf own → is_name name_limit register ≡ true
    → is_name name_limit (filled_name own register sole n) ≡ true
filled_fits (Some s) register sole n low own name = own
filled_fits None register true n low own name = name
filled_fits None register false n low own name = place_is_name n low

name_if : (o : Option Data) → option_map_or (fits_told Name) o true ≡ true → IsNameIf (option_and_then as_str o)
name_if None h = tt
name_if (Some e) h = by (as_str e) h where
  by : (s : Option (List ℕ)) → option_map_or (is_name name_limit) s false ≡ true → IsNameIf s
  by None h = absurd cc
  by (Some s) h = h

-- what may stand at a key has one of its forms
pub may_fit : (k : Key) (o : Option Data) → key_good k o ≡ true → option_map_or (λ e. key_good k (Some e)) o true ≡ true
may_fit k None h = refl
may_fit k (Some e) h = h

-- what a row asks
pub row_good : (ks : List Key) (k : Key) (d : Data) → Among k ks → table_good ks d ≡ true → key_good k (get k.key d) ≡ true
row_good [] k d among good = absurd among
row_good (j ∷ ks) k d (inl is) good = ap (λ l. key_good l (get l.key d)) is ∙ (and_parts (key_good j (get j.key d)) (table_good ks d) good).0
row_good (j ∷ ks) k d (inr among) good = row_good ks k d among (and_parts (key_good j (get j.key d)) (table_good ks d) good).1

one_form : (key : List ℕ) (o : Option Data) → option_map_or (λ e. fits_told Name e || false) o true ≡ true → option_map_or (fits_told Name) o true ≡ true
one_form key None h = refl
one_form key (Some e) h = only_form Name e h

-- ---- kinds

-- the kind that stands at a key, or another
kind_by : {K : Type 0} (words : Words) (kinds : List ℕ → Option K) → AreWordsOf words kinds → (o : Option Data) (other : K)
    → option_map_or (λ e. fits_told (Word words) e || false) o true ≡ true
    → option_map_or (λ e. option_and_then kinds (as_str e)) o (Some other) ≡ Some (unwrap_or (option_and_then kinds (option_and_then as_str o)) other)
kind_by words kinds are None other h = refl
kind_by words kinds are (Some e) other h = kind_of_text words kinds are (as_str e) other h

counts_by : {K : Type 0} (words : Words) (kinds : List ℕ → Option K) → AreWordsOf words kinds → (otherwise : K) (key : List ℕ) (register t : Tree)
    → fit_at_told (Word words ∷ []) key (told register) ≡ true → fit_at_told (Word words ∷ []) key (told t) ≡ true
    → kind_by_word kinds otherwise key (told register) (told t)
    ≡ Some (unwrap_or (option_and_then kinds (text_at key (members_of t))) (unwrap_or (option_and_then kinds (text_at key (members_of register))) otherwise))
counts_by words kinds are otherwise key register t first second =
    ap (option_map_or (λ e. option_and_then kinds (as_str e)) (get key (told t)))
    (kind_by words kinds are (get key (told register)) otherwise first
    ∙ ap (λ o. Some (unwrap_or (option_and_then kinds o) otherwise)) (sym (text_at_told key register)))
    ∙ kind_by words kinds are (get key (told t)) _ second
    ∙ ap (λ o. Some (unwrap_or (option_and_then kinds o) (unwrap_or (option_and_then kinds (text_at key (members_of register))) otherwise))) (sym (text_at_told key t))

-- the kind that counts for a field is the one that it has
pub kind_counts : (register t : Tree) (n : ℕ) → fit_at_told (Word Software ∷ []) (codes "swaccess") (told register) ≡ true
    → fit_at_told (Word Software ∷ []) (codes "swaccess") (told t) ≡ true → kind_told (told register) (told t) ≡ Some (raw_field (shared_of (members_of register)) n t).sw
unfolding raw_field shared_of software_at
kind_counts register t n first second = counts_by Software software software_words Nothing (codes "swaccess") register t first second

-- so is the hardware kind
hardware_counts : (register t : Tree) (n : ℕ) → fit_at_told (Word Hardware ∷ []) (codes "hwaccess") (told register) ≡ true
    → fit_at_told (Word Hardware ∷ []) (codes "hwaccess") (told t) ≡ true → hardware_told (told register) (told t) ≡ Some (raw_field (shared_of (members_of register)) n t).hw
unfolding raw_field shared_of hardware_at
hardware_counts register t n first second = counts_by Hardware hardware hardware_words Hro (codes "hwaccess") register t first second

-- ---- one field

-- what is read of bits, if anything, is bits of a register
pub bits_if : (o : Option Data) → AreBitsIf (option_and_then bits_told_in o)
bits_if None = tt
bits_if (Some d) = bits_are d

own_are : (d : Data) (b : Bits) → own_bits d ≡ Some b → AreBits b
own_are d b is = subst AreBitsIf is (bits_if (get (codes "bits") d))

-- a field's own reset value, or its part of its register's, or 0
reset_fits : (b : Bits) (own rv : Option ℕ) → is_too_wide (Some b) own ≡ false
    → is_too_wide (Some b) (Some (unwrap_or own (option_map_or (λ v. field_part v b) rv 0))) ≡ false
reset_fits b (Some v) rv fits = fits
reset_fits b None (Some v) fits =
    let low : field_part v b < 2 ^ width_of b = mod-lt (v / 2 ^ b.lsb) (pow_pos (b.msb - b.lsb + 1)) in grind (arith, nat_tests)
reset_fits b None None fits =
    let low : 0 < 2 ^ width_of b = pow_pos (b.msb - b.lsb + 1) in grind (arith, nat_tests)

-- a field of a register, which has good bits and breaks no rule on keys
pub record FieldIsGood (register t : Tree) : Type 0 where
  pub bits : Bits
  pub own : own_bits (told t) ≡ Some bits
  pub is : is_object (told t) ≡ true
  pub good : field_good (told register) (told t) ≡ true

-- what is asked of the register
pub record HeadIsGood (register : Tree) : Type 0 where
  pub name : is_name name_limit (shared_of (members_of register)).name ≡ true
  pub kind : fit_at_told (Word Software ∷ []) (codes "swaccess") (told register) ≡ true
  pub hardware_kind : fit_at_told (Word Hardware ∷ []) (codes "hwaccess") (told register) ≡ true

module _ (register t : Tree) (rv : Option ℕ) (n : ℕ) (word : IsWord rv) (low : n ≤ 33) (head : HeadIsGood register) (field : FieldIsGood register t) where
  abbrev raw : RawField
  raw = raw_field (shared_of (members_of register)) n t

  abbrev full : Data
  full = said_with (field_pairs rv raw) t

  table : table_good field_keys (told t) ≡ true
  table = table_of field_keys (told t) field.is (and_parts (object_good field_keys (told t)) (mubi_good (told register) (told t)) field.good).0

  raw_bits : raw.bits ≡ Some field.bits
  raw_bits = bits_by_told (shared_of (members_of register)) n t ∙ field.own

  -- its bits are those that it had
  pub full_bits : own_bits full ≡ Some field.bits
  unfolding field_pairs
  full_bits =
      ap (option_and_then bits_told_in) (has_put (codes "bits") (field_pairs rv raw) (told t) (string (bits_text (unwrap_or raw.bits no_bits))) field.is refl)
      ∙ ap (λ o. bits_told_in (string (bits_text (unwrap_or o no_bits)))) raw_bits
      ∙ bits_back field.bits (own_are (told t) field.bits field.own)

  name_row : key_good (record { key = codes "name"; forms = Name ∷ []; needed = false }) (get (codes "name") (told t)) ≡ true
  name_row = (and_parts _ _ (and_parts _ _ table).1).0

  raw_name : is_name name_limit raw.name ≡ true
  unfolding raw_field
  raw_name =
      filled_fits (text_at (codes "name") (members_of t)) (shared_of (members_of register)).name (shared_of (members_of register)).sole n low
      (subst IsNameIf (sym (text_at_told (codes "name") t)) (name_if (get (codes "name") (told t))
      (one_form (codes "name") (get (codes "name") (told t)) (may_fit (record { key = codes "name"; forms = Name ∷ []; needed = false }) (get (codes "name") (told t)) name_row)))) head.name

  kind_row : fit_at_told (Word Software ∷ []) (codes "swaccess") (told t) ≡ true
  kind_row = may_fit (record { key = codes "swaccess"; forms = Word Software ∷ []; needed = false }) (get (codes "swaccess") (told t)) (and_parts _ _ (and_parts _ _ (and_parts _ _ table).1).1).0

  hardware_row : fit_at_told (Word Hardware ∷ []) (codes "hwaccess") (told t) ≡ true
  hardware_row =
      may_fit (record { key = codes "hwaccess"; forms = Word Hardware ∷ []; needed = false }) (get (codes "hwaccess") (told t))
      (row_good field_keys (record { key = codes "hwaccess"; forms = Word Hardware ∷ []; needed = false }) (told t) (inr (inr (inr (inl refl)))) table)

  puts : Puts field_keys (field_pairs rv raw)
  unfolding field_pairs
  puts = (
    refl,
    (
      name_fits raw.name raw_name,
      (
        software_fits raw.sw,
        (
          hardware_fits raw.hw,
          (
            word_fits (Boolean ∷ Word Unknown ∷ []) (reset_of rv raw) (reset_word rv (shared_of (members_of register)) n t word),
            (refl, tt),
          ),
        ),
      ),
    ),
  )

  full_kind : (any : Data) → kind_told any full ≡ Some raw.sw
  unfolding field_pairs
  full_kind any =
      ap (λ o. option_map_or (λ e. option_and_then software (as_str e)) o (option_map_or (λ e. option_and_then software (as_str e)) (get (codes "swaccess") any) (Some Nothing)))
      (has_put (codes "swaccess") (field_pairs rv raw) (told t) (string (software_word raw.sw)) field.is refl)
      ∙ software_back raw.sw

  full_hardware : (any : Data) → hardware_told any full ≡ Some raw.hw
  unfolding field_pairs
  full_hardware any =
      ap (λ o. option_map_or (λ e. option_and_then hardware (as_str e)) o (option_map_or (λ e. option_and_then hardware (as_str e)) (get (codes "hwaccess") any) (Some Hro)))
      (has_put (codes "hwaccess") (field_pairs rv raw) (told t) (string (hardware_word raw.hw)) field.is refl)
      ∙ hardware_back raw.hw

  -- the kinds that count for it have their forms
  pub kinds_fit : kinds_good (told register) (told t) ≡ true
  kinds_fit = λ i. field.is i && (is_some (kind_counts register t n head.kind kind_row i) && is_some (hardware_counts register t n head.hardware_kind hardware_row i))

  -- it takes other values where the field did
  pub full_takes : (any : Data) → takes_other any full ≡ takes_other (told register) (told t)
  full_takes any =
      (λ i. is_other_than_rw (full_kind any i) || is_written_by_hardware (full_hardware any i))
      ∙ (λ i. is_other_than_rw (sym (kind_counts register t n head.kind kind_row) i)
      || is_written_by_hardware (sym (hardware_counts register t n head.hardware_kind hardware_row) i))

  full_mubi : is_not_true (codes "mubi") full ≡ not raw.mubi
  unfolding field_pairs
  full_mubi =
      not_true_is (codes "mubi") full
      ∙ ap (λ o. not (unwrap_or (option_and_then boolean_told_in o) false)) (has_put (codes "mubi") (field_pairs rv raw) (told t) (boolean raw.mubi) field.is refl)

  own_mubi : is_not_true (codes "mubi") (told t) ≡ not raw.mubi
  unfolding raw_field
  own_mubi = not_true_is (codes "mubi") (told t) ∙ ap (λ o. not (unwrap_or o false)) (sym (boolean_at_told (codes "mubi") t))

  abbrev mubi_by : Option Bits → Option SwAccess → Bool → Bool
  mubi_by b k m = cond (has_other_width b || has_other_kind k) m true

  mubi_stays : (any : Data) → mubi_good any full ≡ true
  mubi_stays any =
      (λ i. mubi_by (full_bits i) (full_kind any i) (full_mubi i))
      ∙ (λ i. mubi_by (sym field.own i) (sym (kind_counts register t n head.kind kind_row) i) (sym own_mubi i))
      ∙ (and_parts (object_good field_keys (told t)) (mubi_good (told register) (told t)) field.good).1

  -- a completed field breaks no rule on keys
  pub field_completed : (any : Data) → field_good any full ≡ true
  field_completed any = λ i.
      object_completed field_keys (field_pairs rv raw) (told t) field.is puts (object_of field_keys (told t) table) i && mubi_stays any i

  full_reset : own_reset full ≡ Some (reset_of rv raw)
  unfolding field_pairs
  full_reset =
      let there = has_put (codes "resval") (field_pairs rv raw) (told t) (number_of (reset_of rv raw)) field.is refl in
      ap (λ o. cond (option_map_or (bytes_eq (codes "x")) (option_and_then as_str o) false) (Some 0)
      (boolean_or_number (is_true_told (codes "mubi") full) (option_and_then boolean_told_in o) (option_and_then (number_told_in 0 4294967295) o))) there
      ∙ number_back (reset_of rv raw) (reset_word rv (shared_of (members_of register)) n t word)

  -- its reset value fits its bits
  pub full_narrow : is_narrow (told t) ≡ true → is_narrow full ≡ true
  unfolding field_desc
  full_narrow narrow =
      let own : is_too_wide (Some field.bits) raw.resval ≡ false =
      sym (ap (λ o. is_too_wide o raw.resval) field.own) ∙ ap (is_too_wide (own_bits (told t))) (own_reset_by_told (shared_of (members_of register)) n t)
      ∙ not_false (is_too_wide (own_bits (told t)) (own_reset (told t))) narrow in
      (λ i. not (is_too_wide (full_bits i) (full_reset i)))
      ∙ ap (λ o. not (is_too_wide (Some field.bits) (Some (unwrap_or raw.resval (option_map_or (λ v. field_part v (unwrap_or o no_bits)) rv 0))))) raw_bits
      ∙ ap not (reset_fits field.bits raw.resval rv own)
