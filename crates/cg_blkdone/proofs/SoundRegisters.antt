-- A completed register breaks no rule.
use Rattle.std.proofs.Common.{◌≡◌, ℕ, ◌+◌, ◌≤◌, true, false, not, ◌&&◌, ◌||◌, Bool, cond, is_some, inl, inr, length, codes, List, [], ◌∷◌, ◌++◌, map, Option, Some, None, option_map, option_and_then, unwrap_or, arith, refl, sym, ap, ◌∙◌}
use Rattle.std.proofs.lemmas.Bool.{and_parts}
use Rattle.std.proofs.lemmas.List.{length-map}
use Rattle.std.specs.List.{list_all, list_any}
use Rattle.std.specs.Option.{option_map_or}
use Rattle.serde_json.specs.Data.{Data, boolean}
use Rattle.serde_json.specs.Find.{as_str, get}
use Rattle.cg_finding.specs.Finding.{Among}
use Rattle.cg_hjson.specs.declared.tree.Tree.{Tree}
use Rattle.cg_hjson.specs.declared.tree.Member.{Member}
use Rattle.cg_keys.specs.Elements.{elements}
use Rattle.cg_keys.specs.Forms.{is_name, name_limit, or_else}
use Rattle.cg_keys.specs.Table.{Key, may, needs}
use Rattle.cg_keys.specs.Values.{members_of}
use Rattle.cg_keys.specs.declared.forms.Form.TheVariants.{Boolean, Items, Name, Word}
use Rattle.cg_keys.specs.declared.words.Words.TheVariants.{Hardware, Software}
use Rattle.cg_blkread.specs.Raw.{boolean_or_number, is_true, raw_field, register_reset, shared_of, text_or_empty}
use Rattle.cg_blkread.specs.Tables.{register_keys}
use Rattle.cg_blkread.specs.declared.raw.Bits.{Bits}
use Rattle.cg_blkdone.specs.Full.{Pair, field_pairs, full_fields, list_of, number_of, with_all}
use Rattle.cg_blkdone.proofs.Bits.{number_back}
use Rattle.cg_blkdone.proofs.FieldLists.{listed_items}
use Rattle.cg_blkdone.proofs.CompletedFields.{IsWord}
use Rattle.cg_blkdone.proofs.Lookups.{boolean_at_told, boolean_told_in, elements_told, found_in_completed, is_object, items_told_at, number_told_in, object_stays, text_at_told}
use Rattle.cg_blkdone.proofs.Puts.{last_at}
use Rattle.cg_blkdone.proofs.Registers.{register_word}
use Rattle.cg_blkdone.proofs.SoundCompleted.{Puts, has_put, keeps, not_true_is, object_completed, only_form, table_of}
use Rattle.cg_blkdone.proofs.SoundEntries.{field_good, fit_at_told, has_other, is_absent, is_inside, is_judged, is_true_told, kinds_good, register_good, shadow_good, takes_other}
use Rattle.cg_blkdone.proofs.SoundFew.{AllBits, few_bits}
use Rattle.cg_blkdone.proofs.SoundFields.{FieldIsGood, HeadIsGood, bits_if, field_completed, full_bits, full_narrow, full_takes, kinds_fit, may_fit, row_good}
use Rattle.cg_blkdone.proofs.SoundTables.{elements_of, key_good, object_good, table_good}
use Rattle.cg_blkdone.proofs.SoundValues.{are_apart, has_some, is_narrow, own_bits, register_values_good, reset_by_told, reset_told, strays}
use Rattle.cg_blkdone.proofs.Told.{told}

-- ---- all fields

abbrev AllFields : Tree → List Tree → Type 0
AllFields register [] = Unit {0}
AllFields register (t ∷ ts) = FieldIsGood register t × AllFields register ts

field_is_good : (register t : Tree) (b : Option Bits) → own_bits (told t) ≡ b → is_some b ≡ true → is_object (told t) ≡ true → field_good (told register) (told t) ≡ true
    → FieldIsGood register t
field_is_good register t None own some is good = absurd cc
field_is_good register t (Some b) own some is good = record { bits = b; own = own; is = is; good = good }

all_fields : (register : Tree) (ts : List Tree) → list_all is_object (map told ts) ≡ true → list_all (field_good (told register)) (map told ts) ≡ true
    → list_all is_some (map own_bits (map told ts)) ≡ true → AllFields register ts
all_fields register [] are good some = tt
all_fields register (t ∷ ts) are good some =
    let a = and_parts (is_object (told t)) (list_all is_object (map told ts)) are in
    let g = and_parts (field_good (told register) (told t)) (list_all (field_good (told register)) (map told ts)) good in
    let s = and_parts (is_some (own_bits (told t))) (list_all is_some (map own_bits (map told ts))) some in
    (field_is_good register t (own_bits (told t)) refl s.0 a.0 g.0, all_fields register ts a.1 g.1 s.1)

all_bits : (ts : List Tree) → list_all is_some (map own_bits (map told ts)) ≡ true → AllBits (map own_bits (map told ts))
all_bits [] some = tt
all_bits (t ∷ ts) some =
    let s = and_parts (is_some (own_bits (told t))) (list_all is_some (map own_bits (map told ts))) some in
    (s.0, bits_if (get (codes "bits") (told t)), all_bits ts s.1)

module _ (register : Tree) (rv : Option ℕ) (word : IsWord rv) (head : HeadIsGood register) where
  abbrev fulls : ℕ → List Tree → List Data
  fulls n ts = full_fields (shared_of (members_of register)) rv n ts

  objects_full : (n : ℕ) (ts : List Tree) → AllFields register ts → list_all is_object (fulls n ts) ≡ true
  unfolding full_fields
  objects_full n [] all = refl
  objects_full n (t ∷ ts) all = λ i.
      object_stays (field_pairs rv (raw_field (shared_of (members_of register)) n t)) (told t) all.0.is i && objects_full (n + 1) ts all.1 i

  good_full : (any : Data) (n : ℕ) (ts : List Tree) → n + length ts ≤ 34 → AllFields register ts → list_all (field_good any) (fulls n ts) ≡ true
  unfolding full_fields
  good_full any n [] low all = refl
  good_full any n (t ∷ ts) low all = λ i.
      field_completed register t rv n word (omega (arith, low)) head all.0 any i && good_full any (n + 1) ts (omega (arith, low)) all.1 i

  kinds_full : (n : ℕ) (ts : List Tree) → n + length ts ≤ 34 → AllFields register ts → list_all (kinds_good (told register)) (map told ts) ≡ true
  kinds_full n [] low all = refl
  kinds_full n (t ∷ ts) low all = λ i. kinds_fit register t rv n word (omega (arith, low)) head all.0 i && kinds_full (n + 1) ts (omega (arith, low)) all.1 i

  takes_full : (any : Data) (n : ℕ) (ts : List Tree) → n + length ts ≤ 34 → AllFields register ts
      → list_any (takes_other any) (fulls n ts) ≡ list_any (takes_other (told register)) (map told ts)
  unfolding full_fields
  takes_full any n [] low all = refl
  takes_full any n (t ∷ ts) low all = λ i.
      full_takes register t rv n word (omega (arith, low)) head all.0 any i || takes_full any (n + 1) ts (omega (arith, low)) all.1 i

  bits_full : (n : ℕ) (ts : List Tree) → n + length ts ≤ 34 → AllFields register ts → map own_bits (fulls n ts) ≡ map own_bits (map told ts)
  unfolding full_fields
  bits_full n [] low all = refl
  bits_full n (t ∷ ts) low all = λ i.
      (full_bits register t rv n word (omega (arith, low)) head all.0 ∙ sym all.0.own) i ∷ bits_full (n + 1) ts (omega (arith, low)) all.1 i

  narrow_full : (n : ℕ) (ts : List Tree) → n + length ts ≤ 34 → AllFields register ts → list_all is_narrow (map told ts) ≡ true → list_all is_narrow (fulls n ts) ≡ true
  unfolding full_fields
  narrow_full n [] low all narrow = refl
  narrow_full n (t ∷ ts) low all narrow =
      let both = and_parts (is_narrow (told t)) (list_all is_narrow (map told ts)) narrow in
      λ i. full_narrow register t rv n word (omega (arith, low)) head all.0 both.0 i && narrow_full (n + 1) ts (omega (arith, low)) all.1 both.1 i

-- ---- the head of a register

name_needed : (o : Option Data) → key_good (needs (codes "name") (Name ∷ [])) o ≡ true → is_name name_limit (text_or_empty (option_and_then as_str o)) ≡ true
name_needed None h = absurd cc
name_needed (Some e) h = by (as_str e) (only_form Name e h) where
  by : (s : Option (List ℕ)) → option_map_or (is_name name_limit) s false ≡ true → is_name name_limit (text_or_empty s) ≡ true
  by None h = absurd cc
  by (Some s) h = h

-- the rows of a register, and more
abbrev pub rows : List Key → List Key
rows more = register_keys ++ more

-- what stands at the key of a row, if anything, has one of its forms
row_fits : (more : List Key) (k : Key) (d : Data) → Among k (rows more) → table_good (rows more) d ≡ true → fit_at_told k.forms k.key d ≡ true
row_fits more k d among good = may_fit k (get k.key d) (row_good (rows more) k d among good)

head_is_good : (t : Tree) (more : List Key) → table_good (rows more) (told t) ≡ true → HeadIsGood t
unfolding shared_of
head_is_good t more table = record {
  name = ap (λ o. is_name name_limit (text_or_empty o)) (text_at_told (codes "name") t)
      ∙ name_needed (get (codes "name") (told t)) (row_good (rows more) (needs (codes "name") (Name ∷ [])) (told t) (inl refl) table);
  kind = row_fits more (may (codes "swaccess") (Word Software ∷ [])) (told t) (inr (inl refl)) table;
  hardware_kind = row_fits more (may (codes "hwaccess") (Word Hardware ∷ [])) (told t) (inr (inr (inl refl))) table;
}

-- ---- registers

-- what is put into a register
pub record RegisterPut (ks : List Key) (ps : List Pair) (ms : List Member) (reset : Option ℕ) : Type 0 where
  pub puts : Puts ks ps
  pub fields : last_at (codes "fields") ps ≡ Some (list_of (full_fields (shared_of ms) (register_reset ms) 1 (elements (codes "fields") ms)))
  pub resval : last_at (codes "resval") ps ≡ option_map number_of reset
  pub hwext : last_at (codes "hwext") ps ≡ Some (boolean (is_true (codes "hwext") ms))
  pub shadowed : last_at (codes "shadowed") ps ≡ Some (boolean (is_true (codes "shadowed") ms))
  pub async : last_at (codes "async") ps ≡ None
  pub sync : last_at (codes "sync") ps ≡ None
  pub alias_target : last_at (codes "alias_target") ps ≡ None

reset_by : (d e : Data) (o : Option ℕ) → IsWord o → o ≡ reset_told d → get (codes "resval") e ≡ or_else (option_map number_of o) (get (codes "resval") d)
    → reset_told e ≡ reset_told d
reset_by d e None word is there = ap (λ o. boolean_or_number false (option_and_then boolean_told_in o) (option_and_then (number_told_in 0 4294967295) o)) there
reset_by d e (Some v) word is there =
    ap (λ o. boolean_or_number false (option_and_then boolean_told_in o) (option_and_then (number_told_in 0 4294967295) o)) there ∙ number_back v (word v refl) ∙ is

-- the values of a register that break no rule, each by itself
record FieldValues (d : Data) : Type 0 where
  some : has_some (map own_bits (elements_of (codes "fields") d)) ≡ true
  good : list_all is_some (map own_bits (elements_of (codes "fields") d)) ≡ true
  apart : are_apart [] (map own_bits (elements_of (codes "fields") d)) ≡ true
  narrow : list_all is_narrow (elements_of (codes "fields") d) ≡ true
  reset : not (strays (map own_bits (elements_of (codes "fields") d)) (reset_told d)) ≡ true

module _ (t : Tree) (more : List Key) (ps : List Pair) (is : is_object (told t) ≡ true) (keys : register_good (rows more) (told t) ≡ true)
    (values : register_values_good (told t) ≡ true) (put : RegisterPut (rows more) ps (members_of t) (register_reset (members_of t))) where
  abbrev d : Data
  d = told t

  abbrev full : Data
  full = with_all ps d

  abbrev ts : List Tree
  ts = elements (codes "fields") (members_of t)

  abbrev rv : Option ℕ
  rv = register_reset (members_of t)

  abbrev fs : List Data
  fs = full_fields (shared_of (members_of t)) rv 1 ts

  ts_told : map told ts ≡ elements_of (codes "fields") d
  ts_told = elements_told (codes "fields") t

  table : table_good (rows more) d ≡ true
  table = table_of (rows more) d is (and_parts (object_good (rows more) d) _ keys).0

  head : HeadIsGood t
  head = head_is_good t more table

  outside : is_inside d ≡ true
  outside = (and_parts (is_inside d) _ (and_parts (object_good (rows more) d) _ keys).1).0

  are_objects : list_all is_object (map told ts) ≡ true
  are_objects =
      ap (list_all is_object) ts_told
      ∙ (and_parts (list_all is_object (elements_of (codes "fields") d)) _ (and_parts (is_inside d) _ (and_parts (object_good (rows more) d) _ keys).1).1).0

  are_good : list_all (field_good d) (map told ts) ≡ true
  are_good =
      ap (list_all (field_good d)) ts_told
      ∙ (and_parts (list_all is_object (elements_of (codes "fields") d)) _ (and_parts (is_inside d) _ (and_parts (object_good (rows more) d) _ keys).1).1).1

  abbrev own : List (Option Bits)
  own = map own_bits (elements_of (codes "fields") d)

  field_values : FieldValues d
  field_values =
      let a = and_parts (has_some own) _ values in
      let b = and_parts (list_all is_some own) _ a.1 in
      let c = and_parts (are_apart [] own) _ b.1 in
      let e = and_parts (list_all is_narrow (elements_of (codes "fields") d)) _ c.1 in
      record { some = a.0; good = b.0; apart = c.0; narrow = e.0; reset = e.1 }

  are_some : list_all is_some (map own_bits (map told ts)) ≡ true
  are_some = ap (λ es. list_all is_some (map own_bits es)) ts_told ∙ field_values.good

  all : AllFields t ts
  all = all_fields t ts are_objects are_good are_some

  few : 1 + length ts ≤ 34
  few =
      let bits : length (map own_bits (map told ts)) ≤ 32 = few_bits (map own_bits (map told ts)) (all_bits ts are_some) (ap (λ es. are_apart [] (map own_bits es)) ts_told ∙ field_values.apart) in
      let many : length (map own_bits (map told ts)) ≡ length ts = length-map (map told ts) own_bits ∙ length-map ts told in
      omega (arith, bits, many)

  -- its fields
  pub full_elements : elements_of (codes "fields") full ≡ fs
  full_elements = ap items_told_at (has_put (codes "fields") ps d (list_of fs) is put.fields) ∙ listed_items fs

  same_absent : (key : List ℕ) → last_at key ps ≡ None → is_absent key full ≡ is_absent key d
  same_absent key none = ap (λ o. option_map_or (λ (e : Data). false) o true) (keeps key ps d is none)

  -- ---- shadowed registers

  full_true : (key : List ℕ) → last_at key ps ≡ Some (boolean (is_true key (members_of t))) → is_true_told key full ≡ is_true_told key d
  full_true key put =
      ap (λ o. unwrap_or (option_and_then boolean_told_in o) false) (has_put key ps d (boolean (is_true key (members_of t))) is put) ∙ ap (λ o. unwrap_or o false) (boolean_at_told key t)

  same_other : has_other full ≡ has_other d
  same_other = λ i.
      full_true (codes "hwext") put.hwext i
      || (ap (list_any (takes_other full)) full_elements ∙ takes_full t rv (register_word (members_of t)) head full 1 ts few all
      ∙ ap (list_any (takes_other d)) ts_told) i

  judged : is_judged d ≡ true
  judged = λ i.
      row_fits more (may (codes "hwext") (Boolean ∷ [])) d (inr (inr (inr (inl refl)))) table i
      && (row_fits more (needs (codes "fields") (Items ∷ [])) d (inr (inr (inr (inr (inr (inr (inr (inr (inr (inl refl)))))))))) table i
      && (sym (ap (list_all (kinds_good d)) ts_told) ∙ kinds_full t rv (register_word (members_of t)) head 1 ts few all) i)

  shadow_by : (is_judged_full other shadowed : Bool) → cond (true && other) (not shadowed) true ≡ true → cond (is_judged_full && other) (not shadowed) true ≡ true
  shadow_by true other shadowed h = h
  shadow_by false other shadowed h = refl

  shadow_stays : shadow_good full ≡ true
  shadow_stays =
      (λ i. cond (is_judged full && same_other i) ((not_true_is (codes "shadowed") full ∙ ap not (full_true (codes "shadowed") put.shadowed)) i) true)
      ∙ shadow_by (is_judged full) (has_other d) (is_true_told (codes "shadowed") d)
      ((λ i. cond (sym judged i && has_other d) (sym (not_true_is (codes "shadowed") d) i) true) ∙ (and_parts (shadow_good d) _ outside).0)

  inside : is_inside full ≡ true
  inside =
      (λ i. shadow_stays i && (same_absent (codes "async") put.async i && (same_absent (codes "sync") put.sync i && same_absent (codes "alias_target") put.alias_target i)))
      ∙ (and_parts (shadow_good d) _ outside).1

  -- no rule on keys
  pub register_keys_stay : register_good (rows more) full ≡ true
  register_keys_stay = λ i.
      object_completed (rows more) ps d is put.puts (and_parts (object_good (rows more) d) _ keys).0 i
      && (inside i && ((ap (list_all is_object) full_elements ∙ objects_full t rv (register_word (members_of t)) head 1 ts all) i
      && (ap (list_all (field_good full)) full_elements ∙ good_full t rv (register_word (members_of t)) head full 1 ts few all) i))

  same_bits : map own_bits (elements_of (codes "fields") full) ≡ own
  same_bits = ap (map own_bits) full_elements ∙ bits_full t rv (register_word (members_of t)) head 1 ts few all ∙ ap (map own_bits) ts_told

  same_reset : reset_told full ≡ reset_told d
  same_reset =
      reset_by d full rv (register_word (members_of t)) (reset_by_told t) (found_in_completed (codes "resval") ps d is ∙ ap (λ o. or_else o (get (codes "resval") d)) put.resval)

  are_narrow : list_all is_narrow (elements_of (codes "fields") full) ≡ true
  are_narrow =
      ap (list_all is_narrow) full_elements
      ∙ narrow_full t rv (register_word (members_of t)) head 1 ts few all (ap (list_all is_narrow) ts_told ∙ field_values.narrow)

  -- and none on values
  pub register_values_stay : register_values_good full ≡ true
  register_values_stay = λ i.
      (ap has_some same_bits ∙ field_values.some) i && ((ap (list_all is_some) same_bits ∙ field_values.good) i && ((ap (are_apart []) same_bits ∙ field_values.apart) i
      && (are_narrow i && ((λ j. not (strays (same_bits j) (same_reset j))) ∙ field_values.reset) i)))
