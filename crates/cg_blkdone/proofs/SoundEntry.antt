-- Completed entries and lists of entries break no rule.
use Rattle.std.proofs.Common.{◌≡◌, ℕ, Bool, true, false, ◌&&◌, cond, codes, List, [], ◌∷◌, map, Option, Some, None, option_map, refl, sym, ap, ◌∙◌}
use Rattle.std.proofs.lemmas.Bool.{and_parts}
use Rattle.std.specs.List.{list_all}
use Rattle.std.specs.Option.{option_map_or}
use Rattle.serde_json.specs.Data.{Data}
use Rattle.serde_json.specs.Find.{get}
use Rattle.cg_hjson.specs.declared.tree.Tree.{Tree}
use Rattle.cg_keys.specs.Table.{value_at}
use Rattle.cg_keys.specs.Values.{items_of, members_of}
use Rattle.cg_keys.specs.declared.forms.Form.TheVariants.{Items}
use Rattle.cg_blkread.specs.Raw.{Parameter, number_or_zero}
use Rattle.cg_blkdone.specs.Full.{Pair, full_entries, full_entry, full_multireg, full_register, full_window, list_of, number_of, pair, register_pairs, said_with, with_all}
use Rattle.cg_blkdone.proofs.CompletedEntries.{word_low}
use Rattle.cg_blkdone.proofs.FieldLists.{listed_items}
use Rattle.cg_blkdone.proofs.Lookups.{is_object, items_told, items_told_in, object_stays}
use Rattle.cg_blkdone.proofs.Registers.{last_in_register}
use Rattle.cg_blkdone.proofs.SoundCompleted.{has_put, keeps, word_fits}
use Rattle.cg_blkdone.proofs.SoundCopies.{multireg_keys_stay, multireg_values_stay, register_stays, window_keys_stay, window_values_stay}
use Rattle.cg_blkdone.proofs.SoundEntries.{entry_good, is_absent, kind_good, kind_good_in, list_good}
use Rattle.cg_blkdone.proofs.SoundTables.{fits_one_told}
use Rattle.cg_blkdone.proofs.SoundValues.{kind_values, values_good}
use Rattle.cg_blkdone.proofs.Told.{found_told, told}

abbrev Value : Type 0
Value = Option Tree

abbrev full_by : Tree → Value → Value → Value → Value → Data
full_by t m w s r =
    option_map_or (λ m. said_with (pair (codes "multireg") (full_multireg m) ∷ []) t) m
    (option_map_or (λ w. said_with (pair (codes "window") (full_window w) ∷ []) t) w
    (option_map_or (λ s. said_with (pair (codes "skipto") (number_of (number_or_zero s)) ∷ []) t) s
    (option_map_or (λ r. said_with (pair (codes "reserved") (number_of (number_or_zero r)) ∷ []) t) r
    (full_register t))))

-- what a value tells at the keys of an entry
record Tells (d : Data) (m w s r : Option Data) : Type 0 where
  multireg : get (codes "multireg") d ≡ m
  window : get (codes "window") d ≡ w
  skipto : get (codes "skipto") d ≡ s
  reserved : get (codes "reserved") d ≡ r

-- an entry that breaks no rule
record IsFine (params : List Parameter) (d e : Data) : Type 0 where
  is : is_object e ≡ true
  keys : kind_good_in e ≡ true
  values : values_good params e ≡ true
  address : get (codes "sameaddr") e ≡ get (codes "sameaddr") d

module _ (params : List Parameter) (t : Tree) (is : is_object (told t) ≡ true) where
  abbrev d : Data
  d = told t

  multireg_fine : (m : Tree) (w s r : Value) → kind_good d (Some (told m)) (option_map told w) (option_map told s) (option_map told r) ≡ true
      → kind_values params d (Some (told m)) (option_map told w) (option_map told s) (option_map told r) ≡ true → IsFine params d (full_by t (Some m) w s r)
  multireg_fine m w s r keys values =
      let ps : List Pair = pair (codes "multireg") (full_multireg m) ∷ [] in
      let e : Data = with_all ps d in
      let there = has_put (codes "multireg") ps d (full_multireg m) is refl in
      record {
        is = object_stays ps d is;
        keys = ap (λ o. kind_good e o (get (codes "window") e) (get (codes "skipto") e) (get (codes "reserved") e)) there ∙ multireg_keys_stay params m keys values;
        values = ap (λ o. kind_values params e o (get (codes "window") e) (get (codes "skipto") e) (get (codes "reserved") e)) there ∙ multireg_values_stay params m keys values;
        address = keeps (codes "sameaddr") ps d is refl;
      }

  window_fine : (w : Tree) (s r : Value) → Tells d None (Some (told w)) (option_map told s) (option_map told r)
      → kind_good d None (Some (told w)) (option_map told s) (option_map told r) ≡ true
      → kind_values params d None (Some (told w)) (option_map told s) (option_map told r) ≡ true → IsFine params d (full_by t None (Some w) s r)
  window_fine w s r tells keys values =
      let ps : List Pair = pair (codes "window") (full_window w) ∷ [] in
      let e : Data = with_all ps d in
      let none = keeps (codes "multireg") ps d is refl ∙ tells.multireg in
      let there = has_put (codes "window") ps d (full_window w) is refl in
      record {
        is = object_stays ps d is;
        keys = (λ i. kind_good e (none i) (there i) (get (codes "skipto") e) (get (codes "reserved") e)) ∙ window_keys_stay w keys;
        values = (λ i. kind_values params e (none i) (there i) (get (codes "skipto") e) (get (codes "reserved") e)) ∙ window_values_stay params w keys values;
        address = keeps (codes "sameaddr") ps d is refl;
      }

  skip_fine : (s : Tree) (r : Value) → Tells d None None (Some (told s)) (option_map told r) → IsFine params d (full_by t None None (Some s) r)
  skip_fine s r tells =
      let v : Data = number_of (number_or_zero s) in
      let ps : List Pair = pair (codes "skipto") v ∷ [] in
      let e : Data = with_all ps d in
      let first = keeps (codes "multireg") ps d is refl ∙ tells.multireg in
      let second = keeps (codes "window") ps d is refl ∙ tells.window in
      let there = has_put (codes "skipto") ps d v is refl in
      record {
        is = object_stays ps d is;
        keys = (λ i. kind_good e (first i) (second i) (there i) (get (codes "reserved") e)) ∙ word_fits [] (number_or_zero s) (word_low s);
        values = λ i. kind_values params e (first i) (second i) (there i) (get (codes "reserved") e);
        address = keeps (codes "sameaddr") ps d is refl;
      }

  reserved_fine : (r : Tree) → Tells d None None None (Some (told r)) → IsFine params d (full_by t None None None (Some r))
  reserved_fine r tells =
      let v : Data = number_of (number_or_zero r) in
      let ps : List Pair = pair (codes "reserved") v ∷ [] in
      let e : Data = with_all ps d in
      let first = keeps (codes "multireg") ps d is refl ∙ tells.multireg in
      let second = keeps (codes "window") ps d is refl ∙ tells.window in
      let third = keeps (codes "skipto") ps d is refl ∙ tells.skipto in
      let there = has_put (codes "reserved") ps d v is refl in
      record {
        is = object_stays ps d is;
        keys = (λ i. kind_good e (first i) (second i) (third i) (there i)) ∙ word_fits [] (number_or_zero r) (word_low r);
        values = λ i. kind_values params e (first i) (second i) (third i) (there i);
        address = keeps (codes "sameaddr") ps d is refl;
      }

  register_fine : Tells d None None None None → kind_good d None None None None ≡ true → kind_values params d None None None None ≡ true
      → IsFine params d (full_by t None None None None)
  register_fine tells keys values =
      let ps : List Pair = register_pairs (members_of t) in
      let e : Data = with_all ps d in
      let first = keeps (codes "multireg") ps d is (last_in_register (codes "multireg") (members_of t)) ∙ tells.multireg in
      let second = keeps (codes "window") ps d is (last_in_register (codes "window") (members_of t)) ∙ tells.window in
      let third = keeps (codes "skipto") ps d is (last_in_register (codes "skipto") (members_of t)) ∙ tells.skipto in
      let fourth = keeps (codes "reserved") ps d is (last_in_register (codes "reserved") (members_of t)) ∙ tells.reserved in
      let stays = register_stays t is (record { keys = keys; values = values }) in
      record {
        is = object_stays ps d is;
        keys = (λ i. kind_good e (first i) (second i) (third i) (fourth i)) ∙ stays.keys;
        values = (λ i. kind_values params e (first i) (second i) (third i) (fourth i)) ∙ stays.values;
        address = keeps (codes "sameaddr") ps d is (last_in_register (codes "sameaddr") (members_of t));
      }

  fine_by : (m w s r : Value) → Tells d (option_map told m) (option_map told w) (option_map told s) (option_map told r)
      → kind_good d (option_map told m) (option_map told w) (option_map told s) (option_map told r) ≡ true
      → kind_values params d (option_map told m) (option_map told w) (option_map told s) (option_map told r) ≡ true → IsFine params d (full_by t m w s r)
  fine_by (Some m) w s r tells keys values = multireg_fine m w s r keys values
  fine_by None (Some w) s r tells keys values = window_fine w s r tells keys values
  fine_by None None (Some s) r tells keys values = skip_fine s r tells
  fine_by None None None (Some r) tells keys values = reserved_fine r tells
  fine_by None None None None tells keys values = register_fine tells keys values

  entry_fine : kind_good_in d ≡ true → values_good params d ≡ true → IsFine params d (full_entry t)
  unfolding full_entry
  entry_fine keys values =
      let at = λ (key : List ℕ). sym (found_told key t) in
      fine_by (value_at (codes "multireg") (members_of t)) (value_at (codes "window") (members_of t)) (value_at (codes "skipto") (members_of t)) (value_at (codes "reserved") (members_of t))
      (record { multireg = at (codes "multireg"); window = at (codes "window"); skipto = at (codes "skipto"); reserved = at (codes "reserved") })
      ((λ i. kind_good d (found_told (codes "multireg") t i) (found_told (codes "window") t i) (found_told (codes "skipto") t i) (found_told (codes "reserved") t i)) ∙ keys)
      ((λ i. kind_values params d (found_told (codes "multireg") t i) (found_told (codes "window") t i) (found_told (codes "skipto") t i) (found_told (codes "reserved") t i)) ∙ values)

-- ---- lists of entries

-- an entry that is an object, and breaks no rule
abbrev is_fine : List Parameter → Data → Bool
is_fine params d = is_object d && (entry_good d && values_good params d)

entry_stays : (params : List Parameter) (t : Tree) → is_fine params (told t) ≡ true → is_fine params (full_entry t) ≡ true
entry_stays params t fine =
    let first = and_parts (is_object (told t)) _ fine in
    let second = and_parts (entry_good (told t)) (values_good params (told t)) first.1 in
    let kind = and_parts (kind_good_in (told t)) (is_absent (codes "sameaddr") (told t))
    (ap (λ b. cond b (kind_good_in (told t) && is_absent (codes "sameaddr") (told t)) true) (sym first.0) ∙ second.0) in
    let done = entry_fine params t first.0 kind.0 second.1 in
    let absent : is_absent (codes "sameaddr") (full_entry t) ≡ true = ap (λ o. option_map_or (λ (e : Data). false) o true) done.address ∙ kind.1 in
    let good : entry_good (full_entry t) ≡ true = (λ i. cond (done.is i) (done.keys i && absent i) true) in
    λ i. done.is i && (good i && done.values i)

entries_stay : (params : List Parameter) (ts : List Tree) → list_all (is_fine params) (map told ts) ≡ true → list_all (is_fine params) (map full_entry ts) ≡ true
entries_stay params [] fine = refl
entries_stay params (t ∷ ts) fine =
    let both = and_parts (is_fine params (told t)) (list_all (is_fine params) (map told ts)) fine in
    λ i. entry_stays params t both.0 i && entries_stay params ts both.1 i

-- three tests of each item are one
joined : (p q r : Data → Bool) (ds : List Data) → list_all p ds ≡ true → list_all q ds ≡ true → list_all r ds ≡ true → list_all (λ d. p d && (q d && r d)) ds ≡ true
joined p q r [] a b c = refl
joined p q r (d ∷ ds) a b c =
    let x = and_parts (p d) (list_all p ds) a in
    let y = and_parts (q d) (list_all q ds) b in
    let z = and_parts (r d) (list_all r ds) c in
    λ i. (x.0 i && (y.0 i && z.0 i)) && joined p q r ds x.1 y.1 z.1 i

-- and one is three
record Apart (p q r : Data → Bool) (ds : List Data) : Type 0 where
  first : list_all p ds ≡ true
  second : list_all q ds ≡ true
  third : list_all r ds ≡ true

apart : (p q r : Data → Bool) (ds : List Data) → list_all (λ d. p d && (q d && r d)) ds ≡ true → Apart p q r ds
apart p q r [] h = record { first = refl; second = refl; third = refl }
apart p q r (d ∷ ds) h =
    let a = and_parts (p d && (q d && r d)) (list_all (λ d. p d && (q d && r d)) ds) h in
    let b = and_parts (p d) (q d && r d) a.0 in
    let c = and_parts (q d) (r d) b.1 in
    let rest = apart p q r ds a.1 in
    record { first = λ i. b.0 i && rest.first i; second = λ i. c.0 i && rest.second i; third = λ i. c.1 i && rest.third i }

-- a list of entries that breaks no rule
abbrev pub is_fine_list : List Parameter → Data → Bool
is_fine_list params d = list_good d && list_all (values_good params) (items_told_in d)

-- a completed list of entries breaks no rule
pub list_stays : (params : List Parameter) (t : Tree) → is_fine_list params (told t) ≡ true → is_fine_list params (full_entries t) ≡ true
list_stays params t fine =
    let first = and_parts (list_good (told t)) (list_all (values_good params) (items_told_in (told t))) fine in
    let second = and_parts (fits_one_told (Items ∷ []) (told t)) _ first.0 in
    let third = and_parts (list_all is_object (items_told_in (told t))) (list_all entry_good (items_told_in (told t))) second.1 in
    let each : list_all (is_fine params) (map told (items_of t)) ≡ true =
    ap (list_all (is_fine params)) (items_told t) ∙ joined is_object entry_good (values_good params) (items_told_in (told t)) third.0 third.1 first.1 in
    let ds : List Data = map full_entry (items_of t) in
    let all = apart is_object entry_good (values_good params) ds (entries_stay params (items_of t) each) in
    let items : items_told_in (list_of ds) ≡ ds = listed_items ds in
    λ i. ((ap (list_all is_object) items ∙ all.first) i && (ap (list_all entry_good) items ∙ all.second) i) && (ap (list_all (values_good params)) items ∙ all.third) i
