-- Completed sections and address spaces of a top break no rule.
use Rattle.std.proofs.Common.{◌≡◌, ℕ, Bool, true, ◌&&◌, nat_le, length, List, [], ◌∷◌, ◌++◌, map, Option, Some, None, option_map, codes, arith, refl, sym, ap, ◌∙◌}
use Rattle.std.proofs.lemmas.Bool.{and_parts}
use Rattle.std.proofs.lemmas.Bool.Decides.{nat_tests}
use Rattle.std.proofs.lemmas.List.{length-map}
use Rattle.std.specs.List.{list_all}
use Rattle.std.specs.Option.{option_map_or}
use Rattle.serde_json.specs.Data.{Data, Items}
use Rattle.serde_json.specs.Find.{as_array, get}
use Rattle.serde_json.specs.View.{items_of as json_items}
use Rattle.cg_finding.specs.Finding.{Finding}
use Rattle.cg_hjson.specs.declared.tree.Tree.{Tree}
use Rattle.cg_keys.specs.Elements.{each_faults, element_faults, elements, length_faults, object_faults}
use Rattle.cg_keys.specs.Forms.{is_name, or_else}
use Rattle.cg_keys.specs.Table.{Key, value_at}
use Rattle.cg_keys.specs.Values.{members_of, or_empty}
use Rattle.cg_topread.specs.Listed.{at_key, clocks_faults, names_faults, pinmux_faults, pinout_faults, resets_faults, spaces_faults}
use Rattle.cg_topread.specs.Tables.{clocks_keys, named_keys, pinmux_keys, pinout_keys, resets_keys, signal_keys}
use Rattle.cg_blkdone.specs.Full.{Pair, list_of, list_pair, with_all}
use Rattle.cg_blkdone.proofs.Completion.{by_either}
use Rattle.cg_blkdone.proofs.EachMember.{completed_or_told}
use Rattle.cg_blkdone.proofs.FieldLists.{listed_items}
use Rattle.cg_blkdone.proofs.Lookups.{elements_told, found_in_completed, is_object, items_told_at, no_object_stays}
use Rattle.cg_blkdone.proofs.SoundCompleted.{object_completed}
use Rattle.cg_blkdone.proofs.SoundNone.{is_none, none_by_both}
use Rattle.cg_blkdone.proofs.SoundParted.{length_at}
use Rattle.cg_blkdone.proofs.SoundParts.{Stays, all_good, completed, parts_stay}
use Rattle.cg_blkdone.proofs.SoundTables.{length_good, none_of_each_object, none_of_element_list, none_of_length, none_of_object, object_good, objects_good}
use Rattle.cg_blkdone.proofs.Told.{found_told, listed, told}
use Rattle.cg_done.specs.FullTop.{as_it_stands, full_clocks, full_pinmux, full_pinout, full_signal, one_space, value_or}

-- ---- lists

none_of_objects : (ks : List Key) (key : List ℕ) (t : Tree) → is_none (element_faults key (members_of t) ++ each_faults ks (elements key (members_of t))) ≡ objects_good ks key (told t)
none_of_objects ks key t =
    none_by_both (element_faults key (members_of t)) (each_faults ks (elements key (members_of t))) _ _ (none_of_element_list key t) (none_of_each_object ks key t)

-- what is found of a list of objects with names
pub none_of_names : (key : List ℕ) (t : Tree) → is_none (names_faults key (members_of t)) ≡ objects_good named_keys key (told t)
unfolding names_faults
none_of_names key t = none_of_objects named_keys key t

-- the completed elements are good where the elements are
list_good : (ks : List Key) (full : Tree → Data) (key : List ℕ) (t : Tree) (o : Option Data) → Stays ks full → objects_good ks key (told t) ≡ true
    → o ≡ Some (list_of (map full (elements key (members_of t)))) → all_good ks (items_told_at o) ≡ true
list_good ks full key t o stays good put =
    ap (λ p. all_good ks (items_told_at p)) put ∙ ap (all_good ks) (listed_items (map full (elements key (members_of t))))
    ∙ parts_stay ks full stays (elements key (members_of t)) (ap (all_good ks) (elements_told key t) ∙ good)

-- so many at most
abbrev in_length : ℕ → List Data → Bool
in_length most ds = nat_le 0 (length ds) && nat_le (length ds) most

none_in_length : (most : ℕ) → in_length most [] ≡ true
none_in_length most = let first : nat_le 0 0 ≡ true = refl in let second : nat_le 0 most ≡ true = grind (arith, nat_tests) in λ i. first i && second i

length_by : (most : ℕ) (o : Option Data) → option_map_or (length_good 0 most) o true ≡ true → in_length most (items_told_at o) ≡ true
length_by most None h = none_in_length most
length_by most (Some e) h = by (as_array e) h where
  by : (a : Option Items) → option_map_or (in_length most) (option_map listed a) true ≡ true → in_length most (or_empty (option_map listed a)) ≡ true
  by None h = none_in_length most
  by (Some ds) h = h

-- the completed list is as long
pub length_stays : (most : ℕ) (full : Tree → Data) (key : List ℕ) (t : Tree) (o : Option Data) → length_at 0 most key (told t) ≡ true
    → o ≡ Some (list_of (map full (elements key (members_of t)))) → option_map_or (length_good 0 most) o true ≡ true
length_stays most full key t o good put =
    let es = elements key (members_of t) in
    let as_many : length (listed (json_items (map full es))) ≡ length (items_told_at (get key (told t))) =
    ap length (listed_items (map full es)) ∙ length-map es full ∙ sym (length-map es told) ∙ ap length (elements_told key t) in
    ap (λ p. option_map_or (length_good 0 most) p true) put ∙ ap (λ n. nat_le 0 n && nat_le n most) as_many ∙ length_by most (get key (told t)) good

-- ---- clocks and resets

-- clocks break nothing
abbrev pub clocks_good : Data → Bool
clocks_good d = object_good clocks_keys d && (objects_good named_keys (codes "srcs") d && objects_good named_keys (codes "derived_srcs") d)

-- by what they tell
pub none_of_clocks : (t : Tree) → is_none (clocks_faults t) ≡ clocks_good (told t)
unfolding clocks_faults
none_of_clocks t =
    none_by_both (object_faults clocks_keys t) _ _ _ (none_of_object clocks_keys t)
    (none_by_both (names_faults (codes "srcs") (members_of t)) (names_faults (codes "derived_srcs") (members_of t)) _ _
    (none_of_names (codes "srcs") t) (none_of_names (codes "derived_srcs") t))

-- completed clocks break nothing where the clocks break nothing
pub clocks_stay : (t : Tree) → clocks_good (told t) ≡ true → clocks_good (full_clocks t) ≡ true
unfolding full_clocks
clocks_stay t good =
    let ps : List Pair = list_pair (codes "derived_srcs") as_it_stands (members_of t) ∷ [] in
    let first = and_parts (object_good clocks_keys (told t)) _ good in
    let second = and_parts (objects_good named_keys (codes "srcs") (told t)) _ first.1 in
    by_either (is_object (told t))
    (λ is.
    let table = object_completed clocks_keys ps (told t) is (tt, (refl, tt)) first.0 in
    let sources = ap (λ o. all_good named_keys (items_told_at o)) (found_in_completed (codes "srcs") ps (told t) is) ∙ second.0 in
    let derived = list_good named_keys as_it_stands (codes "derived_srcs") t (get (codes "derived_srcs") (with_all ps (told t))) (λ v is_good. is_good) second.1
    (found_in_completed (codes "derived_srcs") ps (told t) is) in
    λ i. table i && (sources i && derived i))
    (λ is. ap clocks_good (no_object_stays ps (told t) is) ∙ good)

-- resets break nothing
abbrev pub resets_good : Data → Bool
resets_good d = object_good resets_keys d && objects_good named_keys (codes "nodes") d

-- by what they tell
pub none_of_resets : (t : Tree) → is_none (resets_faults t) ≡ resets_good (told t)
unfolding resets_faults
none_of_resets t =
    none_by_both (object_faults resets_keys t) (names_faults (codes "nodes") (members_of t)) _ _ (none_of_object resets_keys t) (none_of_names (codes "nodes") t)

-- ---- pads and signals

-- pads break nothing
abbrev pub pads_good : Data → Bool
pads_good d = object_good pinout_keys d && (length_at 0 256 (codes "pads") d && objects_good named_keys (codes "pads") d)

-- by what they tell
pub none_of_pads : (t : Tree) → is_none (pinout_faults t) ≡ pads_good (told t)
unfolding pinout_faults
none_of_pads t =
    none_by_both (object_faults pinout_keys t) _ _ _ (none_of_object pinout_keys t)
    (none_by_both (length_faults 0 256 (codes "pads") (members_of t)) (names_faults (codes "pads") (members_of t)) _ _
    (none_of_length 0 256 (codes "pads") t) (none_of_names (codes "pads") t))

-- completed pads break nothing where the pads break nothing
pub pads_stay : (t : Tree) → pads_good (told t) ≡ true → pads_good (full_pinout t) ≡ true
unfolding full_pinout
pads_stay t good =
    let ps : List Pair = list_pair (codes "pads") as_it_stands (members_of t) ∷ [] in
    let first = and_parts (object_good pinout_keys (told t)) _ good in
    let second = and_parts (length_at 0 256 (codes "pads") (told t)) _ first.1 in
    by_either (is_object (told t))
    (λ is.
    let put = found_in_completed (codes "pads") ps (told t) is in
    let table = object_completed pinout_keys ps (told t) is (refl, tt) first.0 in
    let length = length_stays 256 as_it_stands (codes "pads") t (get (codes "pads") (with_all ps (told t))) second.0 put in
    let names = list_good named_keys as_it_stands (codes "pads") t (get (codes "pads") (with_all ps (told t))) (λ v is_good. is_good) second.1 put in
    λ i. table i && (length i && names i))
    (λ is. ap pads_good (no_object_stays ps (told t) is) ∙ good)

-- signals break nothing
abbrev pub signals_good : Data → Bool
signals_good d = object_good pinmux_keys d && (length_at 0 1024 (codes "signals") d && objects_good signal_keys (codes "signals") d)

-- by what they tell
pub none_of_signals : (t : Tree) → is_none (pinmux_faults t) ≡ signals_good (told t)
unfolding pinmux_faults
none_of_signals t =
    none_by_both (object_faults pinmux_keys t) _ _ _ (none_of_object pinmux_keys t)
    (none_by_both (length_faults 0 1024 (codes "signals") (members_of t)) _ _ _
    (none_of_length 0 1024 (codes "signals") t) (none_of_objects signal_keys (codes "signals") t))

signal_stays : Stays signal_keys full_signal
unfolding full_signal
signal_stays t good = completed signal_keys _ t good (tt, (refl, (tt, (tt, tt))))

-- completed signals break nothing where the signals break nothing
pub signals_stay : (t : Tree) → signals_good (told t) ≡ true → signals_good (full_pinmux t) ≡ true
unfolding full_pinmux
signals_stay t good =
    let ps : List Pair = list_pair (codes "signals") full_signal (members_of t) ∷ [] in
    let first = and_parts (object_good pinmux_keys (told t)) _ good in
    let second = and_parts (length_at 0 1024 (codes "signals") (told t)) _ first.1 in
    by_either (is_object (told t))
    (λ is.
    let put = found_in_completed (codes "signals") ps (told t) is in
    let table = object_completed pinmux_keys ps (told t) is (refl, tt) first.0 in
    let length = length_stays 1024 full_signal (codes "signals") t (get (codes "signals") (with_all ps (told t))) second.0 put in
    let objects = list_good signal_keys full_signal (codes "signals") t (get (codes "signals") (with_all ps (told t))) signal_stays second.1 put in
    λ i. table i && (length i && objects i))
    (λ is. ap signals_good (no_object_stays ps (told t) is) ∙ good)

-- ---- sections

-- what is found at a key, by what is told there
pub none_at_key : (faults : Tree → List Finding) (good : Data → Bool) → ((t : Tree) → is_none (faults t) ≡ good (told t)) → (key : List ℕ) (t : Tree)
    → is_none (at_key faults key (members_of t)) ≡ option_map_or good (get key (told t)) true
none_at_key faults good same key t = by (value_at key (members_of t)) ∙ ap (λ o. option_map_or good o true) (found_told key t) where
  by : (o : Option Tree) → is_none (option_map_or faults o []) ≡ option_map_or good (option_map told o) true
  by None = refl
  by (Some v) = same v

-- a section that is completed where it is there breaks nothing
pub section_stays : (full : Tree → Data) (good : Data → Bool) → ((v : Tree) → good (told v) ≡ true → good (full v) ≡ true) → (key : List ℕ) (t : Tree) (o : Option Data)
    → o ≡ or_else (option_map full (value_at key (members_of t))) (get key (told t)) → option_map_or good (get key (told t)) true ≡ true → option_map_or good o true ≡ true
section_stays full good stays key t o put none =
    ap (λ p. option_map_or good p true)
    (put ∙ ap (or_else (option_map full (value_at key (members_of t)))) (sym (found_told key t)) ∙ completed_or_told full (value_at key (members_of t)))
    ∙ by (value_at key (members_of t)) (ap (λ p. option_map_or good p true) (found_told key t) ∙ none) where
      by : (p : Option Tree) → option_map_or good (option_map told p) true ≡ true → option_map_or good (option_map full p) true ≡ true
      by None h = refl
      by (Some v) h = stays v h

-- ---- address spaces

-- what is told at `addr_spaces` breaks nothing
abbrev pub spaces_good : Option Data → Bool
spaces_good o = option_map_or (length_good 1 8) o true && (list_all is_object (items_told_at o) && list_all (object_good named_keys) (items_told_at o))

-- by what is told
pub none_of_spaces : (t : Tree) → is_none (spaces_faults (members_of t)) ≡ spaces_good (get (codes "addr_spaces") (told t))
unfolding spaces_faults
none_of_spaces t =
    none_by_both (length_faults 1 8 (codes "addr_spaces") (members_of t)) (names_faults (codes "addr_spaces") (members_of t)) _ _
    (none_of_length 1 8 (codes "addr_spaces") t) (none_of_names (codes "addr_spaces") t)

-- the address spaces that are there or by default break nothing
pub spaces_stay : (t : Tree) → spaces_good (get (codes "addr_spaces") (told t)) ≡ true
    → spaces_good (Some (value_or one_space (value_at (codes "addr_spaces") (members_of t)))) ≡ true
unfolding is_name
spaces_stay t good = by (value_at (codes "addr_spaces") (members_of t)) (ap spaces_good (found_told (codes "addr_spaces") t) ∙ good) where
  by : (o : Option Tree) → spaces_good (option_map told o) ≡ true → spaces_good (Some (value_or one_space o)) ≡ true
  by None h = refl
  by (Some v) h = h
