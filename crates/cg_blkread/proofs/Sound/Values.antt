-- The entries of the interfaces of a block of whose values nothing is found are valid.
use Rattle.std.proofs.Common.{ℕ, ◌≡◌, Bool, true, false, ◌||◌, cond, List, [], ◌∷◌, map, codes, Option, Some, None, refl, sym, ap, ◌∙◌}
use Rattle.std.proofs.lemmas.Grind.{flat_map-append}
use Rattle.std.proofs.lemmas.Slice.Eq.{bytes_eq-Decides}
use Rattle.std.specs.Bool.{⊤}
use Rattle.std.specs.Cmp.Lexicographic.{nat_list_eq_equiv}
use Rattle.std.specs.List.{flat_map, list_any}
use Rattle.std.specs.Option.{MatchOption}
use Rattle.std.specs.Str.{bytes_eq}
use Rattle.cg_svspec.specs.Printable.{AllOf}
use Rattle.cg_desc.specs.Valid.{IsValidEntry}
use Rattle.cg_hjson.specs.declared.tree.Tree.{Tree}
use Rattle.cg_hjson.specs.declared.tree.Member.{Member}
use Rattle.cg_keys.specs.Table.{value_at}
use Rattle.cg_keys.specs.Values.{items_of, members_of, object_in}
use Rattle.cg_blkread.specs.Described.{entries_in, entry_list_of, face_desc, list_in, list_of_value}
use Rattle.cg_blkread.specs.Interfaces.{EntryList, entry_lists, first_members, first_members_after, interface_name, lists_in, lists_of_value}
use Rattle.cg_blkread.specs.Raw.{Parameter, parameters, raw_entry}
use Rattle.cg_blkread.specs.Reads.{raw_entries, value_faults}
use Rattle.cg_blkread.specs.Values.{entry_values}
use Rattle.cg_blkread.specs.declared.raw.RawEntry.{RawEntry}
use Rattle.cg_blkread.proofs.Sound.Empty.{empty_parts}
use Rattle.cg_blkread.proofs.Sound.Entries.{valid_entries}
use Rattle.cg_blkread.proofs.Sound.Words.{EntryWords}

-- what is found in the entries of lists, list by list
lists_empty : (g : EntryList → List RawEntry) (ls : List EntryList) → flat_map entry_values (flat_map g ls) ≡ []
    → AllOf (λ l. flat_map entry_values (g l) ≡ []) ls
lists_empty g [] h = tt
lists_empty g (l ∷ ls) h =
    let parts = empty_parts (flat_map entry_values (g l)) (flat_map entry_values (flat_map g ls)) (sym (flat_map-append entry_values (g l) (flat_map g ls)) ∙ h) in
    (parts.0, lists_empty g ls parts.1)

-- the list of entries has good names, and nothing is found in its values
abbrev pub IsSoundList : List Parameter → Tree → Type 0
IsSoundList ps t = AllOf EntryWords (items_of t) × (flat_map entry_values (map (raw_entry ps) (items_of t)) ≡ [])

-- the value at a key is that of the first member of the key
first_at : (P : Tree → Type 0) (name : List ℕ) (before : List (List ℕ)) (ms : List Member) → list_any (bytes_eq name) before ≡ false
    → AllOf (λ (m : Member). P m.value) (first_members_after before ms) → MatchOption (value_at name ms) ⊤ P
unfolding first_members_after value_at
first_at P name before [] absent all = tt
first_at P name before (m ∷ ms) absent all =
    by (bytes_eq m.key name) (list_any (bytes_eq m.key) before) refl refl all (λ rest. first_at P name before ms absent rest)
    (λ other rest. first_at P name (m.key ∷ before) ms other rest) where
      by : (same known : Bool) → bytes_eq m.key name ≡ same → list_any (bytes_eq m.key) before ≡ known
          → AllOf (λ (n : Member). P n.value) (cond known (first_members_after before ms) (m ∷ first_members_after (m.key ∷ before) ms))
          → (AllOf (λ (n : Member). P n.value) (first_members_after before ms) → MatchOption (value_at name ms) ⊤ P)
          → (list_any (bytes_eq name) (m.key ∷ before) ≡ false → AllOf (λ (n : Member). P n.value) (first_members_after (m.key ∷ before) ms) → MatchOption (value_at name ms) ⊤ P)
          → MatchOption (cond same (Some m.value) (value_at name ms)) ⊤ P
      by true true e k held here later =
          let there : list_any (bytes_eq name) before ≡ true = ap (λ n. list_any (bytes_eq n) before) (sym ((bytes_eq-Decides m.key name).0 e)) ∙ k in cc
      by true false e k held here later = held.0
      by false true e k held here later = here held
      by false false e k held here later =
          later (ap (λ t. t || list_any (bytes_eq name) before) (nat_list_eq_equiv.symm name m.key ∙ e) ∙ absent) held.1

-- what holds of all lists of entries holds of that of an interface
pub list_has : (P : Tree → Type 0) (ms : List Member) (d : Tree) → AllOf (λ (l : EntryList). P l.value) (entry_lists ms) → MatchOption (entry_list_of ms d) ⊤ P
unfolding entry_lists entry_list_of
list_has P ms d all = by_value (value_at (codes "registers") ms) all where
  members_hold : (ns : List Member) → AllOf (λ (l : EntryList). P l.value) (map (λ (m : Member). record { key = m.key; value = m.value }) ns) → AllOf (λ (m : Member). P m.value) ns
  members_hold [] all = tt
  members_hold (n ∷ ns) all = (all.0, members_hold ns all.1)

  by_object : (t : Tree) (o : Option (List Member)) (name : Option (List ℕ)) → AllOf (λ (l : EntryList). P l.value) (lists_in t o) → MatchOption (list_in t name o) ⊤ P
  by_object t None name all = all.0
  by_object t (Some ns) None all = tt
  by_object t (Some ns) (Some name) all = first_at P name [] ns refl (members_hold (first_members ns) all)

  by_value : (o : Option Tree) → AllOf (λ (l : EntryList). P l.value) (lists_of_value o) → MatchOption (list_of_value o (interface_name d)) ⊤ P
  by_value None all = tt
  by_value (Some t) all = by_object t (object_in t) (interface_name d) all

-- the entries of a list, or none where there is no list
entries_of_list : (ps : List Parameter) (o : Option Tree) → MatchOption o ⊤ (IsSoundList ps) → AllOf IsValidEntry (entries_in ps o)
entries_of_list ps None sound = tt
entries_of_list ps (Some t) sound = valid_entries ps (items_of t) sound.0 sound.1

all_sound : (ps : List Parameter) (ls : List EntryList) → AllOf (λ (l : EntryList). AllOf EntryWords (items_of l.value)) ls
    → AllOf (λ (l : EntryList). flat_map entry_values (map (raw_entry ps) (items_of l.value)) ≡ []) ls → AllOf (λ (l : EntryList). IsSoundList ps l.value) ls
all_sound ps [] words values = tt
all_sound ps (l ∷ ls) words values = ((words.0, values.0), all_sound ps ls words.1 values.1)

-- the entries of an interface of a block in whose entries the names are words, and of whose values nothing is found
pub valid_interface_entries : (t d : Tree) → AllOf (λ (l : EntryList). AllOf EntryWords (items_of l.value)) (entry_lists (members_of t)) → value_faults t ≡ []
    → AllOf IsValidEntry (face_desc (members_of t) d).entries
unfolding face_desc value_faults raw_entries
valid_interface_entries t d words h =
    let ms = members_of t in
    let values = lists_empty (λ (l : EntryList). map (raw_entry (parameters ms)) (items_of l.value)) (entry_lists ms) h in
    entries_of_list (parameters ms) (entry_list_of ms d)
    (list_has (IsSoundList (parameters ms)) ms d (all_sound (parameters ms) (entry_lists ms) words values))
