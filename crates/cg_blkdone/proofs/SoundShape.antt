-- The lists of entries of a completed block, and what is asked of them together with the interfaces.
use Rattle.std.proofs.Common.{◌≡◌, ℕ, ◌==◌, Bool, true, false, not, ◌&&◌, ◌||◌, is_some, length, bytes_eq, List, [], ◌∷◌, map, Option, Some, None, option_map, refl, sym, ap, ◌∙◌}
use Rattle.std.proofs.lemmas.Bool.{and_parts}
use Rattle.std.proofs.lemmas.List.{length-map}
use Rattle.std.specs.List.{flat_map, list_all, list_any}
use Rattle.std.specs.Option.{option_map_or}
use Rattle.serde_json.specs.Data.{Data, array}
use Rattle.serde_json.specs.Data as json
use Rattle.serde_json.specs.Find.{as_array, get}
use Rattle.cg_desc.specs.declared.place.At.{At}
use Rattle.cg_finding.specs.Finding.{Finding, finding}
use Rattle.cg_hjson.specs.declared.tree.Tree.{Tree}
use Rattle.cg_hjson.specs.declared.tree.Member.{Member}
use Rattle.cg_keys.specs.Forms.{or_else}
use Rattle.cg_keys.specs.Table.{value_at}
use Rattle.cg_keys.specs.Values.{array_in, items_of, members_of, object_in, or_empty}
use Rattle.cg_blkread.specs.Interfaces.{EntryList, asks_for_list, first_members, first_members_after, has_stray_entries, interface_name, is_entry_less, lists_in, missing_list, names_device}
use Rattle.cg_blkdone.specs.Full.{entries_pairs, full_entries, full_entry}
use Rattle.cg_blkdone.specs.Full.{lists_in as completed_lists}
use Rattle.cg_blkdone.proofs.Completion.{Completed, stands_at}
use Rattle.cg_blkdone.proofs.FieldLists.{listed_items}
use Rattle.cg_blkdone.proofs.CompletedLists.{last_entries}
use Rattle.cg_blkdone.proofs.Lookups.{is_object, object_stays}
use Rattle.cg_blkdone.proofs.Once.{AreOnce}
use Rattle.cg_blkdone.proofs.Puts.{last_at}
use Rattle.cg_blkdone.proofs.SoundInterfaces.{name_by_told, name_told}
use Rattle.cg_blkdone.proofs.SoundMembers.{any_none, apart, each_passes, first_pass, first_passes, none_any}
use Rattle.cg_blkdone.proofs.SoundNone.{is_none, none_of_each, none_unless}
use Rattle.cg_blkdone.proofs.SoundTables.{all_told, list_told, there_told}
use Rattle.cg_blkdone.proofs.Told.{array_told, found_told, listed, object_told, told}

-- ---- the interfaces, by what they tell

abbrev asks_told : List Data → Bool
asks_told [] = true
asks_told (d ∷ []) = not (is_some (name_told d))
asks_told (d ∷ e ∷ ds) = false

asks_by_told : (ts : List Tree) → asks_for_list ts ≡ asks_told (map told ts)
asks_by_told [] = refl
asks_by_told (t ∷ []) = ap (λ o. not (is_some o)) (name_by_told t)
asks_by_told (t ∷ u ∷ ts) = refl

abbrev names_told : List Data → List ℕ → Bool
names_told ds name = list_any (λ d. option_map_or (bytes_eq name) (name_told d) false) ds

names_by_told : (ts : List Tree) (name : List ℕ) → names_device ts name ≡ names_told (map told ts) name
names_by_told [] name = refl
names_by_told (t ∷ ts) name = λ i. option_map_or (bytes_eq name) (name_by_told t i) false || names_by_told ts name i

-- the same interfaces, as far as they tell
abbrev pub SameInterfaces : List Tree → List Tree → Type 0
SameInterfaces ds es = map told es ≡ map told ds

same_asks : (ds es : List Tree) → SameInterfaces ds es → asks_for_list es ≡ asks_for_list ds
same_asks ds es same = asks_by_told es ∙ ap asks_told same ∙ sym (asks_by_told ds)

same_names : (ds es : List Tree) → SameInterfaces ds es → (name : List ℕ) → names_device es name ≡ names_device ds name
same_names ds es same name = names_by_told es name ∙ ap (λ xs. names_told xs name) same ∙ sym (names_by_told ds name)

same_count : (ds es : List Tree) → SameInterfaces ds es → length es ≡ length ds
same_count ds es same = sym (length-map es told) ∙ ap length same ∙ length-map ds told

-- ---- lists without entries

abbrev less_told : Data → Bool
less_told d = option_map_or (λ xs. length xs == 0) (option_map listed (as_array d)) true

mapped_less : (o : Option (List Tree)) → option_map_or (λ ts. length ts == 0) o true ≡ option_map_or (λ xs. length xs == 0) (option_map (map told) o) true
mapped_less None = refl
mapped_less (Some ts) = ap (λ n. n == 0) (sym (length-map ts told))

less_by_told : (t : Tree) → is_entry_less t ≡ less_told (told t)
less_by_told t = mapped_less (array_in t) ∙ ap (λ o. option_map_or (λ xs. length xs == 0) o true) (array_told t)

completed_less : (t : Tree) → less_told (full_entries t) ≡ is_entry_less t
completed_less t =
    ap (λ xs. length xs == 0) (listed_items (map full_entry (items_of t))) ∙ ap (λ n. n == 0) (length-map (items_of t) full_entry) ∙ by (array_in t) where
      by : (o : Option (List Tree)) → (length (or_empty o) == 0) ≡ option_map_or (λ ts. length ts == 0) o true
      by None = refl
      by (Some ts) = refl

-- a completed list has entries exactly where it had some
same_less : (t v : Tree) → told v ≡ full_entries t → is_entry_less v ≡ is_entry_less t
same_less t v tells = less_by_told v ∙ ap less_told tells ∙ completed_less t

-- ---- objects and lists

some_is : {X : Type 0} (o : Option (List X)) → is_some o ≡ true → o ≡ Some (or_empty o)
some_is None h = absurd cc
some_is (Some xs) h = refl

none_is : {X : Type 0} (o : Option X) → is_some o ≡ false → o ≡ None
none_is None h = refl
none_is (Some x) h = absurd cc

-- an object has its members
pub object_is : (t : Tree) → is_object (told t) ≡ true → object_in t ≡ Some (members_of t)
object_is t is = some_is (object_in t) (object_told t ∙ is)

-- any other value has none
pub no_object_is : (t : Tree) → is_object (told t) ≡ false → object_in t ≡ None
no_object_is t is = none_is (object_in t) (object_told t ∙ is)

no_list : (d : Data) → is_object d ≡ true → is_some (as_array d) ≡ false
no_list json.null is = refl
no_list (json.boolean b) is = refl
no_list (json.number n) is = refl
no_list (json.string s) is = refl
no_list (array ds) is = absurd cc
no_list (json.object ms) is = refl

-- ---- each list

-- each list of entries passes
abbrev pub lists_pass : (Data → Bool) → Tree → Option (List Member) → Bool
lists_pass p t o = list_all (λ (l : EntryList). p (told l.value)) (lists_in t o)

listed_members : (p : Data → Bool) (ms : List Member)
    → list_all (λ (l : EntryList). p (told l.value)) (map (λ (m : Member). record { key = m.key; value = m.value }) ms) ≡ list_all (λ (m : Member). p (told m.value)) ms
listed_members p [] = refl
listed_members p (m ∷ ms) = ap (λ b. p (told m.value) && b) (listed_members p ms)

-- what is broken of the shape
abbrev pub is_misshapen : List Tree → Tree → Option (List Member) → Bool
is_misshapen ds t o = (is_some (array_in t) && not (asks_for_list ds)) || ((is_some o && asks_for_list ds) || has_stray_entries ds t o)

-- the object has the list of a name, if there is a name
abbrev has_list : Data → Option (List ℕ) → Bool
has_list d name = option_map_or (λ n. is_some (get n d)) name true

no_missing : (at : At) (t : Tree) (o : Option (List ℕ)) → is_none (missing_list at (members_of t) o) ≡ has_list (told t) o
no_missing at t None = refl
no_missing at t (Some name) = none_unless (is_some (value_at name (members_of t))) (finding 2 21 at name) ∙ there_told name t

-- the lists of named device interfaces that are missing
abbrev pub missing_in : List Tree → Tree → List Member → List Finding
missing_in ds t lists = flat_map (λ d. missing_list t.at lists (interface_name d)) ds

none_missing : (ds : List Tree) (t : Tree) → is_none (missing_in ds t (members_of t)) ≡ list_all (λ e. has_list (told t) (name_told e)) (map told ds)
none_missing ds t =
    none_of_each (λ d. missing_list t.at (members_of t) (interface_name d)) (λ d. has_list (told t) (interface_name d)) ds (λ d. no_missing t.at t (interface_name d))
    ∙ all_told (λ d. has_list (told t) (interface_name d)) (λ e. has_list (told t) (name_told e)) ds (λ d. ap (has_list (told t)) (name_by_told d))

all_implied : (p q : Data → Bool) (ds : List Data) → ((d : Data) → p d ≡ true → q d ≡ true) → list_all p ds ≡ true → list_all q ds ≡ true
all_implied p q [] step all = refl
all_implied p q (d ∷ ds) step all = let both = and_parts (p d) (list_all p ds) all in λ i. step d both.0 i && all_implied p q ds step both.1 i

-- what is found of the lists of t is not found of those of v
pub record ListsStay (p : Data → Bool) (ds es : List Tree) (r v : Tree) : Type 0 where
  pub pass : lists_pass p r (object_in r) ≡ true → lists_pass p v (object_in v) ≡ true
  pub shape : is_misshapen ds r (object_in r) ≡ false → is_misshapen es v (object_in v) ≡ false
  pub missing : is_none (option_map_or (missing_in ds r) (object_in r) []) ≡ true → is_none (option_map_or (missing_in es v) (object_in v) []) ≡ true

-- ---- one list

module _ (p : Data → Bool) (stays : (x : Tree) → p (told x) ≡ true → p (full_entries x) ≡ true) (ds es : List Tree) (same : SameInterfaces ds es) (r v : Tree) where
  one_list : is_object (told r) ≡ false → is_some (as_array (told r)) ≡ true → told v ≡ completed_lists r (object_in r) → ListsStay p ds es r v
  one_list is items tells =
      let before : object_in r ≡ None = no_object_is r is in
      let done : told v ≡ full_entries r = tells ∙ ap (completed_lists r) before in
      let after : object_in v ≡ None = no_object_is v (ap is_object done) in
      let lists : is_some (array_in v) ≡ is_some (array_in r) = list_told v ∙ ap (λ d. is_some (as_array d)) done ∙ sym (list_told r ∙ items) in
      let less : is_entry_less v ≡ is_entry_less r = same_less r v done in
      record {
        pass = λ all.
            let own = and_parts (p (told r)) true (ap (lists_pass p r) (sym before) ∙ all) in
            ap (lists_pass p v) after ∙ (λ i. (ap p done ∙ stays r own.0) i && true);
        shape = λ h.
            ap (is_misshapen es v) after
            ∙ (λ i. (lists i && not (same_asks ds es same i)) || (not (less i) && (same_count ds es same i == 0)))
            ∙ ap (is_misshapen ds r) (sym before) ∙ h;
        missing = λ h. ap (λ o. is_none (option_map_or (missing_in es v) o [])) after;
      }

  -- ---- an object of lists

  -- where a list of the completed object comes from
  record ListFrom (key : List ℕ) (w : Tree) : Type 0 where
    x : Tree
    there : value_at key (members_of r) ≡ Some x
    tells : told w ≡ full_entries x

  completed_or_told : (o : Option Tree) → or_else (option_map full_entries o) (option_map told o) ≡ option_map full_entries o
  completed_or_told None = refl
  completed_or_told (Some x) = refl

  abbrev value_or : Data → Option Data → Data
  value_or d None = d
  value_or d (Some e) = e

  list_from : is_object (told r) ≡ true → AreOnce (members_of r) → Completed (entries_pairs (members_of r)) r v → (key : List ℕ) (w : Tree) → value_at key (members_of v) ≡ Some w
      → ListFrom key w
  list_from is once done key w there =
      let found : Some (told w) ≡ option_map full_entries (value_at key (members_of r)) =
      ap (option_map told) (sym there) ∙ found_told key v ∙ stands_at (entries_pairs (members_of r)) r v done is key
      ∙ (λ i. or_else (last_entries key (members_of r) once i) (sym (found_told key r) i)) ∙ completed_or_told (value_at key (members_of r)) in
      by (value_at key (members_of r)) refl found where
        by : (o : Option Tree) → value_at key (members_of r) ≡ o → Some (told w) ≡ option_map full_entries o → ListFrom key w
        by None e found = absurd cc
        by (Some x) e found = record { x = x; there = e; tells = ap (value_or (told w)) found }

  still_some : (a b : Option Data) → is_some b ≡ true → is_some (or_else a b) ≡ true
  still_some None b h = h
  still_some (Some x) b h = refl

  object_of_lists : is_object (told r) ≡ true → AreOnce (members_of r) → told v ≡ completed_lists r (object_in r) → ListsStay p ds es r v
  unfolding first_members_after
  object_of_lists is once tells =
      let rs : List Member = members_of r in
      let vs : List Member = members_of v in
      let before : object_in r ≡ Some rs = object_is r is in
      let done : Completed (entries_pairs rs) r v = tells ∙ ap (completed_lists r) before in
      let still : is_object (told v) ≡ true = ap is_object done ∙ object_stays (entries_pairs rs) (told r) is in
      let after : object_in v ≡ Some vs = object_is v still in
      let each : (q : List ℕ → Tree → Bool) → ((key : List ℕ) (x w : Tree) → value_at key rs ≡ Some x → told w ≡ full_entries x → q key w ≡ true) → first_pass q [] vs ≡ true =
      λ q step. first_passes q [] vs (λ key w absent there. let from = list_from is once done key w there in step key from.x w from.there from.tells) in
      record {
        pass = λ all.
            let own : first_pass (λ key x. p (told x)) [] rs ≡ true = sym (listed_members p (first_members rs)) ∙ ap (lists_pass p r) (sym before) ∙ all in
            ap (lists_pass p v) after ∙ listed_members p (first_members vs)
            ∙ each (λ key w. p (told w)) (λ key x w there from. ap p from ∙ stays x (each_passes (λ key x. p (told x)) [] rs own key x refl there));
        shape = λ h.
            let parts = apart (is_some (array_in r) && not (asks_for_list ds)) _ (ap (is_misshapen ds r) (sym before) ∙ h) in
            let rest = apart (asks_for_list ds) _ parts.1 in
            let own : first_pass (λ key x. not (not (names_device ds key) && not (is_entry_less x))) [] rs ≡ true =
            none_any (λ (m : Member). not (names_device ds m.key) && not (is_entry_less m.value)) (first_members rs) rest.1 in
            let none : has_stray_entries es v (Some vs) ≡ false =
            any_none (λ (m : Member). not (names_device es m.key) && not (is_entry_less m.value)) (first_members vs)
            (each (λ key w. not (not (names_device es key) && not (is_entry_less w)))
            (λ key x w there from. (λ i. not (not (same_names ds es same key i) && not (same_less x w from i)))
            ∙ each_passes (λ key x. not (not (names_device ds key) && not (is_entry_less x))) [] rs own key x refl there)) in
            ap (is_misshapen es v) after
            ∙ (λ i. ((list_told v ∙ no_list (told v) still) i && not (asks_for_list es)) || ((same_asks ds es same ∙ rest.0) i || none i));
        missing = λ h.
            let own : list_all (λ e. has_list (told r) (name_told e)) (map told ds) ≡ true =
            sym (none_missing ds r) ∙ ap (λ o. is_none (option_map_or (missing_in ds r) o [])) (sym before) ∙ h in
            let kept : (name : List ℕ) → is_some (get name (told r)) ≡ true → is_some (get name (told v)) ≡ true =
            λ name there. ap is_some (stands_at (entries_pairs rs) r v done is name) ∙ still_some (last_at name (entries_pairs rs)) (get name (told r)) there in
            ap (λ o. is_none (option_map_or (missing_in es v) o [])) after ∙ none_missing es v ∙ ap (list_all (λ e. has_list (told v) (name_told e))) same
            ∙ all_implied (λ e. has_list (told r) (name_told e)) (λ e. has_list (told v) (name_told e)) (map told ds) (λ e. named kept (name_told e)) own;
      } where
        named : ((name : List ℕ) → is_some (get name (told r)) ≡ true → is_some (get name (told v)) ≡ true) → (o : Option (List ℕ)) → has_list (told r) o ≡ true
            → has_list (told v) o ≡ true
        named kept None h = refl
        named kept (Some name) h = kept name h

  by_kind : (b : Bool) → is_object (told r) ≡ b → (b || is_some (as_array (told r))) ≡ true → AreOnce (members_of r) → told v ≡ completed_lists r (object_in r)
      → ListsStay p ds es r v
  by_kind true is either once tells = object_of_lists is once tells
  by_kind false is either once tells = one_list is either tells

  -- a completed list, or object of lists, has what it had
  pub lists_stay : (is_object (told r) || is_some (as_array (told r))) ≡ true → AreOnce (members_of r) → told v ≡ completed_lists r (object_in r) → ListsStay p ds es r v
  lists_stay either once tells = by_kind (is_object (told r)) refl either once tells
