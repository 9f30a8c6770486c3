-- The lists of entries of the interfaces are the same, and complete.
use Rattle.std.proofs.Common.{◌≡◌, ℕ, true, false, List, [], ◌∷◌, map, Option, Some, None, option_map, is_some, unwrap_or, codes, refl, sym, ap, ◌∙◌}
use Rattle.cg_hjson.specs.declared.tree.Member.{Member}
use Rattle.cg_hjson.specs.declared.tree.Tree.{Tree}
use Rattle.cg_keys.specs.Table.{value_at}
use Rattle.cg_keys.specs.Values.{items_of, members_of, object_in, or_empty}
use Rattle.cg_blkread.specs.Described.{entries_in, list_in, list_of_value, written_entry}
use Rattle.cg_blkread.specs.Raw.{Parameter, raw_entry}
use Rattle.cg_blkdone.specs.Full.{entries_pairs, full_entries, full_entry, full_lists, lists_in, pair, said_with, with_all}
use Rattle.cg_blkdone.specs.Places.{entry_unplaced}
use Rattle.cg_blkdone.proofs.Completion.{Completed}
use Rattle.cg_blkdone.proofs.CompletedEntries.{entry_described}
use Rattle.cg_blkdone.proofs.CompletedLists.{SameLists, at_name, entries_twice, items_are, object_twice, pairwise}
use Rattle.cg_blkdone.proofs.Lookups.{is_object, object_stays}
use Rattle.cg_blkdone.proofs.Once.{AreOnce}
use Rattle.cg_blkdone.proofs.Told.{object_told, told}

-- ---- entries

-- one function after another
pub map_twice : {X Y Z : Type 0} (f : X → Y) (g : Y → Z) (xs : List X) → map g (map f xs) ≡ map (λ x. g (f x)) xs
map_twice f g [] = refl
map_twice f g (x ∷ xs) = ap (λ ys. g (f x) ∷ ys) (map_twice f g xs)

entries_of_list : (ps : List Parameter) (t u : Tree) → told u ≡ full_entries t → map entry_unplaced (entries_in ps (Some u)) ≡ map entry_unplaced (entries_in ps (Some t))
entries_of_list ps t u done =
    map_twice (λ e. written_entry (raw_entry ps e)) entry_unplaced (items_of u)
    ∙ pairwise full_entry (λ e. entry_unplaced (written_entry (raw_entry ps e))) (entry_described ps) (items_of t) (items_of u) (items_are u (map full_entry (items_of t)) done)
    ∙ sym (map_twice (λ e. written_entry (raw_entry ps e)) entry_unplaced (items_of t))

-- the entries of complete lists are described alike
pub same_entries : (ps : List Parameter) (t u : Option Tree) → SameLists t u → map entry_unplaced (entries_in ps u) ≡ map entry_unplaced (entries_in ps t)
same_entries ps None None same = refl
same_entries ps None (Some u) same = absurd cc
same_entries ps (Some t) None same = absurd cc
same_entries ps (Some t) (Some u) same = entries_of_list ps t u (ap (λ o. unwrap_or o (told u)) same)

-- ---- one list, or a list for each name

-- the lists that they have for a name, and the whole
pub record SameRegisters (t u : Tree) : Type 0 where
  pub named : (name : Option (List ℕ)) → SameLists (list_in t name (object_in t)) (list_in u name (object_in u))
  pub full : lists_in u (object_in u) ≡ lists_in t (object_in t)

one_list : (t u : Tree) → object_in t ≡ None → object_in u ≡ None → told u ≡ full_entries t → SameRegisters t u
one_list t u is again done = record {
  named = λ name. ap (λ o. option_map told (list_in u name o)) again ∙ ap Some done ∙ sym (ap (λ o. option_map full_entries (list_in t name o)) is);
  full = ap (lists_in u) again ∙ entries_twice t u done ∙ sym (ap (lists_in t) is);
}

module _ (t u : Tree) (ms ns : List Member) (is : object_in t ≡ Some ms) (again : object_in u ≡ Some ns)
    (done : told u ≡ said_with (entries_pairs ms) t) (once : AreOnce (members_of t)) (once_again : AreOnce (members_of u)) where
  old : members_of t ≡ ms
  old = ap or_empty is

  new : members_of u ≡ ns
  new = ap or_empty again

  completed : Completed (entries_pairs (members_of t)) t u
  completed = done ∙ ap (λ m. with_all (entries_pairs m) (told t)) (sym old)

  an_object : is_object (told t) ≡ true
  an_object = sym (object_told t) ∙ ap is_some is

  by_name : (name : Option (List ℕ)) → SameLists (list_in t name (Some ms)) (list_in u name (Some ns))
  by_name None = refl
  by_name (Some name) =
      ap (λ m. option_map told (value_at name m)) (sym new)
      ∙ at_name t u completed an_object once name
      ∙ ap (λ m. option_map full_entries (value_at name m)) old

  by_names : SameRegisters t u
  by_names = record {
    named = λ name. ap (λ o. option_map told (list_in u name o)) again ∙ by_name name ∙ sym (ap (λ o. option_map full_entries (list_in t name o)) is);
    full = ap (lists_in u) again ∙ ap (λ m. said_with (entries_pairs m) u) (sym new)
        ∙ object_twice t u completed an_object once once_again
        ∙ ap (λ m. said_with (entries_pairs m) t) old ∙ sym (ap (lists_in t) is);
  }

registers_by : (t u : Tree) (o n : Option (List Member)) → object_in t ≡ o → object_in u ≡ n → told u ≡ lists_in t o → AreOnce (members_of t) → AreOnce (members_of u)
    → SameRegisters t u
registers_by t u None None is again done once once_again = one_list t u is again done
registers_by t u None (Some ns) is again done once once_again =
    let none : is_some (object_in u) ≡ false = object_told u ∙ ap is_object done in
    let one : is_some (object_in u) ≡ true = ap is_some again in absurd cc
registers_by t u (Some ms) None is again done once once_again =
    let one : is_some (object_in u) ≡ true =
    object_told u ∙ ap is_object done ∙ object_stays (entries_pairs ms) (told t) (sym (object_told t) ∙ ap is_some is) in
    let none : is_some (object_in u) ≡ false = ap is_some again in absurd cc
registers_by t u (Some ms) (Some ns) is again done once once_again = by_names t u ms ns is again done once once_again

-- what is completed at `registers` is the same
pub registers_same : (t u : Tree) → told u ≡ lists_in t (object_in t) → AreOnce (members_of t) → AreOnce (members_of u) → SameRegisters t u
registers_same t u done once once_again = registers_by t u (object_in t) (object_in u) refl refl done once once_again

-- ---- where there may be none

-- what stands at `registers`, completed
pub data RegistersCompleted : Option Tree → Option Tree → Type 0 where
  no_registers : RegistersCompleted None None
  some_registers : {t u : Tree} → SameRegisters t u → RegistersCompleted (Some t) (Some u)

-- the lists for a name
pub lists_named : (t u : Option Tree) → RegistersCompleted t u → (name : Option (List ℕ)) → SameLists (list_of_value t name) (list_of_value u name)
lists_named t u no_registers name = refl
lists_named t u (some_registers same) name = same.named name

-- the whole
pub lists_twice : (t u : Option Tree) → RegistersCompleted t u → full_lists u ≡ full_lists t
unfolding full_lists
lists_twice t u no_registers = refl
lists_twice t u (some_registers same) = ap (λ d. pair (codes "registers") d ∷ []) same.full
