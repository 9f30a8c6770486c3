-- Lists of completed values, and the lists of entries of the interfaces.
use Rattle.std.proofs.Common.{◌≡◌, ℕ, true, List, [], ◌∷◌, map, Option, option_map, refl, ap, ◌∙◌}
use Rattle.serde_json.specs.Data.{Data}
use Rattle.cg_hjson.specs.declared.tree.Member.{Member}
use Rattle.cg_hjson.specs.declared.tree.Tree.{Tree}
use Rattle.cg_keys.specs.Table.{value_at}
use Rattle.cg_keys.specs.Values.{items_of, members_of}
use Rattle.cg_blkdone.specs.Full.{entries_pairs, full_entries, full_entry, list_of, said_with}
use Rattle.cg_blkdone.proofs.Completion.{Completed}
use Rattle.cg_blkdone.proofs.CompletedEntries.{entry_twice}
use Rattle.cg_blkdone.proofs.EachMember.{SameBy, at_each, each_twice, last_in_each}
use Rattle.cg_blkdone.proofs.FieldLists.{first_same, listed_items, rest_same}
use Rattle.cg_blkdone.proofs.Lookups.{is_object, items_told, items_told_in}
use Rattle.cg_blkdone.proofs.Once.{AreOnce}
use Rattle.cg_blkdone.proofs.Puts.{last_at}
use Rattle.cg_blkdone.proofs.Told.{told}

-- ---- one value after another

-- what is the same of a value and of its completion is the same in lists
pub pairwise : {X : Type 0} (full : Tree → Data) (f : Tree → X) → ((t u : Tree) → told u ≡ full t → f u ≡ f t)
    → (ts us : List Tree) → map told us ≡ map full ts → map f us ≡ map f ts
pairwise full f same [] [] done = refl
pairwise full f same [] (u ∷ us) done = absurd cc
pairwise full f same (t ∷ ts) [] done = absurd cc
pairwise full f same (t ∷ ts) (u ∷ us) done =
    let one = same t u (first_same _ _ _ _ done) in
    let more = pairwise full f same ts us (rest_same _ _ _ _ done) in
    λ i. one i ∷ more i

-- the items of a list that is told
pub items_are : (t : Tree) (ds : List Data) → told t ≡ list_of ds → map told (items_of t) ≡ ds
items_are t ds done = items_told t ∙ ap items_told_in done ∙ listed_items ds

-- a list of entries stays as it is
pub entries_twice : (t u : Tree) → told u ≡ full_entries t → full_entries u ≡ full_entries t
entries_twice t u done = ap list_of (pairwise full_entry full_entry entry_twice (items_of t) (items_of u) (items_are u (map full_entry (items_of t)) done))

-- ---- the lists of the interfaces

-- the list that completing puts at a name is that of the member with the name
pub last_entries : (name : List ℕ) (ms : List Member) → AreOnce ms → last_at name (entries_pairs ms) ≡ option_map full_entries (value_at name ms)
last_entries name ms once = last_in_each full_entries name ms once

-- u has a complete list where t has one
abbrev pub SameLists : Option Tree → Option Tree → Type 0
SameLists t u = SameBy full_entries t u

module _ (t u : Tree) (done : Completed (entries_pairs (members_of t)) t u) (is : is_object (told t) ≡ true) (once : AreOnce (members_of t)) where
  -- at each name
  pub at_name : (name : List ℕ) → SameLists (value_at name (members_of t)) (value_at name (members_of u))
  at_name name = at_each full_entries t u done is once name

  -- an object of complete lists stays as it is
  pub object_twice : AreOnce (members_of u) → said_with (entries_pairs (members_of u)) u ≡ said_with (entries_pairs (members_of t)) t
  object_twice once_again =
      each_twice full_entries t u done is once (λ v. Unit {0}) (λ v w old new tells. entries_twice v w tells) (λ name v there. tt) (λ name v there. tt) once_again
