-- What a top that was read is: an object with each key once, whose integers and strings are those of documents.
use Rattle.std.proofs.Common.{◌≡◌, ℕ, true, not, List, [], ◌∷◌, ◌++◌, Option, Some, None, is_some, codes, refl, sym, ap, ◌∙◌, true≢false}
use Rattle.std.proofs.lemmas.Bool.{and_parts}
use Rattle.serde_json.specs.Data.{Data, null, boolean, number, string, array, object}
use Rattle.serde_json.specs.Find.{get}
use Rattle.cg_finding.specs.Finding.{Finding}
use Rattle.cg_hjson.specs.Json.{KeysDiffer}
use Rattle.cg_hjson.specs.Views.{tree_of}
use Rattle.cg_hjson.specs.declared.tree.Tree.{Tree}
use Rattle.cg_keys.specs.Duplicates.{duplicate_faults}
use Rattle.cg_keys.specs.Table.{Key, needs, table_faults}
use Rattle.cg_keys.specs.Values.{members_of}
use Rattle.cg_keys.specs.declared.forms.Form.TheVariants.{Name}
use Rattle.cg_keys.proofs.KeysOnce.{keys_differ}
use Rattle.cg_topread.specs.Listed.{top_faults}
use Rattle.cg_topread.specs.Tables.{top_keys}
use Rattle.cg_blkdone.specs.Parts.{IsKept}
use Rattle.cg_blkdone.proofs.Fine.{IsFine}
use Rattle.cg_blkdone.proofs.Lookups.{is_object, object_stays}
use Rattle.cg_blkdone.proofs.ReadBlocks.{object_back, tree_fits}
use Rattle.cg_blkdone.proofs.SoundNone.{empty_is_none, is_none, none_is_empty, none_of_both}
use Rattle.cg_blkdone.proofs.SoundTables.{key_good, none_of_table, table_good}
use Rattle.cg_blkdone.proofs.Told.{told}
use Rattle.cg_done.specs.Completed.{CompletedTopReadsBack, IsReadTop, completed_top_text}
use Rattle.cg_done.specs.FullTop.{full_top, top_pairs}
use Rattle.cg_done.proofs.FineTop.{top_fine}
use Rattle.cg_done.proofs.TopNone.{nothing_found}

-- ---- nothing is found

-- of two lists without findings each is without
pub none_in_both : (xs ys : List Finding) → is_none (xs ++ ys) ≡ true → (is_none xs ≡ true) × (is_none ys ≡ true)
none_in_both xs ys none = and_parts (is_none xs) (is_none ys) (sym (none_of_both xs ys) ∙ none)

none_found : (t : Tree) → IsReadTop t → is_none (top_faults t) ≡ true
none_found t h = empty_is_none (top_faults t) (nothing_found t h.sound)

-- no key of the top repeats
pub keys_once : (t : Tree) → IsReadTop t → KeysDiffer (tree_of t)
unfolding top_faults
keys_once t h = keys_differ t (none_is_empty (duplicate_faults t) (none_in_both (duplicate_faults t) _ (none_found t h)).0)

-- its table of keys holds
pub table_holds : (t : Tree) → IsReadTop t → table_good top_keys (told t) ≡ true
unfolding top_faults
table_holds t h =
    let rest = (none_in_both (duplicate_faults t) _ (none_found t h)).1 in
    sym (none_of_table t.at t top_keys) ∙ (none_in_both (table_faults t.at (members_of t) top_keys) _ rest).0

-- JSON keeps all of a top that was read
pub read_kept : (t : Tree) → IsReadTop t → IsKept t
read_kept t h = record { keys = keys_once t h; integers = tree_fits (tree_of t) h.sayable }

-- ---- the object

-- a value that has something at a key is an object
has_key : (key : List ℕ) (d : Data) → is_some (get key d) ≡ true → is_object d ≡ true
has_key key null h = cc
has_key key (boolean b) h = cc
has_key key (number n) h = cc
has_key key (string s) h = cc
has_key key (array ds) h = cc
has_key key (object ms) h = refl

-- a needed key is there
needed_there : (k : Key) (o : Option Data) → k.needed ≡ true → key_good k o ≡ true → is_some o ≡ true
needed_there k (Some d) needed good = refl
needed_there k None needed good = absurd (true≢false (sym good ∙ ap not needed))

-- a good top is an object, since it has a name
pub root_object : (t : Tree) → IsReadTop t → is_object (told t) ≡ true
root_object t h =
    let name = needs (codes "name") (Name ∷ []) in
    let row = and_parts (key_good name (get (codes "name") (told t))) _ (table_holds t h) in
    has_key (codes "name") (told t) (needed_there name (get (codes "name") (told t)) refl row.0)

full_object : (t : Tree) → IsReadTop t → is_object (full_top t) ≡ true
unfolding full_top
full_object t h = object_stays (top_pairs (members_of t)) (told t) (root_object t h)

-- ---- what is read back

-- the completed description of a top that was read is fine
pub read_fine : (t : Tree) → IsReadTop t → IsFine 64 (full_top t)
read_fine t h = top_fine t (record { sayable = h.sayable; shallow = h.shallow })

-- and its text reads back as it
pub completed_back : CompletedTopReadsBack
unfolding completed_top_text
completed_back t h = object_back (full_top t) (full_object t h) (read_fine t h)
