-- What a block that was read is: an object with each key once, whose integers and strings are those of documents.
use Rattle.std.proofs.Common.{◌≡◌, ℕ, ◌^◌, ℤ, pos, negsuc, Bool, true, false, List, [], Some, refl, sym, ap, subst, arith}
use Rattle.std.specs.Prelude.{codes, nat_lt}
use Rattle.std.proofs.lemmas.Bool.Decides.{nat_tests}
use Rattle.serde_json.specs.Data.{Data, null, boolean, number, string, array, object}
use Rattle.cg_docspec.specs.Place.{Place}
use Rattle.cg_docspec.specs.Tree as document
use Rattle.cg_svspec.specs.Characters.{IsName}
use Rattle.cg_finding.specs.Finding.{Finding}
use Rattle.cg_desc.specs.declared.block.BlockDesc.{BlockDesc}
use Rattle.cg_hjson.specs.Integers.{in_range}
use Rattle.cg_hjson.specs.Json.{Everywhere, HasRange, InMembers, InTrees, IntegersFit, KeysDiffer, WithinKind, json_kind, json_of}
use Rattle.cg_hjson.specs.Views.{place_of, tree_of}
use Rattle.cg_hjson.specs.declared.tree.Kind.{out-Kind}
use Rattle.cg_hjson.specs.declared.tree.Kind.TheOpen as level
use Rattle.cg_hjson.specs.declared.tree.Member.{Member}
use Rattle.cg_hjson.specs.declared.tree.Tree.{Tree}
use Rattle.cg_keys.specs.Duplicates.{duplicate_faults}
use Rattle.cg_keys.proofs.KeysOnce.{keys_differ}
use Rattle.cg_keys.specs.Lookups.{text_at}
use Rattle.cg_keys.specs.Table.{value_at}
use Rattle.cg_keys.specs.Values.{Level, members_of, object_level, or_empty}
use Rattle.cg_blkread.specs.Described.{block_of}
use Rattle.cg_blkread.specs.Keys.{key_faults}
use Rattle.cg_blkread.specs.Raw.{text_or_empty}
use Rattle.cg_blkread.specs.Reads.{Violates}
use Rattle.cg_blkread.proofs.Facts.Listed.{nothing_listed}
use Rattle.cg_blkread.proofs.Sound.Empty.{empty_parts}
use Rattle.cg_blkread.proofs.Sound.Keys.{block_name}
use Rattle.cg_jsonspec.specs.Layout.{layout_text}
use Rattle.cg_jsonspec.specs.ReadsBack.{ReadsBack}
use Rattle.cg_jsonspec.specs.Said.{IsInRange, IsSayableTree, IsSayableKind, AreSayableTrees, AreSayableTreeMembers}
use Rattle.cg_jsonspec.proofs.Law.{reads_back}
use Rattle.cg_blkdone.specs.Completed.{CompletedReadsBack, IsReadBlock, completed_text}
use Rattle.cg_blkdone.specs.Full.{block_pairs, full_block}
use Rattle.cg_blkdone.specs.Parts.{IsKept}
use Rattle.cg_blkdone.proofs.Fine.{IsFine}
use Rattle.cg_blkdone.proofs.FineBlock.{block_fine}
use Rattle.cg_blkdone.proofs.Kept.{seen, viewed}
use Rattle.cg_blkdone.proofs.Lookups.{is_object, object_stays}

-- ---- nothing is broken

-- no rule on keys is broken
pub keys_good : (t : Tree) → ((f : Finding) → Violates t f → ⊥) → key_faults t ≡ []
keys_good t h = (nothing_listed t h).0

-- ---- keys

-- no key of a good block repeats
keys_once : (t : Tree) → key_faults t ≡ [] → KeysDiffer (tree_of t)
unfolding key_faults
keys_once t h = keys_differ t (empty_parts (duplicate_faults t) _ h).0

-- ---- integers

-- an integer of documents is in range
range_kept : (z : ℤ) → IsInRange z → in_range z ≡ Some z
range_kept (pos n) h = let test : nat_lt n (2 ^ 64) ≡ true = grind (arith, nat_tests) in rw test refl
range_kept (negsuc n) h = let test : nat_lt n (2 ^ 63) ≡ true = grind (arith, nat_tests) in rw test refl

mutual
  unfolding IsSayableTree IsSayableKind AreSayableTrees AreSayableTreeMembers Everywhere WithinKind InTrees InMembers

  -- the integers of a document are kept
  pub tree_fits : (t : document.Tree) → IsSayableTree t → IntegersFit t
  tree_fits (document.tree kind at) h = kind_fits kind h

  kind_fits : (k : document.Kind) → IsSayableKind k → HasRange k × WithinKind HasRange k
  kind_fits document.null h = (tt, tt)
  kind_fits (document.boolean b) h = (tt, tt)
  kind_fits (document.integer n) h = (range_kept n h, tt)
  kind_fits (document.string u) h = (tt, tt)
  kind_fits (document.array ts) h = (tt, trees_fit ts h)
  kind_fits (document.object ms) h = (tt, members_fit ms h)

  trees_fit : (ts : document.Trees) → AreSayableTrees ts → InTrees HasRange ts
  trees_fit document.no_trees h = tt
  trees_fit (document.tree_and t ts) h = (tree_fits t h.0, trees_fit ts h.1)

  members_fit : (ms : document.Members) → AreSayableTreeMembers ms → InMembers HasRange ms
  members_fit document.no_members h = tt
  members_fit (document.member_and key at t ms) h = (tree_fits t h.1, members_fit ms h.2)

-- JSON keeps all of a block that was read
pub read_kept : (t : Tree) → IsReadBlock t → IsKept t
read_kept t h = record { keys = keys_once t (keys_good t h.sound); integers = tree_fits (tree_of t) h.sayable }

-- ---- the object

-- no members have no name
no_name : (ms : List Member) → ms ≡ [] → IsName (text_or_empty (text_at (codes "name") ms)) → ⊥
unfolding text_at value_at
no_name ms none named = absurd (subst (λ l. IsName (text_or_empty (text_at (codes "name") l))) none named).0

-- one level with members is an object
level_object : (at : Place) (x : Level) → (or_empty (object_level x) ≡ [] → ⊥) → is_object (json_of (document.tree (viewed x) at)) ≡ true
unfolding json_of json_kind
level_object at level.Null h = absurd (h refl)
level_object at (level.Bool b) h = absurd (h refl)
level_object at (level.Int n) h = absurd (h refl)
level_object at (level.Str u) h = absurd (h refl)
level_object at (level.Array ts) h = absurd (h refl)
level_object at (level.Object ms) h = refl

-- a good block is an object, since it has a name
root_object : (t : Tree) → key_faults t ≡ [] → is_object (json_of (tree_of t)) ≡ true
unfolding block_of
root_object t h =
    subst (λ (u : document.Tree). is_object (json_of u) ≡ true) (sym (seen t))
    (level_object (place_of t.at) (out-Kind t.kind) (λ none. no_name (members_of t) none (block_name 0 t h)))

-- its completed description is an object
full_object : (t : Tree) → key_faults t ≡ [] → is_object (full_block t) ≡ true
unfolding full_block
full_object t h = object_stays (block_pairs (members_of t)) (json_of (tree_of t)) (root_object t h)

-- ---- what is read back

-- the completed description of a block that was read is fine
pub read_fine : (t : Tree) → IsReadBlock t → IsFine 64 (full_block t)
read_fine t h = block_fine t (record { sayable = h.sayable; shallow = h.shallow })

-- an object that is fine is read back
pub object_back : (d : Data) → is_object d ≡ true → IsFine 64 d → ReadsBack (layout_text d) d
object_back null is h = cc
object_back (boolean b) is h = cc
object_back (number n) is h = cc
object_back (string s) is h = cc
object_back (array ds) is h = cc
object_back (object ms) is h = reads_back ms h.0 h.1

-- and its text reads back as it
pub completed_back : CompletedReadsBack
unfolding completed_text
completed_back t h = object_back (full_block t) (full_object t (keys_good t h.sound)) (read_fine t h)

-- ---- the description

-- a description that was read is the one of its own file
pub described_by_file : (block : BlockDesc) (file : ℕ) (t : Tree) → block ≡ block_of file t → block ≡ block_of block.file t
unfolding block_of
described_by_file block file t is = subst (λ n. block ≡ block_of n t) (sym (ap (λ (b : BlockDesc). b.file) is)) is
