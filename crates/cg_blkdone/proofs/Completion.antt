-- What stands at the keys of a completed object.
use Rattle.std.proofs.Common.{◌≡◌, ℕ, Bool, true, false, List, Some, option_and_then, refl, sym, ap, ◌∙◌}
use Rattle.serde_json.specs.Data.{Data}
use Rattle.serde_json.specs.Find.{as_str, get}
use Rattle.cg_hjson.specs.declared.tree.Tree.{Tree}
use Rattle.cg_keys.specs.Forms.{or_else}
use Rattle.cg_keys.specs.Lookups.{boolean_at, number_at, text_at}
use Rattle.cg_keys.specs.Values.{members_of}
use Rattle.cg_blkdone.specs.Full.{Pair, with_all}
use Rattle.cg_blkdone.proofs.Lookups.{boolean_at_told, boolean_told_in, found_in_completed, is_object, no_members, no_object_stays, number_at_told, number_told_in, text_at_told}
use Rattle.cg_blkdone.proofs.Puts.{last_at, with_all_twice}
use Rattle.cg_blkdone.proofs.Told.{told}

-- u tells what t does with these pairs
abbrev pub Completed : List Pair → Tree → Tree → Type 0
Completed ps t u = told u ≡ with_all ps (told t)

-- what stands at a key where t is an object: the pair's value, or what t has there
pub stands_at : (ps : List Pair) (t u : Tree) → Completed ps t u → is_object (told t) ≡ true → (key : List ℕ)
    → get key (told u) ≡ or_else (last_at key ps) (get key (told t))
stands_at ps t u done is key = ap (get key) done ∙ found_in_completed key ps (told t) is

-- u has the value of a pair
abbrev pub HasAt : List ℕ → Tree → Data → Type 0
HasAt key u d = get key (told u) ≡ Some d

-- u has what t has
abbrev pub KeepsAt : List ℕ → Tree → Tree → Type 0
KeepsAt key t u = get key (told u) ≡ get key (told t)

-- what is read of a value that stands there
pub text_has : (key : List ℕ) (u : Tree) (d : Data) → HasAt key u d → text_at key (members_of u) ≡ as_str d
text_has key u d has = text_at_told key u ∙ ap (option_and_then as_str) has

-- the boolean that is read there
pub boolean_has : (key : List ℕ) (u : Tree) (d : Data) → HasAt key u d → boolean_at key (members_of u) ≡ boolean_told_in d
boolean_has key u d has = boolean_at_told key u ∙ ap (option_and_then boolean_told_in) has

-- the number that is read there
pub number_has : (least most : ℕ) (key : List ℕ) (u : Tree) (d : Data) → HasAt key u d → number_at least most key (members_of u) ≡ number_told_in least most d
number_has least most key u d has = number_at_told least most key u ∙ ap (option_and_then (number_told_in least most)) has

-- what is read where the value is kept
pub text_kept : (key : List ℕ) (t u : Tree) → KeepsAt key t u → text_at key (members_of u) ≡ text_at key (members_of t)
text_kept key t u keeps = text_at_told key u ∙ ap (option_and_then as_str) keeps ∙ sym (text_at_told key t)

-- the boolean that is read where the value is kept
pub boolean_kept : (key : List ℕ) (t u : Tree) → KeepsAt key t u → boolean_at key (members_of u) ≡ boolean_at key (members_of t)
boolean_kept key t u keeps = boolean_at_told key u ∙ ap (option_and_then boolean_told_in) keeps ∙ sym (boolean_at_told key t)

-- the number that is read where the value is kept
pub number_kept : (least most : ℕ) (key : List ℕ) (t u : Tree) → KeepsAt key t u → number_at least most key (members_of u) ≡ number_at least most key (members_of t)
number_kept least most key t u keeps =
    number_at_told least most key u ∙ ap (option_and_then (number_told_in least most)) keeps ∙ sym (number_at_told least most key t)

-- a value that is no object has no members, and stays as it is
pub same_members : (ps : List Pair) (t u : Tree) → Completed ps t u → is_object (told t) ≡ false → members_of u ≡ members_of t
same_members ps t u done is =
    let same : told u ≡ told t = done ∙ no_object_stays ps (told t) is in
    no_members u (ap is_object same ∙ is) ∙ sym (no_members t is)

-- what is completed with the same pairs once more stays as it is
pub completed_twice : (ps qs : List Pair) (t u : Tree) → Completed ps t u → qs ≡ ps → with_all qs (told u) ≡ with_all ps (told t)
completed_twice ps qs t u done same = (λ i. with_all (same i) (done i)) ∙ with_all_twice ps (told t)

-- one way or the other, by a test
pub by_either : {X : Type 0} (b : Bool) → (b ≡ true → X) → (b ≡ false → X) → X
by_either true here other = here refl
by_either false here other = other refl

-- what holds of objects and of what has the same members holds
pub by_object : {X : Type 0} (ps : List Pair) (t u : Tree) → Completed ps t u
    → (is_object (told t) ≡ true → X) → (members_of u ≡ members_of t → X) → X
by_object ps t u done here other = by_either (is_object (told t)) here (λ is. other (same_members ps t u done is))
