-- Objects of which the value of each member is completed.
use Rattle.std.proofs.Common.{◌≡◌, ℕ, Bool, true, false, List, [], ◌∷◌, Option, Some, None, option_map, cond, is_some, unwrap_or, bytes_eq, refl, sym, ap, ◌∙◌}
use Rattle.std.proofs.lemmas.Slice.Eq.{bytes_eq-Decides}
use Rattle.std.specs.List.{IsDistinct}
use Rattle.serde_json.specs.Data.{Data, object, put}
use Rattle.serde_json.specs.Data as json
use Rattle.cg_docspec.specs.Tree as document
use Rattle.cg_hjson.specs.Json.{json_kind, json_members, json_of}
use Rattle.cg_hjson.specs.Views as views
use Rattle.cg_hjson.specs.declared.tree.Kind.{out-Kind}
use Rattle.cg_hjson.specs.declared.tree.Kind.TheOpen as level
use Rattle.cg_hjson.specs.declared.tree.Member.{Member}
use Rattle.cg_hjson.specs.declared.tree.Tree.{Tree}
use Rattle.cg_hjson.proofs.Puts.{put-put}
use Rattle.cg_keys.specs.Forms.{or_else}
use Rattle.cg_keys.specs.Table.{value_at}
use Rattle.cg_keys.specs.Values.{Level, members_of, object_level, or_empty}
use Rattle.cg_blkdone.specs.Full.{put_all, said_with, with_all}
use Rattle.cg_blkdone.specs.Parts.{each_pair}
use Rattle.cg_blkdone.proofs.Completion.{Completed, stands_at}
use Rattle.cg_blkdone.proofs.Lookups.{is_object, object_stays}
use Rattle.cg_blkdone.proofs.Once.{AllFound, AreOnce, all_found, none_at}
use Rattle.cg_blkdone.proofs.Puts.{last_at, put_again}
use Rattle.cg_blkdone.proofs.Told.{by_level, found_told, level_told, member_by_fields, object_told, told}

-- the value that completing puts at a key is that of the member with the key
pub last_in_each : (full : Tree → Data) (key : List ℕ) (ms : List Member) → AreOnce ms → last_at key (each_pair full ms) ≡ option_map full (value_at key ms)
unfolding IsDistinct value_at
last_in_each full key [] once = refl
last_in_each full key (m ∷ ms) once = by (bytes_eq m.key key) refl (last_in_each full key ms once.1) where
  turned : (b : Bool) → bytes_eq m.key key ≡ b → bytes_eq key m.key ≡ b
  turned true is = (bytes_eq-Decides key m.key).1 (sym ((bytes_eq-Decides m.key key).0 is))
  turned false is = differs (bytes_eq key m.key) refl where
    differs : (b : Bool) → bytes_eq key m.key ≡ b → b ≡ false
    differs true same = sym ((bytes_eq-Decides m.key key).1 (sym ((bytes_eq-Decides key m.key).0 same))) ∙ is
    differs false same = refl

  by : (b : Bool) → bytes_eq m.key key ≡ b → last_at key (each_pair full ms) ≡ option_map full (value_at key ms)
      → or_else (last_at key (each_pair full ms)) (cond (bytes_eq key m.key) (Some (full m.value)) None)
      ≡ option_map full (cond (bytes_eq m.key key) (Some m.value) (value_at key ms))
  by true is more =
      let same : m.key ≡ key = (bytes_eq-Decides m.key key).0 is in
      let none : value_at key ms ≡ None = ap (λ k. value_at k ms) (sym same) ∙ none_at m.key ms once.0 in
      (λ i. or_else ((more ∙ ap (option_map full) none) i) (cond (turned true is i) (Some (full m.value)) None))
      ∙ sym (ap (λ b. option_map full (cond b (Some m.value) (value_at key ms))) is)
  by false is more =
      (λ i. or_else (more i) (cond (turned false is i) (Some (full m.value)) None))
      ∙ none_more (value_at key ms)
      ∙ sym (ap (λ b. option_map full (cond b (Some m.value) (value_at key ms))) is)
    where
      none_more : (o : Option Tree) → or_else (option_map full o) None ≡ option_map full o
      none_more None = refl
      none_more (Some t) = refl

-- ---- values that are put where they are

-- the values that the members of an object tell
abbrev pub values_of : List Member → json.Members
values_of ms = json_members (document.members (views.members_of ms))

other_key : (b : Bool) (k l : List ℕ) → bytes_eq k l ≡ b → bytes_eq l k ≡ false → b ≡ false
other_key true k l same other = sym ((bytes_eq-Decides l k).1 (sym ((bytes_eq-Decides k l).0 same))) ∙ other
other_key false k l same other = refl

put_same_by : (b : Bool) (k l : List ℕ) (v w : Tree) (o : Option Tree) (rest : json.Members) → bytes_eq l k ≡ b → cond b (Some w) o ≡ Some v
    → (o ≡ Some v → put k (told v) rest ≡ rest) → put k (told v) (put l (told w) rest) ≡ put l (told w) rest
put_same_by true k l v w o rest is there more =
    let keys : l ≡ k = (bytes_eq-Decides l k).0 is in
    let values : told w ≡ told v = ap (λ x. told (unwrap_or x w)) there in
    sym (λ i. put (keys i) (values i) (put l (told w) rest)) ∙ put_again l (told w) (told w) rest
put_same_by false k l v w o rest is there more =
    put-put k l (told v) (told w) rest (other_key (bytes_eq k l) k l refl is) ∙ ap (put l (told w)) (more there)

-- the value that stands at a key, put there, changes nothing
put_same : (k : List ℕ) (v : Tree) (ms : List Member) → value_at k ms ≡ Some v → put k (told v) (values_of ms) ≡ values_of ms
unfolding value_at json_members
put_same k v [] there = absurd cc
put_same k v (m ∷ ms) there =
    let fields : values_of (m ∷ ms) ≡ put m.key (told m.value) (values_of ms) = ap (λ (n : document.Member). put n.key (json_of n.value) (values_of ms)) (member_by_fields m) in
    ap (put k (told v)) fields
    ∙ put_same_by (bytes_eq m.key k) k m.key v m.value (value_at k ms) (values_of ms) refl there (put_same k v ms)
    ∙ sym fields

-- values that are complete, put where they are
put_each : (full : Tree → Data) (whole ms : List Member) → AllFound whole ms → ((key : List ℕ) (v : Tree) → value_at key whole ≡ Some v → full v ≡ told v)
    → put_all (each_pair full ms) (values_of whole) ≡ values_of whole
put_each full whole [] found complete = refl
put_each full whole (m ∷ ms) found complete =
    ap (put_all (each_pair full ms))
    (ap (λ d. put m.key d (values_of whole)) (complete m.key m.value found.0) ∙ put_same m.key m.value whole found.0)
    ∙ put_each full whole ms found.1 complete

object_by_level : (x : Level) → is_some (object_level x) ≡ true → level_told x ≡ object (values_of (or_empty (object_level x)))
unfolding json_kind
object_by_level level.Null is = absurd cc
object_by_level (level.Bool b) is = absurd cc
object_by_level (level.Int n) is = absurd cc
object_by_level (level.Str u) is = absurd cc
object_by_level (level.Array ts) is = absurd cc
object_by_level (level.Object ms) is = refl

-- an object is its members' values
pub object_values : (t : Tree) → is_object (told t) ≡ true → told t ≡ object (values_of (members_of t))
object_values t is = by_level t ∙ object_by_level (out-Kind t.kind) (object_told t ∙ is)

-- ---- the values at the keys

-- u has a complete value where t has one
abbrev pub SameBy : (Tree → Data) → Option Tree → Option Tree → Type 0
SameBy full t u = option_map told u ≡ option_map full t

-- what is completed counts before what was there
pub completed_or_told : (full : Tree → Data) (o : Option Tree) → or_else (option_map full o) (option_map told o) ≡ option_map full o
completed_or_told full None = refl
completed_or_told full (Some t) = refl

-- what is complete stays so when it is completed once more, of values with a property
abbrev pub StaysComplete : (Tree → Type 0) → (Tree → Data) → Type 0
StaysComplete P full = (t u : Tree) → P t → P u → told u ≡ full t → full u ≡ full t

-- what stands at the keys has the property
abbrev pub AllAt : (Tree → Type 0) → List Member → Type 0
AllAt P ms = (key : List ℕ) (v : Tree) → value_at key ms ≡ Some v → P v

module _ (full : Tree → Data) (t u : Tree) (done : Completed (each_pair full (members_of t)) t u) (is : is_object (told t) ≡ true)
    (once : AreOnce (members_of t)) where
  -- at each key
  pub at_each : (key : List ℕ) → SameBy full (value_at key (members_of t)) (value_at key (members_of u))
  at_each key =
      found_told key u ∙ stands_at (each_pair full (members_of t)) t u done is key
      ∙ (λ i. or_else (last_in_each full key (members_of t) once i) (sym (found_told key t) i))
      ∙ completed_or_told full (value_at key (members_of t))

  complete : (P : Tree → Type 0) → StaysComplete P full → AllAt P (members_of t) → AllAt P (members_of u) → (key : List ℕ) (v : Tree)
      → value_at key (members_of u) ≡ Some v → full v ≡ told v
  complete P twice old new key v there =
      by (value_at key (members_of t)) refl (sym (ap (option_map told) there) ∙ at_each key) where
        by : (o : Option Tree) → value_at key (members_of t) ≡ o → Some (told v) ≡ option_map full o → full v ≡ told v
        by None found same = absurd cc
        by (Some w) found same =
            let tells : told v ≡ full w = ap (λ o. unwrap_or o (told v)) same in twice w v (old key w found) (new key v there) tells ∙ sym tells

  still_object : is_object (told u) ≡ true
  still_object = ap is_object done ∙ object_stays (each_pair full (members_of t)) (told t) is

  -- an object of complete values stays as it is
  pub each_twice : (P : Tree → Type 0) → StaysComplete P full → AllAt P (members_of t) → AllAt P (members_of u) → AreOnce (members_of u)
      → said_with (each_pair full (members_of u)) u ≡ said_with (each_pair full (members_of t)) t
  unfolding with_all
  each_twice P twice old new once_again =
      ap (with_all (each_pair full (members_of u))) (object_values u still_object)
      ∙ ap object (put_each full (members_of u) (members_of u) (all_found (members_of u) once_again) (complete P twice old new))
      ∙ sym (object_values u still_object) ∙ done
