-- The members of an object in the order of their keys, by the JSON value that the object tells.
use Rattle.std.proofs.Common.{◌≡◌, ℕ, true, false, ◌||◌, List, [], ◌∷◌, map, bytes_eq, refl, sym, ap, ◌∙◌}
use Rattle.std.proofs.lemmas.List.Elements.{All-head, All-tail}
use Rattle.std.specs.BTreeMap.{insert_entry}
use Rattle.std.specs.Cmp.Lexicographic.{slice_cmp}
use Rattle.std.specs.List.{AllByRecursion, IsDistinct}
use Rattle.std.specs.Ordering.{match_ordering, nat_cmp}
use Rattle.std.specs.Prelude.{All}
use Rattle.std.specs.declared.cmp.Ordering.{Ordering}
use Rattle.std.specs.declared.cmp.Ordering.TheVariants.{Less, Equal, Greater}
use Rattle.serde_json.specs.Data.{Data, object, put}
use Rattle.serde_json.specs.Data as json
use Rattle.cg_docspec.specs.Tree as document
use Rattle.cg_hjson.specs.Json.{json_members, json_of}
use Rattle.cg_hjson.specs.declared.tree.Member.{Member}
use Rattle.cg_hjson.specs.declared.tree.Tree.{Tree}
use Rattle.cg_keys.specs.Values.{members_of}
use Rattle.cg_topread.specs.InOrder.{Entries, by_keys, put_all}
use Rattle.cg_blkdone.specs.Full.{put_all as put_pairs}
use Rattle.cg_blkdone.specs.Full.{with_all}
use Rattle.cg_blkdone.specs.Parts.{each_pair}
use Rattle.cg_blkdone.proofs.Completion.{Completed, by_either}
use Rattle.cg_blkdone.proofs.EachMember.{object_values, values_of}
use Rattle.cg_blkdone.proofs.FieldLists.{first_same, rest_same}
use Rattle.cg_blkdone.proofs.Lookups.{is_object, no_members}
use Rattle.cg_blkdone.proofs.Once.{AreOnce}
use Rattle.cg_blkdone.proofs.Puts.{is_among, put_again, put_apart}
use Rattle.cg_blkdone.proofs.Told.{member_by_fields, told}

-- keys with their JSON values
abbrev pub Told : Type 0
Told = List (List ℕ × Data)

-- those of an object's members
abbrev entries : json.Members → Told
entries json.no_members = []
entries (json.member k d ms) = (k, d) ∷ entries ms

-- those of a JSON value; any but an object has none
abbrev pub entries_of : Data → Told
entries_of (object ms) = entries ms
entries_of d = []

-- entries with what a function makes of each value
abbrev pub shown : (Tree → Data) → Entries → Told
shown f es = map (λ e. (e.0, f e.1)) es

-- members, each with what a function makes of its value, where its key belongs
abbrev values_by : (Tree → Data) → List Member → json.Members
values_by f [] = json.no_members
values_by f (m ∷ ms) = put m.key (f m.value) (values_by f ms)

-- ---- one order

entries_put : (k : List ℕ) (d : Data) (ms : json.Members) → entries (put k d ms) ≡ insert_entry (slice_cmp nat_cmp) (entries ms) k d
entries_put k d json.no_members = refl
entries_put k d (json.member l e ms) = by (slice_cmp nat_cmp k l) (entries_put k d ms) where
  by : (o : Ordering) → entries (put k d ms) ≡ insert_entry (slice_cmp nat_cmp) (entries ms) k d
      → entries (match_ordering o (json.member k d (json.member l e ms)) (json.member l d ms) (json.member l e (put k d ms)))
      ≡ match_ordering o ((k, d) ∷ (l, e) ∷ entries ms) ((l, d) ∷ entries ms) ((l, e) ∷ insert_entry (slice_cmp nat_cmp) (entries ms) k d)
  by Less more = refl
  by Equal more = refl
  by Greater more = ap (λ (es : Told). (l, e) ∷ es) more

shown_insert : (f : Tree → Data) (es : Entries) (k : List ℕ) (v : Tree)
    → shown f (insert_entry (slice_cmp nat_cmp) es k v) ≡ insert_entry (slice_cmp nat_cmp) (shown f es) k (f v)
shown_insert f [] k v = refl
shown_insert f (e ∷ es) k v = by (slice_cmp nat_cmp k e.0) (shown_insert f es k v) where
  by : (o : Ordering) → shown f (insert_entry (slice_cmp nat_cmp) es k v) ≡ insert_entry (slice_cmp nat_cmp) (shown f es) k (f v)
      → shown f (match_ordering o ((k, v) ∷ e ∷ es) ((e.0, v) ∷ es) (e ∷ insert_entry (slice_cmp nat_cmp) es k v))
      ≡ match_ordering o ((k, f v) ∷ shown f (e ∷ es)) ((e.0, f v) ∷ shown f es) ((e.0, f e.1) ∷ insert_entry (slice_cmp nat_cmp) (shown f es) k (f v))
  by Less more = refl
  by Equal more = refl
  by Greater more = ap (λ (es : Told). (e.0, f e.1) ∷ es) more

shown_all : (f : Tree → Data) (ms : List Member) → shown f (put_all ms []) ≡ entries (values_by f ms)
unfolding put_all
shown_all f [] = refl
shown_all f (m ∷ ms) =
    shown_insert f (put_all ms []) m.key m.value ∙ ap (λ es. insert_entry (slice_cmp nat_cmp) es m.key (f m.value)) (shown_all f ms)
    ∙ sym (entries_put m.key (f m.value) (values_by f ms))

shown_by_keys : (f : Tree → Data) (ms : List Member) → shown f (by_keys ms) ≡ entries (values_by f ms)
unfolding by_keys
shown_by_keys f ms = shown_all f ms

-- ---- what an object tells

values_told : (ms : List Member) → values_of ms ≡ values_by told ms
unfolding json_members
values_told [] = refl
values_told (m ∷ ms) =
    ap (λ (n : document.Member). put n.key (json_of n.value) (values_of ms)) (member_by_fields m) ∙ ap (put m.key (told m.value)) (values_told ms)

no_entries : (d : Data) → is_object d ≡ false → entries_of d ≡ []
no_entries json.null is = refl
no_entries (json.boolean b) is = refl
no_entries (json.number n) is = refl
no_entries (json.string s) is = refl
no_entries (json.array ds) is = refl
no_entries (object ms) is = absurd cc

-- the members in the order of their keys are those of the JSON value
pub by_keys_told : (t : Tree) → shown told (by_keys (members_of t)) ≡ entries_of (told t)
unfolding by_keys put_all
by_keys_told t = by_either (is_object (told t))
    (λ is. shown_by_keys told (members_of t) ∙ ap entries (sym (values_told (members_of t))) ∙ ap entries_of (sym (object_values t is)))
    (λ is. ap (λ ms. shown told (by_keys ms)) (no_members t is) ∙ sym (no_entries (told t) is))

-- ---- what a completed object tells

apart_from_all : (k : List ℕ) (f : Tree → Data) (ms : List Member) → AllByRecursion (λ l. bytes_eq k l ≡ false) (map (λ m. m.key) ms) → is_among k (each_pair f ms) ≡ false
apart_from_all k f [] apart = refl
apart_from_all k f (m ∷ ms) apart = λ i. apart.0 i || apart_from_all k f ms apart.1 i

each_put : (f : Tree → Data) (ms : List Member) → AreOnce ms → put_pairs (each_pair f ms) (values_by told ms) ≡ values_by f ms
unfolding IsDistinct
each_put f [] once = refl
each_put f (m ∷ ms) once =
    ap (put_pairs (each_pair f ms)) (put_again m.key (f m.value) (told m.value) (values_by told ms))
    ∙ put_apart (each_pair f ms) m.key (f m.value) (values_by told ms) (apart_from_all m.key f ms once.0)
    ∙ ap (put m.key (f m.value)) (each_put f ms once.1)

completed_values : (f : Tree → Data) (t u : Tree) → Completed (each_pair f (members_of t)) t u → is_object (told t) ≡ true → AreOnce (members_of t)
    → told u ≡ object (values_by f (members_of t))
unfolding with_all
completed_values f t u done is once =
    done ∙ ap (with_all (each_pair f (members_of t))) (object_values t is ∙ ap object (values_told (members_of t)))
    ∙ ap object (each_put f (members_of t) once)

-- the members of a completed object in the order of their keys are those of the object, each completed
pub by_keys_completed : (f : Tree → Data) (t u : Tree) → Completed (each_pair f (members_of t)) t u → is_object (told t) ≡ true → AreOnce (members_of t)
    → shown told (by_keys (members_of u)) ≡ shown f (by_keys (members_of t))
by_keys_completed f t u done is once =
    by_keys_told u ∙ ap entries_of (completed_values f t u done is once) ∙ sym (shown_by_keys f (members_of t))

-- ---- one entry after another

-- each value has the property
abbrev pub AllEntries : (Tree → Type 0) → Entries → Type 0
AllEntries P [] = Unit {0}
AllEntries P (e ∷ es) = P e.1 × AllEntries P es

insert_has : (P : Tree → Type 0) (es : Entries) (k : List ℕ) (v : Tree) → AllEntries P es → P v → AllEntries P (insert_entry (slice_cmp nat_cmp) es k v)
insert_has P [] k v all new = (new, tt)
insert_has P (e ∷ es) k v all new = by (slice_cmp nat_cmp k e.0) (insert_has P es k v all.1 new) where
  by : (o : Ordering) → AllEntries P (insert_entry (slice_cmp nat_cmp) es k v)
      → AllEntries P (match_ordering o ((k, v) ∷ e ∷ es) ((e.0, v) ∷ es) (e ∷ insert_entry (slice_cmp nat_cmp) es k v))
  by Less rest = (new, (all.0, all.1))
  by Equal rest = (new, all.1)
  by Greater rest = (all.0, rest)

all_put : (P : Tree → Type 0) (ms : List Member) → All (λ m. P m.value) ms → AllEntries P (put_all ms [])
unfolding put_all
all_put P [] all = tt
all_put P (m ∷ ms) all =
    insert_has P (put_all ms []) m.key m.value (all_put P ms (All-tail (λ (n : Member). P n.value) m ms all)) (All-head (λ (n : Member). P n.value) m ms all)

-- what the values of all members have, those in the order of the keys have
pub all_by_keys : (P : Tree → Type 0) (ms : List Member) → All (λ m. P m.value) ms → AllEntries P (by_keys ms)
unfolding by_keys
all_by_keys P ms all = all_put P ms all

-- a function of a key and its value is the same of a value and of its completion
abbrev pub Alike : {X : Type 0} → (Tree → Type 0) → (Tree → Data) → (List ℕ × Tree → X) → Type 0
Alike P full f = (key : List ℕ) (v w : Tree) → P v → P w → told w ≡ full v → f (key, w) ≡ f (key, v)

-- and so of all entries
pub entrywise : {X : Type 0} (P : Tree → Type 0) (full : Tree → Data) (f : List ℕ × Tree → X) → Alike P full f → (ds es : Entries) → AllEntries P ds → AllEntries P es
    → shown told es ≡ shown full ds → map f es ≡ map f ds
entrywise P full f alike [] [] old new same = refl
entrywise P full f alike [] (e ∷ es) old new same = absurd cc
entrywise P full f alike (d ∷ ds) [] old new same = absurd cc
entrywise P full f alike (d ∷ ds) (e ∷ es) old new same =
    let first = first_same _ _ _ _ same in
    let keys : e.0 ≡ d.0 = ap (λ (x : List ℕ × Data). x.0) first in
    let values : told e.1 ≡ full d.1 = ap (λ (x : List ℕ × Data). x.1) first in
    let one : f (e.0, e.1) ≡ f (d.0, d.1) = ap (λ k. f (k, e.1)) keys ∙ alike d.0 d.1 e.1 old.0 new.0 values in
    let more = entrywise P full f alike ds es old.1 new.1 (rest_same _ _ _ _ same) in
    λ i. one i ∷ more i
