-- The entries of a block as lists, and as the relations that say which they are.
use Rattle.std.proofs.Common.{◌≡◌, ℕ, Bool, true, false, cond, ◌||◌, is_some, List, [], ◌∷◌, map, codes, Option, Some, None, inl, inr, refl, sym, ap, ◌∙◌, subst}
use Rattle.std.proofs.lemmas.Bool.{or_parts}
use Rattle.std.specs.List.{list_any}
use Rattle.std.specs.Str.{bytes_eq}
use Rattle.cg_hjson.specs.declared.tree.Tree.{Tree}
use Rattle.cg_hjson.specs.declared.tree.Member.{Member}
use Rattle.cg_finding.specs.Finding.{Among}
use Rattle.cg_finding.proofs.Membership.{in_map, is_other_text, is_same_text, other_text, same_text}
use Rattle.cg_keys.specs.Table.{value_at}
use Rattle.cg_hjson.specs.declared.tree.Kind.{out-Kind}
use Rattle.cg_hjson.specs.declared.tree.Kind.TheOpen as level
use Rattle.cg_keys.specs.Values.{Level, array_level, items_of, members_of, object_in, object_level, or_empty}
use Rattle.cg_blkread.specs.Facts.Parts.{HasAt, HasNot, IsEntryList, sole, member}
use Rattle.cg_blkread.specs.Interfaces.{EntryList, entry_lists, first_members, first_members_after, lists_in, lists_of_value}

-- ---- the first members of their keys

value_here : (key : List ℕ) (n : Member) (ns : List Member) → bytes_eq n.key key ≡ true → value_at key (n ∷ ns) ≡ Some n.value
unfolding value_at
value_here key n ns same = rw same refl

value_later : (key : List ℕ) (n : Member) (ns : List Member) → bytes_eq n.key key ≡ false → value_at key (n ∷ ns) ≡ value_at key ns
unfolding value_at
value_later key n ns other = rw other refl

-- two keys differ where a test on the first passes and on the second fails
keys_differ : (test : List ℕ → Bool) (a b : List ℕ) → test a ≡ true → test b ≡ false → bytes_eq a b ≡ false
keys_differ test a b passes fails = is_other_text a b (λ is. let moved : test b ≡ true = subst (λ k. test k ≡ true) is passes in cc)

-- a member that counts, behind members with these keys
record Counts (before : List (List ℕ)) (ms : List Member) (m : Member) : Type 0 where
  there : value_at m.key ms ≡ Some m.value
  new : list_any (bytes_eq m.key) before ≡ false

first_counts : (before : List (List ℕ)) (ms : List Member) (m : Member) → Among m (first_members_after before ms) → Counts before ms m
unfolding first_members_after
first_counts before [] m among = absurd among
first_counts before (n ∷ ns) m among =
    by (list_any (bytes_eq n.key) before) refl among (first_counts before ns m) (first_counts (n.key ∷ before) ns m) where
      by : (known : Bool) → list_any (bytes_eq n.key) before ≡ known → Among m (cond known (first_members_after before ns) (n ∷ first_members_after (n.key ∷ before) ns))
          → (Among m (first_members_after before ns) → Counts before ns m)
          → (Among m (first_members_after (n.key ∷ before) ns) → Counts (n.key ∷ before) ns m) → Counts before (n ∷ ns) m
      by true is among passed later =
          let rest = passed among in
          record { there = value_later m.key n ns (keys_differ (λ k. list_any (bytes_eq k) before) n.key m.key is rest.new) ∙ rest.there; new = rest.new }
      by false is (inl same) passed later =
          subst (Counts before (n ∷ ns)) (sym same) (record { there = value_here n.key n ns (is_same_text n.key n.key refl); new = is })
      by false is (inr among) passed later =
          let rest = later among in
          let parts = or_parts (bytes_eq m.key n.key) (list_any (bytes_eq m.key) before) rest.new in
          let other : bytes_eq n.key m.key ≡ false = is_other_text n.key m.key (λ same. other_text m.key n.key parts.0 (sym same)) in
          record { there = value_later m.key n ns other ∙ rest.there; new = parts.1 }

-- the list that a member is to have
abbrev list_of_member : Member → EntryList
list_of_member m = record { key = m.key; value = m.value }

some_inj : {X : Type 0} (x y : X) → Some x ≡ Some y → x ≡ y
some_inj x y is = ap (λ o. elim o [ Some z ↦ z | None ↦ x ]) is

counts_first : (key : List ℕ) (value : Tree) (before : List (List ℕ)) (ms : List Member) → value_at key ms ≡ Some value → list_any (bytes_eq key) before ≡ false
    → Among (record { key = key; value = value }) (map list_of_member (first_members_after before ms))
unfolding first_members_after value_at
counts_first key value before [] there new = cc
counts_first key value before (n ∷ ns) there new =
    by (bytes_eq n.key key) (list_any (bytes_eq n.key) before) refl refl there (counts_first key value before ns) (counts_first key value (n.key ∷ before) ns) where
      wanted : EntryList
      wanted = record { key = key; value = value }

      by : (same known : Bool) → bytes_eq n.key key ≡ same → list_any (bytes_eq n.key) before ≡ known → cond same (Some n.value) (value_at key ns) ≡ Some value
          → (value_at key ns ≡ Some value → list_any (bytes_eq key) before ≡ false → Among wanted (map list_of_member (first_members_after before ns)))
          → (value_at key ns ≡ Some value → list_any (bytes_eq key) (n.key ∷ before) ≡ false → Among wanted (map list_of_member (first_members_after (n.key ∷ before) ns)))
          → Among wanted (map list_of_member (cond known (first_members_after before ns) (n ∷ first_members_after (n.key ∷ before) ns)))
      by true true e k there passed later =
          let known : list_any (bytes_eq key) before ≡ true = subst (λ a. list_any (bytes_eq a) before ≡ true) (same_text n.key key e) k in cc
      by true false e k there passed later =
          let keys : key ≡ n.key = sym (same_text n.key key e) in
          let values : value ≡ n.value = sym (some_inj n.value value there) in
          inl (λ i. record { key = keys i; value = values i })
      by false true e k there passed later = passed there new
      by false false e k there passed later =
          let other : bytes_eq key n.key ≡ false = is_other_text key n.key (λ is. other_text n.key key e (sym is)) in
          inr (later there (ap (λ b. b || list_any (bytes_eq key) before) other ∙ new))

-- a member that counts is the one whose value stands at its key
pub first_is : (ms : List Member) (m : Member) → Among m (first_members ms) → value_at m.key ms ≡ Some m.value
first_is ms m among = (first_counts [] ms m among).there

-- the member that counts for a key
pub record First (ms : List Member) (key : List ℕ) (value : Tree) : Type 0 where
  pub member : Member
  pub among : Among member (first_members ms)
  pub key_is : key ≡ member.key
  pub value_is : value ≡ member.value

pub is_first : (ms : List Member) (key : List ℕ) (value : Tree) → value_at key ms ≡ Some value → First ms key value
is_first ms key value there =
    let one = in_map list_of_member (first_members ms) (record { key = key; value = value }) (counts_first key value [] ms there refl) in
    record { member = one.source; among = one.among; key_is = ap (λ (l : EntryList). l.key) one.is; value_is = ap (λ (l : EntryList). l.value) one.is }

-- ---- lists of entries

pub listed_is : (t : Tree) (l : EntryList) → Among l (entry_lists (members_of t)) → IsEntryList t l.key l.value
unfolding entry_lists
listed_is t l among = by_value (value_at (codes "registers") (members_of t)) refl among where
  by_object : (r : Tree) (o : Option (List Member)) → HasAt (codes "registers") t r → object_in r ≡ o → Among l (lists_in r o) → IsEntryList t l.key l.value
  by_object r None there is (inl same) = subst (λ (e : EntryList). IsEntryList t e.key e.value) (sym same) (sole there is)
  by_object r None there is (inr rest) = absurd rest
  by_object r (Some ms) there is among =
      let one = in_map list_of_member (first_members ms) l among in
      let counts = first_counts [] ms one.source one.among in
      subst (λ (e : EntryList). IsEntryList t e.key e.value) (sym one.is) (member r ms there is counts.there)

  by_value : (o : Option Tree) → value_at (codes "registers") (members_of t) ≡ o → Among l (lists_of_value o) → IsEntryList t l.key l.value
  by_value None there among = absurd among
  by_value (Some r) there among = by_object r (object_in r) there refl among

pub is_listed : (t : Tree) (key : List ℕ) (list : Tree) → IsEntryList t key list → Among (record { key = key; value = list }) (entry_lists (members_of t))
unfolding entry_lists
is_listed t _ list (sole there no_object) = rw (there, no_object) (inl refl)
is_listed t key list (member r ms there is at) = rw (there, is) (counts_first key list [] ms at refl)

-- ---- kinds of entries

-- which kind an entry is
pub data Kind (e : Tree) : Type 0 where
  multireg : (m : Tree) → HasAt (codes "multireg") e m → Kind e
  window : (w : Tree) → HasNot (codes "multireg") e → HasAt (codes "window") e w → Kind e
  skip : (s : Tree) → HasNot (codes "multireg") e → HasNot (codes "window") e → HasAt (codes "skipto") e s → Kind e
  reservation : (r : Tree) → HasNot (codes "multireg") e → HasNot (codes "window") e → HasNot (codes "skipto") e → HasAt (codes "reserved") e r → Kind e
  register : HasNot (codes "multireg") e → HasNot (codes "window") e → HasNot (codes "skipto") e → HasNot (codes "reserved") e → Kind e

pub kind_of : (e : Tree) → Kind e
kind_of e =
    by (value_at (codes "multireg") (members_of e)) (value_at (codes "window") (members_of e)) (value_at (codes "skipto") (members_of e))
    (value_at (codes "reserved") (members_of e)) refl refl refl refl where
      by : (m w s r : Option Tree) → value_at (codes "multireg") (members_of e) ≡ m → value_at (codes "window") (members_of e) ≡ w
          → value_at (codes "skipto") (members_of e) ≡ s → value_at (codes "reserved") (members_of e) ≡ r → Kind e
      by (Some m) w s r is_m is_w is_s is_r = multireg m is_m
      by None (Some w) s r is_m is_w is_s is_r = window w is_m is_w
      by None None (Some s) r is_m is_w is_s is_r = skip s is_m is_w is_s
      by None None None (Some r) is_m is_w is_s is_r = reservation r is_m is_w is_s is_r
      by None None None None is_m is_w is_s is_r = register is_m is_w is_s is_r

-- what has a key is an object
pub has_object : (key : List ℕ) (t value : Tree) → HasAt key t value → is_some (object_in t) ≡ true
unfolding value_at
has_object key t value there = by (object_in t) there where
  by : (o : Option (List Member)) → value_at key (or_empty o) ≡ Some value → is_some o ≡ true
  by None there = cc
  by (Some ms) there = refl

-- an object is no list
pub no_items : (t : Tree) (ms : List Member) → object_in t ≡ Some ms → items_of t ≡ []
no_items t ms is = by (out-Kind t.kind) is where
  by : (l : Level) → object_level l ≡ Some ms → or_empty (array_level l) ≡ []
  by (level.Object ns) h = refl
  by (level.Array ts) h = cc
  by l h = refl
