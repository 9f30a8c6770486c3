-- Sets of names against lists of interfaces and of members.
use Rattle.std.proofs.Common.{◌≡◌, ℕ, suc, ◌+◌, ◌<◌, ◌≤◌, Bool, true, false, not, ◌||◌, ◌&&◌, cond, is_some, List, [], ◌∷◌, ◌++◌, map, length, get_or, drop, drop-cons, add-one, Option, Some, None, Bor, ◌∙◌, ap, sym, refl}
use Rattle.std.proofs.lemmas.Bool.{not-true, not-false}
use Rattle.std.proofs.lemmas.List.{drop_all}
use Rattle.std.specs.Cmp.Lexicographic.{nat_list_eq_equiv}
use Rattle.std.specs.List.{flat_map, list_any}
use Rattle.std.specs.Option.{option_map_or}
use Rattle.std.specs.Prelude.{codes}
use Rattle.std.specs.Str.{bytes_eq}
use Rattle.cg_desc.specs.declared.place.At.{At}
use Rattle.cg_finding.specs.Finding.{Finding, finding}
use Rattle.cg_hjson.specs.declared.tree.Member.{Member}
use Rattle.cg_hjson.specs.declared.tree.Tree.{Tree}
use Rattle.cg_keys.specs.Table.{value_at}
use Rattle.cg_keys.specs.Values.{object_in}
use Rattle.cg_blkread.specs.Interfaces.{EntryList, devices, has_same_names, interface_name, is_entry_less, missing_list, missing_lists, names_device, same_name}
use Rattle.cg_blkread.specs.Views.{list_of, member_list}
use Rattle.cg_blkread.specs.declared.entry_lists.EntryList as entry_lists
use Rattle.cg_blkread.proofs.SeenKeys.{Inserted, Names, has}

-- borrowed interfaces
abbrev Borrowed : Type 0
Borrowed = List (Bor Tree)

-- the interfaces that are left
abbrev pub left : Borrowed → ℕ → List Tree
left ts i = map (λ t. t.now) (drop i ts)

pub or_assoc : (a b c : Bool) → ((a || b) || c) ≡ (a || (b || c))
or_assoc true b c = refl
or_assoc false b c = refl

or_false : (a : Bool) → (a || false) ≡ a
or_false true = refl
or_false false = refl

-- what is left begins with the next interface
here : (ts : Borrowed) (i : ℕ) (t d : Bor Tree) → i < length ts → t ≡ get_or ts i d → left ts i ≡ t.now ∷ left ts (i + 1)
here ts i t d lt is = ap (map (λ t. t.now)) (drop-cons ts i d lt ∙ ap (λ u. u ∷ drop (suc i) ts) (sym is)) ∙ rw add-one refl

-- ---- the names of interfaces

moved : (same old rest : Bool) → (cond same true old || rest) ≡ (old || (same || rest))
moved true true rest = refl
moved true false rest = refl
moved false true rest = refl
moved false false rest = refl

-- the name of one more interface is put in
pub one_name : (ts : Borrowed) (i : ℕ) (t d : Bor Tree) (name : List ℕ) (old new : Names) (n : List ℕ) → i < length ts → t ≡ get_or ts i d
    → Some name ≡ interface_name t.now → Inserted old new name
    → (has new n || names_device (left ts (i + 1)) n) ≡ (has old n || names_device (left ts i) n)
one_name ts i t d name old new n lt is named inserted =
    ap (λ b. b || names_device (left ts (i + 1)) n) (inserted n)
    ∙ moved (bytes_eq name n) (has old n) (names_device (left ts (i + 1)) n)
    ∙ ap (λ b. has old n || (b || names_device (left ts (i + 1)) n)) (nat_list_eq_equiv.symm name n)
    ∙ ap (λ o. has old n || (option_map_or (bytes_eq n) o false || names_device (left ts (i + 1)) n)) named
    ∙ ap (λ us. has old n || names_device us n) (sym (here ts i t d lt is))

-- an interface without a name is passed
pub no_name : (ts : Borrowed) (i : ℕ) (t d : Bor Tree) (seen : Names) (n : List ℕ) → i < length ts → t ≡ get_or ts i d → None ≡ interface_name t.now
    → (has seen n || names_device (left ts (i + 1)) n) ≡ (has seen n || names_device (left ts i) n)
no_name ts i t d seen n lt is none =
    ap (λ o. has seen n || (option_map_or (bytes_eq n) o false || names_device (left ts (i + 1)) n)) none
    ∙ ap (λ us. has seen n || names_device us n) (sym (here ts i t d lt is))

pub all_named : (ts : Borrowed) (i : ℕ) (seen : Names) (n : List ℕ) → length ts ≤ i → (has seen n || names_device (left ts i) n) ≡ has seen n
all_named ts i seen n h = rw (drop_all i ts h) (or_false (has seen n))

-- ---- the keys of members

some_of : (b : Bool) (t : Tree) (o : Option Tree) → is_some (cond b (Some t) o) ≡ (b || is_some o)
some_of true t o = refl
some_of false t o = refl

-- the key of one more member is put in
pub one_key : (ms : List Member) (i : ℕ) (m d : Member) (key : List ℕ) (old new : Names) (n : List ℕ) → i < length ms → m ≡ get_or ms i d
    → key ≡ m.key → Inserted old new key
    → (has new n || is_some (value_at n (drop (i + 1) ms))) ≡ (has old n || is_some (value_at n (drop i ms)))
unfolding value_at
one_key ms i m d key old new n lt is named inserted =
    let rest : Bool = is_some (value_at n (drop (i + 1) ms)) in
    let cut : drop i ms ≡ m ∷ drop (i + 1) ms = rw add-one (drop-cons ms i d lt ∙ ap (λ y. y ∷ drop (suc i) ms) (sym is)) in
    ap (λ b. b || rest) (inserted n)
    ∙ moved (bytes_eq key n) (has old n) rest
    ∙ ap (λ k. has old n || (bytes_eq k n || rest)) named
    ∙ ap (λ b. has old n || b) (sym (some_of (bytes_eq m.key n) m.value (value_at n (drop (i + 1) ms))))
    ∙ ap (λ l. has old n || is_some (value_at n l)) (sym cut)

pub all_keys : (ms : List Member) (i : ℕ) (seen : Names) (n : List ℕ) → length ms ≤ i → (has seen n || is_some (value_at n (drop i ms))) ≡ has seen n
unfolding value_at
all_keys ms i seen n h = rw (drop_all i ms h) (or_false (has seen n))

-- ---- interfaces of one name

-- the name was seen, or there was none and none is here
abbrev pub is_seen : Names → Bool → Option (List ℕ) → Bool
is_seen seen nameless None = nameless
is_seen seen nameless (Some n) = has seen n

-- an interface that is left has a name that was seen, or two that are left have one name
abbrev pub meets : Names → Bool → List Tree → Bool
meets seen nameless ts = list_any (λ t. is_seen seen nameless (interface_name t)) ts || has_same_names ts

any_of_two : {X : Type 0} (p q r : X → Bool) (xs : List X) → ((x : X) → p x ≡ (q x || r x)) → list_any p xs ≡ (list_any q xs || list_any r xs)
any_of_two p q r [] each = refl
any_of_two p q r (x ∷ xs) each =
    (λ i. each x i || any_of_two p q r xs each i) ∙ crossed (q x) (r x) (list_any q xs) (list_any r xs)
  where
    crossed : (a b c d : Bool) → ((a || b) || (c || d)) ≡ ((a || c) || (b || d))
    crossed true b c d = refl
    crossed false true true d = refl
    crossed false true false d = refl
    crossed false false c d = refl

-- an interface is looked at whose name was not seen
fresh : (old new : Names) (before after : Bool) (t : Tree) (ts : List Tree) → is_seen old before (interface_name t) ≡ false
    → ((o : Option (List ℕ)) → is_seen new after o ≡ (is_seen old before o || same_name (interface_name t) o))
    → meets new after ts ≡ meets old before (t ∷ ts)
unfolding has_same_names
fresh old new before after t ts unseen each =
    let same : Bool = list_any (λ u. same_name (interface_name t) (interface_name u)) ts in
    let seen : Bool = list_any (λ u. is_seen old before (interface_name u)) ts in
    ap (λ b. b || has_same_names ts) (any_of_two (λ u. is_seen new after (interface_name u)) (λ u. is_seen old before (interface_name u)) (λ u. same_name (interface_name t) (interface_name u)) ts (λ u. each (interface_name u)))
    ∙ or_assoc seen same (has_same_names ts)
    ∙ ap (λ b. (b || seen) || (same || has_same_names ts)) (sym unseen)

-- an interface is looked at whose name was seen
again : (old : Names) (before : Bool) (t : Tree) (ts : List Tree) → is_seen old before (interface_name t) ≡ true → true ≡ meets old before (t ∷ ts)
unfolding has_same_names
again old before t ts seen =
    ap (λ b. (b || list_any (λ u. is_seen old before (interface_name u)) ts) || has_same_names (t ∷ ts)) (sym seen)

-- a name more is seen
more_seen : (old new : Names) (nameless : Bool) (name : List ℕ) → Inserted old new name
    → (o : Option (List ℕ)) → is_seen new nameless o ≡ (is_seen old nameless o || same_name (Some name) o)
more_seen old new nameless name inserted None = sym (or_false nameless)
more_seen old new nameless name inserted (Some n) = inserted n ∙ turned (bytes_eq name n) (has old n)
  where
    turned : (a b : Bool) → cond a true b ≡ (b || a)
    turned true true = refl
    turned true false = refl
    turned false true = refl
    turned false false = refl

-- an interface without a name is seen
now_nameless : (seen : Names) (o : Option (List ℕ)) → is_seen seen true o ≡ (is_seen seen false o || same_name None o)
now_nameless seen None = refl
now_nameless seen (Some n) = sym (or_false (has seen n))

pub fresh_name : (ts : Borrowed) (i : ℕ) (t d : Bor Tree) (name : List ℕ) (old new : Names) (nameless is_new : Bool) → i < length ts → t ≡ get_or ts i d
    → Some name ≡ interface_name t.now → is_new ≡ not (has old name) → Inserted old new name → is_new ≡ true
    → meets new nameless (left ts (i + 1)) ≡ meets old nameless (left ts i)
fresh_name ts i t d name old new nameless is_new lt is named told inserted added =
    fresh old new nameless nameless t.now (left ts (i + 1))
    (ap (is_seen old nameless) (sym named) ∙ not-true (has old name) (sym told ∙ added))
    (λ o. more_seen old new nameless name inserted o ∙ ap (λ own. is_seen old nameless o || same_name own o) named)
    ∙ ap (meets old nameless) (sym (here ts i t d lt is))

pub name_again : (ts : Borrowed) (i : ℕ) (t d : Bor Tree) (name : List ℕ) (old : Names) (nameless is_new : Bool) → i < length ts → t ≡ get_or ts i d
    → Some name ≡ interface_name t.now → is_new ≡ not (has old name) → is_new ≡ false → true ≡ meets old nameless (left ts i)
name_again ts i t d name old nameless is_new lt is named told known =
    again old nameless t.now (left ts (i + 1)) (ap (is_seen old nameless) (sym named) ∙ not-false (has old name) (sym told ∙ known))
    ∙ ap (meets old nameless) (sym (here ts i t d lt is))

pub now_first_nameless : (ts : Borrowed) (i : ℕ) (t d : Bor Tree) (seen : Names) (nameless : Bool) → i < length ts → t ≡ get_or ts i d
    → None ≡ interface_name t.now → nameless ≡ false → meets seen true (left ts (i + 1)) ≡ meets seen nameless (left ts i)
now_first_nameless ts i t d seen nameless lt is none new =
    fresh seen seen false true t.now (left ts (i + 1))
    (ap (is_seen seen false) (sym none))
    (λ o. now_nameless seen o ∙ ap (λ own. is_seen seen false o || same_name own o) none)
    ∙ ap (λ b. meets seen b (t.now ∷ left ts (i + 1))) (sym new)
    ∙ ap (meets seen nameless) (sym (here ts i t d lt is))

pub nameless_again : (ts : Borrowed) (i : ℕ) (t d : Bor Tree) (seen : Names) (nameless : Bool) → i < length ts → t ≡ get_or ts i d
    → None ≡ interface_name t.now → nameless ≡ true → true ≡ meets seen nameless (left ts i)
nameless_again ts i t d seen nameless lt is none had =
    again seen nameless t.now (left ts (i + 1)) (ap (is_seen seen nameless) (sym none) ∙ had)
    ∙ ap (meets seen nameless) (sym (here ts i t d lt is))

pub all_differ : (ts : Borrowed) (i : ℕ) (seen : Names) (nameless : Bool) → length ts ≤ i → meets seen nameless (left ts i) ≡ false
unfolding has_same_names
all_differ ts i seen nameless h = rw (drop_all i ts h) refl

-- at the start no name was seen
pub none_seen : (ts : List Tree) → meets [] false ts ≡ has_same_names ts
none_seen ts = ap (λ b. b || has_same_names ts) (none ts)
  where
    nothing : (o : Option (List ℕ)) → is_seen [] false o ≡ false
    nothing None = refl
    nothing (Some n) = refl

    none : (us : List Tree) → list_any (λ t. is_seen [] false (interface_name t)) us ≡ false
    none [] = refl
    none (u ∷ us) = λ i. nothing (interface_name u) i || none us i

-- ---- what an interface breaks

-- 21 at an interface without a name
abbrev pub nameless : Tree → List Finding
nameless t = cond (is_some (interface_name t)) [] (finding 2 21 t.at (codes "name") ∷ [])

-- 21 at an object, unless the set of its keys has the interface's name
abbrev pub missing_by : Names → At → Tree → List Finding
missing_by keys opener t = option_map_or (λ n. cond (has keys n) [] (finding 2 21 opener n ∷ [])) (interface_name t) []

-- where the set has the keys of the members, it misses what the members miss
pub missing_as : (keys : Names) (opener : At) (ms : List Member) (ts : List Tree) → ((n : List ℕ) → has keys n ≡ is_some (value_at n ms))
    → flat_map (missing_by keys opener) ts ≡ flat_map (λ t. missing_list opener ms (interface_name t)) ts
missing_as keys opener ms [] same = refl
missing_as keys opener ms (t ∷ ts) same = λ i. by_name (interface_name t) i ++ missing_as keys opener ms ts same i
  where
    by_name : (o : Option (List ℕ)) → option_map_or (λ n. cond (has keys n) [] (finding 2 21 opener n ∷ [])) o [] ≡ missing_list opener ms o
    by_name None = refl
    by_name (Some n) = ap (λ b. cond b [] (finding 2 21 opener n ∷ [])) (same n)

-- ---- entries without an interface

any_viewed : {X Y : Type 0} (p : Y → Bool) (view : X → Y) (xs : List X) → list_any p (map view xs) ≡ list_any (λ x. p (view x)) xs
any_viewed p view [] = refl
any_viewed p view (x ∷ xs) = ap (λ b. p (view x) || b) (any_viewed p view xs)

-- a list that has entries, and whose key the set has not
abbrev is_stray : Names → EntryList → Bool
is_stray names l = not (has names l.key) && not (is_entry_less l.value)

any_stray : (names : Names) (ds : List Tree) (ms : List Member) → ((n : List ℕ) → has names n ≡ names_device ds n)
    → list_any (λ m. is_stray names (member_list m)) ms ≡ list_any (λ m. not (names_device ds m.key) && not (is_entry_less m.value)) ms
any_stray names ds [] same = refl
any_stray names ds (m ∷ ms) same = λ i. (not (same m.key i) && not (is_entry_less m.value)) || any_stray names ds ms same i

-- the lists have stray entries where the members have
pub stray_as : (names : Names) (ds : List Tree) (lists : List entry_lists.EntryList) (ms : List Member) → map list_of lists ≡ map member_list ms
    → ((n : List ℕ) → has names n ≡ names_device ds n)
    → list_any (λ l. not (has names l.key.now) && not (is_entry_less l.value.now)) lists
    ≡ list_any (λ m. not (names_device ds m.key) && not (is_entry_less m.value)) ms
stray_as names ds lists ms are same =
    sym (any_viewed (is_stray names) list_of lists) ∙ ap (list_any (is_stray names)) are ∙ any_viewed (is_stray names) member_list ms
    ∙ any_stray names ds ms same

-- the lists that are missing, in an object whose keys the set has
pub missing_lists_by : (keys : Names) (ms lists : List Member) (t : Tree) (ds : List Tree) → ds ≡ devices ms → Some t ≡ value_at (codes "registers") ms
    → Some lists ≡ object_in t → ((n : List ℕ) → has keys n ≡ is_some (value_at n lists)) → flat_map (missing_by keys t.at) ds ≡ missing_lists ms
unfolding missing_lists
missing_lists_by keys ms lists t ds are there is same =
    missing_as keys t.at lists ds same
    ∙ ap (λ us. flat_map (λ d. missing_list t.at lists (interface_name d)) us) are
    ∙ ap (λ o. option_map_or (λ ls. flat_map (λ d. missing_list t.at ls (interface_name d)) (devices ms)) o []) is
    ∙ ap (λ o. option_map_or (λ u. option_map_or (λ ls. flat_map (λ d. missing_list u.at ls (interface_name d)) (devices ms)) (object_in u) []) o []) there
