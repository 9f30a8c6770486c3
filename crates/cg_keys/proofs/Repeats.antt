-- The repeats of a tree by its forms, and of an object's keys by a set of those seen.
use Rattle.std.proofs.Common.{◌≡◌, ℕ, suc, ◌+◌, ◌<◌, ◌≤◌, Bool, true, false, not, ◌||◌, cond, List, [], ◌∷◌, ◌++◌, map, length, get_or, drop, drop-cons, add-one, Option, Bor, ◌∙◌, ap, sym, refl}
use Rattle.std.proofs.lemmas.List.{drop_all}
use Rattle.std.specs.Cmp.Lexicographic.{nat_list_eq_equiv}
use Rattle.std.specs.List.{flat_map, list_any}
use Rattle.std.specs.Str.{bytes_eq}
use Rattle.cg_docspec.specs.Tree as document
use Rattle.cg_finding.specs.Finding.{Finding, earlier, finding, first_of}
use Rattle.cg_finding.proofs.Firsts.{earlier-None, earlier_assoc, first_of-append, first_of-empty}
use Rattle.cg_hjson.specs.Views.{kind_level, kind_of, member, member_level, member_of, members_of, place_of, tree_level, tree_of, trees_of}
use Rattle.cg_hjson.specs.declared.tree.Kind.{Kind, map-Kind, out-Kind, out-roll-Kind}
use Rattle.cg_hjson.specs.declared.tree.Kind.TheFolds as folds
use Rattle.cg_hjson.specs.declared.tree.Kind.TheOpen as level
use Rattle.cg_hjson.specs.declared.tree.Kind.TheVariants as form
use Rattle.cg_hjson.specs.declared.tree.Member.{Member}
use Rattle.cg_hjson.specs.declared.tree.Tree.{Tree}
use Rattle.cg_keys.specs.Values.{Level}
use Rattle.cg_keys.specs.Duplicates.{at_of, duplicate_faults, is_key_among, kind_repeats, members_repeats, repeats, tree_repeats, trees_repeats}

-- the view of a value by its fields
tree_of-fields : (t : Tree) → tree_of t ≡ document.tree (kind_of t.kind) (place_of t.at)
unfolding kind_of member_of tree_of
tree_of-fields t = folds.fold_out-Tree document.Kind document.Member document.Tree kind_level member_level tree_level t

-- the view of a member by its fields
member_of-fields : (m : Member) → member_of m ≡ member m.key (place_of m.key_at) (tree_of m.value)
unfolding kind_of member_of tree_of
member_of-fields m = folds.fold_out-Member document.Kind document.Member document.Tree kind_level member_level tree_level m

-- the repeats of some values are those of each
trees_repeats-flat_map : (ts : List Tree) → trees_repeats (document.trees (trees_of ts)) ≡ flat_map duplicate_faults ts
unfolding duplicate_faults trees_repeats
trees_repeats-flat_map [] = refl
trees_repeats-flat_map (t ∷ ts) = ap (λ fs. duplicate_faults t ++ fs) (trees_repeats-flat_map ts)

-- the repeats of some members are those of each one's value
members_repeats-flat_map : (ms : List Member) → members_repeats (document.members (members_of ms)) ≡ flat_map (λ m. duplicate_faults m.value) ms
unfolding duplicate_faults members_repeats
members_repeats-flat_map [] = refl
members_repeats-flat_map (m ∷ ms) =
    ap (λ (x : document.Member). tree_repeats x.value ++ members_repeats (document.members (members_of ms))) (member_of-fields m)
    ∙ ap (λ fs. duplicate_faults m.value ++ fs) (members_repeats-flat_map ms)

-- the repeats in a value by one level of what it is
abbrev level_repeats : Level → List Finding
level_repeats (level.Array ts) = flat_map duplicate_faults ts
level_repeats (level.Object ms) = repeats [] (document.members (members_of ms)) ++ flat_map (λ m. duplicate_faults m.value) ms
level_repeats _ = []

by_level : (x : Level) → kind_repeats (kind_level (map-Kind Kind Member Tree document.Kind document.Member document.Tree kind_of member_of tree_of x)) ≡ level_repeats x
unfolding kind_repeats
by_level level.Null = refl
by_level (level.Bool b) = refl
by_level (level.Int n) = refl
by_level (level.Str u) = refl
by_level (level.Array ts) = trees_repeats-flat_map ts
by_level (level.Object ms) = ap (λ fs. repeats [] (document.members (members_of ms)) ++ fs) (members_repeats-flat_map ms)

kind_of-level : (k : Kind) → kind_of k ≡ kind_level (map-Kind Kind Member Tree document.Kind document.Member document.Tree kind_of member_of tree_of (out-Kind k))
unfolding kind_of member_of tree_of
kind_of-level k = folds.fold_out-Kind document.Kind document.Member document.Tree kind_level member_level tree_level k

pub duplicates_by_level : (t : Tree) → duplicate_faults t ≡ level_repeats (out-Kind t.kind)
unfolding duplicate_faults tree_repeats
duplicates_by_level t = ap tree_repeats (tree_of-fields t) ∙ ap kind_repeats (kind_of-level t.kind) ∙ by_level (out-Kind t.kind)

pub duplicates-Array : (t : Tree) (ts : List Tree) → t.kind ≡ form.Array ts → duplicate_faults t ≡ flat_map duplicate_faults ts
duplicates-Array t ts is =
    duplicates_by_level t ∙ ap (λ k. level_repeats (out-Kind k)) (is ∙ sym (form.rolls-Array ts)) ∙ ap level_repeats (out-roll-Kind (level.Array ts))

pub duplicates-Object : (t : Tree) (ms : List Member) → t.kind ≡ form.Object ms
    → duplicate_faults t ≡ repeats [] (document.members (members_of ms)) ++ flat_map (λ m. duplicate_faults m.value) ms
duplicates-Object t ms is =
    duplicates_by_level t ∙ ap (λ k. level_repeats (out-Kind k)) (is ∙ sym (form.rolls-Object ms)) ∙ ap level_repeats (out-roll-Kind (level.Object ms))

-- borrowed keys
abbrev Names : Type 0
Names = List (Bor (List ℕ))

-- the bytes of each key
abbrev bytes_of : Names → List (List ℕ)
bytes_of = map (λ s. s.now)

-- the set has a key with these bytes
abbrev has : Names → List ℕ → Bool
has names key = list_any (λ k. bytes_eq key k.now) names

-- a key is among those of the set exactly where the set has it
among-has : (names : Names) (key : List ℕ) → is_key_among (bytes_of names) key ≡ has names key
among-has [] key = refl
among-has (k ∷ ks) key = λ i. nat_list_eq_equiv.symm k.now key i || among-has ks key i

among-append : (a b : List (List ℕ)) (key : List ℕ) → is_key_among (a ++ b) key ≡ (is_key_among a key || is_key_among b key)
among-append [] b key = refl
among-append (k ∷ ks) b key = ap (λ t. bytes_eq k key || t) (among-append ks b key) ∙ sym (or_assoc (bytes_eq k key) (is_key_among ks key) (is_key_among b key))
  where
    or_assoc : (p q r : Bool) → ((p || q) || r) ≡ (p || (q || r))
    or_assoc true q r = refl
    or_assoc false q r = refl

-- only which keys stand before counts, and not their order
repeats-same : (a b : List (List ℕ)) (ms : document.Members) → ((key : List ℕ) → is_key_among a key ≡ is_key_among b key) → repeats a ms ≡ repeats b ms
unfolding repeats
repeats-same a b document.no_members same = refl
repeats-same a b (document.member_and key at value ms) same =
    let later : (k : List ℕ) → is_key_among (a ++ key ∷ []) k ≡ is_key_among (b ++ key ∷ []) k =
    λ k. among-append a (key ∷ []) k ∙ ap (λ t. t || is_key_among (key ∷ []) k) (same k) ∙ sym (among-append b (key ∷ []) k) in
    λ i. cond (same key i) (finding 2 20 (at_of at) key ∷ []) [] ++ repeats-same (a ++ key ∷ []) (b ++ key ∷ []) ms later i

or_last : (new old : Bool) → cond new true old ≡ (old || (new || false))
or_last true true = refl
or_last true false = refl
or_last false true = refl
or_last false false = refl

-- the set with one more key has the keys of a list with one more
among-more : (old new : Names) (key : List ℕ) → ((n : List ℕ) → has new n ≡ cond (bytes_eq key n) true (has old n))
    → (n : List ℕ) → is_key_among (bytes_of new) n ≡ is_key_among (bytes_of old ++ key ∷ []) n
among-more old new key inserted n =
    among-has new n ∙ inserted n ∙ or_last (bytes_eq key n) (has old n)
    ∙ ap (λ t. t || (bytes_eq key n || false)) (sym (among-has old n)) ∙ sym (among-append (bytes_of old) (key ∷ []) n)

unless-known : (known is_new : Bool) (fs : List Finding) → is_new ≡ not known → cond known fs [] ≡ cond is_new [] fs
unless-known true true fs is = cc
unless-known true false fs is = refl
unless-known false true fs is = refl
unless-known false false fs is = cc

-- the repeats of members, the first of which is looked at
repeats-first : (before : List (List ℕ)) (m : Member) (ms : List Member)
    → repeats before (document.members (members_of (m ∷ ms))) ≡ cond (is_key_among before m.key) (finding 2 20 m.key_at m.key ∷ []) [] ++ repeats (before ++ m.key ∷ []) (document.members (members_of ms))
unfolding repeats
repeats-first before m ms =
    ap (λ (x : document.Member). repeats before (document.member_and x.key x.key_place x.value (document.members (members_of ms)))) (member_of-fields m)

-- one more member, whose key is put into the set
pub one_more_key : (ms : List Member) (i : ℕ) (m d : Member) (key : List ℕ) (old new : Names) (first now latest : Option Finding) (is_new : Bool)
    → i < length ms → m ≡ get_or ms i d → key ≡ m.key → is_new ≡ not (has old key)
    → ((n : List ℕ) → has new n ≡ cond (bytes_eq key n) true (has old n))
    → now ≡ first_of (cond is_new [] (finding 2 20 m.key_at m.key ∷ [])) → latest ≡ earlier first now
    → earlier latest (first_of (repeats (bytes_of new) (document.members (members_of (drop (i + 1) ms)))))
    ≡ earlier first (first_of (repeats (bytes_of old) (document.members (members_of (drop i ms)))))
one_more_key ms i m d key old new first now latest is_new lt is named told inserted found merged =
    let rest : document.Members = document.members (members_of (drop (i + 1) ms)) in
    let cut : drop i ms ≡ m ∷ drop (i + 1) ms = rw add-one (drop-cons ms i d lt ∙ ap (λ y. y ∷ drop (suc i) ms) (sym is)) in
    let here : List Finding = cond is_new [] (finding 2 20 m.key_at m.key ∷ []) in
    let fresh : is_new ≡ not (is_key_among (bytes_of old) m.key) = told ∙ ap not (ap (has old) named ∙ sym (among-has old m.key)) in
    let whole : repeats (bytes_of old) (document.members (members_of (drop i ms))) ≡ here ++ repeats (bytes_of new) rest =
    ap (λ (l : List Member). repeats (bytes_of old) (document.members (members_of l))) cut
    ∙ repeats-first (bytes_of old) m (drop (i + 1) ms)
    ∙ ap (λ fs. fs ++ repeats (bytes_of old ++ m.key ∷ []) rest) (unless-known (is_key_among (bytes_of old) m.key) is_new (finding 2 20 m.key_at m.key ∷ []) fresh)
    ∙ ap (λ fs. here ++ fs) (sym (repeats-same (bytes_of new) (bytes_of old ++ m.key ∷ []) rest (among-more old new m.key (λ n. inserted n ∙ ap (λ k. cond (bytes_eq k n) true (has old n)) named)))) in
    rw (merged, found, whole)
    (earlier_assoc first (first_of here) (first_of (repeats (bytes_of new) rest)) ∙ ap (earlier first) (sym (first_of-append here (repeats (bytes_of new) rest))))

-- no member is left
pub no_more_keys : (ms : List Member) (i : ℕ) (seen : Names) (first : Option Finding) → length ms ≤ i
    → earlier first (first_of (repeats (bytes_of seen) (document.members (members_of (drop i ms))))) ≡ first
unfolding repeats
no_more_keys ms i seen first h = rw (drop_all i ms h, first_of-empty) (earlier-None first)
