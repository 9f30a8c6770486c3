-- The names that connections list, gathered in a set.
use Rattle.std.proofs.Common.{◌≡◌, ℕ, suc, ◌+◌, ◌<◌, ◌≤◌, Bool, true, false, not, ◌||◌, ◌&&◌, cond, Option, List, [], ◌∷◌, ◌++◌, map, length, get_or, drop, drop-cons, add-one, Bor, ◌∙◌, ap, sym, refl}
use Rattle.std.proofs.lemmas.List.{drop_all}
use Rattle.std.specs.List.{flat_map, list_any}
use Rattle.std.specs.Str.{bytes_eq}
use Rattle.cg_hjson.specs.declared.tree.Member.{Member}
use Rattle.cg_hjson.specs.declared.tree.Tree.{Tree}
use Rattle.cg_finding.specs.Finding.{Finding, finding, first_of}
use Rattle.cg_keys.specs.Values.{items_of}
use Rattle.cg_xbread.specs.Listed.{host_elements, is_named, lonely_device}
use Rattle.cg_xbread.specs.Written.{text_of}
use Rattle.cg_xbread.specs.declared.written.WrittenNode.{WrittenNode}
use Rattle.cg_keys.proofs.SeenNames.{Inserted, Names, has}

-- one of these elements has the name
abbrev pub lists_name : List Tree → List ℕ → Bool
lists_name elements name = list_any (λ e. bytes_eq (text_of e) name) elements

or_false : (a : Bool) → (a || false) ≡ a
or_false true = refl
or_false false = refl

or_assoc : (a b c : Bool) → ((a || b) || c) ≡ (a || (b || c))
or_assoc true b c = refl
or_assoc false b c = refl

moved : (same old rest : Bool) → (cond same true old || rest) ≡ (old || (same || rest))
moved true true rest = refl
moved true false rest = refl
moved false true rest = refl
moved false false rest = refl

-- the name of one more element is put in
pub one_element : (es : List Tree) (i : ℕ) (e d : Tree) (name : List ℕ) (old new : Names) (n : List ℕ) → i < length es → e ≡ get_or es i d
    → name ≡ text_of e → Inserted old new name
    → (has new n || lists_name (drop (i + 1) es) n) ≡ (has old n || lists_name (drop i es) n)
one_element es i e d name old new n lt is named inserted =
    let cut : drop i es ≡ e ∷ drop (i + 1) es = rw add-one (drop-cons es i d lt ∙ ap (λ y. y ∷ drop (suc i) es) (sym is)) in
    ap (λ b. b || lists_name (drop (i + 1) es) n) (inserted n)
    ∙ moved (bytes_eq name n) (has old n) (lists_name (drop (i + 1) es) n)
    ∙ ap (λ k. has old n || (bytes_eq k n || lists_name (drop (i + 1) es) n)) named
    ∙ ap (λ l. has old n || lists_name l n) (sym cut)

pub all_elements : (es : List Tree) (i : ℕ) (names : Names) (n : List ℕ) → length es ≤ i → (has names n || lists_name (drop i es) n) ≡ has names n
all_elements es i names n h = rw (drop_all i es h) (or_false (has names n))

-- ---- the elements of connections

any_append : {X : Type 0} (p : X → Bool) (xs ys : List X) → list_any p (xs ++ ys) ≡ (list_any p xs || list_any p ys)
any_append p [] ys = refl
any_append p (x ∷ xs) ys = ap (λ b. p x || b) (any_append p xs ys) ∙ sym (or_assoc (p x) (list_any p xs) (list_any p ys))

-- borrowed connections
abbrev Borrowed : Type 0
Borrowed = List (Bor Member)

-- what the connections that are left list
abbrev pub left : (Member → List Tree) → Borrowed → ℕ → List Tree
left elements ms i = flat_map elements (map (λ m. m.now) (drop i ms))

here : (elements : Member → List Tree) (ms : Borrowed) (i : ℕ) (m d : Bor Member) → i < length ms → m ≡ get_or ms i d
    → left elements ms i ≡ elements m.now ++ left elements ms (i + 1)
here elements ms i m d lt is =
    ap (λ l. flat_map elements (map (λ m. m.now) l)) (drop-cons ms i d lt ∙ ap (λ u. u ∷ drop (suc i) ms) (sym is)) ∙ rw add-one refl

-- the elements of one more connection are put in
pub one_connection : (elements : Member → List Tree) (ms : Borrowed) (i : ℕ) (m d : Bor Member) (old new : Names) (n : List ℕ) → i < length ms → m ≡ get_or ms i d
    → has new n ≡ (has old n || lists_name (elements m.now) n)
    → (has new n || lists_name (left elements ms (i + 1)) n) ≡ (has old n || lists_name (left elements ms i) n)
one_connection elements ms i m d old new n lt is more =
    ap (λ b. b || lists_name (left elements ms (i + 1)) n) more
    ∙ or_assoc (has old n) (lists_name (elements m.now) n) (lists_name (left elements ms (i + 1)) n)
    ∙ ap (λ b. has old n || b) (sym (any_append (λ e. bytes_eq (text_of e) n) (elements m.now) (left elements ms (i + 1))))
    ∙ ap (λ l. has old n || lists_name l n) (sym (here elements ms i m d lt is))

-- one without elements is passed
pub no_element : (elements : Member → List Tree) (ms : Borrowed) (i : ℕ) (m d : Bor Member) (names : Names) (n : List ℕ) → i < length ms → m ≡ get_or ms i d
    → elements m.now ≡ []
    → (has names n || lists_name (left elements ms (i + 1)) n) ≡ (has names n || lists_name (left elements ms i) n)
no_element elements ms i m d names n lt is none =
    ap (λ l. has names n || lists_name (l ++ left elements ms (i + 1)) n) (sym none)
    ∙ ap (λ l. has names n || lists_name l n) (sym (here elements ms i m d lt is))

pub all_connections : (elements : Member → List Tree) (ms : Borrowed) (i : ℕ) (names : Names) (n : List ℕ) → length ms ≤ i
    → (has names n || lists_name (left elements ms i) n) ≡ has names n
all_connections elements ms i names n h = rw (drop_all i ms h) (or_false (has names n))

-- ---- by the test of a key

pub key_unknown : (nodes : List WrittenNode) (m : Member) (key : List ℕ) (known : Bool) → key ≡ m.key → known ≡ is_named true nodes key → known ≡ false
    → host_elements nodes m ≡ []
key_unknown nodes m key known named told is = ap (λ b. cond b (items_of m.value) []) (ap (is_named true nodes) (sym named) ∙ sym told ∙ is)

pub key_known : (nodes : List WrittenNode) (m : Member) (key : List ℕ) (known : Bool) → key ≡ m.key → known ≡ is_named true nodes key → known ≡ true
    → host_elements nodes m ≡ items_of m.value
key_known nodes m key known named told is = ap (λ b. cond b (items_of m.value) []) (ap (is_named true nodes) (sym named) ∙ sym told ∙ is)

-- what a device breaks by the set
pub device_by_set : (elements : List Tree) (node : WrittenNode) (names : Names) (found : Option Finding) → ((n : List ℕ) → has names n ≡ lists_name elements n)
    → found ≡ first_of (cond (not node.host && not (has names node.name)) (finding 6 53 node.at node.name ∷ []) [])
    → found ≡ first_of (lonely_device elements node)
unfolding lonely_device
device_by_set elements node names found same is = is ∙ ap (λ b. first_of (cond (not node.host && not b) (finding 6 53 node.at node.name ∷ []) [])) (same node.name)
