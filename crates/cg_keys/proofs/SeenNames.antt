-- Sets of names that were seen in a list, and the first members of each key.
use Rattle.std.proofs.Common.{◌≡◌, ℕ, suc, ◌+◌, ◌<◌, ◌≤◌, Bool, true, false, not, ◌||◌, cond, List, [], ◌∷◌, ◌++◌, map, length, get_or, drop, take, drop-cons, add-one, Bor, ◌∙◌, ap, sym, refl, subst}
use Rattle.std.proofs.Math.Seq.{take-suc}
use Rattle.std.proofs.lemmas.List.{append_assoc, append-nil, drop_all}
use Rattle.std.proofs.lemmas.Slice.Eq.{bytes_eq-Decides}
use Rattle.std.specs.Cmp.Lexicographic.{nat_list_eq_equiv}
use Rattle.std.specs.List.{list_any}
use Rattle.std.specs.Str.{bytes_eq}
use Rattle.cg_hjson.specs.declared.tree.Member.{Member}
use Rattle.cg_keys.specs.Lists.{first_members_after}

-- borrowed names
abbrev pub Names : Type 0
Names = List (Bor (List ℕ))

-- the bytes of each name
abbrev pub bytes_of : Names → List (List ℕ)
bytes_of = map (λ s. s.now)

-- the set has a name with these bytes
abbrev pub has : Names → List ℕ → Bool
has names name = list_any (λ k. bytes_eq name k.now) names

-- a set with one more name
abbrev pub Inserted : Names → Names → List ℕ → Type 0
Inserted old new name = (n : List ℕ) → has new n ≡ cond (bytes_eq name n) true (has old n)

or_cond : (a b : Bool) → cond a true b ≡ (a || b)
or_cond true b = refl
or_cond false b = refl

-- ---- the names of the items of a list

-- the set has exactly the names of these items
abbrev pub HasNamesOf : {X : Type 0} → (X → List ℕ) → Names → List X → Type 0
HasNamesOf name_of names xs = (n : List ℕ) → has names n ≡ list_any (λ x. bytes_eq (name_of x) n) xs

any_append : {X : Type 0} (p : X → Bool) (xs ys : List X) → list_any p (xs ++ ys) ≡ (list_any p ys || list_any p xs)
any_append p [] ys = sym (or_false (list_any p ys))
  where
    or_false : (a : Bool) → (a || false) ≡ a
    or_false true = refl
    or_false false = refl
any_append p (x ∷ xs) ys = ap (λ b. p x || b) (any_append p xs ys) ∙ turned (p x) (list_any p ys) (list_any p xs)
  where
    turned : (a b c : Bool) → (a || (b || c)) ≡ (b || (a || c))
    turned true true c = refl
    turned true false c = refl
    turned false b c = refl

-- one more item, whose name is put in
pub one_more_name : {X : Type 0} (name_of : X → List ℕ) (xs : List X) (i : ℕ) (x d : X) (name : List ℕ) (old new : Names)
    → i < length xs → x ≡ get_or xs i d → name ≡ name_of x → Inserted old new name → HasNamesOf name_of old (take i xs)
    → HasNamesOf name_of new (take (i + 1) xs)
one_more_name {X} name_of xs i x d name old new lt is named inserted before n =
    let grown : take (i + 1) xs ≡ take i xs ++ x ∷ [] = rw add-one (take-suc xs i d lt ∙ ap (λ y. take i xs ++ y ∷ []) (sym is)) in
    let p : X → Bool = λ y. bytes_eq (name_of y) n in
    inserted n
    ∙ or_cond (bytes_eq name n) (has old n)
    ∙ ap (λ k. bytes_eq k n || has old n) named
    ∙ ap (λ b. bytes_eq (name_of x) n || b) (before n)
    ∙ last (bytes_eq (name_of x) n) (list_any p (take i xs))
    ∙ sym (any_append p (take i xs) (x ∷ []))
    ∙ ap (list_any p) (sym grown)
  where
    last : (a b : Bool) → (a || b) ≡ ((a || false) || b)
    last true b = refl
    last false b = refl

-- ---- the first members of each key

-- a key is among the set's where the set has it
has-bytes : (names : Names) (key : List ℕ) → list_any (bytes_eq key) (bytes_of names) ≡ has names key
has-bytes [] key = refl
has-bytes (k ∷ ks) key = ap (λ t. bytes_eq key k.now || t) (has-bytes ks key)

one_more : (old new : Names) (key : List ℕ) → Inserted old new key → (n : List ℕ) → list_any (bytes_eq n) (bytes_of new) ≡ list_any (bytes_eq n) (key ∷ bytes_of old)
one_more old new key inserted n =
    has-bytes new n ∙ inserted n ∙ or_cond (bytes_eq key n) (has old n) ∙ (λ i. nat_list_eq_equiv.symm key n i || sym (has-bytes old n) i)

-- a key that the set has already
already : (old : Names) (key n : List ℕ) (same : Bool) → bytes_eq key n ≡ same → has old key ≡ true → cond same true (has old n) ≡ has old n
already old key n false e h = refl
already old key n true e h = sym (ap (has old) (sym ((bytes_eq-Decides key n).0 e)) ∙ h)

no_more : (old new : Names) (key : List ℕ) → Inserted old new key → has old key ≡ true → (n : List ℕ) → list_any (bytes_eq n) (bytes_of new) ≡ list_any (bytes_eq n) (bytes_of old)
no_more old new key inserted known n = has-bytes new n ∙ inserted n ∙ already old key n _ refl known ∙ sym (has-bytes old n)

-- only which keys were seen counts, and not their order
same_seen : (a b : List (List ℕ)) (ms : List Member) → ((n : List ℕ) → list_any (bytes_eq n) a ≡ list_any (bytes_eq n) b)
    → first_members_after a ms ≡ first_members_after b ms
unfolding first_members_after
same_seen a b [] same = refl
same_seen a b (m ∷ ms) same =
    λ i. cond (same m.key i) (same_seen a b ms same i) (m ∷ same_seen (m.key ∷ a) (m.key ∷ b) ms (λ n. ap (λ t. bytes_eq n m.key || t) (same n)) i)

-- the first members, the first of these looked at
first_step : (old new : Names) (m : Member) (ms : List Member) (known : Bool) → has old m.key ≡ known → Inserted old new m.key
    → first_members_after (bytes_of old) (m ∷ ms) ≡ cond known (first_members_after (bytes_of new) ms) (m ∷ first_members_after (bytes_of new) ms)
unfolding first_members_after
first_step old new m ms true is inserted =
    ap (λ t. cond t (first_members_after (bytes_of old) ms) (m ∷ first_members_after (m.key ∷ bytes_of old) ms)) (has-bytes old m.key ∙ is)
    ∙ sym (same_seen (bytes_of new) (bytes_of old) ms (no_more old new m.key inserted is))
first_step old new m ms false is inserted =
    ap (λ t. cond t (first_members_after (bytes_of old) ms) (m ∷ first_members_after (m.key ∷ bytes_of old) ms)) (has-bytes old m.key ∙ is)
    ∙ ap (λ l. m ∷ l) (sym (same_seen (bytes_of new) (m.key ∷ bytes_of old) ms (one_more old new m.key inserted)))

-- `known` is no new key
known_is : (is_new known : Bool) → is_new ≡ not known → known ≡ not is_new
known_is true true e = cc
known_is true false e = refl
known_is false true e = refl
known_is false false e = cc

swapped : {X : Type 0} (b : Bool) (x y : X) → cond (not b) x y ≡ cond b y x
swapped true x y = refl
swapped false x y = refl

-- one more member is looked at
one_more_member : (ms : List Member) (i : ℕ) (m d : Member) (key : List ℕ) (old new : Names) (is_new : Bool)
    → i < length ms → m ≡ get_or ms i d → key ≡ m.key → is_new ≡ not (has old key) → Inserted old new key
    → first_members_after (bytes_of old) (drop i ms)
    ≡ cond is_new (m ∷ first_members_after (bytes_of new) (drop (i + 1) ms)) (first_members_after (bytes_of new) (drop (i + 1) ms))
one_more_member ms i m d key old new is_new lt is named told inserted =
    let rest : List Member = drop (i + 1) ms in
    let cut : drop i ms ≡ m ∷ rest = rw add-one (drop-cons ms i d lt ∙ ap (λ y. y ∷ drop (suc i) ms) (sym is)) in
    let known : has old m.key ≡ not is_new = known_is is_new (has old m.key) (told ∙ ap (λ k. not (has old k)) named) in
    ap (first_members_after (bytes_of old)) cut
    ∙ first_step old new m rest (not is_new) known (subst (λ k. Inserted old new k) named inserted)
    ∙ swapped is_new (first_members_after (bytes_of new) rest) (m ∷ first_members_after (bytes_of new) rest)

-- a member whose key is new is taken
pub taken : (ms : List Member) (i : ℕ) (m d : Member) (key : List ℕ) (old new : Names) (is_new : Bool) (out whole : List Member)
    → i < length ms → m ≡ get_or ms i d → key ≡ m.key → is_new ≡ not (has old key) → Inserted old new key → is_new ≡ true
    → out ++ first_members_after (bytes_of old) (drop i ms) ≡ whole
    → (out ++ m ∷ []) ++ first_members_after (bytes_of new) (drop (i + 1) ms) ≡ whole
taken ms i m d key old new is_new out whole lt is named told inserted fresh before =
    let rest : List Member = first_members_after (bytes_of new) (drop (i + 1) ms) in
    append_assoc out (m ∷ []) rest
    ∙ ap (λ l. out ++ l) (sym (one_more_member ms i m d key old new is_new lt is named told inserted ∙ ap (λ b. cond b (m ∷ rest) rest) fresh))
    ∙ before

-- a member whose key was seen is passed
pub passed : (ms : List Member) (i : ℕ) (m d : Member) (key : List ℕ) (old new : Names) (is_new : Bool) (out whole : List Member)
    → i < length ms → m ≡ get_or ms i d → key ≡ m.key → is_new ≡ not (has old key) → Inserted old new key → is_new ≡ false
    → out ++ first_members_after (bytes_of old) (drop i ms) ≡ whole
    → out ++ first_members_after (bytes_of new) (drop (i + 1) ms) ≡ whole
passed ms i m d key old new is_new out whole lt is named told inserted known before =
    let rest : List Member = first_members_after (bytes_of new) (drop (i + 1) ms) in
    ap (λ l. out ++ l) (sym (one_more_member ms i m d key old new is_new lt is named told inserted ∙ ap (λ b. cond b (m ∷ rest) rest) known))
    ∙ before

-- no member is left
pub all_looked : (ms : List Member) (i : ℕ) (seen : Names) (out : List Member) → length ms ≤ i
    → out ++ first_members_after (bytes_of seen) (drop i ms) ≡ out
unfolding first_members_after
all_looked ms i seen out h = rw (drop_all i ms h) (append-nil out)
