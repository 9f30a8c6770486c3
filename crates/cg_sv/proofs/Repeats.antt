-- The first name that repeats an earlier one, by a set of those seen.
use Rattle.std.proofs.Common.{◌≡◌, ℕ, ◌+◌, ◌<◌, Bool, true, false, not, ◌||◌, cond, List, [], ◌∷◌, map, length, get_or, drop, drop-cons, add-one, Option, Some, None, Bor, ◌∙◌, ap, sym, refl, inl, inr}
use Rattle.std.proofs.lemmas.Bool.{both_ways, not-true, not-false}
use Rattle.std.specs.Cmp.Lexicographic.{nat_list_eq_equiv}
use Rattle.std.specs.List.{list_any}
use Rattle.std.specs.Str.{bytes_eq}
use Rattle.cg_svspec.specs.Names.{is_among, first_repeat, first_repeat_after, Among, Differ}

-- borrowed names
abbrev Names : Type 0
Names = List (Bor (List ℕ))

-- the bytes of each name
abbrev bytes_of : Names → List (List ℕ)
bytes_of = map (λ s. s.now)

-- the set has a key with these bytes
abbrev has : Names → List ℕ → Bool
has keys n = list_any (λ k. bytes_eq n k.now) keys

-- a name is among the keys exactly where the set has it
among_keys : (keys : Names) (n : List ℕ) → is_among (bytes_of keys) n ≡ has keys n
among_keys [] n = refl
among_keys (k ∷ ks) n = λ i. nat_list_eq_equiv.symm k.now n i || among_keys ks n i

-- `||` by a choice
or_cond : (a b : Bool) → cond a true b ≡ (a || b)
or_cond true b = refl
or_cond false b = refl

-- only which names were seen counts, and not their order
same_seen : (a b ns : List (List ℕ)) → ((n : List ℕ) → is_among a n ≡ is_among b n) → first_repeat_after a ns ≡ first_repeat_after b ns
same_seen a b [] same = refl
same_seen a b (n ∷ ns) same = λ i. cond (same n i) (Some n) (same_seen (n ∷ a) (n ∷ b) ns (λ m. ap (λ (t : Bool). bytes_eq n m || t) (same m)) i)

-- the names from here on
here : (names : Names) (i : ℕ) (d : Bor (List ℕ)) → i < length names → bytes_of (drop i names) ≡ (get_or names i d).now ∷ bytes_of (drop (i + 1) names)
here names i d lt = ap (λ (l : Names). bytes_of l) (drop-cons names i d lt) ∙ rw add-one refl

-- what the repeat is by whether the first name was seen
by_first : (old : Names) (n : List ℕ) (rest : List (List ℕ)) (known : Bool) → has old n ≡ known
    → first_repeat_after (bytes_of old) (n ∷ rest) ≡ cond known (Some n) (first_repeat_after (n ∷ bytes_of old) rest)
by_first old n rest known is = ap (λ (t : Bool). cond t (Some n) (first_repeat_after (n ∷ bytes_of old) rest)) (among_keys old n ∙ is)

-- a name that was not seen, and then is
pub unseen : (names : Names) (i : ℕ) (d : Bor (List ℕ)) (old new : Names) (whole : Option (List ℕ)) (added : Bool) → i < length names
    → added ≡ not (has old (get_or names i d).now) → added ≡ true
    → ((n : List ℕ) → has new n ≡ cond (bytes_eq (get_or names i d).now n) true (has old n))
    → first_repeat_after (bytes_of old) (bytes_of (drop i names)) ≡ whole
    → first_repeat_after (bytes_of new) (bytes_of (drop (i + 1) names)) ≡ whole
unseen names i d old new whole added lt told was inserted before =
    let n : List ℕ = (get_or names i d).now in
    let rest : List (List ℕ) = bytes_of (drop (i + 1) names) in
    let seen : (m : List ℕ) → is_among (bytes_of new) m ≡ is_among (n ∷ bytes_of old) m =
    λ m. among_keys new m ∙ inserted m ∙ or_cond (bytes_eq n m) (has old m) ∙ ap (λ (t : Bool). bytes_eq n m || t) (sym (among_keys old m)) in
    same_seen (bytes_of new) (n ∷ bytes_of old) rest seen
    ∙ sym (by_first old n rest false (not-true (has old n) (sym told ∙ was)))
    ∙ ap (first_repeat_after (bytes_of old)) (sym (here names i d lt))
    ∙ before

-- a name that was seen
pub seen_again : (names : Names) (i : ℕ) (d : Bor (List ℕ)) (old : Names) (whole : Option (List ℕ)) (added : Bool) → i < length names
    → added ≡ not (has old (get_or names i d).now) → added ≡ false
    → first_repeat_after (bytes_of old) (bytes_of (drop i names)) ≡ whole
    → Some (get_or names i d).now ≡ whole
seen_again names i d old whole added lt told was before =
    let n : List ℕ = (get_or names i d).now in
    let rest : List (List ℕ) = bytes_of (drop (i + 1) names) in
    sym (by_first old n rest true (not-false (has old n) (sym told ∙ was)))
    ∙ ap (first_repeat_after (bytes_of old)) (sym (here names i d lt))
    ∙ before
