-- The test of node names passes exactly the names, and pairs of names joined by a dot.
use Rattle.std.proofs.Common.{◌≡◌, ℕ, ◌+◌, ◌<◌, Bool, true, false, not, ◌&&◌, cond, List, [], ◌∷◌, ◌++◌, length, get_or, take, drop, inl, inr, refl, sym, ap, subst, ◌∙◌, arith, zero-add}
use Rattle.std.specs.List.{after_first, before_first, position_or_len}
use Rattle.std.proofs.Math.Seq.{drop-append-add, take-append_seam}
use Rattle.std.proofs.lemmas.Bool.{eqb-true, false_from_ne_true, false≢true, and_parts, and_from, lt-ltb, ltb-true}
use Rattle.std.proofs.lemmas.List.{append-nil, length-append}
use Rattle.std.proofs.lemmas.List.Sums.{passes_at_first, split_at_first}
use Rattle.cg_svspec.specs.Characters.{Each, IsWord, is_first, is_name_character}
use Rattle.cg_desc.specs.Crossbar.{IsNodeName, IsShortName}
use Rattle.cg_keys.specs.Forms.{is_name, name_limit}
use Rattle.cg_keys.proofs.NameTests.{is_name_tells}
use Rattle.cg_xbread.specs.Listed.{has_dot, is_dot, is_node_name}

-- ---- what passes is a name

from_parts : (s : List ℕ) → has_dot s ≡ true → is_name name_limit (before_first is_dot s) ≡ true → is_name name_limit (after_first is_dot s) ≡ true → IsNodeName s
from_parts s dot first second =
    let within : position_or_len is_dot s < length s = ltb-true _ _ dot in
    let is_46 : get_or s (position_or_len is_dot s) 0 ≡ 46 = eqb-true _ _ (passes_at_first is_dot s 0 within) in
    inr (
      before_first is_dot s,
      after_first is_dot s,
      (is_name_tells name_limit (before_first is_dot s)).0 first,
      (is_name_tells name_limit (after_first is_dot s)).0 second,
      split_at_first is_dot s 0 within ∙ ap (λ c. before_first is_dot s ++ (c ∷ after_first is_dot s)) is_46,
    )

named_of_test : (s : List ℕ) → is_node_name s ≡ true → IsNodeName s
unfolding is_node_name
named_of_test s passes = by (has_dot s) refl passes
  where
    by : (b : Bool) → has_dot s ≡ b → cond b (is_name name_limit (before_first is_dot s) && is_name name_limit (after_first is_dot s)) (is_name name_limit s) ≡ true → IsNodeName s
    by true dot h = let parts = and_parts (is_name name_limit (before_first is_dot s)) (is_name name_limit (after_first is_dot s)) h in from_parts s dot parts.0 parts.1
    by false dot h = inl ((is_name_tells name_limit s).0 h)

-- ---- a name passes

no_dot : (c : ℕ) → is_name_character c ≡ true → is_dot c ≡ false
no_dot c named = by (is_dot c) refl
  where
    by : (b : Bool) → is_dot c ≡ b → b ≡ false
    by true is = absurd (false≢true (subst (λ n. is_name_character n ≡ true) (eqb-true c 46 is) named))
    by false is = refl

-- behind name characters the first dot is that of the rest
dot_behind : (a rest : List ℕ) → Each is_name_character a → position_or_len is_dot (a ++ rest) ≡ length a + position_or_len is_dot rest
dot_behind [] rest each = sym (zero-add _)
dot_behind (c ∷ cs) rest each =
    ap (λ b. cond (not b) (1 + position_or_len is_dot (cs ++ rest)) 0) (no_dot c each.0)
    ∙ ap (λ n. 1 + n) (dot_behind cs rest each.1)
    ∙ omega arith

first_is_character : (c : ℕ) → is_first c ≡ true → is_name_character c ≡ true
first_is_character c first = rw first refl

word_characters : (s : List ℕ) → IsWord s → Each is_name_character s
word_characters [] word = absurd word
word_characters (c ∷ cs) word = (first_is_character c word.0, word.1)

test_short : (s : List ℕ) → IsShortName s → is_name name_limit s ≡ true
test_short s short = (is_name_tells name_limit s).1 short

test_of_one : (s : List ℕ) → IsShortName s → is_node_name s ≡ true
unfolding is_node_name
test_of_one s short =
    let at_end : position_or_len is_dot s ≡ length s =
    ap (position_or_len is_dot) (sym (append-nil s)) ∙ dot_behind s [] (word_characters s short.0.0) ∙ omega arith in
    let none : has_dot s ≡ false = false_from_ne_true (has_dot s) (λ dot. let lt : position_or_len is_dot s < length s = ltb-true _ _ dot in absurd (omega arith)) in
    ap (λ b. cond b (is_name name_limit (before_first is_dot s) && is_name name_limit (after_first is_dot s)) (is_name name_limit s)) none
    ∙ test_short s short

test_of_two : (a b : List ℕ) → IsShortName a → IsShortName b → is_node_name (a ++ (46 ∷ b)) ≡ true
unfolding is_node_name
test_of_two a b first second =
    let s : List ℕ = a ++ (46 ∷ b) in
    let at : position_or_len is_dot s ≡ length a = dot_behind a (46 ∷ b) (word_characters a first.0.0) ∙ omega arith in
    let some : has_dot s ≡ true = lt-ltb _ _ (omega (arith, length-append a (46 ∷ b))) in
    let front : before_first is_dot s ≡ a = ap (λ n. take n s) at ∙ take-append_seam a (46 ∷ b) in
    let back : after_first is_dot s ≡ b = ap (λ n. drop (n + 1) s) at ∙ drop-append-add a (46 ∷ b) 1 in
    ap (λ t. cond t (is_name name_limit (before_first is_dot s) && is_name name_limit (after_first is_dot s)) (is_name name_limit s)) some
    ∙ and_from _ _ (ap (is_name name_limit) front ∙ test_short a first) (ap (is_name name_limit) back ∙ test_short b second)

test_of_named : (s : List ℕ) → IsNodeName s → is_node_name s ≡ true
test_of_named s (inl short) = test_of_one s short
test_of_named s (inr (a, b, first, second, is)) = ap is_node_name is ∙ test_of_two a b first second

pub is_name_of_node : (s : List ℕ) → ¬ IsNodeName s → is_node_name s ≡ false
is_name_of_node s bad = false_from_ne_true (is_node_name s) (λ passes. bad (named_of_test s passes))

pub no_name_of_node : (s : List ℕ) → is_node_name s ≡ false → ¬ IsNodeName s
no_name_of_node s fails named = false≢true (sym fails ∙ test_of_named s named)

pub passes_node : (s : List ℕ) → is_node_name s ≡ true → IsNodeName s
passes_node s passes = named_of_test s passes
