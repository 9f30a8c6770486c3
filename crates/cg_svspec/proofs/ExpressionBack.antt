-- The tokens of an expression are read back as that expression.
use Rattle.std.proofs.Common.{◌≡◌, ℕ, zero, suc, ◌≤◌, ◌<◌, false, List, [], ◌∷◌, ◌++◌, length, refl, ap, ◌∙◌, arith, append_assoc, length-append, Some}
use Rattle.cg_svspec.specs.Tokens.{Token, mark, equals}
use Rattle.cg_svspec.specs.Tree.{Expression, net, cut, lit, cat, inv, any, and, or, equal, pick, Expressions, none, more, expressions}
use Rattle.cg_svspec.specs.Grammar.{expression_tokens, rest_tokens}
use Rattle.cg_svspec.specs.Printable.{IsPrintableExpression, ArePrintable, depth, depth_of_parts, IsExpression}
use Rattle.cg_svspec.specs.Parse.{Found, onward, next_is, items_after, net_or_cut, operation, in_parentheses, expression_within, expression_at}

-- the parts of a concatenation as a list
abbrev pub parts_of : Expressions → List Expression
parts_of none = []
parts_of (more x xs) = x ∷ parts_of xs

-- as a list and back
pub expressions-parts_of : (xs : Expressions) → expressions (parts_of xs) ≡ xs
expressions-parts_of none = refl
expressions-parts_of (more x xs) = ap (more x) (expressions-parts_of xs)

-- an expression begins with neither operator of one operand
no_operator : (read : List Token → Found Expression) (x : Expression) (ts : List Token) → in_parentheses read (expression_tokens x ++ ts) ≡ onward (read (expression_tokens x ++ ts)) (operation read)
no_operator read (net n) ts = refl
no_operator read (cut n m l) ts = refl
no_operator read (lit w v) ts = refl
no_operator read (cat xs) ts = refl
no_operator read (inv x) ts = refl
no_operator read (any x) ts = refl
no_operator read (and x y) ts = refl
no_operator read (or x y) ts = refl
no_operator read (equal x y) ts = refl
no_operator read (pick c x y) ts = refl

-- a net where no cut of it stands
bare_net : (n : List ℕ) (ts : List Token) → next_is 91 ts ≡ false → net_or_cut n ts ≡ Some (net n, ts)
bare_net n ts h = rw h refl

-- each part behind the first one has a token
count_below : (xs : Expressions) → length (parts_of xs) ≤ length (rest_tokens xs)
count_below none = omega arith
count_below (more x xs) = omega (arith, count_below xs, length-append (expression_tokens x) (rest_tokens xs))

-- no cut stands behind a part of a concatenation
behind_part : (xs : Expressions) (ts : List Token) → next_is 91 (rest_tokens xs ++ mark 125 ∷ ts) ≡ false
behind_part none ts = refl
behind_part (more x xs) ts = refl

-- an expression has at least depth 1
some_depth : (x : Expression) → 0 < depth x
some_depth (net n) = omega arith
some_depth (cut n m l) = omega arith
some_depth (lit w v) = omega arith
some_depth (cat xs) = omega arith
some_depth (inv x) = omega arith
some_depth (any x) = omega arith
some_depth (and x y) = omega arith
some_depth (or x y) = omega arith
some_depth (equal x y) = omega arith
some_depth (pick c x y) = omega arith

mutual
  -- an expression, read with at least its depth
  pub expression_back : (x : Expression) → IsPrintableExpression x → (d : ℕ) → depth x ≤ d → (ts : List Token) → next_is 91 ts ≡ false → expression_within d (expression_tokens x ++ ts) ≡ Some (x, ts)
  expression_back x is zero h ts apart = absurd (omega (arith, some_depth x))
  expression_back (net n) is (suc d) h ts apart = rw is.1 (bare_net n ts apart)
  expression_back (cut n m l) is (suc d) h ts apart = rw is.0.1 refl
  expression_back (lit w v) is (suc d) h ts apart = refl
  expression_back (cat none) is (suc d) h ts apart = absurd is
  expression_back (cat (more x xs)) is (suc d) h ts apart =
      let size : length (parts_of xs) < length (rest_tokens xs ++ mark 125 ∷ ts) = omega (arith, count_below xs, length-append (rest_tokens xs) (mark 125 ∷ ts)) in
      simp append_assoc
      (rw (
        expression_back x is.0 d (omega arith) (rest_tokens xs ++ mark 125 ∷ ts) (behind_part xs ts),
        parts_back xs is.1 d (omega arith) (length (rest_tokens xs ++ mark 125 ∷ ts)) size ts,
        expressions-parts_of xs,
      ) refl)
  expression_back (inv x) is (suc d) h ts apart = simp append_assoc (rw (expression_back x is d (omega arith) (mark 41 ∷ ts) refl) refl)
  expression_back (any x) is (suc d) h ts apart = simp append_assoc (rw (expression_back x is d (omega arith) (mark 41 ∷ ts) refl) refl)
  expression_back (and x y) is (suc d) h ts apart =
      simp append_assoc
      (no_operator (expression_within d) x _
      ∙ rw (
        expression_back x is.0 d (omega arith) (mark 38 ∷ (expression_tokens y ++ mark 41 ∷ ts)) refl,
        expression_back y is.1 d (omega arith) (mark 41 ∷ ts) refl,
      ) refl)
  expression_back (or x y) is (suc d) h ts apart =
      simp append_assoc
      (no_operator (expression_within d) x _
      ∙ rw (
        expression_back x is.0 d (omega arith) (mark 124 ∷ (expression_tokens y ++ mark 41 ∷ ts)) refl,
        expression_back y is.1 d (omega arith) (mark 41 ∷ ts) refl,
      ) refl)
  expression_back (equal x y) is (suc d) h ts apart =
      simp append_assoc
      (no_operator (expression_within d) x _
      ∙ rw (
        expression_back x is.0 d (omega arith) (equals ∷ (expression_tokens y ++ mark 41 ∷ ts)) refl,
        expression_back y is.1 d (omega arith) (mark 41 ∷ ts) refl,
      ) refl)
  expression_back (pick c x y) is (suc d) h ts apart =
      simp append_assoc
      (no_operator (expression_within d) c _
      ∙ rw (
        expression_back c is.0 d (omega arith) (mark 63 ∷ (expression_tokens x ++ (mark 58 ∷ (expression_tokens y ++ mark 41 ∷ ts)))) refl,
        expression_back x is.1 d (omega arith) (mark 58 ∷ (expression_tokens y ++ mark 41 ∷ ts)) refl,
        expression_back y is.2 d (omega arith) (mark 41 ∷ ts) refl,
      ) refl)

  -- the parts behind the first one, and the closing brace
  parts_back : (xs : Expressions) → ArePrintable xs → (d : ℕ) → depth_of_parts xs ≤ d → (k : ℕ) → length (parts_of xs) < k → (ts : List Token) → items_after (expression_within d) 125 k (rest_tokens xs ++ mark 125 ∷ ts) ≡ Some (parts_of xs, ts)
  parts_back xs is d h zero l ts = absurd (omega arith)
  parts_back none is d h (suc k) l ts = refl
  parts_back (more x xs) is d h (suc k) l ts =
      simp append_assoc
      (rw (
        expression_back x is.0 d (omega arith) (rest_tokens xs ++ mark 125 ∷ ts) (behind_part xs ts),
        parts_back xs is.1 d (omega arith) k (omega arith) ts,
      ) refl)

-- an expression of the grammar
pub whole_expression_back : (x : Expression) → IsExpression x → (ts : List Token) → next_is 91 ts ≡ false → expression_at (expression_tokens x ++ ts) ≡ Some (x, ts)
unfolding expression_at
whole_expression_back x is ts apart = expression_back x is.0 128 is.1 ts apart
