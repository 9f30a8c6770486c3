-- The text of an expression reads to the expression's tokens.
use Rattle.std.proofs.Common.{ℕ, ◌<◌, ◌^◌, eqb, cond, Bool, true, false, List, ◌∷◌, ◌++◌, refl, append_assoc, codes}
use Rattle.std.specs.Fmt.{decimal, digits}
use Rattle.cg_svspec.specs.Tokens.{Token, num, lit, ReadsTo}
use Rattle.cg_svspec.specs.Tree as tree
use Rattle.cg_svspec.specs.Tree.{Expression, Expressions}
use Rattle.cg_svspec.specs.Layout.{expression_text, parts_text, value_text}
use Rattle.cg_svspec.specs.Grammar.{expression_tokens, rest_tokens, value_tokens}
use Rattle.cg_svspec.specs.Printable.{IsLiteral, IsPrintableExpression, ArePrintable, IsNumberOrLiteral}
use Rattle.cg_svspec.proofs.Longest.{Apart, num_longest, lit_longest}
use Rattle.cg_svspec.proofs.Pieces

-- a number
pub number : (n : ℕ) (more : List ℕ) (us : List Token) (tail : List ℕ) → n < 2 ^ 16 → Apart more → ReadsTo more us tail → ReadsTo (decimal n ++ more) (num n ∷ us) tail
number n more us tail small apart r = Pieces.add (num n) more us tail small (num_longest n more apart) r

-- a literal
pub literal : (w v : ℕ) (more : List ℕ) (us : List Token) (tail : List ℕ) → IsLiteral w v → Apart more → ReadsTo more us tail → ReadsTo ((decimal w ++ (codes "'h" ++ digits 16 false v)) ++ more) (lit w v ∷ us) tail
literal w v more us tail is apart r = Pieces.add (lit w v) more us tail is (lit_longest w v more apart) r

-- what stands behind a part of a concatenation
behind_part : (xs : Expressions) (more : List ℕ) → Apart more → Apart (parts_text (codes ", ") xs ++ more)
behind_part tree.none more apart = apart
behind_part (tree.more x xs) more apart = Pieces.apart_comma

mutual
  pub expression_reads : (x : Expression) → IsPrintableExpression x → (more : List ℕ) (us : List Token) (tail : List ℕ) → Apart more → ReadsTo more us tail → ReadsTo (expression_text x ++ more) (expression_tokens x ++ us) tail
  expression_reads (tree.net n) is more us tail apart r = Pieces.named n is.0 apart r
  expression_reads (tree.cut n m l) is more us tail apart r =
      simp append_assoc
      (Pieces.named n is.0.0 Pieces.apart_open_bracket
      (Pieces.one 91 refl refl
      (number m _ _ tail is.1 Pieces.apart_colon
      (Pieces.one 58 refl refl
      (number l _ _ tail is.2 Pieces.apart_close_bracket
      (Pieces.one 93 refl refl r))))))
  expression_reads (tree.lit w v) is more us tail apart r = literal w v more us tail is apart r
  expression_reads (tree.cat tree.none) is more us tail apart r = absurd is
  expression_reads (tree.cat (tree.more x xs)) is more us tail apart r =
      simp append_assoc
      (Pieces.one 123 refl refl
      (expression_reads x is.0 _ _ tail (behind_part xs _ Pieces.apart_close_brace)
      (rest_reads xs is.1 _ _ tail Pieces.apart_close_brace
      (Pieces.one 125 refl refl r))))
  expression_reads (tree.inv x) is more us tail apart r =
      simp append_assoc
      (Pieces.one 40 refl refl (Pieces.one 126 refl refl
      (expression_reads x is _ _ tail Pieces.apart_close (Pieces.one 41 refl refl r))))
  expression_reads (tree.any x) is more us tail apart r =
      simp append_assoc
      (Pieces.one 40 refl refl (Pieces.one 124 refl refl
      (expression_reads x is _ _ tail Pieces.apart_close (Pieces.one 41 refl refl r))))
  expression_reads (tree.and x y) is more us tail apart r =
      simp append_assoc
      (Pieces.one 40 refl refl
      (expression_reads x is.0 _ _ tail Pieces.apart_space
      (Pieces.space (Pieces.one 38 refl refl (Pieces.space
      (expression_reads y is.1 _ _ tail Pieces.apart_close (Pieces.one 41 refl refl r)))))))
  expression_reads (tree.or x y) is more us tail apart r =
      simp append_assoc
      (Pieces.one 40 refl refl
      (expression_reads x is.0 _ _ tail Pieces.apart_space
      (Pieces.space (Pieces.one 124 refl refl (Pieces.space
      (expression_reads y is.1 _ _ tail Pieces.apart_close (Pieces.one 41 refl refl r)))))))
  expression_reads (tree.equal x y) is more us tail apart r =
      simp append_assoc
      (Pieces.one 40 refl refl
      (expression_reads x is.0 _ _ tail Pieces.apart_space
      (Pieces.space (Pieces.twice (Pieces.space
      (expression_reads y is.1 _ _ tail Pieces.apart_close (Pieces.one 41 refl refl r)))))))
  expression_reads (tree.pick c x y) is more us tail apart r =
      simp append_assoc
      (Pieces.one 40 refl refl
      (expression_reads c is.0 _ _ tail Pieces.apart_space
      (Pieces.space (Pieces.one 63 refl refl (Pieces.space
      (expression_reads x is.1 _ _ tail Pieces.apart_space
      (Pieces.space (Pieces.one 58 refl refl (Pieces.space
      (expression_reads y is.2 _ _ tail Pieces.apart_close (Pieces.one 41 refl refl r)))))))))))

  -- the parts behind the first one
  rest_reads : (xs : Expressions) → ArePrintable xs → (more : List ℕ) (us : List Token) (tail : List ℕ) → Apart more → ReadsTo more us tail → ReadsTo (parts_text (codes ", ") xs ++ more) (rest_tokens xs ++ us) tail
  rest_reads tree.none is more us tail apart r = r
  rest_reads (tree.more x xs) is more us tail apart r =
      simp append_assoc
      (Pieces.one 44 refl refl (Pieces.space
      (expression_reads x is.0 _ _ tail (behind_part xs more apart)
      (rest_reads xs is.1 more us tail apart r))))

-- a literal, or a plain number where its width is 0
either_reads : (b : Bool) (w v : ℕ) → cond b (v < 2 ^ 16) (IsLiteral w v) → (more : List ℕ) (us : List Token) (tail : List ℕ) → Apart more → ReadsTo more us tail → ReadsTo (cond b (decimal v) (decimal w ++ (codes "'h" ++ digits 16 false v)) ++ more) (cond b (num v) (lit w v) ∷ us) tail
either_reads true w v is more us tail apart r = number v more us tail is apart r
either_reads false w v is more us tail apart r = literal w v more us tail is apart r

-- a parameter's value
pub value_reads : (x : Expression) → IsNumberOrLiteral x → (more : List ℕ) (us : List Token) (tail : List ℕ) → Apart more → ReadsTo more us tail → ReadsTo (value_text x ++ more) (value_tokens x ++ us) tail
value_reads (tree.net n) is more us tail apart r = absurd is
value_reads (tree.cut n m l) is more us tail apart r = absurd is
value_reads (tree.lit w v) is more us tail apart r = either_reads (eqb w 0) w v is more us tail apart r
value_reads (tree.cat xs) is more us tail apart r = absurd is
value_reads (tree.inv x) is more us tail apart r = absurd is
value_reads (tree.any x) is more us tail apart r = absurd is
value_reads (tree.and x y) is more us tail apart r = absurd is
value_reads (tree.or x y) is more us tail apart r = absurd is
value_reads (tree.equal x y) is more us tail apart r = absurd is
value_reads (tree.pick c x y) is more us tail apart r = absurd is
