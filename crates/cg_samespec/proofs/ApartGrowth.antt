-- Places only grow: each part of a document ends at no byte before it begins.
use Rattle.std.proofs.Common.{◌≡◌, ℕ, ◌+◌, ◌<◌, ◌≤◌, List, [], ◌∷◌, ◌++◌, true, sym, subst, arith}
use Rattle.std.specs.Prelude.{ℤ, codes}
use Rattle.std.proofs.lemmas.Bool.Decides.{nat_tests}
use Rattle.std.proofs.lemmas.Str.{len_utf8_bounds}
use Rattle.std.specs.Char.{len_utf8}
use Rattle.cg_docspec.specs.Characters.{is_key}
use Rattle.cg_docspec.specs.Place.{Place, next_place, place_after}
use Rattle.cg_docspec.specs.Gap.{at_line_end, Line, line_end, line_more, Block, block_end, block_more, block_crlf, Gap, no_gap, blank, crlf, hash_comment, slash_comment, block_comment}
use Rattle.cg_docspec.specs.Quoted.{Quoted, closes, as_is, escape, unit, pair}
use Rattle.cg_docspec.specs.Lines.{Lines, lines_end, lines_more, lines_crlf}
use Rattle.cg_docspec.specs.Literal.{Whole, zero_alone, without_zero, Number, number, negative, Integer, from_zero, to_zero, Literal, true_literal, false_literal, null_literal, integer_literal, other_number}
use Rattle.cg_docspec.specs.Tree.{Kind}
use Rattle.cg_docspec.specs.Document.{Leaf, quoted, lines, literal, unquoted, KeyRun, run_end, run_more, Key, quoted_key, run_key, Comma, no_comma, one_comma}
use Rattle.cg_hjson.proofs.OneStep.{next_bounds}

-- ---- characters

-- the place behind a character stands higher
pub steps_up : (at : Place) (c : ℕ) → at.byte < (next_place at c).byte
steps_up at c =
    let moved : (next_place at c).byte ≡ at.byte + len_utf8 c = (next_bounds at c).0 in
    let some : 1 ≤ len_utf8 c = (len_utf8_bounds c).0 in
    omega (arith, moved, some)

-- what stands behind a character stands higher than it
pub above : (at : Place) (c n : ℕ) → (next_place at c).byte ≤ n → at.byte < n
above at c n h = omega (arith, steps_up at c, h)

pub from_place : (at : Place) (c n : ℕ) → (next_place at c).byte ≤ n → at.byte ≤ n
from_place at c n h = omega (arith, above at c n h)

-- the place behind some characters
pub after_grows : (at : Place) (s : List ℕ) → at.byte ≤ (place_after at s).byte
after_grows at [] = omega arith
after_grows at (c ∷ s) = from_place at c (place_after at (c ∷ s)).byte (after_grows (next_place at c) s)

-- what stands behind some characters
pub from_after : (at : Place) (s : List ℕ) (n : ℕ) → (place_after at s).byte ≤ n → at.byte ≤ n
from_after at s n h = omega (arith, after_grows at s, h)

-- ---- gaps

pub line_grows : {at at' : Place} {s w r : List ℕ} → Line at s w at' r → at.byte ≤ at'.byte
line_grows (line_end e) = omega arith
line_grows (line_more {at} {at'} {c} e l) = from_place at c at'.byte (line_grows l)

block_grows : {at at' : Place} {s r : List ℕ} → Block at s at' r → at.byte ≤ at'.byte
block_grows (block_end {at} {c} {d} e f) = after_grows at (c ∷ d ∷ [])
block_grows (block_more {at} {at'} {c} e f b) = from_place at c at'.byte (block_grows b)
block_grows (block_crlf {at} {at'} {c} {d} e f b) = from_after at (c ∷ d ∷ []) at'.byte (block_grows b)

pub gap_grows : {at at' : Place} {s r : List ℕ} → Gap at s at' r → at.byte ≤ at'.byte
gap_grows no_gap = omega arith
gap_grows (blank {at} {at'} {c} e g) = from_place at c at'.byte (gap_grows g)
gap_grows (crlf {at} {at'} {c} {d} e f g) = from_after at (c ∷ d ∷ []) at'.byte (gap_grows g)
gap_grows (hash_comment {at} {at1} {at'} {c} e l g) = from_place at c at'.byte (omega (arith, line_grows l, gap_grows g))
gap_grows (slash_comment {at} {at1} {at'} {c} {d} e f l g) = from_after at (c ∷ d ∷ []) at'.byte (omega (arith, line_grows l, gap_grows g))
gap_grows (block_comment {at} {at1} {at'} {c} {d} e f b g) = from_after at (c ∷ d ∷ []) at'.byte (omega (arith, block_grows b, gap_grows g))

pub comma_grows : {at at' : Place} {s r : List ℕ} → Comma at s at' r → at.byte ≤ at'.byte
comma_grows no_comma = omega arith
comma_grows (one_comma {at} {at'} {c} e g) = from_place at c at'.byte (gap_grows g)

-- ---- strings and keys

quoted_grows : {q : ℕ} {at at' : Place} {s u r : List ℕ} → Quoted q at s u at' r → at.byte ≤ at'.byte
quoted_grows (closes {at} {c} e) = after_grows at (c ∷ [])
quoted_grows (as_is {at} {at'} {c} e f g l) = from_place at c at'.byte (quoted_grows l)
quoted_grows (escape {at} {at'} {c} {d} e f l) = from_after at (c ∷ d ∷ []) at'.byte (quoted_grows l)
quoted_grows (unit {at} {at'} {c} {d} x e f i is l) =
    from_after at (c ∷ d ∷ []) at'.byte (from_after (next_place (next_place at c) d) x at'.byte (quoted_grows l))
quoted_grows (pair {at} {at'} {c} {d} {e} {f} x y ec ed i high ee ef j low l) =
    let middle : Place = place_after (next_place (next_place at c) d) x in
    from_after at (c ∷ d ∷ []) at'.byte (from_after (next_place (next_place at c) d) x at'.byte
    (from_after middle (e ∷ f ∷ []) at'.byte (from_after (next_place (next_place middle e) f) y at'.byte (quoted_grows l))))

lines_grow : {at at' : Place} {s w r : List ℕ} → Lines at s w at' r → at.byte ≤ at'.byte
lines_grow (lines_end {at} {c} {d} {e} ec ed ee) = after_grows at (c ∷ d ∷ e ∷ [])
lines_grow (lines_more {at} {at'} {c} e f l) = from_place at c at'.byte (lines_grow l)
lines_grow (lines_crlf {at} {at'} {c} {d} e f l) = from_after at (c ∷ d ∷ []) at'.byte (lines_grow l)

run_grows : {at at' : Place} {s u r : List ℕ} → KeyRun at s u at' r → at.byte ≤ at'.byte
run_grows (run_end e) = omega arith
run_grows (run_more {at} {at'} {c} e l) = from_place at c at'.byte (run_grows l)

pub key_grows : {at at' : Place} {s u r : List ℕ} → Key at s u at' r → at.byte ≤ at'.byte
key_grows (quoted_key {at} {at'} {c} e q) = from_place at c at'.byte (quoted_grows q)
key_grows (run_key {at} {at'} {c} e f g l) = from_place at c at'.byte (run_grows l)

-- ---- values without parts

-- behind at least one character
abbrev Rises : Place → List ℕ → Type 0
Rises at u = at.byte < (place_after at u).byte

rises : (at : Place) (c : ℕ) (u : List ℕ) → Rises at (c ∷ u)
rises at c u = above at c (place_after at (c ∷ u)).byte (after_grows (next_place at c) u)

whole_rises : {w : List ℕ} (at : Place) (more : List ℕ) → Whole w → Rises at (w ++ more)
whole_rises at more (zero_alone {c} e) = rises at c more
whole_rises at more (without_zero {c} {s} e f g) = rises at c (s ++ more)

whole_alone_rises : {w : List ℕ} (at : Place) → Whole w → Rises at w
whole_alone_rises at (zero_alone {c} e) = rises at c []
whole_alone_rises at (without_zero {c} {s} e f g) = rises at c s

number_rises : {u : List ℕ} (at : Place) → Number u → Rises at u
number_rises at (number w f e whole_part fraction_part exponent_part) = whole_rises at (f ++ e) whole_part
number_rises at (negative {c} w f e sign whole_part fraction_part exponent_part) = rises at c (w ++ (f ++ e))

integer_rises : {u : List ℕ} {n : ℤ} (at : Place) → Integer u n → Rises at u
integer_rises at (from_zero whole_part e) = whole_alone_rises at whole_part
integer_rises at (to_zero {c} {w} sign whole_part e) = rises at c w

literal_rises : {u : List ℕ} {k : Kind} (at : Place) → Literal u k → Rises at u
literal_rises at (true_literal e) = subst (Rises at) (sym e) (rises at 116 (codes "rue"))
literal_rises at (false_literal e) = subst (Rises at) (sym e) (rises at 102 (codes "alse"))
literal_rises at (null_literal e) = subst (Rises at) (sym e) (rises at 110 (codes "ull"))
literal_rises at (integer_literal i) = integer_rises at i
literal_rises at (other_number n e) = number_rises at n

-- a character of a key ends no line
no_line_end : (c : ℕ) (s : List ℕ) → is_key c ≡ true → at_line_end (c ∷ s) ≡ true → ⊥
no_line_end c s key end = grind (arith, nat_tests)

line_rises : {at at' : Place} (c : ℕ) (s : List ℕ) {w r : List ℕ} → Line at (c ∷ s) w at' r → is_key c ≡ true → at.byte < at'.byte
line_rises c s (line_end e) key = absurd (no_line_end c s key e)
line_rises c s (line_more {at} {at'} e l) key = above at c at'.byte (line_grows l)

pub leaf_rises : {at at' : Place} {s r : List ℕ} {k : Kind} → Leaf at s k at' r → at.byte < at'.byte
leaf_rises (quoted {at} {at'} {c} e f q) = above at c at'.byte (quoted_grows q)
leaf_rises (lines {at} {at'} {c} {d} {e} ec ed ee l) = above at c at'.byte (from_after (next_place at c) (d ∷ e ∷ []) at'.byte (lines_grow l))
leaf_rises (literal {at} u r l e) = literal_rises at l
leaf_rises (unquoted {at} {at'} {c} {s} none e f g l) = line_rises c s l e
