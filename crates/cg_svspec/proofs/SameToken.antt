-- Two tokens of one spelling are equal, and what a token begins with.
use Rattle.std.proofs.Common.{◌≡◌, ℕ, ◌<◌, Bool, true, false, ◌||◌, List, [], ◌∷◌, ◌++◌, length, refl, ap, sym, ◌∙◌, arith, append-nil, codes}
use Rattle.std.specs.Fmt.{decimal, digits}
use Rattle.std.proofs.Math.Bool.{or-true}
use Rattle.cg_svspec.specs.Characters.{is_digit, is_first, is_mark, Each}
use Rattle.cg_svspec.specs.Tokens.{Token, word, num, lit, mark, equals, IsToken, spelling}
use Rattle.cg_svspec.proofs.Runs.{same_run}
use Rattle.cg_svspec.proofs.Numerals.{decimal_digits, decimal_some, decimal_same, hexadecimal_same, literal_small}
use Rattle.cg_svspec.proofs.Longest.{mark_no_number, word_no_number, mark_no_word}

-- a text's first character, of a kind
pub record Begins (p : ℕ → Bool) (xs : List ℕ) : Type 0 where
  pub first : ℕ
  pub after : List ℕ
  pub is : xs ≡ first ∷ after
  pub kind : p first ≡ true

-- a run that is not empty begins so
begins : (p : ℕ → Bool) (xs : List ℕ) → Each p xs → 0 < length xs → Begins p xs
begins p [] each some = absurd (omega arith)
begins p (x ∷ xs) each some = record { first = x; after = xs; is = refl; kind = each.0 }

-- it does so also with more behind it, and as a wider kind
wider : (p q : ℕ → Bool) (xs ys : List ℕ) → ((c : ℕ) → p c ≡ true → q c ≡ true) → Begins p xs → Begins q (xs ++ ys)
wider p q xs ys up b = record { first = b.first; after = b.after ++ ys; is = ap (λ z. z ++ ys) b.is; kind = up b.first b.kind }

-- neither a blank, a carriage return nor a slash
abbrev pub starts_token : ℕ → Bool
starts_token c = is_first c || (is_digit c || is_mark c)

-- a digit begins a token
digit_starts : (c : ℕ) → is_digit c ≡ true → starts_token c ≡ true
digit_starts c h = rw h (or-true (is_first c))

-- a token begins with a letter, an underscore, a digit or a mark
pub token_begins : (t : Token) → IsToken t → Begins starts_token (spelling t)
token_begins (word []) is = absurd is
token_begins (word (c ∷ cs)) is = record { first = c; after = cs; is = refl; kind = rw is.0 refl }
token_begins (num n) is =
    let b = begins is_digit (decimal n) (decimal_digits n) (decimal_some n) in
    record { first = b.first; after = b.after; is = b.is; kind = digit_starts b.first b.kind }
token_begins (lit w v) is =
    wider is_digit starts_token (decimal w) (codes "'h" ++ digits 16 false v) digit_starts (begins is_digit (decimal w) (decimal_digits w) (decimal_some w))
token_begins (mark c) is = record { first = c; after = []; is = refl; kind = rw is (rw (or-true (is_digit c)) (or-true (is_first c))) }
token_begins equals is = record { first = 61; after = 61 ∷ []; is = refl; kind = refl }

-- equal texts, with nothing behind them
on_nil : {xs ys : List ℕ} → xs ≡ ys → xs ++ [] ≡ ys ++ []
on_nil e = ap (λ z. z ++ []) e

-- no number is spelled as a literal
number_no_literal : (n w v : ℕ) → decimal n ≡ decimal w ++ (39 ∷ 104 ∷ digits 16 false v) → ⊥
number_no_literal n w v e =
    let run = same_run is_digit (decimal n) (decimal w) [] (39 ∷ 104 ∷ digits 16 false v) (decimal_digits n) (decimal_digits w) tt refl (append-nil (decimal n) ∙ e) in
    let bad : [] ≡ 39 ∷ 104 ∷ digits 16 false v = run.1 in
    cc

-- tokens of one spelling are equal
pub same_token : (t u : Token) → IsToken t → IsToken u → spelling t ≡ spelling u → t ≡ u
same_token (word w) (word x) a b e = ap word e
same_token (word w) (num n) a b e = absurd (word_no_number w n [] [] a (on_nil e))
same_token (word w) (lit n v) a b e = absurd (word_no_number w n [] (codes "'h" ++ digits 16 false v) a (append-nil w ∙ e))
same_token (word w) (mark c) a b e = absurd (mark_no_word c w [] [] b a (sym (on_nil e)))
same_token (word w) equals a b e = absurd (mark_no_word 61 w (61 ∷ []) [] refl a (sym (on_nil e)))
same_token (num n) (word w) a b e = absurd (word_no_number w n [] [] b (on_nil (sym e)))
same_token (num n) (num m) a b e = ap num (decimal_same n m (omega arith) (omega arith) e)
same_token (num n) (lit w v) a b e = absurd (number_no_literal n w v e)
same_token (num n) (mark c) a b e = absurd (mark_no_number c n [] [] b (sym (on_nil e)))
same_token (num n) equals a b e = absurd (mark_no_number 61 n (61 ∷ []) [] refl (sym (on_nil e)))
same_token (lit w v) (word x) a b e = absurd (word_no_number x w [] (codes "'h" ++ digits 16 false v) b (append-nil x ∙ sym e))
same_token (lit w v) (num n) a b e = absurd (number_no_literal n w v (sym e))
same_token (lit w v) (lit x y) a b e =
    let run = same_run is_digit (decimal w) (decimal x) (39 ∷ 104 ∷ digits 16 false v) (39 ∷ 104 ∷ digits 16 false y) (decimal_digits w) (decimal_digits x) refl refl e in
    let same_width : w ≡ x = decimal_same w x (omega arith) (omega arith) run.0 in
    let behind : 39 ∷ 104 ∷ digits 16 false v ≡ 39 ∷ 104 ∷ digits 16 false y = run.1 in
    let same_digits : digits 16 false v ≡ digits 16 false y = cc in
    let same_value : v ≡ y = hexadecimal_same v y (literal_small v w a.1 a.2) (literal_small y x b.1 b.2) same_digits in
    cc
same_token (lit w v) (mark c) a b e = absurd (mark_no_number c w [] (codes "'h" ++ digits 16 false v) b (sym e))
same_token (lit w v) equals a b e = absurd (mark_no_number 61 w (61 ∷ []) (codes "'h" ++ digits 16 false v) refl (sym e))
same_token (mark c) (word w) a b e = absurd (mark_no_word c w [] [] a b (on_nil e))
same_token (mark c) (num n) a b e = absurd (mark_no_number c n [] [] a (on_nil e))
same_token (mark c) (lit w v) a b e = absurd (mark_no_number c w [] (codes "'h" ++ digits 16 false v) a e)
same_token (mark c) (mark d) a b e = cc
same_token (mark c) equals a b e = cc
same_token equals (word w) a b e = absurd (mark_no_word 61 w (61 ∷ []) [] refl b (on_nil e))
same_token equals (num n) a b e = absurd (mark_no_number 61 n (61 ∷ []) [] refl (on_nil e))
same_token equals (lit w v) a b e = absurd (mark_no_number 61 w (61 ∷ []) (codes "'h" ++ digits 16 false v) refl e)
same_token equals (mark c) a b e = cc
same_token equals equals a b e = refl
