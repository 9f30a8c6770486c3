-- What a literal says, by its spelling; and no literal has a character but letters, digits, signs and points.
use Rattle.std.proofs.Common.{◌≡◌, ℕ, ◌+◌, ◌<◌, ◌≤◌, inl, inr, List, [], ◌∷◌, ◌++◌, Option, Some, None, refl, arith, true, false, Bool, ap, subst, ◌∙◌, sym}
use Rattle.std.specs.Prelude.{ℤ, ◌/◌, cond, ◌&&◌, ◌||◌, ◌==◌, nat_le, codes}
use Rattle.std.specs.Str.{bytes_eq}
use Rattle.std.proofs.lemmas.Bool.{and_parts, or_parts}
use Rattle.std.proofs.lemmas.Bool.Decides.{nat_tests}
use Rattle.std.proofs.lemmas.Str.{encode_ascii}
use Rattle.std.proofs.lemmas.Slice.Eq.{bytes_eq-Decides}
use lib.Utf8.{encodes, encode, next}
use lib.Dec.{ltb}
use Rattle.cg_docspec.specs.Characters.{capital_e, is_digit, minus, plus, point}
use Rattle.cg_docspec.specs.Tree.{Kind, boolean, null, string}
use Rattle.cg_docspec.specs.Lines.{is_nil}
use Rattle.cg_docspec.specs.Literal.{Literal, false_literal, integer_literal, is_e, is_sign, null_literal, other_number, true_literal}
use Rattle.cg_docspec.specs.Machine.Numeral.{integer_value, is_decimals, is_exponent, is_fraction, is_literal, is_number, is_unsigned, is_word, number_kind, plain_kind, signed_digits, skip_digits, some_digits}
use Rattle.cg_docspec.proofs.Basics.{bool_cases, both, if_true, never, or_cases}
use Rattle.cg_docspec.proofs.Numerals.{integer_is, integer_number, integer_of, number_is, number_of}

-- ---- the characters of literals

-- a digit, a small letter, or one of + - . E
abbrev pub is_wordy : ℕ → Bool
is_wordy c = (nat_le 48 c && nat_le c 57) || (nat_le 97 c && nat_le c 122) || c == plus || c == minus || c == point || c == capital_e

-- such characters
abbrev pub are_wordy : List ℕ → Bool
are_wordy [] = true
are_wordy (c ∷ s) = is_wordy c && are_wordy s

-- a digit is one
digit_wordy : (c : ℕ) → is_digit c ≡ true → is_wordy c ≡ true
digit_wordy c e = grind (arith, nat_tests)

-- digits are
skip_wordy : (s : List ℕ) → are_wordy (skip_digits s) ≡ true → are_wordy s ≡ true
unfolding skip_digits
skip_wordy [] e = refl
skip_wordy (c ∷ s) e = go (is_digit c) refl (skip_wordy s) e
  where
    go : (b : Bool) → is_digit c ≡ b → (are_wordy (skip_digits s) ≡ true → are_wordy s ≡ true) → are_wordy (cond b (skip_digits s) (c ∷ s)) ≡ true →
        are_wordy (c ∷ s) ≡ true
    go true f more h = both (is_wordy c) (are_wordy s) (digit_wordy c f) (more h)
    go false f more h = h

-- nothing is
nil_wordy : (s : List ℕ) → is_nil s ≡ true → are_wordy s ≡ true
nil_wordy [] e = refl
nil_wordy (c ∷ s) e = never e

-- digits alone are
some_wordy : (s : List ℕ) → some_digits s ≡ true → are_wordy s ≡ true
some_wordy [] e = never e
some_wordy (c ∷ s) e =
    let p = and_parts (is_digit c) (is_nil (skip_digits s)) e in
    both (is_wordy c) (are_wordy s) (digit_wordy c p.0) (skip_wordy s (nil_wordy (skip_digits s) p.1))

-- digits with a sign are
signed_wordy : (s : List ℕ) → signed_digits s ≡ true → are_wordy s ≡ true
signed_wordy [] e = never e
signed_wordy (c ∷ s) e =
    if_true (is_sign c) (some_digits s) (some_digits (c ∷ s)) e
    (λ f h. both (is_wordy c) (are_wordy s) (grind (arith, nat_tests)) (some_wordy s h))
    (λ f h. some_wordy (c ∷ s) h)

-- an exponent is
exponent_wordy : (s : List ℕ) → is_exponent s ≡ true → are_wordy s ≡ true
exponent_wordy [] e = refl
exponent_wordy (c ∷ s) e =
    let p = and_parts (is_e c) (signed_digits s) e in
    both (is_wordy c) (are_wordy s) (grind (arith, nat_tests)) (signed_wordy s p.1)

-- a fraction is
fraction_wordy : (s : List ℕ) → is_fraction s ≡ true → are_wordy s ≡ true
fraction_wordy [] e = refl
fraction_wordy (c ∷ s) e =
    if_true (c == point) (is_decimals s) (is_exponent (c ∷ s)) e
    (λ f h. both (is_wordy c) (are_wordy s) (grind (arith, nat_tests)) (go s h))
    (λ f h. exponent_wordy (c ∷ s) h)
  where
    go : (s : List ℕ) → is_decimals s ≡ true → are_wordy s ≡ true
    go [] e = never e
    go (d ∷ s) e = let p = and_parts (is_digit d) (is_exponent (skip_digits s)) e in both (is_wordy d) (are_wordy s) (digit_wordy d p.0) (skip_wordy s (exponent_wordy (skip_digits s) p.1))

-- a number without a sign is
unsigned_wordy : (s : List ℕ) → is_unsigned s ≡ true → are_wordy s ≡ true
unsigned_wordy [] e = never e
unsigned_wordy (c ∷ s) e =
    if_true (c == 48) (is_fraction s) (is_digit c && is_fraction (skip_digits s)) e
    (λ f h. both (is_wordy c) (are_wordy s) (grind (arith, nat_tests)) (fraction_wordy s h))
    (λ f h. let p = and_parts (is_digit c) (is_fraction (skip_digits s)) h in both (is_wordy c) (are_wordy s) (digit_wordy c p.0) (skip_wordy s (fraction_wordy (skip_digits s) p.1)))

-- a number is
number_wordy : (s : List ℕ) → is_number s ≡ true → are_wordy s ≡ true
number_wordy [] e = never e
number_wordy (c ∷ s) e =
    if_true (c == minus) (is_unsigned s) (is_unsigned (c ∷ s)) e
    (λ f h. both (is_wordy c) (are_wordy s) (grind (arith, nat_tests)) (unsigned_wordy s h))
    (λ f h. unsigned_wordy (c ∷ s) h)

-- a text that equals such a one is
text_wordy : (s t : List ℕ) → are_wordy t ≡ true → bytes_eq s t ≡ true → are_wordy s ≡ true
text_wordy s t e f = rw ((bytes_eq-Decides s t).0 f) e

-- a literal is
pub literal_wordy : (s : List ℕ) → is_literal s ≡ true → are_wordy s ≡ true
unfolding is_literal
literal_wordy s e =
    or_cases (is_word s) (is_number s) e
    (λ f. or_cases (bytes_eq s (codes "true") || bytes_eq s (codes "false")) (bytes_eq s (codes "null")) f
    (λ f. or_cases (bytes_eq s (codes "true")) (bytes_eq s (codes "false")) f (text_wordy s (codes "true") refl) (text_wordy s (codes "false") refl))
    (text_wordy s (codes "null") refl))
    (number_wordy s)

-- no byte from 192 on is one
high_byte : {G : Type 0} (x : ℕ) (z : List ℕ) → 192 ≤ x → are_wordy (x ∷ z) ≡ true → G
high_byte x z h e = let p = (and_parts (is_wordy x) (are_wordy z) e).0 in absurd (grind (arith, nat_tests))

-- where a character's bytes are such, so is the character
encode_wordy : (c : ℕ) (y : List ℕ) → are_wordy (encode c ++ y) ≡ true → (is_wordy c ≡ true) × (are_wordy y ≡ true)
unfolding encode
encode_wordy c y = go (ltb c 128) (ltb c 2048) (ltb c 65536)
  where
    go : (b1 b2 b3 : Bool) →
        are_wordy (cond b1 (c ∷ []) (cond b2 ((192 + c / 64) ∷ next c ∷ []) (cond b3 ((224 + c / 4096) ∷ next (c / 64) ∷ next c ∷ []) ((240 + c / 262144) ∷ next (c / 4096) ∷ next (c / 64) ∷ next c ∷ []))) ++ y) ≡ true →
        (is_wordy c ≡ true) × (are_wordy y ≡ true)
    go true b2 b3 e = and_parts (is_wordy c) (are_wordy y) e
    go false true b3 e = high_byte (192 + c / 64) (next c ∷ y) (omega arith) e
    go false false true e = high_byte (224 + c / 4096) (next (c / 64) ∷ next c ∷ y) (omega arith) e
    go false false false e = high_byte (240 + c / 262144) (next (c / 4096) ∷ next (c / 64) ∷ next c ∷ y) (omega arith) e

-- such characters are their bytes
pub encodes_wordy : (s : List ℕ) → are_wordy (encodes s) ≡ true → are_wordy s ≡ true
encodes_wordy [] e = refl
encodes_wordy (c ∷ s) e = let p = encode_wordy c (encodes s) e in both (is_wordy c) (are_wordy s) p.0 (encodes_wordy s p.1)

-- such characters are their own bytes
pub wordy_bytes : (s : List ℕ) → are_wordy s ≡ true → encodes s ≡ s
wordy_bytes [] e = refl
wordy_bytes (c ∷ s) e =
    let p = and_parts (is_wordy c) (are_wordy s) e in
    let low : c < 128 = let w : is_wordy c ≡ true = p.0 in grind (arith, nat_tests) in
    rw (encode_ascii c low, wordy_bytes s p.1) refl

-- with any other character they are not
not_wordy : (x y : List ℕ) (d : ℕ) → is_wordy d ≡ false → are_wordy (x ++ d ∷ y) ≡ false
not_wordy [] y d h = rw h refl
not_wordy (c ∷ x) y d h = rw (not_wordy x y d h) (go (is_wordy c))
  where
    go : (b : Bool) → (b && false) ≡ false
    go true = refl
    go false = refl

-- no literal has any other character
pub none_in_literal : (x y : List ℕ) (d : ℕ) → is_wordy d ≡ false → is_literal (encodes (x ++ d ∷ y)) ≡ false
none_in_literal x y d h =
    elim (bool_cases (is_literal (encodes (x ++ d ∷ y)))) as (λ _. is_literal (encodes (x ++ d ∷ y)) ≡ false) [
      | inl e ↦ never (sym (not_wordy x y d h) ∙ encodes_wordy (x ++ d ∷ y) (literal_wordy (encodes (x ++ d ∷ y)) e))
      | inr e ↦ e
    ]

-- ---- what a literal says

-- a number is none of the words
number_no_word : (u t : List ℕ) → is_number t ≡ false → is_number u ≡ true → bytes_eq u t ≡ false
number_no_word u t n e = elim (bool_cases (bytes_eq u t)) as (λ _. bytes_eq u t ≡ false) [
  | inl f ↦ never (sym n ∙ ap is_number (sym ((bytes_eq-Decides u t).0 f)) ∙ e)
  | inr f ↦ f
]

-- a number says its integer or its spelling
number_says : (u : List ℕ) → is_number u ≡ true → plain_kind u ≡ number_kind (integer_value u) u
unfolding plain_kind skip_digits
number_says u e = rw (number_no_word u (codes "true") refl e, number_no_word u (codes "false") refl e, number_no_word u (codes "null") refl e, e) refl

-- a number is a literal
number_literal : (u : List ℕ) → is_number u ≡ true → is_literal u ≡ true
unfolding is_literal
number_literal u e = rw e (go (is_word u))
  where
    go : (b : Bool) → (b || true) ≡ true
    go true = refl
    go false = refl

-- a literal of the grammar is one by its bytes, and says the same
record Says (u : List ℕ) (k : Kind) : Type 0 where
  is : is_literal u ≡ true
  kind : plain_kind u ≡ k

-- what a literal of the grammar says by its bytes
says : {u : List ℕ} {k : Kind} → Literal u k → Says u k
unfolding is_literal plain_kind skip_digits
says (true_literal e) = rw e (record { is = refl; kind = refl })
says (false_literal e) = rw e (record { is = refl; kind = refl })
says (null_literal e) = rw e (record { is = refl; kind = refl })
says (integer_literal {u} {n} i) =
    let e : is_number u ≡ true = number_is (integer_number i) in
    record { is = number_literal u e; kind = number_says u e ∙ ap (λ (o : Option ℤ). number_kind o u) (integer_is i) }
says (other_number {u} x none) =
    let e : is_number u ≡ true = number_is x in
    record { is = number_literal u e; kind = number_says u e ∙ ap (λ (o : Option ℤ). number_kind o u) (go (integer_value u) refl) }
  where
    go : (o : Option ℤ) → integer_value u ≡ o → integer_value u ≡ None
    go None f = f
    go (Some z) f = absurd (none z (integer_of z x f))

-- a literal of the grammar is one by its bytes
pub literal_is : {u : List ℕ} {k : Kind} → Literal u k → is_literal (encodes u) ≡ true
literal_is {u} l = let s = says l in rw (wordy_bytes u (literal_wordy u s.is)) s.is

-- and says the same
pub literal_says : {u : List ℕ} {k : Kind} → Literal u k → plain_kind (encodes u) ≡ k
literal_says {u} l = let s = says l in rw (wordy_bytes u (literal_wordy u s.is)) s.kind

-- a number's spelling is a literal of the grammar
number_of_kind : (u : List ℕ) → is_number u ≡ true → Literal u (number_kind (integer_value u) u)
number_of_kind u e = go (integer_value u) refl
  where
    go : (o : Option ℤ) → integer_value u ≡ o → Literal u (number_kind o u)
    go (Some z) f = integer_literal (integer_of z (number_of u e) f)
    go None f = other_number (number_of u e) (λ z i. let g : None ≡ Some z = sym f ∙ integer_is i in cc)

-- what the bytes say, the grammar says
by_bytes : (u : List ℕ) → is_literal u ≡ true → Literal u (plain_kind u)
unfolding is_literal plain_kind
by_bytes u e = go (bytes_eq u (codes "true")) (bytes_eq u (codes "false")) (bytes_eq u (codes "null")) (is_number u) refl refl refl refl e
  where
    go : (a b c d : Bool) → bytes_eq u (codes "true") ≡ a → bytes_eq u (codes "false") ≡ b → bytes_eq u (codes "null") ≡ c → is_number u ≡ d →
        ((a || b || c) || d) ≡ true →
        Literal u (cond a (boolean true) (cond b (boolean false) (cond c null (cond d (number_kind (integer_value u) u) (string u)))))
    go true b c d ea eb ec ed e = true_literal ((bytes_eq-Decides u (codes "true")).0 ea)
    go false true c d ea eb ec ed e = false_literal ((bytes_eq-Decides u (codes "false")).0 eb)
    go false false true d ea eb ec ed e = null_literal ((bytes_eq-Decides u (codes "null")).0 ec)
    go false false false true ea eb ec ed e = number_of_kind u ed
    go false false false false ea eb ec ed e = never e

-- what the bytes say is a literal of the grammar
pub literal_of : (u : List ℕ) → is_literal (encodes u) ≡ true → Literal u (plain_kind (encodes u))
literal_of u e =
    let w : encodes u ≡ u = wordy_bytes u (encodes_wordy u (literal_wordy (encodes u) e)) in
    subst (λ (x : List ℕ). Literal u (plain_kind x)) (sym w) (by_bytes u (subst (λ (x : List ℕ). is_literal x ≡ true) w e))

-- what is no literal is a string
pub plain_string : (u : List ℕ) → is_literal u ≡ false → plain_kind u ≡ string u
unfolding plain_kind is_literal
plain_string u e =
    let p = or_parts (is_word u) (is_number u) e in
    let q = or_parts (bytes_eq u (codes "true") || bytes_eq u (codes "false")) (bytes_eq u (codes "null")) p.0 in
    let r = or_parts (bytes_eq u (codes "true")) (bytes_eq u (codes "false")) q.0 in
    rw (r.0, r.1, q.1, p.1) refl
