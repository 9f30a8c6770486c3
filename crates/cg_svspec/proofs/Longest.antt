-- Each token is the longest at its place where what follows is apart from it.
use Rattle.std.proofs.Common.{◌≡◌, ℕ, ◌≤◌, eqb, true, false, List, [], ◌∷◌, ◌++◌, length, refl, ap, sym, subst, ◌∙◌, arith, append_assoc, length-append}
use Rattle.std.specs.Fmt.{decimal, digits}
use Rattle.std.proofs.lemmas.Bool.Decides.{nat_tests}
use Rattle.cg_svspec.specs.Characters.{is_digit, is_first, is_name_character, is_hexadecimal, is_mark, Each, IsWord}
use Rattle.cg_svspec.specs.Tokens.{Token, word, num, lit, mark, equals, IsToken, spelling, IsLongest}
use Rattle.cg_svspec.proofs.Runs.{StartsNot, same_first, no_longer, same_run, no_run}
use Rattle.cg_svspec.proofs.Numerals.{decimal_digits, hexadecimal_digits, decimal_some, first_no_digit, mark_no_digit, mark_no_first}

-- what may follow a word, a number or a literal
pub record Apart (rest : List ℕ) : Type 0 where
  pub name : StartsNot is_name_character rest
  pub digit : StartsNot is_digit rest
  pub hexadecimal : StartsNot is_hexadecimal rest
  pub quote : StartsNot (λ c. eqb c 39) rest

-- a character that goes on with none of them
pub apart_at : (c : ℕ) (cs : List ℕ) → is_name_character c ≡ false → is_digit c ≡ false → is_hexadecimal c ≡ false → eqb c 39 ≡ false → Apart (c ∷ cs)
apart_at c cs n d h q = record { name = n; digit = d; hexadecimal = h; quote = q }

-- what begins a name may also stand inside
first_in_name : (c : ℕ) → is_first c ≡ true → is_name_character c ≡ true
first_in_name c h = rw h refl

-- all characters of a word
name_characters : (w : List ℕ) → IsWord w → Each is_name_character w
name_characters [] h = absurd h
name_characters (c ∷ cs) h = (first_in_name c h.0, h.1)

-- no number stands where a mark does
pub mark_no_number : (m n : ℕ) (tail rest : List ℕ) → is_mark m ≡ true → m ∷ tail ≡ decimal n ++ rest → ⊥
mark_no_number m n tail rest is e = no_run is_mark is_digit mark_no_digit m tail (decimal n) rest is (decimal_digits n) (decimal_some n) e

-- no number stands where a word does
pub word_no_number : (w : List ℕ) (n : ℕ) (tail rest : List ℕ) → IsWord w → w ++ tail ≡ decimal n ++ rest → ⊥
word_no_number [] n tail rest is e = absurd is
word_no_number (c ∷ cs) n tail rest is e = no_run is_first is_digit first_no_digit c (cs ++ tail) (decimal n) rest is.0 (decimal_digits n) (decimal_some n) e

-- no word stands where a mark does
pub mark_no_word : (m : ℕ) (w tail rest : List ℕ) → is_mark m ≡ true → IsWord w → m ∷ tail ≡ w ++ rest → ⊥
mark_no_word m [] tail rest is ok e = absurd ok
mark_no_word m (c ∷ cs) tail rest is ok e =
    mark_no_first c (subst (λ z. is_mark z ≡ true) (same_first m c tail (cs ++ rest) e) is) ok.0

-- a literal with what stands behind it
pub literal_front : (w v : ℕ) (tail : List ℕ) → spelling (lit w v) ++ tail ≡ decimal w ++ (39 ∷ 104 ∷ (digits 16 false v ++ tail))
literal_front w v tail = append_assoc (decimal w) (39 ∷ 104 ∷ digits 16 false v) tail

-- a word
pub word_longest : (w rest : List ℕ) → IsWord w → Apart rest → IsLongest (word w) rest
word_longest w rest is apart (word x) tail ok e = no_longer is_name_character w x rest tail (name_characters x ok) apart.name e
word_longest w rest is apart (num n) tail ok e = absurd (word_no_number w n rest tail is e)
word_longest w rest is apart (lit n v) tail ok e = absurd (word_no_number w n rest _ is (e ∙ literal_front n v tail))
word_longest w rest is apart (mark m) tail ok e = absurd (mark_no_word m w tail rest ok is (sym e))
word_longest w rest is apart equals tail ok e = absurd (mark_no_word 61 w (61 ∷ tail) rest refl is (sym e))

-- what stands behind two equal characters
tail_of : {a b c d : ℕ} {xs ys : List ℕ} → a ∷ b ∷ xs ≡ c ∷ d ∷ ys → xs ≡ ys
tail_of e = cc

-- a text that does not begin with a quote is none that does
no_quote : (rest tail : List ℕ) → StartsNot (λ c. eqb c 39) rest → rest ≡ 39 ∷ tail → ⊥
no_quote [] tail h e = cc
no_quote (c ∷ cs) tail h e = let same : c ≡ 39 = same_first c 39 cs tail e in grind (arith, nat_tests)

-- a number
pub num_longest : (n : ℕ) (rest : List ℕ) → Apart rest → IsLongest (num n) rest
num_longest n rest apart (word w) tail ok e = absurd (word_no_number w n tail rest ok (sym e))
num_longest n rest apart (num m) tail ok e = no_longer is_digit (decimal n) (decimal m) rest tail (decimal_digits m) apart.digit e
num_longest n rest apart (lit w v) tail ok e =
    let run = same_run is_digit (decimal n) (decimal w) rest (39 ∷ 104 ∷ (digits 16 false v ++ tail)) (decimal_digits n) (decimal_digits w) apart.digit refl (e ∙ literal_front w v tail) in
    absurd (no_quote rest _ apart.quote run.1)
num_longest n rest apart (mark m) tail ok e = absurd (mark_no_number m n tail rest ok (sym e))
num_longest n rest apart equals tail ok e = absurd (mark_no_number 61 n (61 ∷ tail) rest refl (sym e))

-- `lit_longest`, with the literal's characters regrouped
literal_at : (w v : ℕ) (rest : List ℕ) → Apart rest → (u : Token) (tail : List ℕ) → IsToken u → decimal w ++ (39 ∷ 104 ∷ (digits 16 false v ++ rest)) ≡ spelling u ++ tail → length (spelling u) ≤ length (decimal w ++ (39 ∷ 104 ∷ digits 16 false v))
literal_at w v rest apart (word x) tail ok e = absurd (word_no_number x w tail _ ok (sym e))
literal_at w v rest apart (num m) tail ok e =
    omega (arith, no_longer is_digit (decimal w) (decimal m) (39 ∷ 104 ∷ (digits 16 false v ++ rest)) tail (decimal_digits m) refl e, length-append (decimal w) (39 ∷ 104 ∷ digits 16 false v))
literal_at w v rest apart (lit x y) tail ok e =
    let run = same_run is_digit (decimal w) (decimal x) (39 ∷ 104 ∷ (digits 16 false v ++ rest)) (39 ∷ 104 ∷ (digits 16 false y ++ tail)) (decimal_digits w) (decimal_digits x) refl refl (e ∙ literal_front x y tail) in
    let behind : digits 16 false v ++ rest ≡ digits 16 false y ++ tail = tail_of run.1 in
    omega (arith, no_longer is_hexadecimal (digits 16 false v) (digits 16 false y) rest tail (hexadecimal_digits y) apart.hexadecimal behind, ap length run.0, length-append (decimal w) (39 ∷ 104 ∷ digits 16 false v), length-append (decimal x) (39 ∷ 104 ∷ digits 16 false y))
literal_at w v rest apart (mark m) tail ok e = absurd (mark_no_number m w tail _ ok (sym e))
literal_at w v rest apart equals tail ok e = absurd (mark_no_number 61 w (61 ∷ tail) _ refl (sym e))

-- a literal
pub lit_longest : (w v : ℕ) (rest : List ℕ) → Apart rest → IsLongest (lit w v) rest
lit_longest w v rest apart u tail ok e = literal_at w v rest apart u tail ok (sym (literal_front w v rest) ∙ e)

-- what a mark is where == does not stand
single_longest : (c : ℕ) (rest : List ℕ) → is_mark c ≡ true → ((tail : List ℕ) → c ∷ rest ≡ 61 ∷ 61 ∷ tail → ⊥) → IsLongest (mark c) rest
single_longest c rest is single (word w) tail ok e = absurd (mark_no_word c w rest tail is ok e)
single_longest c rest is single (num n) tail ok e = absurd (mark_no_number c n rest tail is e)
single_longest c rest is single (lit w v) tail ok e = absurd (mark_no_number c w rest _ is (e ∙ literal_front w v tail))
single_longest c rest is single (mark m) tail ok e = omega arith
single_longest c rest is single equals tail ok e = absurd (single tail e)

-- a mark other than =
pub mark_longest : (c : ℕ) (rest : List ℕ) → is_mark c ≡ true → eqb c 61 ≡ false → IsLongest (mark c) rest
mark_longest c rest is other = single_longest c rest is (λ tail e. let same : c ≡ 61 = same_first c 61 rest (61 ∷ tail) e in absurd (grind (arith, nat_tests)))

-- no == stands where no second = follows
no_second : (rest tail : List ℕ) → StartsNot (λ c. eqb c 61) rest → 61 ∷ rest ≡ 61 ∷ 61 ∷ tail → ⊥
no_second [] tail h e = cc
no_second (c ∷ cs) tail h e = let same : c ≡ 61 = cc in absurd (grind (arith, nat_tests))

-- the mark = where no second = follows
pub assign_longest : (rest : List ℕ) → StartsNot (λ c. eqb c 61) rest → IsLongest (mark 61) rest
assign_longest rest other = single_longest 61 rest refl (λ tail. no_second rest tail other)

-- the token ==
pub equals_longest : (rest : List ℕ) → IsLongest equals rest
equals_longest rest (word w) tail ok e = absurd (mark_no_word 61 w (61 ∷ rest) tail refl ok e)
equals_longest rest (num n) tail ok e = absurd (mark_no_number 61 n (61 ∷ rest) tail refl e)
equals_longest rest (lit w v) tail ok e = absurd (mark_no_number 61 w (61 ∷ rest) _ refl (e ∙ literal_front w v tail))
equals_longest rest (mark m) tail ok e = omega arith
equals_longest rest equals tail ok e = omega arith
