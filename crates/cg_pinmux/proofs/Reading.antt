-- Numbers in brackets, as they are read.
use Rattle.std.proofs.Common.{◌≡◌, ℕ, zero, suc, ◌+◌, ◌*◌, ◌-◌, ◌/◌, ◌%◌, ◌<◌, ◌≤◌, ◌==◌, ◌⊎◌, Bool, true, false, cond, ◌&&◌, eqb, leb, List, [], ◌∷◌, ◌++◌, take, drop, Option, Some, None, inl, inr, refl, sym, ap, subst, ◌∙◌, arith}
use Rattle.std.specs.Prelude.{decimal}
use Rattle.std.specs.List.{position, slice_get}
use Rattle.std.proofs.lemmas.Bool.{cases_lt, false≢true}
use Rattle.std.proofs.lemmas.Bool.Decides.{nat_tests}
use Rattle.std.proofs.lemmas.Fmt.{decimal_digit, decimal_step}
use Rattle.std.proofs.lemmas.List.{take-append-drop}
use Rattle.cg_desc.proofs.Numbered.{found_first, none_found}
use Rattle.cg_svspec.specs.Characters.{Each, IsWord, is_first, is_name_character}
use Rattle.cg_pinmux.specs.Brackets.{bit_number, one_digit, two_digits}
use Rattle.cg_pinmux.specs.Regions.{bit_text}

-- ---- the two lengths

text_of_one : (k : ℕ) → k < 10 → bit_text k ≡ 91 ∷ (48 + k) ∷ 93 ∷ []
text_of_one k less = ap (λ ds. 91 ∷ (ds ++ (93 ∷ []))) (decimal_digit k less)

text_of_two : (k : ℕ) → 10 ≤ k → k < 100 → bit_text k ≡ 91 ∷ (48 + k / 10) ∷ (48 + k % 10) ∷ 93 ∷ []
text_of_two k more less =
    let ten : decimal (k / 10) ≡ (48 + k / 10) ∷ [] = decimal_digit (k / 10) (omega arith) in
    let both : decimal k ≡ decimal (k / 10) ++ ((48 + k % 10) ∷ []) = decimal_step k more (omega arith) in
    ap (λ ds. 91 ∷ (ds ++ (93 ∷ []))) (both ∙ ap (λ ds. ds ++ ((48 + k % 10) ∷ [])) ten)

reads_one : (k : ℕ) → k < 10 → one_digit 91 (48 + k) 93 ≡ Some k
unfolding one_digit
reads_one k less =
    let low : leb 48 (48 + k) ≡ true = grind (arith, nat_tests) in
    let high : leb (48 + k) 57 ≡ true = grind (arith, nat_tests) in
    let same : 48 + k - 48 ≡ k = omega arith in
    rw (low, high, same) refl

reads_two : (k : ℕ) → 10 ≤ k → k < 100 → two_digits 91 (48 + k / 10) (48 + k % 10) 93 ≡ Some k
unfolding two_digits
reads_two k more less =
    let a : leb 49 (48 + k / 10) ≡ true = grind (arith, nat_tests) in
    let b : leb (48 + k / 10) 57 ≡ true = grind (arith, nat_tests) in
    let c : leb 48 (48 + k % 10) ≡ true = grind (arith, nat_tests) in
    let d : leb (48 + k % 10) 57 ≡ true = grind (arith, nat_tests) in
    let same : (48 + k / 10 - 48) * 10 + (48 + k % 10 - 48) ≡ k = omega arith in
    rw (a, b, c, d, same) refl

-- each number below 100 is read
pub number_reads : (k : ℕ) → k < 100 → bit_number (bit_text k) ≡ Some k
number_reads k less = by (cases_lt k 10) where
  by : (k < 10) ⊎ (10 ≤ k) → bit_number (bit_text k) ≡ Some k
  by (inl few) = ap bit_number (text_of_one k few) ∙ reads_one k few
  by (inr more) = ap bit_number (text_of_two k more less) ∙ reads_two k more less

-- ---- what is read

chosen : {X : Type 0} (b : Bool) (x y : X) → cond b (Some x) None ≡ Some y → (b ≡ true) × (x ≡ y)
chosen true x y is = let e : x ≡ y = cc in (refl, e)
chosen false x y is = cc

and_both : (a b : Bool) → (a && b) ≡ true → (a ≡ true) × (b ≡ true)
and_both true b is = (refl, is)
and_both false b is = absurd (false≢true is)

is_same : (a b : ℕ) → eqb a b ≡ true → a ≡ b
is_same a b is = grind (arith, nat_tests)

is_most : (a b : ℕ) → leb a b ≡ true → a ≤ b
is_most a b is = grind (arith, nat_tests)

one_read : (a b c k : ℕ) → one_digit a b c ≡ Some k → (k < 100) × ((a ∷ b ∷ c ∷ []) ≡ bit_text k)
unfolding one_digit
one_read a b c k is =
    let read = chosen _ (b - 48) k is in
    let p = and_both _ _ read.0 in
    let q = and_both _ _ p.1 in
    let r = and_both _ _ q.1 in
    let first = is_same a 91 p.0 in
    let low = is_most 48 b q.0 in
    let high = is_most b 57 r.0 in
    let last = is_same c 93 r.1 in
    let value = read.1 in
    let few : k < 10 = omega (arith, low, high, value) in
    let digit : b ≡ 48 + k = omega (arith, low, value) in
    (omega (arith, few), rw (first, digit, last) (sym (text_of_one k few)))

two_read : (a t b c k : ℕ) → two_digits a t b c ≡ Some k → (k < 100) × ((a ∷ t ∷ b ∷ c ∷ []) ≡ bit_text k)
unfolding two_digits
two_read a t b c k is =
    let read = chosen _ ((t - 48) * 10 + (b - 48)) k is in
    let p = and_both _ _ read.0 in
    let q = and_both _ _ p.1 in
    let r = and_both _ _ q.1 in
    let s = and_both _ _ r.1 in
    let u = and_both _ _ s.1 in
    let first = is_same a 91 p.0 in
    let some = is_most 49 t q.0 in
    let most = is_most t 57 r.0 in
    let low = is_most 48 b s.0 in
    let high = is_most b 57 u.0 in
    let last = is_same c 93 u.1 in
    let value = read.1 in
    let few : k < 100 = omega (arith, some, most, low, high, value) in
    let more : 10 ≤ k = omega (arith, some, most, low, high, value) in
    let ten : t ≡ 48 + k / 10 = omega (arith, some, most, low, high, value) in
    let one : b ≡ 48 + k % 10 = omega (arith, some, most, low, high, value) in
    (few, rw (first, ten, one, last) (sym (text_of_two k more few)))

-- what is read is written so
pub number_read : (text : List ℕ) (k : ℕ) → bit_number text ≡ Some k → (k < 100) × (text ≡ bit_text k)
number_read [] k is = cc
number_read (a ∷ []) k is = cc
number_read (a ∷ b ∷ []) k is = cc
number_read (a ∷ b ∷ c ∷ []) k is = one_read a b c k is
number_read (a ∷ t ∷ b ∷ c ∷ []) k is = two_read a t b c k is
number_read (a ∷ t ∷ b ∷ c ∷ d ∷ rest) k is = cc

-- ---- where the bracket stands

-- no opening bracket
abbrev pub Plain : List ℕ → Type 0
Plain [] = Unit {0}
Plain (c ∷ cs) = ((c == 91) ≡ false) × Plain cs

first_plain : (c : ℕ) → is_first c ≡ true → (c == 91) ≡ false
first_plain c is = grind (arith, nat_tests)

character_plain : (c : ℕ) → is_name_character c ≡ true → (c == 91) ≡ false
character_plain c is = grind (arith, nat_tests)

rest_plain : (cs : List ℕ) → Each is_name_character cs → Plain cs
rest_plain [] each = tt
rest_plain (c ∷ cs) each = (character_plain c each.0, rest_plain cs each.1)

-- a name has none
pub word_plain : (w : List ℕ) → IsWord w → Plain w
word_plain [] is = absurd is
word_plain (c ∷ cs) is = (first_plain c is.0, rest_plain cs is.1)

-- a text has one place of its first bracket
pub split_once : (a b c d : List ℕ) → Plain a → Plain b → a ++ (91 ∷ c) ≡ b ++ (91 ∷ d) → (a ≡ b) × (c ≡ d)
split_once [] [] c d p q is = let e : c ≡ d = cc in (refl, e)
split_once [] (y ∷ b) c d p q is = let e : 91 ≡ y = cc in absurd (false≢true (sym (subst (λ x. (x == 91) ≡ false) (sym e) q.0)))
split_once (x ∷ a) [] c d p q is = let e : x ≡ 91 = cc in absurd (false≢true (sym (subst (λ y. (y == 91) ≡ false) e p.0)))
split_once (x ∷ a) (y ∷ b) c d p q is =
    let head : x ≡ y = cc in
    let tail : a ++ (91 ∷ c) ≡ b ++ (91 ∷ d) = cc in
    let more = split_once a b c d p.1 q.1 tail in
    let all : (x ∷ a) ≡ (y ∷ b) = λ i. head i ∷ more.0 i in
    (all, more.1)

-- a plain text has no bracket behind it
pub plain_has_none : (a b c : List ℕ) → Plain a → a ≡ b ++ (91 ∷ c) → ⊥
plain_has_none [] [] c p is = cc
plain_has_none [] (y ∷ b) c p is = cc
plain_has_none (x ∷ a) [] c p is = let e : x ≡ 91 = cc in absurd (false≢true (sym (subst (λ y. (y == 91) ≡ false) e p.0)))
plain_has_none (x ∷ a) (y ∷ b) c p is = let tail : a ≡ b ++ (91 ∷ c) = cc in plain_has_none a b c p.1 tail

-- ---- where the bracket is found

is_bracket : (c : ℕ) → (c == 91) ≡ true → c ≡ 91
is_bracket c is = grind (arith, nat_tests)

plain_by : (xs : List ℕ) → ((j y : ℕ) → slice_get xs j ≡ Some y → (y == 91) ≡ false) → Plain xs
plain_by [] each = tt
plain_by (x ∷ xs) each = (each 0 x refl, plain_by xs (λ j y is. each (suc j) y is))

plain_at : (xs : List ℕ) (j y : ℕ) → Plain xs → slice_get xs j ≡ Some y → (y == 91) ≡ false
plain_at [] j y plain is = cc
plain_at (x ∷ xs) zero y plain is = let e : x ≡ y = cc in subst (λ c. (c == 91) ≡ false) e plain.0
plain_at (x ∷ xs) (suc j) y plain is = plain_at xs j y plain.1 is

-- where none is found, there is none
pub none_plain : (xs : List ℕ) → position (λ c. c == 91) xs ≡ None → Plain xs
none_plain xs is = plain_by xs (λ j y there. none_found (λ c. c == 91) xs is j y there)

pub plain_none : (xs : List ℕ) → Plain xs → position (λ c. c == 91) xs ≡ None
plain_none xs plain = by (position (λ c. c == 91) xs) refl where
  by : (o : Option ℕ) → position (λ c. c == 91) xs ≡ o → o ≡ None
  by None is = refl
  by (Some i) is =
      let one = found_first (λ c. c == 91) xs i is in
      absurd (false≢true (sym (plain_at xs i one.item plain one.is) ∙ one.passes))

take_plain : (xs : List ℕ) (i : ℕ) → ((j y : ℕ) → j < i → slice_get xs j ≡ Some y → (y == 91) ≡ false) → Plain (take i xs)
take_plain [] zero each = tt
take_plain [] (suc i) each = tt
take_plain (x ∷ xs) zero each = tt
take_plain (x ∷ xs) (suc i) each = (each 0 x (omega arith) refl, take_plain xs i (λ j y less is. each (suc j) y (omega arith) is))

drop_at : (xs : List ℕ) (i x : ℕ) → slice_get xs i ≡ Some x → (rest : List ℕ) × (drop i xs ≡ x ∷ rest)
drop_at [] i x is = cc
drop_at (y ∷ xs) zero x is = let e : y ≡ x = cc in (xs, ap (λ c. c ∷ xs) e)
drop_at (y ∷ xs) (suc i) x is = drop_at xs i x is

-- before the first bracket there is none
pub record IsSplit (text : List ℕ) (i : ℕ) : Type 0 where
  pub plain : Plain (take i text)
  pub rest : List ℕ
  pub behind : drop i text ≡ 91 ∷ rest
  pub whole : text ≡ take i text ++ (91 ∷ rest)

pub split_at : (text : List ℕ) (i : ℕ) → position (λ c. c == 91) text ≡ Some i → IsSplit text i
split_at text i is =
    let one = found_first (λ c. c == 91) text i is in
    let rest = drop_at text i one.item one.is in
    let bracket = is_bracket one.item one.passes in
    let behind : drop i text ≡ 91 ∷ rest.0 = rest.1 ∙ ap (λ c. c ∷ rest.0) bracket in
    record {
      plain = take_plain text i (λ j y less there. one.before j y less there);
      rest = rest.0;
      behind = behind;
      whole = sym (take-append-drop i text) ∙ ap (λ xs. take i text ++ xs) behind;
    }
