-- Multi-line strings: the text that was read so far, and the text that is left.
use Rattle.std.proofs.Common.{◌≡◌, ℕ, ◌<◌, ◌⊎◌, inl, inr, List, [], ◌∷◌, ◌++◌, refl, arith, true, false, Bool, ap, subst, ◌∙◌, sym, append_assoc}
use Rattle.std.specs.Prelude.{◌≢◌, cond, ◌==◌, nat_lt, encode_utf8}
use Rattle.std.proofs.lemmas.Bool.Decides.{nat_tests}
use Rattle.std.proofs.lemmas.List.{append-nil}
use Rattle.std.proofs.lemmas.Str.{encodes-append, encode_ascii}
use lib.Utf8.{encodes}
use Rattle.cg_docspec.specs.Characters.{is_space, line_feed, single_quote}
use Rattle.cg_docspec.specs.Place.{Place, place_after}
use Rattle.cg_docspec.specs.Gap.{starts}
use Rattle.cg_docspec.specs.Lines.{Lines, is_nil, lines_more, undented, without_last_feed}
use Rattle.cg_docspec.specs.Machine.MultiLine.{flushed, quotes}
use Rattle.cg_docspec.proofs.Basics.{and_false, bool_cases, same_character}
use Rattle.cg_docspec.proofs.Left.{pending}

-- ---- the string

-- a text with a character is not empty
append_not_nil : (a : List ℕ) (c : ℕ) (x : List ℕ) → is_nil (a ++ c ∷ x) ≡ false
append_not_nil [] c x = refl
append_not_nil (d ∷ a) c x = refl

-- only the last line feed is dropped
feed_last : (a : List ℕ) (c : ℕ) (x : List ℕ) → without_last_feed (a ++ c ∷ x) ≡ a ++ without_last_feed (c ∷ x)
feed_last [] c x = refl
feed_last (d ∷ a) c x = rw (append_not_nil a c x, and_false (d == line_feed)) (ap (λ (y : List ℕ). d ∷ y) (feed_last a c x))

-- what holds of no quote, of one and of two, holds of those held back
quotes_cases : (P : List ℕ → Type 0) (n : ℕ) → P [] → P (single_quote ∷ []) → P (single_quote ∷ single_quote ∷ []) → P (quotes n)
quotes_cases P n p q r = go (n == 0) (n == 1)
  where
    go : (x y : Bool) → P (cond x [] (cond y (single_quote ∷ []) (single_quote ∷ single_quote ∷ [])))
    go true y = p
    go false true = q
    go false false = r

-- the text with the line end that was held back
pub flushed_is : (u : List ℕ) (ended : Bool) → flushed u ended ≡ u ++ pending ended
flushed_is u true = refl
flushed_is u false = sym (append-nil u)

-- a character below 128 is its byte
ascii : (c : ℕ) → c < 128 → encodes (c ∷ []) ≡ c ∷ []
ascii c h = ap (λ (x : List ℕ). x ++ []) (encode_ascii c h)

-- what was held back is its bytes
front_ascii : (ended : Bool) (n : ℕ) → encodes (pending ended ++ quotes n) ≡ pending ended ++ quotes n
front_ascii ended n = encodes-append (pending ended) (quotes n) ∙ rw (pend ended, quotes_cases (λ (q : List ℕ). encodes q ≡ q) n refl (ascii single_quote (omega arith)) (rw (encode_ascii single_quote (omega arith)) refl)) refl
  where
    pend : (ended : Bool) → encodes (pending ended) ≡ pending ended
    pend true = ascii line_feed (omega arith)
    pend false = refl

-- the string so far, with what is left behind it
pub text_more : (u : List ℕ) (ended : Bool) (n c : ℕ) (x : List ℕ) →
    u ++ encodes (without_last_feed (pending ended ++ (quotes n ++ c ∷ x))) ≡ flushed u ended ++ quotes n ++ encodes (without_last_feed (c ∷ x))
text_more u ended n c x =
    let a = pending ended ++ quotes n in
    let e : without_last_feed (pending ended ++ (quotes n ++ c ∷ x)) ≡ a ++ without_last_feed (c ∷ x) =
    ap without_last_feed (sym (append_assoc (pending ended) (quotes n) (c ∷ x))) ∙ feed_last a c x in
    let f : encodes (without_last_feed (pending ended ++ (quotes n ++ c ∷ x))) ≡ a ++ encodes (without_last_feed (c ∷ x)) =
    ap encodes e ∙ encodes-append a (without_last_feed (c ∷ x)) ∙ ap (λ (y : List ℕ). y ++ encodes (without_last_feed (c ∷ x))) (front_ascii ended n) in
    ap (λ (y : List ℕ). u ++ y) f ∙ sym (append_assoc u a (encodes (without_last_feed (c ∷ x)))) ∙
    ap (λ (y : List ℕ). y ++ encodes (without_last_feed (c ∷ x))) (sym (append_assoc u (pending ended) (quotes n)) ∙ ap (λ (y : List ℕ). y ++ quotes n) (sym (flushed_is u ended)))

-- no quote is dropped from a line
pub undented_quotes : (k n c : ℕ) (w : List ℕ) → undented k 0 (quotes n ++ c ∷ w) ≡ quotes n ++ undented k 0 (c ∷ w)
undented_quotes k n c w = quotes_cases (λ (q : List ℕ). undented k 0 (q ++ c ∷ w) ≡ q ++ undented k 0 (c ∷ w)) n refl refl refl

-- ---- the characters

-- quotes that are not the end
pub quote_lines : {at2 : Place} {w s2 : List ℕ} (n c : ℕ) (s : List ℕ) (at1 here : Place) → (c == single_quote) ≡ false →
    place_after at1 (quotes n) ≡ here → Lines here (c ∷ s) w at2 s2 → Lines at1 (quotes n ++ c ∷ s) (quotes n ++ w) at2 s2
quote_lines {at2} {w} {s2} n c s at1 here e =
    quotes_cases (λ (q : List ℕ). place_after at1 q ≡ here → Lines here (c ∷ s) w at2 s2 → Lines at1 (q ++ c ∷ s) (q ++ w) at2 s2) n
    (λ a l. subst (λ (x : Place). Lines x (c ∷ s) w at2 s2) (sym a) l)
    (λ a l. lines_more (rw e refl) (inl refl) (subst (λ (x : Place). Lines x (c ∷ s) w at2 s2) (sym a) l))
    (λ a l. lines_more (rw e refl) (inl refl) (lines_more (rw e refl) (inl refl) (subst (λ (x : Place). Lines x (c ∷ s) w at2 s2) (sym a) l)))

-- three quotes begin with one
pub no_three : (c : ℕ) (s : List ℕ) → (c == single_quote) ≡ false → starts (single_quote ∷ single_quote ∷ single_quote ∷ []) (c ∷ s) ≡ false
no_three c s e = rw e refl

-- fewer than two quotes are none or one
pub few_quotes : (n : ℕ) → nat_lt n 2 ≡ true → (n ≡ 0) ⊎ (n ≡ 1)
few_quotes n e =
    let h : n < 2 = grind (arith, nat_tests) in
    elim (bool_cases (n == 0)) as (λ _. (n ≡ 0) ⊎ (n ≡ 1)) [ inl f ↦ inl (same_character n 0 f) | inr f ↦ inr (let g : (n == 0) ≡ false = f in let m : n ≢ 0 = grind (arith, nat_tests) in omega arith) ]

-- two quotes at most are held back
pub quotes_two : (n : ℕ) → nat_lt n 2 ≡ false → quotes n ≡ single_quote ∷ single_quote ∷ []
quotes_two n e =
    let f : (n == 0) ≡ false = grind (arith, nat_tests) in
    let g : (n == 1) ≡ false = grind (arith, nat_tests) in
    rw (f, g) refl

-- a line end alone at the end is dropped
pub no_more : (k : ℕ) (ended : Bool) → encodes (without_last_feed (pending ended ++ undented k 0 [])) ≡ []
no_more k true = refl
no_more k false = refl

-- a character inside a line stays
pub solid_more : (k c : ℕ) (w : List ℕ) → (c == line_feed) ≡ false → undented k 0 (c ∷ w) ≡ c ∷ undented k 0 w
solid_more k c w e = rw (and_false (is_space c), e) refl

-- such a character, and the text behind it
pub solid_text : (c : ℕ) (x : List ℕ) → (c == line_feed) ≡ false →
    encodes (without_last_feed (c ∷ x)) ≡ encode_utf8 c ++ encodes (without_last_feed x)
solid_text c x e = rw e refl
