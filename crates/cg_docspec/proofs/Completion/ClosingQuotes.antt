-- Texts that close a quoted string.
use Rattle.std.proofs.Common.{◌≡◌, ℕ, zero, suc, ◌+◌, ◌<◌, ◌≤◌, ◌⊎◌, inl, inr, List, [], ◌∷◌, ◌++◌, Option, Some, None, refl, arith, length, true, false, Bool, ap, subst, ◌∙◌, sym, append_assoc, length-append}
use Rattle.std.specs.Prelude.{◌*◌, ◌==◌, nat_lt, encode_utf8}
use Rattle.std.proofs.lemmas.Bool.Decides.{nat_tests}
use lib.Utf8.{scalar, low_scalar}
use Rattle.cg_docspec.specs.Characters.{backslash, line_feed, small_u}
use Rattle.cg_docspec.specs.Place.{Place, next_place, place_after}
use Rattle.cg_docspec.specs.Tree.{Tree, string_of}
use Rattle.cg_docspec.specs.Quoted.{IsUnit, closes, escape, hex, hex_value, is_high, is_low, pair, paired, unit, with_digit}
use Rattle.cg_docspec.specs.Machine.Escape.{Escape}
use Rattle.cg_docspec.specs.Machine.Escape as escape
use Rattle.cg_docspec.specs.Machine.Frame.{Frame}
use Rattle.cg_docspec.proofs.Back.Quotes.{add}
use Rattle.cg_docspec.proofs.Basics.{bool_cases}
use Rattle.cg_docspec.proofs.Completion.Closing.{Completed, Completing, close_key, close_value, closing, key_closing}
use Rattle.cg_docspec.proofs.Completion.Fine.{FineEscape, FineQuoted}
use Rattle.cg_docspec.proofs.Left.{EscapeThen, KeyOrString, LowDigits, QuotedThen}
use Rattle.cg_docspec.proofs.Spaces.{place_append}

-- the n of a line feed's escape
abbrev pub letter_n : ℕ
letter_n = 110

-- a character is itself
equal : (q : ℕ) → (q == q) ≡ true
equal q = grind (arith, nat_tests)

-- the value of digits goes on
digits_concat : (o : Option ℕ) (x z : List ℕ) (v : ℕ) → hex_value o x ≡ Some v → hex_value o (x ++ z) ≡ hex_value (Some v) z
digits_concat None [] z v e = cc
digits_concat None (y ∷ x) z v e = cc
digits_concat (Some w) [] z v e = ap (λ (p : Option ℕ). hex_value p z) e
digits_concat (Some w) (y ∷ x) z v e = digits_concat (with_digit w (hex y)) x z v e

-- digits and those that they lack are a unit
unit_concat : (x z : List ℕ) (n v w : ℕ) → length x ≡ n → hex_value (Some 0) x ≡ Some v → n + length z ≡ 4 → hex_value (Some v) z ≡ Some w →
    IsUnit (x ++ z) w
unit_concat x z n v w l d e f = (length-append x z ∙ omega (arith, l, e), digits_concat (Some 0) x z v d ∙ f)

-- a value of four digits that stands alone or begins a pair
MayStand : ℕ → Type 0
MayStand w = (w < 56320) ⊎ ((57344 ≤ w) × (w < 65536))

-- a unit that stands alone is a character
stands_scalar : (w : ℕ) → MayStand w → is_high w ≡ false → scalar w ≡ true
unfolding MayStand
stands_scalar w (inl e) f = low_scalar w (grind (arith, nat_tests))
stands_scalar w (inr e) f = let a = e.0 in let b = e.1 in grind (arith, nat_tests)

module _ (stack : List Frame) (key : Bool) (v : FineQuoted key stack) (q : ℕ) (at0 : Place) where
  -- what closes all behind the quote
  abbrev pub tail : Bool → List ℕ
  tail true = key_closing stack
  tail false = closing stack

  -- behind a string or a key
  close_string : (key : Bool) → FineQuoted key stack → (u : List ℕ) (at : Place) → Completed stack (λ T. KeyOrString T stack key at0 u at (tail key))
  close_string true v u at = close_key stack v u at0 at
  close_string false v u at = let x = close_value stack v (string_of u at0) at in (x.0, x.1, λ k. x.2 k.room k.held tt)

  -- at the closing quote
  finish : (u : List ℕ) (at : Place) → Completed stack (λ T. QuotedThen q u (KeyOrString T stack key at0) at (q ∷ tail key))
  finish u at = let x = close_string key v (u ++ []) (next_place at q) in (x.0, ([], next_place at q, tail key, closes (equal q), x.1), x.2)

  module _ (u : List ℕ) where
    -- a unit that stands alone, and a pair
    one_unit : (T : Tree) (x : List ℕ) (w : ℕ) (at1 : Place) (s : List ℕ) → IsUnit x w → scalar w ≡ true →
        QuotedThen q (u ++ encode_utf8 w) (KeyOrString T stack key at0) (place_after (next_place (next_place at1 backslash) small_u) x) s →
        QuotedThen q u (KeyOrString T stack key at0) at1 (backslash ∷ small_u ∷ (x ++ s))
    one_unit T x w at1 s iu sc h = add T stack q at0 key u (encode_utf8 w) at1 (place_after (next_place (next_place at1 backslash) small_u) x) (backslash ∷ small_u ∷ (x ++ s)) s (λ v at2 s2 l. unit x refl refl iu sc l) h

    -- a surrogate pair
    two_units : (T : Tree) (x y : List ℕ) (h w : ℕ) (at1 : Place) (s : List ℕ) → IsUnit x h → is_high h ≡ true → IsUnit y w → is_low w ≡ true →
        QuotedThen q (u ++ encode_utf8 (paired h w)) (KeyOrString T stack key at0) (place_after (next_place (next_place (place_after (next_place (next_place at1 backslash) small_u) x) backslash) small_u) y) s →
        QuotedThen q u (KeyOrString T stack key at0) at1 (backslash ∷ small_u ∷ (x ++ (backslash ∷ small_u ∷ (y ++ s))))
    two_units T x y h w at1 s iu hi iy low z = add T stack q at0 key u (encode_utf8 (paired h w)) at1 (place_after (next_place (next_place (place_after (next_place (next_place at1 backslash) small_u) x) backslash) small_u) y) (backslash ∷ small_u ∷ (x ++ (backslash ∷ small_u ∷ (y ++ s)))) s (λ v at2 s2 l. pair x y refl refl iu hi refl refl iy low l) z

    -- DC00
    abbrev low_digits : List ℕ
    low_digits = 100 ∷ 99 ∷ 48 ∷ 48 ∷ []

    -- z gives a unit the digits that it lacks
    close_first : (n v w : ℕ) (z : List ℕ) (at : Place) → n + length z ≡ 4 → hex_value (Some v) z ≡ Some w → MayStand w →
        Completing stack None (λ T m. EscapeThen q u (KeyOrString T stack key at0) (escape.unit None n v) at m)
    close_first n v w z at l d st =
        elim (bool_cases (is_high w)) as (λ _. Completing stack None (λ T m. EscapeThen q u (KeyOrString T stack key at0) (escape.unit None n v) at m)) [
          | inl hi ↦
              let there : Place = place_after (next_place (next_place (place_after at z) backslash) small_u) low_digits in
              let f = finish (u ++ encode_utf8 (paired w 56320)) there in (
                z ++ (backslash ∷ small_u ∷ (low_digits ++ (q ∷ tail key))),
                f.0,
                λ x at1 lx dx a.
                    let p : place_after (next_place (next_place at1 backslash) small_u) (x ++ z) ≡ place_after at z = place_append (next_place (next_place at1 backslash) small_u) x z ∙ ap (λ (y : Place). place_after y z) a in
                    let r : QuotedThen q u (KeyOrString f.0 stack key at0) at1 (backslash ∷ small_u ∷ ((x ++ z) ++ (backslash ∷ small_u ∷ (low_digits ++ (q ∷ tail key))))) =
                    two_units f.0 (x ++ z) low_digits w 56320 at1 (q ∷ tail key) (unit_concat x z n v w lx dx l d) hi (refl, refl) refl
                    (subst (λ (y : Place). QuotedThen q (u ++ encode_utf8 (paired w 56320)) (KeyOrString f.0 stack key at0) (place_after (next_place (next_place y backslash) small_u) low_digits) (q ∷ tail key)) (sym p) f.1) in
                    subst (λ (y : List ℕ). QuotedThen q u (KeyOrString f.0 stack key at0) at1 (backslash ∷ small_u ∷ y)) (append_assoc x z (backslash ∷ small_u ∷ (low_digits ++ (q ∷ tail key)))) r,
                f.2,
              )
          | inr lo ↦
              let f = finish (u ++ encode_utf8 w) (place_after at z) in (
                z ++ (q ∷ tail key),
                f.0,
                λ x at1 lx dx a.
                    let p : place_after (next_place (next_place at1 backslash) small_u) (x ++ z) ≡ place_after at z = place_append (next_place (next_place at1 backslash) small_u) x z ∙ ap (λ (y : Place). place_after y z) a in
                    let r : QuotedThen q u (KeyOrString f.0 stack key at0) at1 (backslash ∷ small_u ∷ ((x ++ z) ++ (q ∷ tail key))) =
                    one_unit f.0 (x ++ z) w at1 (q ∷ tail key) (unit_concat x z n v w lx dx l d) (stands_scalar w st lo)
                    (subst (λ (y : Place). QuotedThen q (u ++ encode_utf8 w) (KeyOrString f.0 stack key at0) y (q ∷ tail key)) (sym p) f.1) in
                    subst (λ (y : List ℕ). QuotedThen q u (KeyOrString f.0 stack key at0) at1 (backslash ∷ small_u ∷ y)) (append_assoc x z (q ∷ tail key)) r,
                f.2,
              )
        ]

    -- z gives a low surrogate the digits that it lacks
    close_second : (h n v w : ℕ) (z : List ℕ) (at : Place) → n + length z ≡ 4 → hex_value (Some v) z ≡ Some w → (LowDigits n v → is_low w ≡ true) →
        Completing stack None (λ T m. EscapeThen q u (KeyOrString T stack key at0) (escape.unit (Some h) n v) at m)
    close_second h n v w z at l d lw =
        let f = finish (u ++ encode_utf8 (paired h w)) (place_after at z) in (
          z ++ (q ∷ tail key),
          f.0,
          λ x y at1 iu hi ly dy low a.
              let before : Place = next_place (next_place (place_after at1 (backslash ∷ small_u ∷ x)) backslash) small_u in
              let p : place_after before (y ++ z) ≡ place_after at z = place_append before y z ∙ ap (λ (y : Place). place_after y z) a in
              let r : QuotedThen q u (KeyOrString f.0 stack key at0) at1 (backslash ∷ small_u ∷ (x ++ (backslash ∷ small_u ∷ ((y ++ z) ++ (q ∷ tail key))))) =
              two_units f.0 x (y ++ z) h w at1 (q ∷ tail key) iu hi (unit_concat y z n v w ly dy l d) (lw low)
              (subst (λ (y : Place). QuotedThen q (u ++ encode_utf8 (paired h w)) (KeyOrString f.0 stack key at0) y (q ∷ tail key)) (sym p) f.1) in
              subst (λ (y : List ℕ). QuotedThen q u (KeyOrString f.0 stack key at0) at1 (backslash ∷ small_u ∷ (x ++ (backslash ∷ small_u ∷ y)))) (append_assoc y z (q ∷ tail key)) r,
          f.2,
        )

    -- in no escape: a line feed's escape, so that no quote stands first
    pub close_none : (at : Place) → Completed stack (λ T. QuotedThen q u (KeyOrString T stack key at0) at (backslash ∷ letter_n ∷ q ∷ tail key))
    close_none at =
        let x = finish (u ++ encode_utf8 line_feed) (next_place (next_place at backslash) letter_n) in
        (x.0, add x.0 stack q at0 key u (encode_utf8 line_feed) at (next_place (next_place at backslash) letter_n) (backslash ∷ letter_n ∷ q ∷ tail key) (q ∷ tail key) (λ v at2 s2 l. escape refl refl l) x.1, x.2)

    -- in each escape
    pub close_escape : (e : Escape) (at : Place) → FineEscape e → Completing stack None (λ T m. EscapeThen q u (KeyOrString T stack key at0) e at m)
    unfolding MayStand
    close_escape escape.none at f = let x = close_none at in (backslash ∷ letter_n ∷ q ∷ tail key, x.0, x.1, x.2)
    close_escape escape.backslash at f =
        let x = finish (u ++ encode_utf8 line_feed) (next_place at letter_n) in (
          letter_n ∷ q ∷ tail key,
          x.0,
          λ at1 a. add x.0 stack q at0 key u (encode_utf8 line_feed) at1 (next_place (next_place at1 backslash) letter_n) (backslash ∷ letter_n ∷ q ∷ tail key) (q ∷ tail key) (λ v at2 s2 l. escape refl refl l)
              (subst (λ (y : Place). QuotedThen q (u ++ encode_utf8 line_feed) (KeyOrString x.0 stack key at0) (next_place y letter_n) (q ∷ tail key)) (sym a) x.1),
          x.2,
        )
    close_escape (escape.unit None zero v) at f = close_first zero v _ (48 ∷ 48 ∷ 48 ∷ 48 ∷ []) at refl refl (inl (omega (arith, f)))
    close_escape (escape.unit None (suc zero) v) at f = close_first 1 v _ (48 ∷ 48 ∷ 48 ∷ []) at refl refl (elim (bool_cases (nat_lt v 14)) as (λ _. MayStand (((v * 16 + 0) * 16 + 0) * 16 + 0)) [ inl e ↦ inl (grind (arith, nat_tests)) | inr e ↦ inr (grind (arith, nat_tests), omega (arith, f)) ])
    close_escape (escape.unit None (suc (suc zero)) v) at (inl f) = close_first 2 v _ (48 ∷ 48 ∷ []) at refl refl (inl (omega arith))
    close_escape (escape.unit None (suc (suc zero)) v) at (inr f) = close_first 2 v _ (48 ∷ 48 ∷ []) at refl refl (inr (omega (arith, f.0), omega (arith, f.1)))
    close_escape (escape.unit None (suc (suc (suc zero))) v) at (inl f) = close_first 3 v _ (48 ∷ []) at refl refl (inl (omega arith))
    close_escape (escape.unit None (suc (suc (suc zero))) v) at (inr f) = close_first 3 v _ (48 ∷ []) at refl refl (inr (omega (arith, f.0), omega (arith, f.1)))
    close_escape (escape.unit None (suc (suc (suc (suc n)))) v) at f = absurd f
    close_escape (escape.unit (Some h) zero v) at f = close_second h 0 v _ low_digits at refl refl (λ low. rw f refl)
    close_escape (escape.unit (Some h) (suc zero) v) at f = close_second h 1 v _ (99 ∷ 48 ∷ 48 ∷ []) at refl refl (λ low. rw low refl)
    close_escape (escape.unit (Some h) (suc (suc zero)) v) at f =
        close_second h 2 v _ (48 ∷ 48 ∷ []) at refl refl (λ low. let a : 56320 ≤ (v * 16 + 0) * 16 + 0 = omega (arith, low.0) in let b : (v * 16 + 0) * 16 + 0 < 57344 = omega (arith, low.1) in grind (arith, nat_tests))
    close_escape (escape.unit (Some h) (suc (suc (suc zero))) v) at f =
        close_second h 3 v _ (48 ∷ []) at refl refl (λ low. let a : 56320 ≤ v * 16 + 0 = omega (arith, low.0) in let b : v * 16 + 0 < 57344 = omega (arith, low.1) in grind (arith, nat_tests))
    close_escape (escape.unit (Some h) (suc (suc (suc (suc n)))) v) at f = absurd f
    close_escape (escape.high h) at f =
        let x = finish (u ++ encode_utf8 (paired h 56320)) (place_after (next_place (next_place at backslash) small_u) low_digits) in (
          backslash ∷ small_u ∷ (low_digits ++ (q ∷ tail key)),
          x.0,
          λ y at1 iu hi a. two_units x.0 y low_digits h 56320 at1 (q ∷ tail key) iu hi (refl, refl) refl
              (subst (λ (y : Place). QuotedThen q (u ++ encode_utf8 (paired h 56320)) (KeyOrString x.0 stack key at0) (place_after (next_place (next_place y backslash) small_u) low_digits) (q ∷ tail key)) (sym a) x.1),
          x.2,
        )
    close_escape (escape.high_backslash h) at f =
        let x = finish (u ++ encode_utf8 (paired h 56320)) (place_after (next_place at small_u) low_digits) in (
          small_u ∷ (low_digits ++ (q ∷ tail key)),
          x.0,
          λ y at1 iu hi a. two_units x.0 y low_digits h 56320 at1 (q ∷ tail key) iu hi (refl, refl) refl
              (subst (λ (y : Place). QuotedThen q (u ++ encode_utf8 (paired h 56320)) (KeyOrString x.0 stack key at0) (place_after (next_place y small_u) low_digits) (q ∷ tail key)) (sym a) x.1),
          x.2,
        )
