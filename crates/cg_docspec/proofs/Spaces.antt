-- Places behind several characters, and spaces and tabs.
use Rattle.std.proofs.Common.{◌≡◌, ℕ, ◌⊎◌, inl, inr, List, [], ◌∷◌, ◌++◌, refl, arith, true, false, Bool, ap, ◌∙◌}
use Rattle.std.specs.Prelude.{cond, ◌&&◌, ◌==◌, encode_utf8}
use Rattle.std.proofs.lemmas.Bool.{and_parts}
use Rattle.std.proofs.lemmas.Bool.Decides.{nat_tests}
use Rattle.std.proofs.lemmas.List.{append-nil}
use Rattle.std.proofs.lemmas.Str.{encodes-append}
use lib.Utf8.{encodes}
use Rattle.cg_docspec.specs.Characters.{is_blank, is_control, is_space, space, tab}
use Rattle.cg_docspec.specs.Place.{Place, next_place, place_after}
use Rattle.cg_docspec.specs.Lines.{is_nil}
use Rattle.cg_docspec.specs.Literal.{ends_literal, may_follow}
use Rattle.cg_docspec.specs.Document.{trimmed}
use Rattle.cg_docspec.proofs.Basics.{bool_cases, same_character}
use Rattle.cg_docspec.proofs.Left.{are_spaces}
use Rattle.cg_docspec.proofs.Literals.{is_wordy}

-- places add up
pub place_append : (at : Place) (x y : List ℕ) → place_after at (x ++ y) ≡ place_after (place_after at x) y
place_append at [] y = refl
place_append at (c ∷ x) y = place_append (next_place at c) x y

-- the same with one character more
pub place_append_one : (at : Place) (x : List ℕ) (c : ℕ) → place_after at (x ++ c ∷ []) ≡ next_place (place_after at x) c
place_append_one at x c = place_append at x (c ∷ [])

-- a space or a tab
pub space_cases : (c : ℕ) → is_space c ≡ true → (c ≡ space) ⊎ (c ≡ tab)
space_cases c e = elim (bool_cases (c == space)) as (λ _. (c ≡ space) ⊎ (c ≡ tab)) [ inl f ↦ inl (same_character c space f) | inr f ↦ inr (same_character c tab (rw f at e)) ]

-- it is a blank
pub space_blank : (c : ℕ) → is_space c ≡ true → is_blank c ≡ true
space_blank c e = elim (space_cases c e) as (λ _. is_blank c ≡ true) [ inl f ↦ rw f refl | inr f ↦ rw f refl ]

-- it stands in no literal
pub space_no_word : (c : ℕ) → is_space c ≡ true → is_wordy c ≡ false
space_no_word c e = grind (arith, nat_tests)

-- it may stand in a document
pub space_uncontrolled : (c : ℕ) → is_space c ≡ true → is_control c ≡ false
space_uncontrolled c e = elim (space_cases c e) as (λ _. is_control c ≡ false) [ inl f ↦ rw f refl | inr f ↦ rw f refl ]

-- what may follow a literal may follow it behind spaces and tabs
pub follow_spaces : (b s : List ℕ) → are_spaces b ≡ true → may_follow (b ++ s) ≡ may_follow s
follow_spaces [] s e = refl
follow_spaces (c ∷ b) s e = let p = and_parts (is_space c) (are_spaces b) e in rw p.0 (follow_spaces b s p.1)

-- a space or a tab at the end is trimmed, any other character stays
pub trimmed_space : (x : List ℕ) (c : ℕ) → is_space c ≡ true → trimmed (x ++ c ∷ []) ≡ trimmed x
trimmed_space [] c e = rw e refl
trimmed_space (d ∷ x) c e = rw (trimmed_space x c e) refl

-- behind any other character nothing is trimmed
not_nil : (x : List ℕ) (c : ℕ) → is_space c ≡ false → is_nil (trimmed (x ++ c ∷ [])) ≡ false
not_nil [] c e = rw e refl
not_nil (d ∷ x) c e = rw (not_nil x c e) (go (is_space d))
  where
    go : (b : Bool) → is_nil (cond (b && false) [] (d ∷ trimmed (x ++ c ∷ []))) ≡ false
    go true = refl
    go false = refl

-- behind any other character nothing is trimmed, the whole stays
pub trimmed_solid : (x : List ℕ) (c : ℕ) → is_space c ≡ false → trimmed (x ++ c ∷ []) ≡ x ++ c ∷ []
trimmed_solid [] c e = rw e refl
trimmed_solid (d ∷ x) c e = rw (not_nil x c e) (go (is_space d)) ∙ ap (λ (y : List ℕ). d ∷ y) (trimmed_solid x c e)
  where
    go : (b : Bool) → cond (b && false) [] (d ∷ trimmed (x ++ c ∷ [])) ≡ d ∷ trimmed (x ++ c ∷ [])
    go true = refl
    go false = refl

-- one more
pub spaces_append : (x : List ℕ) (c : ℕ) → are_spaces x ≡ true → is_space c ≡ true → are_spaces (x ++ c ∷ []) ≡ true
spaces_append [] c e f = rw f refl
spaces_append (d ∷ x) c e f = let p = and_parts (is_space d) (are_spaces x) e in rw p.0 (spaces_append x c p.1 f)

-- the bytes of one character more
pub encodes_one : (x : List ℕ) (c : ℕ) → encodes (x ++ c ∷ []) ≡ encodes x ++ encode_utf8 c
encodes_one x c = encodes-append x (c ∷ []) ∙ ap (λ (y : List ℕ). encodes x ++ y) (append-nil (encode_utf8 c))

-- a literal may end before such a character
pub ender_follows : (c : ℕ) (s : List ℕ) → ends_literal c ≡ true → may_follow (c ∷ s) ≡ true
ender_follows c s e = let sp : is_space c ≡ false = grind (arith, nat_tests) in rw (sp, e) refl
