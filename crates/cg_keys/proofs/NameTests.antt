-- The test for names tells whether a string is a name.
use Rattle.std.proofs.Common.{◌≡◌, ℕ, ◌≤◌, Bool, true, not, ◌&&◌, List, [], ◌∷◌, length, refl, ap, ◌∙◌}
use Rattle.std.specs.Prelude.{◌↔◌, IsTrue}
use Rattle.std.specs.List.{list_all}
use Rattle.std.proofs.lemmas.Bool.{leb-true, le-leb, not-true}
use Rattle.cg_svspec.specs.Characters.{Each, IsName, IsWord, is_keyword, is_name_character}
use Rattle.cg_svspec.proofs.Runs.{both_pass, each_passes}
use Rattle.cg_keys.specs.Forms.{is_name, is_word}

-- two tests that pass pass together
pass_both : (a b : Bool) → a ≡ true → b ≡ true → (a && b) ≡ true
pass_both a b first second = ap (λ t. t && b) first ∙ second

-- what each character passes they all pass
all_pass : (p : ℕ → Bool) (s : List ℕ) → Each p s → list_all p s ≡ true
all_pass p [] each = refl
all_pass p (c ∷ s) each = pass_both (p c) (list_all p s) each.0 (all_pass p s each.1)

word_passes : (s : List ℕ) → is_word s ≡ true → IsWord s
word_passes [] passes = cc
word_passes (c ∷ s) passes = let both = both_pass _ (list_all is_name_character s) passes in (both.0, each_passes is_name_character s both.1)

passes_word : (s : List ℕ) → IsWord s → is_word s ≡ true
passes_word [] word = absurd word
passes_word (c ∷ s) word = pass_both _ (list_all is_name_character s) word.0 (all_pass is_name_character s word.1)

-- the test passes exactly the names of at most so many characters
pub is_name_tells : (most : ℕ) (s : List ℕ) → IsTrue (is_name most s) ↔ (IsName s × (length s ≤ most))
unfolding is_name
is_name_tells most s = (
  λ passes. let word = both_pass (is_word s) _ passes in let rest = both_pass _ (not (is_keyword s)) word.1 in
      ((word_passes s word.0, not-true (is_keyword s) rest.1), leb-true (length s) most rest.0),
  λ named. pass_both (is_word s) _ (passes_word s named.0.0)
      (pass_both _ (not (is_keyword s)) (le-leb (length s) most named.1) (ap not named.0.1)),
)
