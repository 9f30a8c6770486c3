-- Where a text stops being a header: the first line that has no form in its place.
use Rattle.std.specs.Prelude.{◌≡◌, ℕ, suc, ◌<◌, List, [], ◌∷◌, ◌++◌, length}
use Rattle.cg_svspec.specs.Characters.{IsWord}
use Rattle.cg_svspec.specs.Printable.{AllOf}
use Rattle.cg_hdrspec.specs.Header.{Constant, IsLine, Says, guard_line, end_line, lines_text, IsHeader}

-- a text as its lines, each ended by a line feed, and a rest without one
pub record Splits (text : List ℕ) (lines : List (List ℕ)) (rest : List ℕ) : Type 0 where
  pub is_text : text ≡ lines_text lines ++ rest
  pub are_lines : AllOf IsLine lines
  pub is_rest : IsLine rest

-- how many lines there are; a rest without a line feed counts as one
abbrev pub count : List (List ℕ) → List ℕ → ℕ
count lines [] = length lines
count lines (c ∷ cs) = suc (length lines)

-- Line k of n, counted from 1, has a form in its place. The guard stands on line 2 and the end on the last, and nowhere else.
pub data HasForm (n k : ℕ) : List ℕ → Type 0 where
  guard : {name : List ℕ} → k ≡ 2 → ¬ (k ≡ n) → IsWord name → HasForm n k (guard_line name)
  end : ¬ (k ≡ 2) → k ≡ n → HasForm n k end_line
  other : {l : List ℕ} {cs : List Constant} → ¬ (k ≡ 2) → ¬ (k ≡ n) → Says l cs → HasForm n k l

-- so do these lines, of which the first is line k
abbrev pub HaveForms : ℕ → ℕ → List (List ℕ) → Type 0
HaveForms n k [] = Unit {0}
HaveForms n k (l ∷ ls) = HasForm n k l × HaveForms n (suc k) ls

-- The first line without a form in its place: a line; or a rest without a line feed, which has none; or line 2, where it is missing.
pub data IsFirstFormless (text : List ℕ) : ℕ → Type 0 where
  line : {l rest : List ℕ} (before after : List (List ℕ)) → Splits text (before ++ l ∷ after) rest
      → HaveForms (count (before ++ l ∷ after) rest) 1 before → ¬ HasForm (count (before ++ l ∷ after) rest) (suc (length before)) l
      → IsFirstFormless text (suc (length before))
  unended : {rest : List ℕ} (lines : List (List ℕ)) → Splits text lines rest → ¬ (rest ≡ []) → HaveForms (count lines rest) 1 lines
      → IsFirstFormless text (suc (length lines))
  no_guard : (lines : List (List ℕ)) → Splits text lines [] → length lines < 2 → HaveForms (length lines) 1 lines
      → IsFirstFormless text 2

-- what there is to tell of a text: its constants, or the first line without a form in its place
pub data Answer : Type 0 where
  constants : List Constant → Answer
  formless : ℕ → Answer

abbrev pub IsAnswer : List ℕ → Answer → Type 0
IsAnswer text (constants cs) = IsHeader text cs
IsAnswer text (formless k) = IsFirstFormless text k
