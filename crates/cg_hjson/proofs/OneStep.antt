-- What one step of the machine says of its answer, and how far a place moves.
use Rattle.std.proofs.Common.{◌≡◌, ℕ, ◌+◌, ◌<◌, ◌≤◌, List, ◌∷◌, Some, None, refl, arith, length, true, false, nat_lt, nat_eq, ap, ◌∙◌}
use Rattle.std.proofs.lemmas.Bool.Decides.{nat_tests}
use Rattle.std.proofs.lemmas.Bool.{cond_both}
use Rattle.std.specs.Char.{len_utf8}
use Rattle.cg_docspec.specs.Place.{Place, next_place}
use Rattle.cg_docspec.specs.SyntaxFault.{no_document, too_deep}
use Rattle.cg_docspec.specs.Machine.State.{State}
use Rattle.cg_docspec.specs.Machine.Run.{step, answer_from, next_or_fault}

module _ (at : Place) (s : State) (c : ℕ) (cs : List ℕ) where
  -- no document goes on with the character
  pub answer_stuck : step at s c ≡ None → answer_from at s (c ∷ cs) ≡ no_document at
  answer_stuck h = ap (next_or_fault at (λ t. answer_from (next_place at c) t cs)) h

  -- the character opens something at depth 65
  pub answer_deep : (t : State) → step at s c ≡ Some t → 64 < length t.stack → answer_from at s (c ∷ cs) ≡ too_deep at
  answer_deep t h deep =
      let test : nat_lt 64 (length t.stack) ≡ true = grind (arith, nat_tests) in
      ap (next_or_fault at (λ t. answer_from (next_place at c) t cs)) h ∙ rw test

  -- the answer is that of the rest
  pub answer_more : (t : State) → step at s c ≡ Some t → length t.stack ≤ 64 → answer_from at s (c ∷ cs) ≡ answer_from (next_place at c) t cs
  answer_more t h low =
      let test : nat_lt 64 (length t.stack) ≡ false = grind (arith, nat_tests) in
      ap (next_or_fault at (λ t. answer_from (next_place at c) t cs)) h ∙ rw test

-- how far a place moves at a character
pub Moves : Place → ℕ → Place → Type 0
Moves at c p = (p.byte ≡ at.byte + len_utf8 c) × (p.line ≤ at.line + 1) × (p.column ≤ at.column + 1)

-- each place moves so far
pub next_bounds : (at : Place) (c : ℕ) → ((next_place at c).byte ≡ at.byte + len_utf8 c) × ((next_place at c).line ≤ at.line + 1) × ((next_place at c).column ≤ at.column + 1)
unfolding Moves
next_bounds at c =
    cond_both (nat_eq c 10) (record { byte = at.byte + 1; line = at.line + 1; column = 1 }) (record { byte = at.byte + len_utf8 c; line = at.line; column = at.column + 1 }) (Moves at c)
    (λ is. let same : c ≡ 10 = grind (arith, nat_tests) in (rw same refl, omega arith, omega arith))
    (λ other. (refl, omega arith, omega arith))
