-- Lists that grow number by number.
use Rattle.std.proofs.Common.{◌≡◌, ℕ, suc, ◌+◌, List, ◌++◌, sym, ap, ◌∙◌, arith, append_assoc}
use Rattle.std.proofs.lemmas.List.{append-nil}
use Rattle.cg_pinmux.specs.Listed.{below}
use Rattle.cg_pinmux.proofs.Lists.{below_next, below_none}

-- nothing is added so far
pub grown_none : {X : Type 0} (f : ℕ → List X) (old : List X) → old ≡ old ++ below f 0
grown_none f old = sym (append-nil old) ∙ ap (λ xs. old ++ xs) (sym (below_none f))

-- what one more number has
pub grown_next : {X : Type 0} (f : ℕ → List X) (n : ℕ) (old now new more : List X) → now ≡ old ++ below f n → more ≡ f n → new ≡ now ++ more → new ≡ old ++ below f (n + 1)
grown_next f n old now new more is have so =
    let one : suc n ≡ n + 1 = omega arith in
    so ∙ ap (λ xs. xs ++ more) is ∙ ap (λ xs. (old ++ below f n) ++ xs) have ∙ append_assoc old (below f n) (f n) ∙ ap (λ xs. old ++ xs) (sym (below_next f n))
    ∙ ap (λ k. old ++ below f k) one

-- all are added
pub grown_all : {X : Type 0} (f : ℕ → List X) (n last : ℕ) (old new : List X) → n ≡ last → new ≡ old ++ below f n → new ≡ old ++ below f last
grown_all f n last old new e is = is ∙ ap (λ k. old ++ below f k) e
