-- A loop over the numbers of instances.
use Rattle.std.proofs.Common.{◌≡◌, ℕ, suc, ◌+◌, ◌-◌, List, [], ◌∷◌, ◌++◌, ap, sym, ◌∙◌, arith}
use Rattle.std.specs.Prelude.{flat_map}
use Rattle.std.proofs.lemmas.List.{flat_map_more}
use Rattle.cg_topspec.proofs.Arrivals.{counting_split}
use Rattle.cg_topspec.specs.Top.{counting}

-- one number more, at the end
counting_more : (n : ℕ) → counting 0 (n + 1) ≡ counting 0 n ++ n ∷ []
counting_more n =
    let same : 0 + n ≡ n = omega arith in
    let none : n + 1 - suc n ≡ 0 = omega arith in
    counting_split 0 (n + 1) n (omega arith)
    ∙ (ap (λ k. counting 0 n ++ (k ∷ counting (suc k) (n + 1 - suc n))) same ∙ ap (λ k. counting 0 n ++ (n ∷ counting (suc n) k)) none)

-- what is added for one more number
pub numbers_more : {A : Type 0} (f : ℕ → List A) (old now new : List A) (n k : ℕ) → now ≡ old ++ flat_map f (counting 0 n) → k ≡ n → new ≡ now ++ f k
    → new ≡ old ++ flat_map f (counting 0 (n + 1))
numbers_more f old now new n k so is more =
    more ∙ (ap (λ z. now ++ f z) is ∙ (ap (λ z. z ++ f n) so ∙ (flat_map_more f old (counting 0 n) n ∙ ap (λ z. old ++ flat_map f z) (sym (counting_more n)))))
