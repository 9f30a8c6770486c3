-- Lists of zeros.
use Rattle.std.proofs.Common.{◌≡◌, ℕ, zero, suc, ◌+◌, List, [], ◌∷◌, ◌++◌, length, replicate, take, Result, IfOk, refl, sym, ap, subst, ◌∙◌, inl, inr, arith}
use Rattle.std.specs.List.{AllClonesOf, AppendsClonesOf}
use Rattle.cg_files.specs.Files.{limit}
use Rattle.cg_gen.specs.Topgen.{too_many}

abbrev Same : ℕ → ℕ → Type 0
Same x y = y ≡ x

all_same : (ys : List ℕ) (x n : ℕ) → AllClonesOf Same x ys → length ys ≡ n → ys ≡ replicate n x
all_same [] x zero same count = refl
all_same [] x (suc n) same count = absurd (omega (arith, count))
all_same (y ∷ ys) x zero same count = absurd (omega (arith, count))
all_same (y ∷ ys) x (suc n) same count =
    let first : y ≡ x = elim same.0 [ inl is ↦ is | inr is ↦ is ] in
    let rest = all_same ys x n same.1 (omega (arith, count)) in
    (λ i. first i ∷ rest i)

take_none : (k : ℕ) (zs : List ℕ) → take k [] ++ zs ≡ zs
take_none zero zs = refl
take_none (suc k) zs = refl

-- so of a list that was empty
pub all_new : (old new : List ℕ) (x n m : ℕ) → old ≡ [] → AppendsClonesOf Same (take m old) new x → length new ≡ n → new ≡ replicate n x
all_new old new x n m none (ys, made, same) count =
    let whole : new ≡ ys = made ∙ ap (λ (xs : List ℕ). take m xs ++ ys) none ∙ take_none m ys in
    whole ∙ all_same ys x n same (ap length (sym whole) ∙ count)

-- so many that they are too many
pub are_too_many : {E : Type 0} (n : ℕ) (r : Result (List ℕ) E) → n ≡ 1 + limit → IfOk r (λ bytes. bytes ≡ replicate n 0) → IfOk r (λ bytes. bytes ≡ too_many)
unfolding too_many
are_too_many n r is zeros = subst (λ k. IfOk r (λ bytes. bytes ≡ replicate k 0)) is zeros
