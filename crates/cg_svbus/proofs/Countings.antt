-- Numbers in a row, and what stands at a number.
use Rattle.std.proofs.Common.{◌≡◌, ℕ, zero, suc, ◌+◌, ◌-◌, ◌<◌, ◌≤◌, List, [], ◌∷◌, ◌++◌, length, get_or, arith, refl, ap, sym, ◌∙◌}
use Rattle.std.proofs.lemmas.List.{append_assoc}
use Rattle.cg_topspec.specs.Top.{counting}

-- the first of the numbers that are left
pub counting_next : (i n : ℕ) → i < n → counting i (n - i) ≡ i ∷ counting (suc i) (n - suc i)
counting_next i n low = let one : n - i ≡ suc (n - suc i) = omega (arith, low) in ap (counting i) one

-- none are left
pub counting_end : (i n : ℕ) → n ≤ i → counting i (n - i) ≡ []
counting_end i n high = let none_left : n - i ≡ 0 = omega (arith, high) in ap (counting i) none_left

pub ruleset countings = (counting_next, counting_end)

-- what stands at a number
pub there : {A : Type 0} (xs : List A) (i : ℕ) (x d : A) → i < length xs → x ≡ get_or xs i x → x ≡ get_or xs i d
there [] i x d low e = absurd (omega (arith, low))
there (y ∷ ys) zero x d low e = e
there (y ∷ ys) (suc i) x d low e = there ys i x d (omega (arith, low)) e

-- and past the end
pub absent : {A : Type 0} (xs : List A) (i : ℕ) (d : A) → length xs ≤ i → get_or xs i d ≡ d
absent [] i d high = refl
absent (x ∷ xs) zero d high = absurd (omega (arith, high))
absent (x ∷ xs) (suc i) d high = absent xs i d (omega (arith, high))

pub ruleset lookups = (there, absent)

-- one number more, and one fewer left
pub numbered_more : (ns new all : List ℕ) (i n : ℕ) → i < n → new ≡ ns ++ i ∷ [] → ns ++ counting i (n - i) ≡ all → new ++ counting (i + 1) (n - (i + 1)) ≡ all
numbered_more ns new all i n low is e =
    let one : i + 1 ≡ suc i = omega arith in
    ap (λ z. new ++ counting z (n - z)) one
    ∙ (ap (λ z. z ++ counting (suc i) (n - suc i)) is ∙ (append_assoc ns (i ∷ []) (counting (suc i) (n - suc i)) ∙ (ap (λ z. ns ++ z) (sym (counting_next i n low)) ∙ e)))
