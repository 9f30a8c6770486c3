-- Lists that grow at their end.
use Rattle.std.proofs.Common.{ℕ, List, ◌≡◌, ◌+◌, ◌++◌, [], ◌∷◌, map, append_assoc, ap, sym, ◌∙◌, arith}
use Rattle.std.proofs.lemmas.List.FromFn.{map-range_with_len_more}
use Rattle.std.specs.List.{range_with_len}

-- behind a list, what the numbers from 0 on give, with one more number
pub one_more : {X : Type 0} (f : ℕ → X) (before : List X) (n : ℕ) → (before ++ map f (range_with_len 0 n)) ++ f n ∷ [] ≡ before ++ map f (range_with_len 0 (n + 1))
one_more f before n =
    append_assoc before (map f (range_with_len 0 n)) (f n ∷ [])
    ∙ ap (λ xs. before ++ xs) (sym (map-range_with_len_more f 0 n n (omega arith)))

-- four lists behind each other, the two in the middle first
pub regrouped : {X : Type 0} (p q r s : List X) → ((p ++ q) ++ r) ++ s ≡ p ++ ((q ++ r) ++ s)
regrouped p q r s = ap (λ xs. xs ++ s) (append_assoc p q r) ∙ append_assoc p (q ++ r) s
