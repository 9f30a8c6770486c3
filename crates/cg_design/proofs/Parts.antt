-- What is taken of items, one after the other.
use Rattle.std.proofs.Common.{◌≡◌, List, [], ◌∷◌, ◌++◌, length, map, refl, sym, ap, ◌∙◌, arith, append_assoc}
use Rattle.std.proofs.lemmas.List.{append-nil}

-- one more
pub part_next : {X Y : Type 0} (v : X → Y) (old new whole : List Y) (items rest : List X) (x : X) → items ≡ x ∷ rest → old ++ map v items ≡ whole → new ≡ old ++ (v x ∷ []) → new ++ map v rest ≡ whole
part_next v old new whole items rest x is so added =
    ap (λ ys. ys ++ map v rest) added ∙ (append_assoc old (v x ∷ []) (map v rest) ∙ (sym (ap (λ xs. old ++ map v xs) is) ∙ so))

-- and all
pub part_all : {X Y : Type 0} (v : X → Y) (old whole : List Y) (items : List X) → items ≡ [] → old ++ map v items ≡ whole → old ≡ whole
part_all v old whole items none so = sym (append-nil old) ∙ (sym (ap (λ xs. old ++ map v xs) none) ∙ so)

-- none of nothing
pub part_none : {X Y : Type 0} (v : X → Y) (old whole : List Y) (items sources : List X) → old ≡ [] → items ≡ sources → whole ≡ map v sources → old ++ map v items ≡ whole
part_none v old whole items sources empty all is = ap (λ ys. ys ++ map v items) empty ∙ (ap (map v) all ∙ sym is)

-- a list of no length has no item
pub no_items : {X : Type 0} (xs : List X) → length xs ≡ 0 → xs ≡ []
no_items [] e = refl
no_items (x ∷ xs) e = absurd (omega arith)
