-- Nets side by side, as they are put together.
use Rattle.std.proofs.Common.{◌≡◌, ℕ, zero, suc, ◌≤◌, append-nil, List, [], ◌∷◌, ◌++◌, length, map, reverse, drop, refl, ap, sym, ◌∙◌, arith}
use Rattle.std.proofs.lemmas.List.{reverse-append}
use Rattle.cg_svspec.specs.Tree.{net, cat, expressions}
use Rattle.cg_busspec.specs.CrossbarModule.{requests, responses, bundle, range_term, range_terms}
use Rattle.cg_sv.specs.Views.{expression_of}
use Rattle.cg_sv.specs.declared.tree.Expr.{Expr}
use Rattle.cg_desc.specs.declared.crossbar.Range.{Range}
use Rattle.cg_svxbar.specs.Viewed.{link_of}
use Rattle.cg_svxbar.specs.declared.links.Link.{Link}
use Rattle.cg_svxbar.proofs.Powers.{terms_are}

-- the map of two lists together
pub map_join : {A B : Type 0} (f : A → B) (xs ys : List A) → map f (xs ++ ys) ≡ map f xs ++ map f ys
map_join f [] ys = refl
map_join f (x ∷ xs) ys = ap (λ z. f x ∷ z) (map_join f xs ys)

-- and of a list in the reverse order
pub map_reverse : {A B : Type 0} (f : A → B) (xs : List A) → map f (reverse xs) ≡ reverse (map f xs)
map_reverse f [] = refl
map_reverse f (x ∷ xs) =
    ap (map f) (reverse-append (x ∷ []) xs) ∙ map_join f (reverse xs) (x ∷ []) ∙ ap (λ z. z ++ (f x ∷ [])) (map_reverse f xs) ∙ sym (reverse-append (f x ∷ []) (map f xs))

-- nothing is left behind the end
past : {A : Type 0} (xs : List A) (i : ℕ) → length xs ≤ i → drop i xs ≡ []
past [] zero high = refl
past [] (suc i) high = refl
past (x ∷ xs) zero high = absurd (omega (arith, high))
past (x ∷ xs) (suc i) high = past xs i (omega (arith, high))

-- Parts that stand for nets make their bundle in the reverse order.
made : (x : Expr) (nets parts : List Expr) (ns : List (List ℕ)) → parts ≡ reverse nets → expression_of x ≡ cat (expressions (map expression_of parts)) → map expression_of nets ≡ map net ns
    → expression_of x ≡ bundle ns
unfolding bundle
made x nets parts ns turned is e =
    is ∙ ap (λ z. cat (expressions (map expression_of z))) turned ∙ ap (λ z. cat (expressions z)) (map_reverse expression_of nets ∙ ap reverse e ∙ sym (map_reverse net ns))

-- behind the last link the parts are those of all requests
pub requests_made : (x : Expr) (nets parts : List Expr) (ls : List Link) (i : ℕ) → length ls ≤ i → parts ≡ reverse nets → expression_of x ≡ cat (expressions (map expression_of parts))
    → map expression_of nets ++ map net (requests (map link_of (drop i ls))) ≡ map net (requests (map link_of ls)) → expression_of x ≡ bundle (requests (map link_of ls))
requests_made x nets parts ls i high turned is e =
    made x nets parts (requests (map link_of ls)) turned is
    (sym (append-nil (map expression_of nets)) ∙ (ap (λ z. map expression_of nets ++ map net (requests (map link_of z))) (sym (past ls i high)) ∙ e))

-- or of all responses
pub responses_made : (x : Expr) (nets parts : List Expr) (ls : List Link) (i : ℕ) → length ls ≤ i → parts ≡ reverse nets → expression_of x ≡ cat (expressions (map expression_of parts))
    → map expression_of nets ++ map net (responses (map link_of (drop i ls))) ≡ map net (responses (map link_of ls)) → expression_of x ≡ bundle (responses (map link_of ls))
responses_made x nets parts ls i high turned is e =
    made x nets parts (responses (map link_of ls)) turned is
    (sym (append-nil (map expression_of nets)) ∙ (ap (λ z. map expression_of nets ++ map net (responses (map link_of z))) (sym (past ls i high)) ∙ e))

-- behind the last range the terms are all terms
pub terms_made : (terms : List Expr) (q : List ℕ) (rs : List Range) (i : ℕ) → length rs ≤ i → map expression_of terms ++ map (range_term q) (drop i rs) ≡ map (range_term q) rs
    → expressions (map expression_of terms) ≡ range_terms q rs
terms_made terms q rs i high e =
    ap expressions (sym (append-nil (map expression_of terms)) ∙ (ap (λ z. map expression_of terms ++ map (range_term q) z) (sym (past rs i high)) ∙ e)) ∙ terms_are q rs

-- as many links as values that stand for them
pub links_long : (ls : List Link) → length (map link_of ls) ≡ length ls
links_long [] = refl
links_long (l ∷ ls) = ap suc (links_long ls)
