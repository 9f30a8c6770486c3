-- Lists of parts and of entries.
use Rattle.std.proofs.Common.{◌≡◌, List, [], ◌∷◌, ◌++◌, map, reverse, refl, ap, append_assoc}
use Rattle.std.proofs.lemmas.List.{reverse-append}
use Rattle.cg_svspec.specs.Tree.{Expressions, none, more, expressions}
use Rattle.cg_sv.specs.Views.{expression_of}
use Rattle.cg_sv.specs.declared.tree.Expr.{Expr}
use Rattle.cg_svreg.specs.Parts.{from_low, above}

-- lists nested to the right
pub ruleset nested = (append_assoc)

-- a part put above others
pub from_low-more : (xs : List Expr) (x : Expr) → from_low (xs ++ x ∷ []) ≡ more (expression_of x) (from_low xs)
unfolding from_low
from_low-more xs x = ap (λ (l : List Expr). expressions (map expression_of l)) (reverse-append xs (x ∷ []))

-- a part put under others
pub above-under : (xs : List Expr) (x : Expr) (below : Expressions) → above (xs ++ x ∷ []) below ≡ above xs (more (expression_of x) below)
unfolding above
above-under [] x below = refl
above-under (y ∷ ys) x below = ap (more (expression_of y)) (above-under ys x below)

-- parts with nothing under them
pub above-none : (xs : List Expr) → above xs none ≡ expressions (map expression_of xs)
unfolding above
above-none [] = refl
above-none (x ∷ xs) = ap (more (expression_of x)) (above-none xs)

pub ruleset put_together = (from_low-more)
