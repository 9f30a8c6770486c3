-- The types that were used, in a set that keeps its order.
use Rattle.std.proofs.Common.{◌≡◌, ℕ, suc, ◌+◌, ◌<◌, ◌≤◌, List, [], ◌∷◌, ◌++◌, Option, Some, None, length, get_or, drop, drop-cons, add-one, Bor, sym, ap, ◌∙◌}
use Rattle.std.specs.Option.{option_to_list}
use Rattle.std.specs.Prelude.{flat_map}
use Rattle.std.proofs.lemmas.List.{drop_all}
use Rattle.cg_hjson.specs.declared.tree.Tree.{Tree}
use Rattle.cg_nodes.specs.Listed.{new_names}
use Rattle.cg_topread.specs.Types.{type_in, types_in}
use Rattle.cg_nodes.proofs.ClocksListed.{no_use, one_more_use}
use Rattle.cg_nodes.proofs.ClocksUsed.{Names, bytes_of, inserted, inserted_bytes}

-- names that items use, one at most each
abbrev pub used : {X : Type 0} → (X → Option (List ℕ)) → List X → List (List ℕ)
used name_of xs = flat_map (λ x. option_to_list (name_of x)) xs

-- the set, and what the items that are left use first
abbrev pub and_left : {X : Type 0} → (X → Option (List ℕ)) → Names → List X → List (List ℕ)
and_left name_of names xs = bytes_of names ++ new_names (bytes_of names) (used name_of xs)

-- one more item, with a use
pub one_use : {X : Type 0} (name_of : X → Option (List ℕ)) (xs : List X) (i : ℕ) (x d : X) (old new : Names) (n : Bor (List ℕ)) (whole : List (List ℕ))
    → i < length xs → x ≡ get_or xs i d → name_of x ≡ Some n.now → new ≡ inserted old n → and_left name_of old (drop i xs) ≡ whole → and_left name_of new (drop (i + 1) xs) ≡ whole
one_use name_of xs i x d old new n whole lt is uses added before =
    let cut : drop i xs ≡ x ∷ drop (i + 1) xs = rw add-one (drop-cons xs i d lt ∙ ap (λ y. y ∷ drop (suc i) xs) (sym is)) in
    one_more_use (bytes_of old) (bytes_of new) n.now (used name_of (drop (i + 1) xs)) (ap bytes_of added ∙ inserted_bytes old n)
    ∙ ap (λ o. bytes_of old ++ new_names (bytes_of old) (option_to_list o ++ used name_of (drop (i + 1) xs))) (sym uses)
    ∙ ap (λ l. and_left name_of old l) (sym cut)
    ∙ before

-- one more item, without a use
pub no_new : {X : Type 0} (name_of : X → Option (List ℕ)) (xs : List X) (i : ℕ) (x d : X) (old : Names) (whole : List (List ℕ))
    → i < length xs → x ≡ get_or xs i d → name_of x ≡ None → and_left name_of old (drop i xs) ≡ whole → and_left name_of old (drop (i + 1) xs) ≡ whole
no_new name_of xs i x d old whole lt is uses before =
    let cut : drop i xs ≡ x ∷ drop (i + 1) xs = rw add-one (drop-cons xs i d lt ∙ ap (λ y. y ∷ drop (suc i) xs) (sym is)) in
    ap (λ o. bytes_of old ++ new_names (bytes_of old) (option_to_list o ++ used name_of (drop (i + 1) xs))) (sym uses)
    ∙ ap (λ l. and_left name_of old l) (sym cut)
    ∙ before

pub no_left : {X : Type 0} (name_of : X → Option (List ℕ)) (names : Names) (xs : List X) (i : ℕ) → length xs ≤ i → and_left name_of names (drop i xs) ≡ bytes_of names
no_left name_of names xs i h = ap (λ l. and_left name_of names l) (drop_all i xs h) ∙ no_use (bytes_of names)

-- the types of instances
pub no_type_yet : (instances : List Tree) (names : Names) → names ≡ [] → and_left type_in names instances ≡ new_names [] (types_in instances)
unfolding types_in
no_type_yet instances names none = ap (λ ns. and_left type_in ns instances) none
