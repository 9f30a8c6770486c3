-- Going over items with the names that are known.
use Rattle.std.proofs.Common.{ℕ, ◌≡◌, ◌+◌, ◌<◌, ◌≤◌, suc, Bool, List, ◌∷◌, Option, length, get_or, drop, drop-cons, add-one, sym, ap, ◌∙◌}
use Rattle.std.proofs.lemmas.List.{drop_all}
use Rattle.cg_desc.specs.declared.block.Item.{Item}
use Rattle.cg_finding.specs.Finding.{Finding, earlier, first_of}
use Rattle.cg_finding.proofs.Firsts.{earlier-None, earlier_assoc, first_of-append, first_of-empty}
use Rattle.cg_expand.specs.Parts.Names.{also, item_twice, names_twice}

-- names that are known alike
abbrev Alike : (known other : List ℕ → Bool) → Type 0
Alike known other = (name : List ℕ) → known name ≡ other name

pub same_known : (known other : List ℕ → Bool) (items : List Item) → Alike known other → names_twice known items ≡ names_twice other items
same_known known other items alike = λ i. names_twice (λ name. alike name i) items

-- one more item
pub one_more_known : (xs : List Item) (i : ℕ) (x : Item) (old new : List ℕ → Bool) (first now next : Option Finding)
    → i < length xs → x ≡ get_or xs i x → now ≡ first_of (item_twice old x) → Alike new (also x old) → next ≡ earlier first now
    → earlier next (first_of (names_twice new (drop (i + 1) xs))) ≡ earlier first (first_of (names_twice old (drop i xs)))
unfolding names_twice
one_more_known xs i x old new first now next h e p alike q =
    let cut : drop i xs ≡ x ∷ drop (i + 1) xs = rw add-one (drop-cons xs i x h ∙ ap (λ y. y ∷ drop (suc i) xs) (sym e)) in
    rw (cut, q, p, same_known new (also x old) (drop (i + 1) xs) alike)
    (earlier_assoc first (first_of (item_twice old x)) (first_of (names_twice (also x old) (drop (i + 1) xs)))
    ∙ ap (earlier first) (sym (first_of-append (item_twice old x) (names_twice (also x old) (drop (i + 1) xs)))))

-- no item is left
pub no_more_known : (xs : List Item) (i : ℕ) (known : List ℕ → Bool) (first : Option Finding) → length xs ≤ i
    → earlier first (first_of (names_twice known (drop i xs))) ≡ first
unfolding names_twice
no_more_known xs i known first h = rw (drop_all i xs h, first_of-empty) (earlier-None first)
