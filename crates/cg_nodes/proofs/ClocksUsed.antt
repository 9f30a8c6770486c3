-- The clocks that were used, in a set that keeps its order.
use Rattle.std.proofs.Common.{◌≡◌, ℕ, suc, ◌+◌, ◌<◌, ◌≤◌, Bool, true, false, ◌||◌, cond, List, [], ◌∷◌, ◌++◌, map, length, get_or, drop, drop-cons, add-one, Bor, refl, sym, ap, ◌∙◌}
use Rattle.std.specs.List.{list_any}
use Rattle.std.specs.Cmp.Lexicographic.{nat_list_eq_equiv}
use Rattle.std.specs.Str.{bytes_eq}
use Rattle.std.proofs.lemmas.List.{drop_all, map-append}
use Rattle.cg_svspec.specs.Names.{is_among}
use Rattle.cg_desc.specs.declared.crossbar.NodeDesc.{NodeDesc}
use Rattle.cg_desc.specs.declared.crossbar.XbarDesc.{XbarDesc}
use Rattle.cg_nodes.specs.Listed.{clocks_of, new_names}
use Rattle.cg_nodes.proofs.ClocksListed.{no_use, one_more_use}

-- borrowed names
abbrev pub Names : Type 0
Names = List (Bor (List ℕ))

abbrev pub bytes_of : Names → List (List ℕ)
bytes_of = map (λ k. k.now)

abbrev clocks : List NodeDesc → List (List ℕ)
clocks = map (λ node. node.clock)

-- the names with one more, unless they have it
abbrev pub inserted : Names → Bor (List ℕ) → Names
inserted names n = cond (list_any (λ k. bytes_eq n.now k.now) names) names (names ++ n ∷ [])

has_among : (names : Names) (n : List ℕ) → list_any (λ k. bytes_eq n k.now) names ≡ is_among (bytes_of names) n
has_among [] n = refl
has_among (k ∷ ks) n = λ i. nat_list_eq_equiv.symm n k.now i || has_among ks n i

pub inserted_bytes : (names : Names) (n : Bor (List ℕ)) → bytes_of (inserted names n) ≡ cond (is_among (bytes_of names) n.now) (bytes_of names) (bytes_of names ++ n.now ∷ [])
inserted_bytes names n = by (list_any (λ k. bytes_eq n.now k.now) names) (is_among (bytes_of names) n.now) (has_among names n.now)
  where
    by : (a b : Bool) → a ≡ b → bytes_of (cond a names (names ++ n ∷ [])) ≡ cond b (bytes_of names) (bytes_of names ++ n.now ∷ [])
    by true true e = refl
    by true false e = cc
    by false true e = cc
    by false false e = map-append (λ k. k.now) names (n ∷ [])

-- the crossbar's clock is used first
pub first_use : (x : XbarDesc) (new : Names) (n : Bor (List ℕ)) (nodes : List NodeDesc) → new ≡ inserted [] n → n.now ≡ x.clock → nodes ≡ x.nodes
    → bytes_of new ++ new_names (bytes_of new) (clocks nodes) ≡ clocks_of x
unfolding clocks_of
first_use x new n nodes is named same =
    one_more_use [] (bytes_of new) n.now (clocks nodes) (ap bytes_of is ∙ inserted_bytes [] n)
    ∙ (λ i. new_names [] (named i ∷ clocks (same i)))

-- then those of the nodes
pub next_use : (old new : Names) (n : Bor (List ℕ)) (nodes : List NodeDesc) (i : ℕ) (node d : NodeDesc) (whole : List (List ℕ)) → i < length nodes → node ≡ get_or nodes i d
    → n.now ≡ node.clock → new ≡ inserted old n → bytes_of old ++ new_names (bytes_of old) (clocks (drop i nodes)) ≡ whole
    → bytes_of new ++ new_names (bytes_of new) (clocks (drop (i + 1) nodes)) ≡ whole
next_use old new n nodes i node d whole lt is named added before =
    let cut : drop i nodes ≡ node ∷ drop (i + 1) nodes = rw add-one (drop-cons nodes i d lt ∙ ap (λ y. y ∷ drop (suc i) nodes) (sym is)) in
    one_more_use (bytes_of old) (bytes_of new) n.now (clocks (drop (i + 1) nodes)) (ap bytes_of added ∙ inserted_bytes old n)
    ∙ ap (λ c. bytes_of old ++ new_names (bytes_of old) (c ∷ clocks (drop (i + 1) nodes))) named
    ∙ ap (λ l. bytes_of old ++ new_names (bytes_of old) (clocks l)) (sym cut)
    ∙ before

pub last_use : (names : Names) (nodes : List NodeDesc) (i : ℕ) → length nodes ≤ i → bytes_of names ++ new_names (bytes_of names) (clocks (drop i nodes)) ≡ bytes_of names
last_use names nodes i h = ap (λ l. bytes_of names ++ new_names (bytes_of names) (clocks l)) (drop_all i nodes h) ∙ no_use (bytes_of names)
