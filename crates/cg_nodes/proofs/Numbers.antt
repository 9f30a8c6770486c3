-- The numbers of nodes, node by node.
use Rattle.std.proofs.Common.{◌≡◌, ℕ, suc, ◌+◌, ◌<◌, ◌≤◌, Bool, true, false, not, cond, List, [], ◌∷◌, ◌++◌, length, get_or, drop, drop-cons, add-one, refl, sym, ap, ◌∙◌}
use Rattle.std.proofs.lemmas.List.{append_assoc, append-nil, drop_all}
use Rattle.cg_desc.specs.declared.crossbar.NodeDesc.{NodeDesc}
use Rattle.cg_nodes.specs.Listed.{numbers_of}

-- the numbers of the nodes that are left, the first of which is looked at
first_left : (host : Bool) (nodes : List NodeDesc) (i : ℕ) (node d : NodeDesc) → i < length nodes → node ≡ get_or nodes i d
    → numbers_of host i (drop i nodes) ≡ cond (cond host node.host (not node.host)) (i ∷ numbers_of host (i + 1) (drop (i + 1) nodes)) (numbers_of host (i + 1) (drop (i + 1) nodes))
unfolding numbers_of
first_left host nodes i node d lt is =
    let cut : drop i nodes ≡ node ∷ drop (suc i) nodes = drop-cons nodes i d lt ∙ ap (λ y. y ∷ drop (suc i) nodes) (sym is) in
    ap (numbers_of host i) cut ∙ rw add-one refl

-- a node of the side is taken
pub one_taken : (host : Bool) (nodes : List NodeDesc) (i : ℕ) (node d : NodeDesc) (out new whole : List ℕ) → i < length nodes → node ≡ get_or nodes i d
    → cond host node.host (not node.host) ≡ true → new ≡ out ++ i ∷ [] → out ++ numbers_of host i (drop i nodes) ≡ whole → new ++ numbers_of host (i + 1) (drop (i + 1) nodes) ≡ whole
one_taken host nodes i node d out new whole lt is side pushed before =
    let rest : List ℕ = numbers_of host (i + 1) (drop (i + 1) nodes) in
    ap (λ l. l ++ rest) pushed
    ∙ append_assoc out (i ∷ []) rest ∙ ap (λ l. out ++ l) (sym (first_left host nodes i node d lt is ∙ ap (λ b. cond b (i ∷ rest) rest) side)) ∙ before

-- any other is passed
pub one_passed : (host : Bool) (nodes : List NodeDesc) (i : ℕ) (node d : NodeDesc) (out whole : List ℕ) → i < length nodes → node ≡ get_or nodes i d
    → cond host node.host (not node.host) ≡ false → out ++ numbers_of host i (drop i nodes) ≡ whole → out ++ numbers_of host (i + 1) (drop (i + 1) nodes) ≡ whole
one_passed host nodes i node d out whole lt is side before =
    let rest : List ℕ = numbers_of host (i + 1) (drop (i + 1) nodes) in
    ap (λ l. out ++ l) (sym (first_left host nodes i node d lt is ∙ ap (λ b. cond b (i ∷ rest) rest) side)) ∙ before

pub no_more : (host : Bool) (nodes : List NodeDesc) (i : ℕ) (out : List ℕ) → length nodes ≤ i → out ++ numbers_of host i (drop i nodes) ≡ out
unfolding numbers_of
no_more host nodes i out h = rw (drop_all i nodes h) (append-nil out)
