-- Nodes by their numbers, as the code finds them.
use Rattle.std.proofs.Common.{◌≡◌, ℕ, zero, suc, ◌<◌, ◌≤◌, Bool, not, cond, drop, drop-cons, List, [], ◌∷◌, length, get_or, arith, refl, ap, sym, ◌∙◌}
use Rattle.cg_desc.specs.declared.crossbar.NodeDesc.{NodeDesc}
use Rattle.cg_busspec.specs.Crossbar.{node_at, no_node, numbers_of}

-- a node that is there
pub node_there : (ns : List NodeDesc) (i : ℕ) (n : NodeDesc) → i < length ns → n ≡ get_or ns i n → n ≡ node_at ns i
node_there [] i n low e = absurd (omega (arith, low))
node_there (m ∷ ms) zero n low e = e
node_there (m ∷ ms) (suc i) n low e = node_there ms i n (omega (arith, low)) e

-- and one that is not
pub node_absent : (ns : List NodeDesc) (i : ℕ) → length ns ≤ i → node_at ns i ≡ no_node
node_absent [] i high = refl
node_absent (m ∷ ms) zero high = absurd (omega (arith, high))
node_absent (m ∷ ms) (suc i) high = node_absent ms i (omega (arith, high))

-- the numbers from number i on, one node fewer
numbers_next : (b : Bool) (ns : List NodeDesc) (i : ℕ) (n : NodeDesc) → i < length ns → n ≡ get_or ns i n
    → numbers_of b i (drop i ns) ≡ cond (cond b n.host (not n.host)) (i ∷ numbers_of b (suc i) (drop (suc i) ns)) (numbers_of b (suc i) (drop (suc i) ns))
numbers_next b ns i n low e = ap (numbers_of b i) (drop-cons ns i n low ∙ ap (λ z. z ∷ drop (suc i) ns) (sym e))

pub ruleset nodes = (node_there, node_absent)
