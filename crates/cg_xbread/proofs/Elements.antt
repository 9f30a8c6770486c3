-- What an element of a connection breaks, by a set of the names that stand before it.
use Rattle.std.proofs.Common.{◌≡◌, ℕ, Bool, true, false, not, cond, List, [], ◌∷◌, Option, ap, refl, ◌∙◌}
use Rattle.std.specs.List.{list_any}
use Rattle.std.specs.Str.{bytes_eq}
use Rattle.cg_finding.specs.Finding.{Finding, finding, first_of}
use Rattle.cg_hjson.specs.declared.tree.Tree.{Tree}
use Rattle.cg_xbread.specs.Listed.{element_faults_after, is_named, node_twice}
use Rattle.cg_xbread.specs.Written.{text_of}
use Rattle.cg_xbread.specs.declared.written.WrittenNode.{WrittenNode}
use Rattle.cg_keys.proofs.SeenNames.{HasNamesOf, Names, has}

unless_new : (is_new known : Bool) (fs : List Finding) → is_new ≡ not known → cond is_new [] fs ≡ cond known fs []
unless_new true true fs e = cc
unless_new true false fs e = refl
unless_new false true fs e = refl
unless_new false false fs e = cc

pub element_by_set : (nodes : List WrittenNode) (before : List Tree) (element : Tree) (name : List ℕ) (seen : Names) (is_new is_device : Bool) (found : Option Finding)
    → name ≡ text_of element → HasNamesOf text_of seen before → is_new ≡ not (has seen name) → is_device ≡ is_named false nodes name
    → found ≡ first_of (cond is_device (cond is_new [] (finding 6 50 element.at (text_of element) ∷ [])) (finding 6 51 element.at (text_of element) ∷ []))
    → found ≡ first_of (element_faults_after nodes before element)
unfolding element_faults_after
element_by_set nodes before element name seen is_new is_device found named set told device is =
    let known : is_new ≡ not (list_any (λ b. bytes_eq (text_of b) (text_of element)) before) = told ∙ ap (λ n. not (has seen n)) named ∙ ap not (set (text_of element)) in
    is
    ∙ ap (λ fs. first_of (cond is_device fs (finding 6 51 element.at (text_of element) ∷ [])))
    (unless_new is_new (list_any (λ b. bytes_eq (text_of b) (text_of element)) before) (finding 6 50 element.at (text_of element) ∷ []) known)
    ∙ ap (λ b. first_of (cond b (cond (list_any (λ e. bytes_eq (text_of e) (text_of element)) before) (finding 6 50 element.at (text_of element) ∷ []) []) (finding 6 51 element.at (text_of element) ∷ [])))
    (device ∙ ap (is_named false nodes) named)

-- a node by a set of the names before it
pub node_by_set : (before : List WrittenNode) (node : WrittenNode) (seen : Names) (is_new : Bool) (found : Option Finding)
    → HasNamesOf (λ n. n.name) seen before → is_new ≡ not (has seen node.name)
    → found ≡ first_of (cond is_new [] (finding 6 50 node.at node.name ∷ []))
    → found ≡ first_of (node_twice before node)
unfolding node_twice
node_by_set before node seen is_new found set told is =
    is ∙ ap first_of (unless_new is_new (list_any (λ b. bytes_eq b.name node.name) before) (finding 6 50 node.at node.name ∷ []) (told ∙ ap not (set node.name)))
