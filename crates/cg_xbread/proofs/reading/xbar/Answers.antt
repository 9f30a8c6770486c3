use Rattle.std.proofs.Common.{◌≡◌, ◌<◌, ◌^◌, List, length, Option, Some, None, sym, ap, ◌∙◌, subst, arith}
use Rattle.cg_desc.specs.Crossbar.{IsValidCrossbar}
use Rattle.cg_finding.specs.Finding.{Finding, first_of}
use Rattle.cg_finding.specs.Found.{sees, seen}
use Rattle.cg_hjson.specs.declared.tree.Tree.{Tree}
use Rattle.cg_hjson.specs.declared.tree.Member.{Member}
use Rattle.cg_xbread.specs.Listed.{key_faults, node_rules}
use Rattle.cg_xbread.specs.Written.{connections_of, nodes_of, written_node}
use Rattle.cg_xbread.specs.declared.written.WrittenNode.{WrittenNode}
use Rattle.std.specs.Prelude.{codes}
use Rattle.std.proofs.lemmas.List.{length-map}
use Rattle.cg_keys.specs.Elements.{elements}
use Rattle.cg_keys.specs.Values.{members_of}
use Rattle.cg_xbread.proofs.FirstBroken.{no_key, no_node, none_broken, refused_by_keys, refused_by_nodes}
use Rattle.cg_xbread.proofs.Valid.{valid_crossbar}
use Rattle.cg_xbread.proofs.ValidParts.{few_nodes}
use Rattle.cg_xbread.proofs.reading.xbar.Goals as goal

-- what was found among the nodes and connections that were read
by_written : (t : Tree) (nodes : List WrittenNode) (connections : List Member) (o : Option Finding) → nodes ≡ nodes_of t → connections ≡ connections_of t
    → o ≡ first_of (node_rules nodes connections) → first_of (node_rules (nodes_of t) (connections_of t)) ≡ o
by_written t nodes connections o ns cs is = sym (is ∙ (λ i. first_of (node_rules (ns i) (cs i))))

pub returns-in-Some-clause-reads : goal.returns-in-Some-clause-reads
returns-in-Some-clause-reads c =
    let keys : first_of (key_faults c.args.tree.now) ≡ Some (seen c.in-Some.found) = sym c.in_ok-found.ensures ∙ ap sees c.in-Some.is in
    refused_by_keys c.refusal.result c.args.file c.args.tree.now (seen c.in-Some.found) keys (c.refusal.ensures.refuses (key_faults c.args.tree.now) keys)

pub returns-in-Some-2-clause-reads : goal.returns-in-Some-2-clause-reads
returns-in-Some-2-clause-reads c =
    let keys : first_of (key_faults c.args.tree.now) ≡ None = sym c.in_ok-found.ensures ∙ ap sees c.in_default.is in
    let nodes : first_of (node_rules (nodes_of c.args.tree.now) (connections_of c.args.tree.now)) ≡ Some (seen c.in-Some-2.found) =
    by_written c.args.tree.now _ _ (sees c.in_ok-found-2.field-0)
    (c.as_slice.ensures ∙ c.in_ok-nodes.ensures) c.connections_of-connections.ensures c.in_ok-found-2.ensures ∙ ap sees c.in-Some-2.is in
    refused_by_nodes c.refusal-in-Some-2.result c.args.file c.args.tree.now keys
    (c.refusal-in-Some-2.ensures.refuses (node_rules (nodes_of c.args.tree.now) (connections_of c.args.tree.now)) nodes)

-- few nodes are written
few_written : (t : Tree) (nodes : List WrittenNode) → nodes ≡ nodes_of t → first_of (key_faults t) ≡ None → length nodes < 2 ^ 32
unfolding nodes_of
few_written t nodes is none =
    let few = few_nodes t (no_key t none) in
    let same : length nodes ≡ length (elements (codes "nodes") (members_of t)) = ap length is ∙ length-map (elements (codes "nodes") (members_of t)) written_node in
    omega arith

pub describe_crossbar-requires-clause-few : goal.describe_crossbar-requires-clause-few
describe_crossbar-requires-clause-few c =
    let keys : first_of (key_faults c.args.tree.now) ≡ None = sym c.in_ok-found.ensures ∙ ap sees c.in_default.is in
    few_written c.args.tree.now _ (c.as_slice-2.ensures ∙ c.in_ok-nodes.ensures) keys

pub returns-clause-reads : goal.returns-clause-reads
returns-clause-reads c =
    let keys : first_of (key_faults c.args.tree.now) ≡ None = sym c.in_ok-found.ensures ∙ ap sees c.in_default.is in
    let nodes : first_of (node_rules (nodes_of c.args.tree.now) (connections_of c.args.tree.now)) ≡ None =
    by_written c.args.tree.now _ _ (sees c.in_ok-found-2.field-0)
    (c.as_slice.ensures ∙ c.in_ok-nodes.ensures) c.connections_of-connections.ensures c.in_ok-found-2.ensures ∙ ap sees c.in_default-2.is in
    (none_broken c.args.tree.now keys nodes, c.in_ok-describe_crossbar.ensures)

pub returns-clause-valid : goal.returns-clause-valid
returns-clause-valid c =
    let keys : first_of (key_faults c.args.tree.now) ≡ None = sym c.in_ok-found.ensures ∙ ap sees c.in_default.is in
    let nodes : first_of (node_rules (nodes_of c.args.tree.now) (connections_of c.args.tree.now)) ≡ None =
    by_written c.args.tree.now _ _ (sees c.in_ok-found-2.field-0)
    (c.as_slice.ensures ∙ c.in_ok-nodes.ensures) c.connections_of-connections.ensures c.in_ok-found-2.ensures ∙ ap sees c.in_default-2.is in
    subst IsValidCrossbar (sym c.in_ok-describe_crossbar.ensures)
    (valid_crossbar c.args.file c.args.tree.now (no_key c.args.tree.now keys) (no_node c.args.tree.now nodes))
