-- The description of a crossbar that breaks no rule is valid.
use Rattle.std.proofs.Common.{◌≡◌, ℕ, ◌≤◌, Bool, true, false, cond, List, [], ◌∷◌, map, Some, None, inl, refl, sym, ap, subst, ◌∙◌}
use Rattle.std.specs.Prelude.{codes, slice_get}
use Rattle.std.proofs.lemmas.List.{length-map}
use Rattle.std.specs.List.{list_any}
use Rattle.std.specs.Str.{bytes_eq}
use Rattle.std.proofs.lemmas.Bool.{false≢true}
use Rattle.cg_desc.specs.Crossbar.{IsValidCrossbar, IsValidNode}
use Rattle.cg_desc.specs.declared.crossbar.NodeDesc.{NodeDesc}
use Rattle.cg_finding.specs.Finding.{Among, finding}
use Rattle.cg_hjson.specs.declared.tree.Tree.{Tree}
use Rattle.cg_keys.specs.Elements.{elements}
use Rattle.cg_keys.specs.Values.{members_of}
use Rattle.cg_xbread.specs.Described.{clock_of, crossbar_of, node_of, number_of, to_of}
use Rattle.cg_xbread.specs.Listed.{heard}
use Rattle.cg_xbread.specs.Violations as fact
use Rattle.cg_xbread.specs.Violations.{BreaksNodes}
use Rattle.cg_xbread.specs.Written.{connections_of, listed, nodes_of, text_of, written_node}
use Rattle.cg_xbread.specs.declared.written.WrittenNode.{WrittenNode}
use Rattle.cg_xbread.proofs.NodeFacts.{SomeHostLists, heard_lists, lists_heard}
use Rattle.cg_xbread.proofs.Numbers.{At, among_at, at_among, at_map, map_at, numbered}
use Rattle.cg_xbread.proofs.Tests.{Viewed, in_map, map_has}
use Rattle.cg_xbread.proofs.ValidEnds.{NoNodeBroken, device_at, one_by_name, one_by_number}
use Rattle.cg_xbread.proofs.ValidParts.{NoKeyBroken, clock_good, few_nodes, name_good, node_good, sound_node}

-- the nodes as they are written, and as they are described
abbrev items : Tree → List Tree
items t = elements (codes "nodes") (members_of t)

abbrev describe : Tree → Tree → NodeDesc
describe t = node_of (clock_of (members_of t)) (nodes_of t) (connections_of t)

-- the numbers of what a host's connection lists
abbrev numbers : Tree → List ℕ → List ℕ
numbers t host = map (λ e. number_of (nodes_of t) (text_of e)) (listed t host)

-- a node of this number, as it is described and as it is written
record Both (t : Tree) (i : ℕ) (node : NodeDesc) (written : WrittenNode) : Type 0 where
  described : At (map (describe t) (items t)) i node
  there : At (nodes_of t) i written
  host : node.host ≡ written.host
  name : node.name ≡ written.name
  to : node.to ≡ cond written.host (numbers t written.name) []

both_of : (t : Tree) (i : ℕ) (source : Tree) → At (items t) i source → Both t i (describe t source) (written_node source)
unfolding nodes_of node_of to_of listed
both_of t i source at = record {
  described = map_at (describe t) (items t) i source at;
  there = map_at written_node (items t) i source at;
  host = refl;
  name = refl;
  to = refl;
}

by_description : (t : Tree) (i : ℕ) (node : NodeDesc) → At (map (describe t) (items t)) i node → (written : WrittenNode) × Both t i node written
by_description t i node at =
    let from = at_map (describe t) (items t) i node at in
    (written_node from.source, subst (λ n. Both t i n (written_node from.source)) (sym from.is) (both_of t i from.source from.there))

by_writing : (t : Tree) (i : ℕ) (written : WrittenNode) → At (nodes_of t) i written → (node : NodeDesc) × Both t i node written
unfolding nodes_of
by_writing t i written at =
    let from = at_map written_node (items t) i written at in
    (describe t from.source, subst (λ w. Both t i (describe t from.source) w) (sym from.is) (both_of t i from.source from.there))

-- a node of this number is a host, and connects to the node of the other
abbrev Joins : Tree → ℕ → ℕ → Type 0
Joins t h d = (node : NodeDesc) × At (map (describe t) (items t)) h node × (node.host ≡ true) × Among d node.to

-- what a host connects to
to_of_host : (t : Tree) (i : ℕ) (node : NodeDesc) (w : WrittenNode) → Both t i node w → node.host ≡ true → node.to ≡ numbers t w.name
to_of_host t i node w b host = b.to ∙ ap (λ h. cond h (numbers t w.name) []) (sym b.host ∙ host)

to_of_device : (t : Tree) (i : ℕ) (node : NodeDesc) (w : WrittenNode) → Both t i node w → node.host ≡ false → node.to ≡ []
to_of_device t i node w b device = b.to ∙ ap (λ h. cond h (numbers t w.name) []) (sym b.host ∙ device)

-- an element of a list that is not empty
some_of : (es : List Tree) → (es ≡ [] → ⊥) → (e : Tree) × Among e es
some_of [] some = absurd (some refl)
some_of (e ∷ es) some = (e, inl refl)

-- ---- the whole

pub valid_crossbar : (file : ℕ) (t : Tree) → NoKeyBroken t → NoNodeBroken t → IsValidCrossbar (crossbar_of file t)
unfolding crossbar_of
valid_crossbar file t keys none = record {
  name = name_good t keys;
  clock = clock_good t keys;
  few_nodes = subst (λ n. n ≤ 64) (sym (length-map (items t) (describe t))) (few_nodes t keys);
  nodes = λ node among. good node (in_map (describe t) (items t) node among);
  names_differ = λ i j a b at_i at_j same. differ i j a b (by_description t i a at_i) (by_description t j b at_j) same;
  devices_only = λ h d connects. device h d connects.0 (by_description t h connects.0 connects.1) connects.2 connects.3;
  once = λ h i j d node at first second. one h i j d node (by_description t h node at) first second;
  only_hosts = λ i node at is. let b = by_description t i node at in to_of_device t i node b.0 b.1 is;
  some_device = λ h host. some_device h host.0 (by_description t h host.0 host.1) host.1 host.2;
  some_host = λ d device. some_host d device.0 (by_description t d device.0 device.1) device.2;
}
  where
    good : (node : NodeDesc) → Viewed (describe t) (items t) node → IsValidNode node
    good node from = subst IsValidNode (sym from.is) (node_good t (nodes_of t) (connections_of t) from.source (sound_node t keys from.source from.among) (clock_good t keys))

    differ : (i j : ℕ) (a b : NodeDesc) → (w : WrittenNode) × Both t i a w → (w : WrittenNode) × Both t j b w → a.name ≡ b.name → i ≡ j
    differ i j a b (u, first) (w, second) same = one_by_name t none i j u w first.there second.there (sym first.name ∙ same ∙ second.name)

    device : (h d : ℕ) (node : NodeDesc) → (w : WrittenNode) × Both t h node w → node.host ≡ true → Among d node.to
        → (n : NodeDesc) × At (map (describe t) (items t)) d n × (n.host ≡ false)
    device h d node (w, both) host among =
        let from = in_map (λ e. number_of (nodes_of t) (text_of e)) (listed t w.name) d (subst (λ ns. Among d ns) (to_of_host t h node w both host) among) in
        let found = device_at t none w.name from.source from.among in
        let described = by_writing t d found.0 (ap (slice_get (nodes_of t)) from.is ∙ found.1) in
        (described.0, described.1.described, described.1.host ∙ found.2)

    one : (h i j d : ℕ) (node : NodeDesc) → (w : WrittenNode) × Both t h node w → slice_get node.to i ≡ Some d → slice_get node.to j ≡ Some d → i ≡ j
    one h i j d node (w, both) first second = by node.host refl
      where
        by : (b : Bool) → node.host ≡ b → i ≡ j
        by true host =
            let to = to_of_host t h node w both host in
            let a = at_map (λ e. number_of (nodes_of t) (text_of e)) (listed t w.name) i d (ap (λ ns. slice_get ns i) (sym to) ∙ first) in
            let b = at_map (λ e. number_of (nodes_of t) (text_of e)) (listed t w.name) j d (ap (λ ns. slice_get ns j) (sym to) ∙ second) in
            one_by_number t none w.name i j a.source b.source a.there b.there (sym a.is ∙ b.is)
        by false is = let to = to_of_device t h node w both is in let nothing : None ≡ Some d = ap (λ ns. slice_get ns i) (sym to) ∙ first in cc

    some_device : (h : ℕ) (node : NodeDesc) → (w : WrittenNode) × Both t h node w → At (map (describe t) (items t)) h node → node.host ≡ true
        → (d : ℕ) × Joins t h d
    some_device h node (w, both) at host =
        let some = some_of (listed t w.name) (λ empty. none (finding 6 52 w.at w.name)
        (fact.host_without_device (record { node = w; is_node = at_among (nodes_of t) h w both.there; host = sym both.host ∙ host; none = empty; says = refl }))) in
        let d = number_of (nodes_of t) (text_of some.0) in
        (d, (node, at, host, subst (λ ns. Among d ns) (sym (to_of_host t h node w both host)) (map_has (λ e. number_of (nodes_of t) (text_of e)) (listed t w.name) some.0 some.1)))

    lists : (d : ℕ) (w : WrittenNode) → At (nodes_of t) d w → w.host ≡ false → (b : Bool) → list_any (λ e. bytes_eq (text_of e) w.name) (heard (nodes_of t) (connections_of t)) ≡ b → SomeHostLists t w.name
    lists d w at is true found = heard_lists t w.name found
    lists d w at is false unheard =
        absurd (none (finding 6 53 w.at w.name)
        (fact.device_without_host (record {
          node = w;
          is_node = at_among (nodes_of t) d w at;
          device = is;
          none = λ host is_host lists. false≢true (sym unheard ∙ lists_heard t w.name (record { host = host; is_host = is_host; lists = lists }));
          says = refl;
        })))

    some_host : (d : ℕ) (node : NodeDesc) → (w : WrittenNode) × Both t d node w → node.host ≡ false
        → (h : ℕ) × Joins t h d
    some_host d node (w, both) is =
        let some = lists d w both.there (sym both.host ∙ is) (list_any (λ e. bytes_eq (text_of e) w.name) (heard (nodes_of t) (connections_of t))) refl in
        let hw = some.is_host.node in
        let place = among_at (nodes_of t) hw some.is_host.among in
        let described = by_writing t place.0 hw place.1 in
        let host : described.0.host ≡ true = described.1.host ∙ some.is_host.host in
        let element = some.lists.element in
        let number = numbered (nodes_of t) (text_of element) w (at_among (nodes_of t) d w both.there) (sym some.lists.named) in
        let same : number_of (nodes_of t) (text_of element) ≡ d =
        one_by_name t none (number_of (nodes_of t) (text_of element)) d number.node w number.at both.there (number.named ∙ some.lists.named) in
        let inside : Among element (listed t hw.name) = subst (λ name. Among element (listed t name)) (sym some.is_host.named) some.lists.among in
        let among : Among d (numbers t hw.name) = subst (λ n. Among n (numbers t hw.name)) same (map_has (λ e. number_of (nodes_of t) (text_of e)) (listed t hw.name) element inside) in
        (place.0, (described.0, described.1.described, host, subst (λ ns. Among d ns) (sym (to_of_host t place.0 described.0 hw described.1 host)) among))
