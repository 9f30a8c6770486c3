-- Of a crossbar that breaks no rule: nodes have names of their own, and connections join hosts and devices.
use Rattle.std.proofs.Common.{◌≡◌, ℕ, ◌<◌, Bool, true, false, List, [], Option, Some, None, refl, sym, ap, subst, ◌∙◌, arith}
use Rattle.std.specs.Prelude.{slice_get}
use Rattle.std.proofs.lemmas.Bool.{false≢true}
use Rattle.cg_finding.specs.Finding.{Among, Finding, finding}
use Rattle.cg_hjson.specs.declared.tree.Tree.{Tree}
use Rattle.cg_hjson.specs.declared.tree.Member.{Member}
use Rattle.cg_keys.specs.Elements.{elements, items_in}
use Rattle.cg_keys.specs.Table.{value_at}
use Rattle.cg_keys.specs.Values.{items_of}
use Rattle.cg_xbread.specs.Described.{number_of}
use Rattle.cg_keys.specs.Lists.{first_members}
use Rattle.cg_xbread.specs.Listed.{is_named}
use Rattle.cg_xbread.specs.Violations as fact
use Rattle.cg_xbread.specs.Violations.{BreaksNodes}
use Rattle.cg_xbread.specs.Written.{IsDeviceName, connections_of, listed, nodes_of, text_of}
use Rattle.cg_xbread.specs.declared.written.WrittenNode.{WrittenNode}
use Rattle.cg_keys.proofs.FirstMembers.{First, found_is_first, first_is_member}
use Rattle.cg_xbread.proofs.NodeFacts.{device_named, named_device}
use Rattle.cg_xbread.proofs.Numbers.{At, among_at, apart, at_among, numbered, same_at}

-- nothing on nodes and connections is broken
abbrev pub NoNodeBroken : Tree → Type 0
NoNodeBroken t = (f : Finding) → ¬ BreaksNodes t f

abbrev order : (i j : ℕ) → (i < j → ⊥) → (j < i → ⊥) → i ≡ j
order i j a b = omega (arith, a, b)

-- ---- names

-- two nodes of one name are one
pub one_by_name : (t : Tree) → NoNodeBroken t → (i j : ℕ) (a b : WrittenNode) → At (nodes_of t) i a → At (nodes_of t) j b → a.name ≡ b.name → i ≡ j
one_by_name t none i j a b at_i at_j same =
    order i j (λ lt. twice i j a b at_i at_j same lt) (λ lt. twice j i b a at_j at_i (sym same) lt)
  where
    twice : (i j : ℕ) (a b : WrittenNode) → At (nodes_of t) i a → At (nodes_of t) j b → a.name ≡ b.name → i < j → ⊥
    twice i j a b at_i at_j same lt =
        let cut = apart (nodes_of t) i j a b at_i at_j lt in
        none (finding 6 50 b.at b.name)
        (fact.node_twice (record { before = cut.before; node = b; after = cut.after; stands = cut.splits; earlier = a; among = cut.earlier; same = same; says = refl }))

-- ---- connections

-- an element of what a host's connection lists
pub record Element (t : Tree) (host : List ℕ) (element : Tree) : Type 0 where
  pub connection : Member
  pub is_connection : Among connection (connections_of t)
  pub key_is : connection.key ≡ host
  pub all : items_of connection.value ≡ listed t host
  pub among : Among element (items_of connection.value)

pub element_of : (t : Tree) (host : List ℕ) (element : Tree) → Among element (listed t host) → Element t host element
unfolding listed elements
element_of t host element among = by (value_at host (connections_of t)) refl among
  where
    by : (v : Option Tree) → value_at host (connections_of t) ≡ v → Among element (items_in v) → Element t host element
    by None absent h = absurd h
    by (Some value) there h =
        let first : First host value (first_members (connections_of t)) = found_is_first [] (connections_of t) host value refl there in
        record {
          connection = first.member;
          is_connection = first_is_member [] (connections_of t) first.member first.among;
          key_is = first.key_is;
          all = ap items_of first.value_is ∙ ap items_in (sym there);
          among = subst (λ (v : Tree). Among element (items_of v)) (sym first.value_is) h;
        }

-- such an element is a device's name
pub is_device : (t : Tree) → NoNodeBroken t → (host : List ℕ) (element : Tree) → Among element (listed t host) → IsDeviceName t (text_of element)
is_device t none host element among = by (is_named false (nodes_of t) (text_of element)) refl
  where
    by : (b : Bool) → is_named false (nodes_of t) (text_of element) ≡ b → IsDeviceName t (text_of element)
    by true named = device_named t (text_of element) named
    by false unknown =
        let e = element_of t host element among in
        absurd (none (finding 6 51 element.at (text_of element))
        (fact.unknown_device (record {
          connection = e.connection;
          is_connection = e.is_connection;
          element = element;
          among = e.among;
          unknown = λ device. false≢true (sym unknown ∙ named_device t (text_of element) device);
          says = refl;
        })))

-- the node of the number of such an element is a device of its name
pub device_at : (t : Tree) → NoNodeBroken t → (host : List ℕ) (element : Tree) → Among element (listed t host)
    → (node : WrittenNode) × At (nodes_of t) (number_of (nodes_of t) (text_of element)) node × (node.host ≡ false) × (node.name ≡ text_of element)
device_at t none host element among =
    let device = is_device t none host element among in
    let number = numbered (nodes_of t) (text_of element) device.node device.among device.named in
    let place = among_at (nodes_of t) device.node device.among in
    let same : number_of (nodes_of t) (text_of element) ≡ place.0 =
    one_by_name t none (number_of (nodes_of t) (text_of element)) place.0 number.node device.node number.at place.1 (number.named ∙ sym device.named) in
    (device.node, ap (slice_get (nodes_of t)) same ∙ place.1, device.device, device.named)

-- two elements of one number stand at one place
pub one_by_number : (t : Tree) → NoNodeBroken t → (host : List ℕ) (i j : ℕ) (a b : Tree) → At (listed t host) i a → At (listed t host) j b
    → number_of (nodes_of t) (text_of a) ≡ number_of (nodes_of t) (text_of b) → i ≡ j
one_by_number t none host i j a b at_i at_j same =
    let first = device_at t none host a (at_among (listed t host) i a at_i) in
    let second = device_at t none host b (at_among (listed t host) j b at_j) in
    let one : first.0 ≡ second.0 = same_at (nodes_of t) (number_of (nodes_of t) (text_of b)) first.0 second.0 (ap (slice_get (nodes_of t)) (sym same) ∙ first.1) second.1 in
    let names : text_of a ≡ text_of b = sym first.3 ∙ ap (λ (n : WrittenNode). n.name) one ∙ second.3 in
    order i j (λ lt. twice i j a b at_i at_j names lt) (λ lt. twice j i b a at_j at_i (sym names) lt)
  where
    twice : (i j : ℕ) (a b : Tree) → At (listed t host) i a → At (listed t host) j b → text_of a ≡ text_of b → i < j → ⊥
    twice i j a b at_i at_j names lt =
        let cut = apart (listed t host) i j a b at_i at_j lt in
        let e = element_of t host b (at_among (listed t host) j b at_j) in
        none (finding 6 50 b.at (text_of b))
        (fact.device_twice (record {
          connection = e.connection;
          is_connection = e.is_connection;
          before = cut.before;
          element = b;
          after = cut.after;
          stands = e.all ∙ cut.splits;
          device = is_device t none host b (at_among (listed t host) j b at_j);
          earlier = a;
          among = cut.earlier;
          same = names;
          says = refl;
        }))
