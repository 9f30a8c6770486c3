-- What a crossbar breaks of the rules on nodes and connections is what is found.
use Rattle.std.proofs.Common.{◌≡◌, ℕ, Bool, true, false, not, ◌&&◌, cond, List, [], ◌∷◌, ◌++◌, Option, Some, None, ◌⊎◌, inl, inr, refl, sym, ap, subst, ◌∙◌}
use Rattle.std.proofs.lemmas.Bool.{and_from, and_parts, false_from_ne_true, false≢true, not-true}
use Rattle.std.proofs.lemmas.Slice.Eq.{bytes_eq-Decides}
use Rattle.std.specs.List.{flat_map, list_any}
use Rattle.std.specs.Str.{bytes_eq}
use Rattle.cg_finding.specs.Finding.{Among, Finding, In, each_after, finding}
use Rattle.cg_finding.proofs.Members.{FromOneAfter, each_after_has, flat_map_has, in_each_after, in_either, in_flat_map, in_left, in_right, in_unless, in_when, unless_has, when_has}
use Rattle.cg_hjson.specs.declared.tree.Tree.{Tree}
use Rattle.cg_hjson.specs.declared.tree.Member.{Member}
use Rattle.cg_keys.specs.Elements.{elements, items_in}
use Rattle.cg_keys.specs.Table.{value_at}
use Rattle.cg_keys.specs.Values.{items_of}
use Rattle.cg_keys.specs.Lists.{first_members}
use Rattle.cg_xbread.specs.Listed.{element_faults_after, ends_faults, heard, host_elements, is_empty, is_named, lonely_device, lonely_host, node_rules, node_twice, unknown_host}
use Rattle.cg_xbread.specs.Violations as fact
use Rattle.cg_xbread.specs.Violations.{BreaksNodes, DeviceTwice, DeviceWithoutHost, HostWithoutDevice, NodeTwice, UnknownDevice, UnknownHost}
use Rattle.cg_xbread.specs.Written.{IsDeviceName, IsHostName, Lists, connections_of, listed, nodes_of, text_of}
use Rattle.cg_keys.proofs.FirstMembers.{First, Found, first_is_found, found_is_first}
use Rattle.cg_xbread.proofs.Tests.{among_flat_map, among_splits, any_finds, finds_any, flat_map_among, in_middle}

same_bytes : (a b : List ℕ) → bytes_eq a b ≡ true → a ≡ b
same_bytes a b is = (bytes_eq-Decides a b).0 is

bytes_same : (a b : List ℕ) → a ≡ b → bytes_eq a b ≡ true
bytes_same a b is = (bytes_eq-Decides a b).1 is

-- ---- names of hosts and devices

pub host_named : (t : Tree) (name : List ℕ) → is_named true (nodes_of t) name ≡ true → IsHostName t name
unfolding is_named
host_named t name h =
    let one = any_finds (λ node. node.host && bytes_eq node.name name) (nodes_of t) h in
    let parts = and_parts one.item.host (bytes_eq one.item.name name) one.answers in
    record { node = one.item; among = one.among; host = parts.0; named = same_bytes one.item.name name parts.1 }

pub named_host : (t : Tree) (name : List ℕ) → IsHostName t name → is_named true (nodes_of t) name ≡ true
unfolding is_named
named_host t name n =
    finds_any (λ node. node.host && bytes_eq node.name name) (nodes_of t) n.node n.among (and_from n.node.host (bytes_eq n.node.name name) n.host (bytes_same n.node.name name n.named))

pub device_named : (t : Tree) (name : List ℕ) → is_named false (nodes_of t) name ≡ true → IsDeviceName t name
unfolding is_named
device_named t name h =
    let one = any_finds (λ node. not node.host && bytes_eq node.name name) (nodes_of t) h in
    let parts = and_parts (not one.item.host) (bytes_eq one.item.name name) one.answers in
    record { node = one.item; among = one.among; device = not-true one.item.host parts.0; named = same_bytes one.item.name name parts.1 }

pub named_device : (t : Tree) (name : List ℕ) → IsDeviceName t name → is_named false (nodes_of t) name ≡ true
unfolding is_named
named_device t name n =
    finds_any (λ node. not node.host && bytes_eq node.name name) (nodes_of t) n.node n.among (and_from (not n.node.host) (bytes_eq n.node.name name) (ap not n.device) (bytes_same n.node.name name n.named))

-- ---- 50: nodes

in_node_twice : (t : Tree) (f : Finding) → In f (each_after node_twice [] (nodes_of t)) → NodeTwice t f
unfolding node_twice
in_node_twice t f among =
    let one = in_each_after node_twice [] (nodes_of t) f among in
    let when = in_when (list_any (λ b. bytes_eq b.name one.item.name) one.front) f (finding 6 50 one.item.at one.item.name) one.found in
    let earlier = any_finds (λ b. bytes_eq b.name one.item.name) one.front when.0 in
    record {
      before = one.front;
      node = one.item;
      after = one.back;
      stands = one.splits;
      earlier = earlier.item;
      among = earlier.among;
      same = same_bytes earlier.item.name one.item.name earlier.answers;
      says = when.1;
    }

node_twice_has : (t : Tree) (f : Finding) → NodeTwice t f → In f (each_after node_twice [] (nodes_of t))
unfolding node_twice
node_twice_has t f w =
    subst (λ nodes. In f (each_after node_twice [] nodes)) (sym w.stands)
    (each_after_has node_twice [] w.before w.after w.node f
    (when_has (list_any (λ b. bytes_eq b.name w.node.name) w.before) f (finding 6 50 w.node.at w.node.name)
    (finds_any (λ b. bytes_eq b.name w.node.name) w.before w.earlier w.among (bytes_same w.earlier.name w.node.name w.same)) w.says))

-- ---- 50 and 51: connections

in_elements_after : (t : Tree) (m : Member) (f : Finding) → Among m (connections_of t) → In f (each_after (element_faults_after (nodes_of t)) [] (items_of m.value))
    → DeviceTwice t f ⊎ UnknownDevice t f
unfolding element_faults_after
in_elements_after t m f there among =
    let one = in_each_after (element_faults_after (nodes_of t)) [] (items_of m.value) f among in
    by one (is_named false (nodes_of t) (text_of one.item)) refl one.found
  where
    by : (one : FromOneAfter (element_faults_after (nodes_of t)) [] (items_of m.value) f) (b : Bool) → is_named false (nodes_of t) (text_of one.item) ≡ b
        → In f (cond b
        (cond (list_any (λ b. bytes_eq (text_of b) (text_of one.item)) one.front) (finding 6 50 one.item.at (text_of one.item) ∷ []) [])
        (finding 6 51 one.item.at (text_of one.item) ∷ []))
        → DeviceTwice t f ⊎ UnknownDevice t f
    by one true named h =
        let when = in_when (list_any (λ b. bytes_eq (text_of b) (text_of one.item)) one.front) f (finding 6 50 one.item.at (text_of one.item)) h in
        let earlier = any_finds (λ b. bytes_eq (text_of b) (text_of one.item)) one.front when.0 in
        inl (record {
          connection = m;
          is_connection = there;
          before = one.front;
          element = one.item;
          after = one.back;
          stands = one.splits;
          device = device_named t (text_of one.item) named;
          earlier = earlier.item;
          among = earlier.among;
          same = same_bytes (text_of earlier.item) (text_of one.item) earlier.answers;
          says = when.1;
        })
    by one false named (inl is) =
        inr (record {
          connection = m;
          is_connection = there;
          element = one.item;
          among = subst (λ es. Among one.item es) (sym one.splits) (in_middle one.front one.back one.item);
          unknown = λ device. false≢true (sym named ∙ named_device t (text_of one.item) device);
          says = is;
        })
    by one false named (inr none) = absurd none

elements_after_has_twice : (t : Tree) (f : Finding) (w : DeviceTwice t f) → In f (each_after (element_faults_after (nodes_of t)) [] (items_of w.connection.value))
unfolding element_faults_after
elements_after_has_twice t f w =
    subst (λ es. In f (each_after (element_faults_after (nodes_of t)) [] es)) (sym w.stands)
    (each_after_has (element_faults_after (nodes_of t)) [] w.before w.after w.element f
    (subst (λ b. In f (cond b
    (cond (list_any (λ b. bytes_eq (text_of b) (text_of w.element)) w.before) (finding 6 50 w.element.at (text_of w.element) ∷ []) [])
    (finding 6 51 w.element.at (text_of w.element) ∷ [])))
    (sym (named_device t (text_of w.element) w.device))
    (when_has (list_any (λ b. bytes_eq (text_of b) (text_of w.element)) w.before) f (finding 6 50 w.element.at (text_of w.element))
    (finds_any (λ b. bytes_eq (text_of b) (text_of w.element)) w.before w.earlier w.among (bytes_same (text_of w.earlier) (text_of w.element) w.same)) w.says)))

elements_after_has_unknown : (t : Tree) (f : Finding) (w : UnknownDevice t f) → In f (each_after (element_faults_after (nodes_of t)) [] (items_of w.connection.value))
unfolding element_faults_after
elements_after_has_unknown t f w =
    let cut = among_splits (items_of w.connection.value) w.element w.among in
    subst (λ es. In f (each_after (element_faults_after (nodes_of t)) [] es)) (sym cut.splits)
    (each_after_has (element_faults_after (nodes_of t)) [] cut.front cut.back w.element f
    (subst (λ b. In f (cond b
    (cond (list_any (λ b. bytes_eq (text_of b) (text_of w.element)) cut.front) (finding 6 50 w.element.at (text_of w.element) ∷ []) [])
    (finding 6 51 w.element.at (text_of w.element) ∷ [])))
    (sym (false_from_ne_true (is_named false (nodes_of t) (text_of w.element)) (λ named. w.unknown (device_named t (text_of w.element) named))))
    (inl w.says)))

in_ends : (t : Tree) (f : Finding) → In f (flat_map (ends_faults (nodes_of t)) (connections_of t)) → BreaksNodes t f
unfolding ends_faults unknown_host
in_ends t f among =
    let one = in_flat_map (ends_faults (nodes_of t)) (connections_of t) f among in
    let m = one.item in
    elim (in_either f (unknown_host (nodes_of t) m) (each_after (element_faults_after (nodes_of t)) [] (items_of m.value)) one.found) [
      | inl key ↦ let unless = in_unless (is_named true (nodes_of t) m.key) f (finding 6 51 m.key_at m.key) key in
          fact.unknown_host (record {
            connection = m;
            is_connection = one.among;
            unknown = λ host. false≢true (sym unless.0 ∙ named_host t m.key host);
            says = unless.1;
          })
      | inr inner ↦ elim (in_elements_after t m f one.among inner) [ inl twice ↦ fact.device_twice twice | inr unknown ↦ fact.unknown_device unknown ]
    ]

ends_has_host : (t : Tree) (f : Finding) → UnknownHost t f → In f (flat_map (ends_faults (nodes_of t)) (connections_of t))
unfolding ends_faults unknown_host
ends_has_host t f w =
    flat_map_has (ends_faults (nodes_of t)) (connections_of t) w.connection f w.is_connection
    (in_left f (unknown_host (nodes_of t) w.connection) _
    (unless_has (is_named true (nodes_of t) w.connection.key) f (finding 6 51 w.connection.key_at w.connection.key)
    (false_from_ne_true (is_named true (nodes_of t) w.connection.key) (λ named. w.unknown (host_named t w.connection.key named))) w.says))

ends_has_element : (t : Tree) (f : Finding) (m : Member) → Among m (connections_of t) → In f (each_after (element_faults_after (nodes_of t)) [] (items_of m.value))
    → In f (flat_map (ends_faults (nodes_of t)) (connections_of t))
unfolding ends_faults
ends_has_element t f m there among =
    flat_map_has (ends_faults (nodes_of t)) (connections_of t) m f there (in_right f (unknown_host (nodes_of t) m) _ among)

-- ---- 52: hosts

empty_is : (ts : List Tree) → is_empty ts ≡ true → ts ≡ []
empty_is [] h = refl
empty_is (t ∷ ts) h = cc

is_so_empty : (ts : List Tree) → ts ≡ [] → is_empty ts ≡ true
is_so_empty ts h = ap is_empty h

in_lonely_hosts : (t : Tree) (f : Finding) → In f (flat_map (lonely_host (connections_of t)) (nodes_of t)) → HostWithoutDevice t f
unfolding lonely_host listed
in_lonely_hosts t f among =
    let one = in_flat_map (lonely_host (connections_of t)) (nodes_of t) f among in
    let node = one.item in
    let when = in_when (node.host && is_empty (elements node.name (connections_of t))) f (finding 6 52 node.at node.name) one.found in
    let parts = and_parts node.host (is_empty (elements node.name (connections_of t))) when.0 in
    record { node = node; is_node = one.among; host = parts.0; none = empty_is (elements node.name (connections_of t)) parts.1; says = when.1 }

lonely_hosts_has : (t : Tree) (f : Finding) → HostWithoutDevice t f → In f (flat_map (lonely_host (connections_of t)) (nodes_of t))
unfolding lonely_host listed
lonely_hosts_has t f w =
    flat_map_has (lonely_host (connections_of t)) (nodes_of t) w.node f w.is_node
    (when_has (w.node.host && is_empty (elements w.node.name (connections_of t))) f (finding 6 52 w.node.at w.node.name)
    (and_from w.node.host (is_empty (elements w.node.name (connections_of t))) w.host (is_so_empty (elements w.node.name (connections_of t)) w.none)) w.says)

-- ---- 53: devices

-- the connection of some host lists this name
pub record SomeHostLists (t : Tree) (name : List ℕ) : Type 0 where
  pub host : List ℕ
  pub is_host : IsHostName t host
  pub lists : Lists t host name

in_host_elements : (t : Tree) (m : Member) (e : Tree) → Among e (host_elements (nodes_of t) m) → IsHostName t m.key × Among e (items_of m.value)
in_host_elements t m e among = by (is_named true (nodes_of t) m.key) refl among
  where
    by : (b : Bool) → is_named true (nodes_of t) m.key ≡ b → Among e (cond b (items_of m.value) []) → IsHostName t m.key × Among e (items_of m.value)
    by true named h = (host_named t m.key named, h)
    by false named h = absurd h

pub heard_lists : (t : Tree) (name : List ℕ) → list_any (λ e. bytes_eq (text_of e) name) (heard (nodes_of t) (connections_of t)) ≡ true → SomeHostLists t name
unfolding heard listed elements
heard_lists t name h =
    let one = any_finds (λ e. bytes_eq (text_of e) name) (heard (nodes_of t) (connections_of t)) h in
    let from = among_flat_map (host_elements (nodes_of t)) (first_members (connections_of t)) one.item one.among in
    let m = from.item in
    let found : Found [] (connections_of t) m = first_is_found [] (connections_of t) m from.among in
    let inner = in_host_elements t m one.item from.found in
    record {
      host = m.key;
      is_host = inner.0;
      lists = record {
        element = one.item;
        among = subst (λ (v : Option Tree). Among one.item (items_in v)) (sym found.there) inner.1;
        named = same_bytes (text_of one.item) name one.answers;
      };
    }

pub lists_heard : (t : Tree) (name : List ℕ) → SomeHostLists t name → list_any (λ e. bytes_eq (text_of e) name) (heard (nodes_of t) (connections_of t)) ≡ true
unfolding heard listed elements
lists_heard t name s = by (value_at s.host (connections_of t)) refl s.lists.among
  where
    by : (v : Option Tree) → value_at s.host (connections_of t) ≡ v → Among s.lists.element (items_in v) → list_any (λ e. bytes_eq (text_of e) name) (heard (nodes_of t) (connections_of t)) ≡ true
    by None there h = absurd h
    by (Some value) there h =
        let first : First s.host value (first_members (connections_of t)) = found_is_first [] (connections_of t) s.host value refl there in
        let m = first.member in
        let named : is_named true (nodes_of t) m.key ≡ true = ap (is_named true (nodes_of t)) first.key_is ∙ named_host t s.host s.is_host in
        let inside : Among s.lists.element (host_elements (nodes_of t) m) =
        subst (λ b. Among s.lists.element (cond b (items_of m.value) [])) (sym named) (subst (λ (v : Tree). Among s.lists.element (items_of v)) (sym first.value_is) h) in
        finds_any (λ e. bytes_eq (text_of e) name) (heard (nodes_of t) (connections_of t)) s.lists.element
        (flat_map_among (host_elements (nodes_of t)) (first_members (connections_of t)) m s.lists.element first.among inside)
        (bytes_same (text_of s.lists.element) name s.lists.named)

in_lonely_devices : (t : Tree) (f : Finding) → In f (flat_map (lonely_device (heard (nodes_of t) (connections_of t))) (nodes_of t)) → DeviceWithoutHost t f
unfolding lonely_device
in_lonely_devices t f among =
    let all : List Tree = heard (nodes_of t) (connections_of t) in
    let one = in_flat_map (lonely_device all) (nodes_of t) f among in
    let node = one.item in
    let heard_name : Bool = list_any (λ e. bytes_eq (text_of e) node.name) all in
    let when = in_when (not node.host && not heard_name) f (finding 6 53 node.at node.name) one.found in
    let parts = and_parts (not node.host) (not heard_name) when.0 in
    record {
      node = node;
      is_node = one.among;
      device = not-true node.host parts.0;
      none = λ host is_host lists. false≢true (sym (not-true heard_name parts.1) ∙ lists_heard t node.name (record { host = host; is_host = is_host; lists = lists }));
      says = when.1;
    }

lonely_devices_has : (t : Tree) (f : Finding) → DeviceWithoutHost t f → In f (flat_map (lonely_device (heard (nodes_of t) (connections_of t))) (nodes_of t))
unfolding lonely_device
lonely_devices_has t f w =
    let all : List Tree = heard (nodes_of t) (connections_of t) in
    let heard_name : Bool = list_any (λ e. bytes_eq (text_of e) w.node.name) all in
    let unheard : heard_name ≡ false = false_from_ne_true heard_name (λ is. let some = heard_lists t w.node.name is in w.none some.host some.is_host some.lists) in
    flat_map_has (lonely_device all) (nodes_of t) w.node f w.is_node
    (when_has (not w.node.host && not heard_name) f (finding 6 53 w.node.at w.node.name) (and_from (not w.node.host) (not heard_name) (ap not w.device) (ap not unheard)) w.says)

-- ---- all of them

pub in_node_rules : (t : Tree) (f : Finding) → In f (node_rules (nodes_of t) (connections_of t)) → BreaksNodes t f
unfolding node_rules
in_node_rules t f among =
    elim (in_either f (each_after node_twice [] (nodes_of t)) _ among) [
      | inl twice ↦ fact.node_twice (in_node_twice t f twice)
      | inr rest ↦ elim (in_either f (flat_map (ends_faults (nodes_of t)) (connections_of t)) _ rest) [
        | inl ends ↦ in_ends t f ends
        | inr rest ↦ elim (in_either f (flat_map (lonely_host (connections_of t)) (nodes_of t)) _ rest) [
          | inl hosts ↦ fact.host_without_device (in_lonely_hosts t f hosts)
          | inr devices ↦ fact.device_without_host (in_lonely_devices t f devices)
        ]
      ]
    ]

pub node_rules_has : (t : Tree) (f : Finding) → BreaksNodes t f → In f (node_rules (nodes_of t) (connections_of t))
unfolding node_rules
node_rules_has t f breaks = by breaks
  where
    twice : List Finding
    twice = each_after node_twice [] (nodes_of t)

    ends : List Finding
    ends = flat_map (ends_faults (nodes_of t)) (connections_of t)

    hosts : List Finding
    hosts = flat_map (lonely_host (connections_of t)) (nodes_of t)

    devices : List Finding
    devices = flat_map (lonely_device (heard (nodes_of t) (connections_of t))) (nodes_of t)

    of_ends : In f ends → In f (twice ++ (ends ++ (hosts ++ devices)))
    of_ends found = in_right f twice _ (in_left f ends _ found)

    by : BreaksNodes t f → In f (twice ++ (ends ++ (hosts ++ devices)))
    by (fact.node_twice w) = in_left f twice _ (node_twice_has t f w)
    by (fact.device_twice w) = of_ends (ends_has_element t f w.connection w.is_connection (elements_after_has_twice t f w))
    by (fact.unknown_host w) = of_ends (ends_has_host t f w)
    by (fact.unknown_device w) = of_ends (ends_has_element t f w.connection w.is_connection (elements_after_has_unknown t f w))
    by (fact.host_without_device w) = in_right f twice _ (in_right f ends _ (in_left f hosts devices (lonely_hosts_has t f w)))
    by (fact.device_without_host w) = in_right f twice _ (in_right f ends _ (in_right f hosts devices (lonely_devices_has t f w)))
