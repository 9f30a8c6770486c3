-- From the first that is found in each phase to what reading a crossbar answers.
use Rattle.std.proofs.Common.{ℕ, ◌≡◌, List, Some, None, subst}
use Rattle.cg_desc.specs.declared.fault.DescFault.{DescFault}
use Rattle.cg_desc.specs.declared.fault.DescFault.TheVariants.{Fault, Memory}
use Rattle.cg_hjson.specs.declared.tree.Tree.{Tree}
use Rattle.cg_finding.specs.Finding.{Finding, In, first_of}
use Rattle.cg_finding.specs.Refusal.{Refuses}
use Rattle.cg_finding.specs.Violations.{RefusesFirst}
use Rattle.cg_finding.proofs.Firsts.{first_of_is_first, none_is_empty}
use Rattle.cg_xbread.specs.Listed.{key_faults, node_rules}
use Rattle.cg_xbread.specs.Violations as fact
use Rattle.cg_xbread.specs.Violations.{BreaksKeys, BreaksNodes, Violates}
use Rattle.cg_xbread.specs.Written.{connections_of, nodes_of}
use Rattle.cg_xbread.proofs.KeyFacts.{in_key_faults, key_faults_has}
use Rattle.cg_xbread.proofs.NodeFacts.{in_node_rules, node_rules_has}

-- a list of findings that has all that is broken, and no more
record Lists (t : Tree) (fs : List Finding) : Type 0 where
  sound : (f : Finding) → In f fs → Violates t f
  whole : (f : Finding) → Violates t f → In f fs

refused : (e : DescFault) (file : ℕ) (t : Tree) (fs : List Finding) → Lists t fs → Refuses e file fs → RefusesFirst e file (Violates t)
refused (Fault fault) file t fs lists (f, names, first) = (
  f,
  names,
  record {
    violates = lists.sound f first.among;
    least = λ (number : ℕ) (g : Finding) violates. first.least number g (lists.whole g violates);
  },
)
refused Memory file t fs lists refuses = tt

-- where a rule on keys is broken, those alone are read
keys_are_all : (t : Tree) (f : Finding) → In f (key_faults t) → Lists t (key_faults t)
keys_are_all t f some = record {
  sound = λ g among. fact.keys (in_key_faults t g among);
  whole = λ g violates. by g violates;
}
  where
    by : (g : Finding) → Violates t g → In g (key_faults t)
    by g (fact.keys broken) = key_faults_has t g broken
    by g (fact.nodes none broken) = absurd (none f (in_key_faults t f some))

-- where none is, the others are
no_key_broken : (t : Tree) → first_of (key_faults t) ≡ None → (g : Finding) → ¬ BreaksKeys t g
no_key_broken t none g broken = subst (In g) (none_is_empty (key_faults t) none) (key_faults_has t g broken)

nodes_are_all : (t : Tree) → first_of (key_faults t) ≡ None → Lists t (node_rules (nodes_of t) (connections_of t))
nodes_are_all t none = record {
  sound = λ g among. fact.nodes (no_key_broken t none) (in_node_rules t g among);
  whole = λ g violates. by g violates;
}
  where
    by : (g : Finding) → Violates t g → In g (node_rules (nodes_of t) (connections_of t))
    by g (fact.keys broken) = absurd (no_key_broken t none g broken)
    by g (fact.nodes no_key broken) = node_rules_has t g broken

first_is_in : (fs : List Finding) (f : Finding) → first_of fs ≡ Some f → In f fs
first_is_in fs f is = (first_of_is_first fs f is).among

-- a refusal that names the first of the rules on keys
pub refused_by_keys : (e : DescFault) (file : ℕ) (t : Tree) (f : Finding) → first_of (key_faults t) ≡ Some f → Refuses e file (key_faults t) → RefusesFirst e file (Violates t)
refused_by_keys e file t f is refuses = refused e file t (key_faults t) (keys_are_all t f (first_is_in (key_faults t) f is)) refuses

-- one that names the first of the rules on nodes and connections, where none on keys is broken
pub refused_by_nodes : (e : DescFault) (file : ℕ) (t : Tree) → first_of (key_faults t) ≡ None → Refuses e file (node_rules (nodes_of t) (connections_of t)) → RefusesFirst e file (Violates t)
refused_by_nodes e file t none refuses = refused e file t (node_rules (nodes_of t) (connections_of t)) (nodes_are_all t none) refuses

-- where nothing comes first, nothing is broken
pub none_broken : (t : Tree) → first_of (key_faults t) ≡ None → first_of (node_rules (nodes_of t) (connections_of t)) ≡ None → (f : Finding) → ¬ Violates t f
none_broken t keys nodes f violates =
    subst (In f) (none_is_empty (node_rules (nodes_of t) (connections_of t)) nodes) ((nodes_are_all t keys).whole f violates)

-- where nothing comes first, no rule on keys is broken, and none on nodes and connections
pub no_key : (t : Tree) → first_of (key_faults t) ≡ None → (f : Finding) → ¬ BreaksKeys t f
no_key t keys = no_key_broken t keys

pub no_node : (t : Tree) → first_of (node_rules (nodes_of t) (connections_of t)) ≡ None → (f : Finding) → ¬ BreaksNodes t f
no_node t none f broken = subst (In f) (none_is_empty (node_rules (nodes_of t) (connections_of t)) none) (node_rules_has t f broken)
