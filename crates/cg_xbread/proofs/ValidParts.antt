-- Of a crossbar that breaks no rule on keys, kinds and names: its names, its clock and its nodes are good.
use Rattle.std.proofs.Common.{◌≡◌, ℕ, ◌≤◌, Bool, true, false, List, [], ◌∷◌, map, length, Some, inl, inr, refl, sym, ap, subst}
use Rattle.std.specs.Prelude.{codes, unwrap_or}
use Rattle.std.proofs.lemmas.List.{length-map}
use Rattle.cg_desc.specs.Crossbar.{IsNodeName, IsShortName, IsValidNode, IsValidRange}
use Rattle.cg_desc.specs.declared.crossbar.Range.{Range}
use Rattle.cg_finding.specs.Finding.{Among, Finding, finding}
use Rattle.cg_hjson.specs.declared.tree.Tree.{Tree}
use Rattle.cg_hjson.specs.declared.tree.Member.{Member}
use Rattle.cg_keys.specs.Elements.{elements}
use Rattle.cg_keys.specs.Lookups.{text_at}
use Rattle.cg_keys.specs.Table.{needs, may}
use Rattle.cg_keys.specs.Values.{members_of, object_in, or_empty, text_in}
use Rattle.cg_keys.specs.declared.forms.Form.TheVariants as form
use Rattle.cg_xbread.specs.Described.{clock_of, node_of, range_of}
use Rattle.cg_xbread.specs.Listed.{is_node_name}
use Rattle.cg_xbread.specs.Tables.{clock_key, crossbar_keys, node_keys}
use Rattle.cg_xbread.specs.Violations as fact
use Rattle.cg_xbread.specs.Violations.{BreaksKeys, BreaksNode}
use Rattle.cg_xbread.specs.Written.{node_name, written_node}
use Rattle.cg_xbread.specs.declared.written.WrittenNode.{WrittenNode}
use Rattle.cg_keys.proofs.Fitting.{are_objects, few_at, Needed, Whole, fits_row, name_or, name_or_empty, needed_row, text_there}
use Rattle.cg_xbread.proofs.Ranges.{valid_range}
use Rattle.cg_xbread.proofs.NodeNames.{no_name_of_node, passes_node}
use Rattle.cg_xbread.proofs.Tests.{in_map}

-- nothing on keys, kinds and names is broken
abbrev pub NoKeyBroken : Tree → Type 0
NoKeyBroken t = (f : Finding) → ¬ BreaksKeys t f

-- ---- the crossbar's own keys

table_whole : (t : Tree) → NoKeyBroken t → Whole t.at (members_of t) (crossbar_keys (members_of t))
table_whole t none f broken = none f (fact.keys broken)

pub name_good : (t : Tree) → NoKeyBroken t → IsShortName (unwrap_or (text_at (codes "name") (members_of t)) [])
name_good t none =
    name_or_empty (members_of t) (codes "name")
    (needed_row t.at (members_of t) (crossbar_keys (members_of t)) (table_whole t none) (needs (codes "name") (form.Name ∷ [])) (inl refl) refl)

pub clock_good : (t : Tree) → NoKeyBroken t → IsShortName (clock_of (members_of t))
unfolding clock_of
clock_good t none =
    name_or_empty (members_of t) (clock_key (members_of t))
    (needed_row t.at (members_of t) (crossbar_keys (members_of t)) (table_whole t none) (needs (clock_key (members_of t)) (form.Name ∷ [])) (inr (inl refl)) refl)

-- ---- nodes

pub few_nodes : (t : Tree) → NoKeyBroken t → length (elements (codes "nodes") (members_of t)) ≤ 64
few_nodes t none = few_at 64 (members_of t) (codes "nodes") (λ f broken. none f (fact.many_nodes broken))

-- a node that is an object and breaks nothing
pub record IsSound (node : Tree) : Type 0 where
  pub inner : List Member
  pub object : object_in node ≡ Some inner
  pub whole : (f : Finding) → ¬ BreaksNode node.at inner f

pub sound_node : (t : Tree) → NoKeyBroken t → (node : Tree) → Among node (elements (codes "nodes") (members_of t)) → IsSound node
sound_node t none node among =
    let inside = are_objects (members_of t) (codes "nodes") (λ f broken. none f (fact.no_node broken)) node among in
    record {
      inner = inside.0;
      object = inside.1;
      whole = λ f broken. none f (fact.in_node (record { element = node; among = among; inner = inside.0; object = inside.1; breaks = broken }));
    }

node_whole : (node : Tree) (s : IsSound node) → Whole node.at s.inner node_keys
node_whole node s f broken = s.whole f (fact.keys broken)

same_members : (node : Tree) (s : IsSound node) → members_of node ≡ s.inner
same_members node s = ap or_empty s.object

node_name_good : (node : Tree) → IsSound node → IsNodeName (node_name node)
unfolding node_name
node_name_good node s =
    let n : Needed s.inner (codes "name") (form.Text ∷ []) = needed_row node.at s.inner node_keys (node_whole node s) (needs (codes "name") (form.Text ∷ [])) (inl refl) refl in
    let text = text_there s.inner (codes "name") n.value n.there n.fit in
    subst (λ ms. IsNodeName (unwrap_or (text_at (codes "name") ms) [])) (sym (same_members node s))
    (subst (λ o. IsNodeName (unwrap_or o [])) (sym text.2) (by n text.0 text.1 (is_node_name text.0) refl))
  where
    by : (n : Needed s.inner (codes "name") (form.Text ∷ [])) (name : List ℕ) → text_in n.value ≡ Some name → (b : Bool) → is_node_name name ≡ b → IsNodeName name
    by n name is true passes = passes_node name passes
    by n name is false fails =
        absurd (s.whole (finding 2 25 n.value.at (codes "name"))
        (fact.bad_name (record { value = n.value; there = n.there; text = name; is_text = is; bad = no_name_of_node name fails; says = refl })))

node_clock_good : (node : Tree) (clock : List ℕ) → IsSound node → IsShortName clock → IsShortName (unwrap_or (text_at (codes "clock") (members_of node)) clock)
node_clock_good node clock s short =
    subst (λ ms. IsShortName (unwrap_or (text_at (codes "clock") ms) clock)) (sym (same_members node s))
    (name_or s.inner (codes "clock") clock
    (λ value there. fits_row node.at s.inner node_keys (node_whole node s) (may (codes "clock") (form.Name ∷ [])) (inr (inr (inl refl))) value there) short)

few_ranges : (node : Tree) → IsSound node → length (elements (codes "addr_range") (members_of node)) ≤ 16
few_ranges node s =
    subst (λ ms. length (elements (codes "addr_range") ms) ≤ 16) (sym (same_members node s))
    (few_at 16 s.inner (codes "addr_range") (λ f broken. s.whole f (fact.many_ranges broken)))

ranges_good : (items : List Tree) (r : Range) → Among r (map range_of items) → IsValidRange r
ranges_good items r among = let from = in_map range_of items r among in subst IsValidRange (sym from.is) (valid_range from.source)

pub node_good : (t : Tree) (nodes : List WrittenNode) (connections : List Member) (node : Tree) → IsSound node → IsShortName (clock_of (members_of t))
    → IsValidNode (node_of (clock_of (members_of t)) nodes connections node)
unfolding node_of written_node
node_good t nodes connections node s short = record {
  name = node_name_good node s;
  clock = node_clock_good node (clock_of (members_of t)) s short;
  few_ranges = subst (λ n. n ≤ 16) (sym (length-map (elements (codes "addr_range") (members_of node)) range_of)) (few_ranges node s);
  ranges = λ r among. ranges_good (elements (codes "addr_range") (members_of node)) r among;
}
