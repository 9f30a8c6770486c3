-- The rules on nodes, as they are tested.
use Rattle.std.proofs.Common.{◌≡◌, ◌⊎◌, ℕ, Bool, true, false, cond, List, take, Option, Some, None, inl, inr, refl, sym, subst, ◌∙◌}
use Rattle.std.specs.Bool.{Decides}
use Rattle.std.specs.List.{list_any, slice_get}
use Rattle.std.proofs.lemmas.Bool.{false≢true}
use Rattle.std.proofs.lemmas.Slice.Eq.{bytes_eq-Decides}
use Rattle.cg_svspec.specs.Links.{spelled}
use Rattle.cg_desc.specs.Ends.{Joins, NamesFace, NamesHost}
use Rattle.cg_desc.specs.Top.{Design}
use Rattle.cg_desc.specs.declared.crossbar.NodeDesc.{NodeDesc}
use Rattle.cg_desc.specs.declared.crossbar.XbarDesc.{XbarDesc}
use Rattle.cg_finding.specs.Finding.{Finding, earlier}
use Rattle.cg_finding.specs.Rules as rules
use Rattle.cg_finding.specs.Told.{TellsFirst}
use Rattle.cg_finding.proofs.Told.{tells_as, tells_either}
use Rattle.cg_merge.specs.Checks.{SomeBreaks}
use Rattle.cg_merge.specs.Nodes.{IsElsewhere, Names, NamesNothing, Repeats, RepeatsIn, SpelledBefore, is_spelled}
use Rattle.cg_merge.specs.Violations.{BreaksCrossbar, BreaksNode}
use Rattle.cg_merge.proofs.Repeats.{decides_any, decides_as, decides_both, decides_plain}
use Rattle.cg_merge.proofs.TopRules.{before_is, is_before}
use Rattle.cg_merge.proofs.Walks.{tells_when}

-- ---- what a node names

pub names_face : {d : Design} {node : NodeDesc} {i f : ℕ} → Names d false node i f → NamesFace d node i f
names_face n = record { device = n.direction; plain = n.plain; inst = n.inst; block = n.block; is = n.is; means = n.means }

pub face_names : {d : Design} {node : NodeDesc} {i f : ℕ} → NamesFace d node i f → Names d false node i f
face_names n = record { direction = n.device; plain = n.plain; inst = n.inst; block = n.block; is = n.is; means = n.means }

pub names_host : {d : Design} {node : NodeDesc} {i f : ℕ} → Names d true node i f → NamesHost d node i f
names_host n = record { host = n.direction; plain = n.plain; inst = n.inst; block = n.block; is = n.is; means = n.means }

pub host_names : {d : Design} {node : NodeDesc} {i f : ℕ} → NamesHost d node i f → Names d true node i f
host_names n = record { direction = n.host; plain = n.plain; inst = n.inst; block = n.block; is = n.is; means = n.means }

-- ---- spellings

decides_spelled : (name : List ℕ) (node : NodeDesc) → Decides (is_spelled name node) ((node.xbar ≡ false) × (spelled node.name ≡ spelled name))
unfolding is_spelled
decides_spelled name node = decides_both _ _ (decides_plain node.xbar) (bytes_eq-Decides (spelled node.name) (spelled name))

pub decides_spelled_before : (d : Design) (x : ℕ) (xbars : List XbarDesc) → xbars ≡ take x d.xbars → (node : NodeDesc) → node.xbar ≡ false
    → Decides (list_any (λ xbar. list_any (is_spelled node.name) xbar.nodes) xbars) (SpelledBefore d x node)
decides_spelled_before d x xbars are node plain =
    decides_as _ (decides_any (λ (xbar : XbarDesc). list_any (is_spelled node.name) xbar.nodes) xbars (λ (xbar : XbarDesc). decides_any (is_spelled node.name) xbar.nodes (decides_spelled node.name))) to from where
      There : Type 0
      There = (y : ℕ) × (xbar : XbarDesc) × (slice_get xbars y ≡ Some xbar) × ((k : ℕ) × (other : NodeDesc) × (slice_get xbar.nodes k ≡ Some other) × ((other.xbar ≡ false) × (spelled other.name ≡ spelled node.name)))

      to : There → SpelledBefore d x node
      to (y, xbar, there, (k, other, at, (apart, same))) =
          let in_front = before_is d.xbars x y xbar (subst (λ (xs : List XbarDesc). slice_get xs y ≡ Some xbar) are there) in
          record { y = y; k = k; earlier = other; before = in_front.0; is = record { crossbar = xbar; crossbar_is = in_front.1; is = at }; plain = apart; also = plain; spelled_so = same }

      from : SpelledBefore d x node → There
      from s = (
        s.y,
        s.is.crossbar,
        subst (λ (xs : List XbarDesc). slice_get xs s.y ≡ Some s.is.crossbar) (sym are) (is_before d.xbars x s.y s.is.crossbar s.before s.is.crossbar_is),
        (s.k, s.earlier, s.is.is, (s.plain, s.spelled_so)),
      )

-- ---- a node that stands for no crossbar

pub no_nested : {b : Bool} → b ≡ false → b ≡ true → ⊥
no_nested plain nested = false≢true (sym plain ∙ nested)

module _ (d : Design) (x n : ℕ) (node : NodeDesc) (plain : node.xbar ≡ false) where
  abbrev Twice : Type 0
  Twice = SpelledBefore d x node ⊎ Repeats d x n node

  abbrev PlainBreaks : Finding → Type 0
  PlainBreaks f = (Twice × (f ≡ rules.node_twice_in_top node.at node.name)) ⊎ (NamesNothing d node × (f ≡ rules.unknown_node_in_top node.at node.name))

  again_breaks : (i : ℕ) (host : Bool) (r : RepeatsIn d x n node i) → r.host ≡ host → BreaksNode d x n node (rules.node_twice_in_top node.at node.name)
  again_breaks i false r is =
      BreaksNode.interface_twice r.y r.k i r.face r.earlier r.before r.is (names_face (subst (λ h. Names d h r.earlier i r.face) is r.also)) (names_face (subst (λ h. Names d h node i r.face) is r.names))
  again_breaks i true r is =
      BreaksNode.host_interface_twice r.y r.k i r.face r.earlier r.before r.is (names_host (subst (λ h. Names d h r.earlier i r.face) is r.also)) (names_host (subst (λ h. Names d h node i r.face) is r.names))

  plain_to : (f : Finding) → PlainBreaks f → BreaksNode d x n node f
  plain_to f (inl (inl s, is)) = subst (BreaksNode d x n node) (sym is) (BreaksNode.spelled_twice s.y s.k s.earlier s.before s.is s.plain s.also s.spelled_so)
  plain_to f (inl (inr r, is)) = subst (BreaksNode d x n node) (sym is) (again_breaks r.i r.repeats.host r.repeats refl)
  plain_to f (inr ((device, (bare, none)), is)) = subst (BreaksNode d x n node) (sym is) (BreaksNode.names_nothing device plain (λ i g names. none (i, (g, face_names names))) bare)

  plain_from : (f : Finding) → BreaksNode d x n node f → PlainBreaks f
  plain_from _ (BreaksNode.spelled_twice y k before less is apart also same) =
      inl (inl (record { y = y; k = k; earlier = before; before = less; is = is; plain = apart; also = also; spelled_so = same }), refl)
  plain_from _ (BreaksNode.interface_twice y k i g before stands is names also) =
      inl (inr (record { i = i; repeats = record { host = false; face = g; names = face_names also; y = y; k = k; earlier = before; before = stands; is = is; also = face_names names } }), refl)
  plain_from _ (BreaksNode.host_interface_twice y k i g before stands is names also) =
      inl (inr (record { i = i; repeats = record { host = true; face = g; names = host_names also; y = y; k = k; earlier = before; before = stands; is = is; also = host_names names } }), refl)
  plain_from _ (BreaksNode.names_nothing device apart none bare) = inr ((device, (bare, λ named. none named.0 named.1.0 (names_face named.1.1))), refl)
  plain_from _ (BreaksNode.without_partner nested none) = absurd (no_nested plain nested)
  plain_from _ (BreaksNode.in_another_space outer inner device nested listed among named differ) = absurd (no_nested plain nested)

  pub tells_plain : (twice unknown : Bool) → Decides twice Twice → Decides unknown (NamesNothing d node)
      → TellsFirst (earlier (cond twice (Some (rules.node_twice_in_top node.at node.name)) None) (cond unknown (Some (rules.unknown_node_in_top node.at node.name)) None)) (BreaksNode d x n node)
  tells_plain twice unknown again nothing =
      tells_as (tells_either (tells_when twice (rules.node_twice_in_top node.at node.name) again) (tells_when unknown (rules.unknown_node_in_top node.at node.name) nothing)) plain_to plain_from

-- ---- a node that stands for a crossbar

module _ (d : Design) (x n : ℕ) (node : NodeDesc) (nested : node.xbar ≡ true) where
  abbrev NestedBreaks : Finding → Type 0
  NestedBreaks f = (((y : ℕ) → Joins d x node y → ⊥) × (f ≡ rules.unknown_node_in_top node.at node.name)) ⊎ (IsElsewhere d x node × (f ≡ rules.bad_space node.at node.name))

  nested_to : (f : Finding) → NestedBreaks f → BreaksNode d x n node f
  nested_to f (inl (none, is)) = subst (BreaksNode d x n node) (sym is) (BreaksNode.without_partner nested none)
  nested_to f (inr (e, is)) = subst (BreaksNode d x n node) (sym is) (BreaksNode.in_another_space e.outer e.inner e.device e.nested e.listed e.among e.named e.differ)

  nested_from : (f : Finding) → BreaksNode d x n node f → NestedBreaks f
  nested_from _ (BreaksNode.spelled_twice y k before less is apart also same) = absurd (no_nested also nested)
  nested_from _ (BreaksNode.interface_twice y k i g before stands is names also) = absurd (no_nested also.plain nested)
  nested_from _ (BreaksNode.host_interface_twice y k i g before stands is names also) = absurd (no_nested also.plain nested)
  nested_from _ (BreaksNode.names_nothing device apart none bare) = absurd (no_nested apart nested)
  nested_from _ (BreaksNode.without_partner also none) = inl (none, refl)
  nested_from _ (BreaksNode.in_another_space outer inner device also listed among named differ) =
      inr (record { outer = outer; inner = inner; device = device; nested = also; listed = listed; among = among; named = named; differ = differ }, refl)

  pub tells_nested : (alone apart : Bool) → Decides alone ((y : ℕ) → Joins d x node y → ⊥) → Decides apart (IsElsewhere d x node)
      → TellsFirst (earlier (cond alone (Some (rules.unknown_node_in_top node.at node.name)) None) (cond apart (Some (rules.bad_space node.at node.name)) None)) (BreaksNode d x n node)
  tells_nested alone apart none elsewhere =
      tells_as (tells_either (tells_when alone (rules.unknown_node_in_top node.at node.name) none) (tells_when apart (rules.bad_space node.at node.name) elsewhere)) nested_to nested_from

-- ---- all nodes of a crossbar

pub tells_crossbar : (d : Design) (x : ℕ) (xbar : XbarDesc) {told : Option Finding} → TellsFirst told (SomeBreaks (BreaksNode d x) xbar.nodes) → TellsFirst told (BreaksCrossbar d x xbar)
tells_crossbar d x xbar t = tells_as t (λ f b. record { number = b.0; node = b.1; is = b.2; breaks = b.3 }) (λ f b. (b.number, b.node, b.is, b.breaks))
