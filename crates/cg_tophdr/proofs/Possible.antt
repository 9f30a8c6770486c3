-- The premises of the laws can be met: a top with an instance that has an interface, an interrupt and an alert, and a host outside.
use Rattle.std.proofs.Common.{◌≡◌, ◌⊎◌, ℕ, ◌<◌, ◌≤◌, true, false, List, [], ◌∷◌, inl, inr, Some, None, codes, length, slice_get, refl, sym, ap, subst, ◌∙◌, arith}
use Rattle.cg_desc.specs.Bases.{HasBase, of_crossbar}
use Rattle.cg_desc.specs.Crossbar.{IsDevice, IsValidCrossbar, IsValidNode, NodeIs}
use Rattle.cg_desc.specs.Ends.{BlockIs, Joins, Means, NamesFace, NamesHost, NodeOf, IsOf, StandsFor, by_name, host_interfaces, only_one, without_name}
use Rattle.cg_desc.specs.Laid.{IsLaid, last}
use Rattle.cg_desc.specs.Merged.{design_of, EndAt, IsMerged, IsValidLaidBlock}
use Rattle.cg_desc.specs.Offsets.{register}
use Rattle.cg_desc.specs.Top.{AreTypes}
use Rattle.cg_desc.specs.Valid.{IsShortName}
use Rattle.cg_desc.specs.declared.block.LaidBlock.{LaidBlock}
use Rattle.cg_desc.specs.declared.crossbar.NodeDesc.{NodeDesc}
use Rattle.cg_desc.specs.declared.crossbar.XbarDesc.{XbarDesc}
use Rattle.cg_desc.specs.declared.top.InstDesc.{InstDesc}
use Rattle.cg_desc.specs.declared.top.MergedTop.{MergedTop}
use Rattle.cg_desc.specs.declared.top.NodeEnd.{NodeEnd}
use Rattle.cg_desc.specs.declared.top.NodeEnd.TheVariants.{Face, Outside}
use Rattle.cg_desc.specs.declared.top.SpaceBase.{SpaceBase}
use Rattle.cg_desc.specs.declared.top.XbarEnds.{XbarEnds}
use Rattle.cg_desc.specs.declared.top.XbarUse.{XbarUse}
use Rattle.cg_svspec.specs.Names.{Among}
use Rattle.cg_topspec.proofs.Examples.{nowhere, register_face}
use Rattle.cg_topspec.proofs.Possible.{both, cpu, either, letter_c, letter_h, letter_k, letter_m, letter_s, letter_t, nothing_there, only, used}

-- ---- the top

abbrev pub unit : NodeDesc
unit = record { name = codes "u"; host = false; xbar = false; clock = codes "k"; ranges = []; to = []; at = nowhere }

abbrev pub hub : XbarDesc
hub = record { file = 0; name = codes "m"; clock = codes "k"; nodes = cpu ∷ unit ∷ []; at = nowhere }

abbrev pub part : LaidBlock
part = record {
  desc = record {
    file = 0;
    name = codes "b";
    clocking = record { clock = codes "k"; reset = None } ∷ [];
    faces = record { name = None; entries = []; at = nowhere } ∷ [];
    hosts = [];
    intrs = record { name = codes "i"; width = 1; status = false; at = nowhere } ∷ [];
    intrs_at = nowhere;
    alerts = record { name = codes "a"; at = nowhere } ∷ [];
    alerts_at = nowhere;
    auto_intr = false;
    auto_alert = false;
    ios = [];
    at = nowhere;
  };
  faces = register_face ∷ [];
}

abbrev pub instance : InstDesc
instance = record { name = codes "u"; kind = codes "b"; clocks = []; resets = []; base = record { space = codes "h"; base = 16 } ∷ []; bases = []; at = nowhere }

abbrev pub hub_ends : XbarEnds
hub_ends = record { ends = Outside ∷ Face 0 0 ∷ [] }

abbrev pub board : MergedTop
board = record {
  top = record {
    file = 0;
    name = codes "t";
    sources = codes "s" ∷ [];
    resets = [];
    spaces = record { name = codes "h"; at = nowhere } ∷ [];
    insts = instance ∷ [];
    xbars = used ∷ [];
    pads = [];
    signals = [];
    at = nowhere;
  };
  xbars = hub ∷ [];
  blocks = part ∷ [];
  kinds = 0 ∷ [];
  ends = hub_ends ∷ [];
}

-- ---- its nodes

-- a node is the host, which is node 0, or the device, which is node 1
abbrev pub IsHubNode : ℕ → NodeDesc → Type 0
IsHubNode n node = ((n ≡ 0) × (cpu ≡ node)) ⊎ ((n ≡ 1) × (unit ≡ node))

pub node_in_hub : (n : ℕ) (node : NodeDesc) → NodeIs hub n node → IsHubNode n node
node_in_hub n node e = either cpu unit node n e

pub in_hub : (x n : ℕ) (node : NodeDesc) → NodeOf (design_of board) x n node → (x ≡ 0) × NodeIs hub n node
in_hub x n node at = let h = only hub at.crossbar x at.crossbar_is in (h.0, subst (λ (c : XbarDesc). NodeIs c n node) (sym h.1) at.is)

pub hub_node : (x n : ℕ) (node : NodeDesc) → NodeOf (design_of board) x n node → IsHubNode n node
hub_node x n node at = node_in_hub n node (in_hub x n node at).1

-- a device is node 1, and a host node 0
pub the_device : (n : ℕ) (node : NodeDesc) → IsHubNode n node → node.host ≡ false → (n ≡ 1) × (unit ≡ node)
the_device n node (inl k) e = absurd (both node.host e (ap (λ (d : NodeDesc). d.host) (sym k.1)))
the_device n node (inr k) e = k

pub the_host : (n : ℕ) (node : NodeDesc) → IsHubNode n node → node.host ≡ true → (n ≡ 0) × (cpu ≡ node)
the_host n node (inl k) e = k
the_host n node (inr k) e = absurd (both node.host (ap (λ (d : NodeDesc). d.host) (sym k.1)) e)

no_xbar : (n : ℕ) (node : NodeDesc) → IsHubNode n node → node.xbar ≡ false
no_xbar n node (inl k) = ap (λ (d : NodeDesc). d.xbar) (sym k.1)
no_xbar n node (inr k) = ap (λ (d : NodeDesc). d.xbar) (sym k.1)

no_joins : (x n y : ℕ) (node : NodeDesc) → NodeOf (design_of board) x n node → Joins (design_of board) x node y → ⊥
no_joins x n y node at j = both node.xbar (no_xbar n node (hub_node x n node at)) j.nested

pub the_end : (x n : ℕ) (e : NodeEnd) → EndAt board x n e → ((n ≡ 0) × (Outside ≡ e)) ⊎ ((n ≡ 1) × (Face 0 0 ≡ e))
the_end x n e at = either Outside (Face 0 0) e n (subst (λ (z : XbarEnds). slice_get z.ends n ≡ Some e) (sym (only hub_ends at.0 x at.1).1) at.2)

-- ---- its crossbar is valid

-- two letters differ
other_letter : {P : Type 0} (c d : ℕ) → ¬ (c ≡ d) → c ∷ [] ≡ d ∷ [] → P
other_letter c d differ e = absurd (differ cc)

letter_u : IsShortName (codes "u")
letter_u = (((refl, tt), refl), omega arith)

letter_b : IsShortName (codes "b")
letter_b = (((refl, tt), refl), omega arith)

valid_node : (node : NodeDesc) → Among node (cpu ∷ unit ∷ []) → IsValidNode node
valid_node node (inl e) = subst IsValidNode (sym e) (record { name = inl letter_c; clock = letter_k; few_ranges = omega arith; ranges = λ r a. absurd a })
valid_node node (inr (inl e)) = subst IsValidNode (sym e) (record { name = inl letter_u; clock = letter_k; few_ranges = omega arith; ranges = λ r a. absurd a })
valid_node node (inr (inr a)) = absurd a

hub_is_valid : IsValidCrossbar hub
hub_is_valid = record {
  name = letter_m;
  clock = letter_k;
  few_nodes = omega arith;
  nodes = valid_node;
  names_differ = λ i j a b p q e. names i j a b (node_in_hub i a p) (node_in_hub j b q) e;
  devices_only = λ h d c. to_device d (node_in_hub h c.0 c.1) c.3;
  once = λ h i j d node is p q. one_of_it h i j d node (node_in_hub h node is) p q;
  only_hosts = λ i node is device. ap (λ (n : NodeDesc). n.to) (sym (the_device i node (node_in_hub i node is) device).1);
  some_device = λ h is. let k = the_host h is.0 (node_in_hub h is.0 is.1) is.2 in (1, (is.0, is.1, is.2, subst (λ (n : NodeDesc). Among 1 n.to) k.1 (inl refl)));
  some_host = λ d is. (0, (cpu, refl, refl, inl (the_device d is.0 (node_in_hub d is.0 is.1) is.2).0));
} where
  names : (i j : ℕ) (a b : NodeDesc) → IsHubNode i a → IsHubNode j b → a.name ≡ b.name → i ≡ j
  names i j a b (inl p) (inl q) e = p.0 ∙ sym q.0
  names i j a b (inr p) (inr q) e = p.0 ∙ sym q.0
  names i j a b (inl p) (inr q) e = other_letter 99 117 (omega arith) (ap (λ (n : NodeDesc). n.name) p.1 ∙ (e ∙ ap (λ (n : NodeDesc). n.name) (sym q.1)))
  names i j a b (inr p) (inl q) e = other_letter 117 99 (omega arith) (ap (λ (n : NodeDesc). n.name) p.1 ∙ (e ∙ ap (λ (n : NodeDesc). n.name) (sym q.1)))

  to_device : (d : ℕ) {h : ℕ} {node : NodeDesc} → IsHubNode h node → Among d node.to → IsDevice hub d
  to_device d (inl p) a = of (subst (λ (n : NodeDesc). Among d n.to) (sym p.1) a) where
    of : Among d (1 ∷ []) → IsDevice hub d
    of (inl e) = subst (IsDevice hub) (sym e) (unit, refl, refl)
    of (inr b) = absurd b
  to_device d (inr p) a = absurd (subst (λ (n : NodeDesc). Among d n.to) (sym p.1) a)

  one_of_it : (h i j d : ℕ) (node : NodeDesc) → IsHubNode h node → slice_get node.to i ≡ Some d → slice_get node.to j ≡ Some d → i ≡ j
  one_of_it h i j d node (inl k) p q =
      (only 1 d i (subst (λ (n : NodeDesc). slice_get n.to i ≡ Some d) (sym k.1) p)).0 ∙ sym (only 1 d j (subst (λ (n : NodeDesc). slice_get n.to j ≡ Some d) (sym k.1) q)).0
  one_of_it h i j d node (inr k) p q = absurd (nothing_there d i (subst (λ (n : NodeDesc). slice_get n.to i ≡ Some d) (sym k.1) p))

-- ---- its block is valid, and its interface laid out

face_is_laid : IsLaid register_face
face_is_laid = record {
  some_row = tt;
  rows = (
    omega arith,
    (
      refl,
      (0, refl),
      record {
        name = (refl, (refl, (refl, (refl, tt))));
        some_field = tt;
        fields = ((refl, (refl, (refl, (refl, tt)))), omega arith, omega arith, omega arith, omega arith, tt);
        gate = tt;
      },
    ),
    omega arith,
  );
  end = 4;
  ends = last register;
  size = ((2, refl), omega arith, omega arith);
  few_bytes = omega arith;
}

part_is_valid : IsValidLaidBlock part
part_is_valid = record {
  block = record {
    name = letter_b.0;
    short_name = letter_b.1;
    clocks = (record { clock = letter_k; reset = tt }, tt);
    some_clock = omega arith;
    few_clocks = omega arith;
    interrupts = (record { name = (refl, tt); some_bit = omega arith; few_bits = omega arith }, tt);
    alerts = ((refl, tt), tt);
    interfaces = (record { name = tt; entries = tt }, tt);
    few_interfaces = omega arith;
    interfaces_differ = (tt, tt);
    short_interrupts = (omega arith, tt);
    short_alerts = (omega arith, tt);
    short_interfaces = (tt, tt);
    hosts = tt;
    hosts_differ = tt;
    pins = record {
      inputs = [];
      outputs = [];
      inouts = [];
      stand = refl;
      valid_inputs = tt;
      valid_outputs = tt;
      valid_inouts = tt;
      few_inputs = omega arith;
      few_outputs = omega arith;
      few_inouts = omega arith;
    };
  };
  named = refl;
  laid = (face_is_laid, tt);
}

-- ---- what its nodes stand for

part_of_type : BlockIs (design_of board) (codes "b") 0 part
part_of_type = record { is = refl; named = refl }

pub instance_is_of : IsOf (design_of board) 0 instance part
instance_is_of = record { instance = refl; number = 0; block_is = part_of_type }

unit_names : NamesFace (design_of board) unit 0 0
unit_names = record { device = refl; plain = refl; inst = instance; block = part; is = instance_is_of; means = without_name 0 refl }

-- no block has a host interface
no_host : (node : NodeDesc) (i f : ℕ) → NamesHost (design_of board) node i f → ⊥
no_host node i f names = by (subst (λ (b : LaidBlock). Means names.inst.name (host_interfaces b) node.name f) (sym (only part names.block names.is.number names.is.block_is.is).1) names.means) where
  by : {n : List ℕ} {g : ℕ} → Means names.inst.name [] n g → ⊥
  by (by_name g interface is) = absurd cc
  by (without_name g is) = absurd cc
  by (only_one one) = absurd (omega (arith, one))

stands : (x n : ℕ) (node : NodeDesc) (e : NodeEnd) → NodeOf (design_of board) x n node → IsHubNode n node → ((n ≡ 0) × (Outside ≡ e)) ⊎ ((n ≡ 1) × (Face 0 0 ≡ e))
    → StandsFor (design_of board) x node e
stands x n node e at (inl k) (inl l) =
    subst (StandsFor (design_of board) x node) l.1
    (StandsFor.outside (λ i f names. both node.host names.device (ap (λ (d : NodeDesc). d.host) (sym k.1))) (no_host node) (λ y. no_joins x n y node at))
stands x n node e at (inl k) (inr l) = absurd (omega (arith, k.0, l.0))
stands x n node e at (inr k) (inl l) = absurd (omega (arith, k.0, l.0))
stands x n node e at (inr k) (inr l) =
    subst (StandsFor (design_of board) x node) l.1 (subst (λ (d : NodeDesc). StandsFor (design_of board) x d (Face 0 0)) k.1 (StandsFor.device_interface 0 0 unit_names))

-- ---- its base

unit_is_node : NodeOf (design_of board) 0 1 unit
unit_is_node = record { crossbar = hub; crossbar_is = refl; is = refl }

pub base_is : HasBase (design_of board) 0 0 16
base_is = record {
  inst = instance;
  block = part;
  is = instance_is_of;
  face = register_face;
  face_is = refl;
  space = codes "h";
  in_space = of_crossbar 0 used refl (1, unit, unit_is_node, unit_names) (λ y less has. omega (arith, less));
  base_is = refl;
}

a_base : (i f : ℕ) (inst : InstDesc) (block : LaidBlock) → IsOf (design_of board) i inst block → f < length block.faces → (base : ℕ) × HasBase (design_of board) i f base
a_base i f inst block is less =
    let zeroth = (only instance inst i is.instance).0 in
    let few : f < 1 = subst (λ (b : LaidBlock). f < length b.faces) (sym (only part block is.number is.block_is.is).1) less in
    let first : f ≡ 0 = omega (arith, few) in
    (16, subst (λ k. HasBase (design_of board) k f 16) (sym zeroth) (subst (λ k. HasBase (design_of board) 0 k 16) (sym first) base_is))

-- ---- it is merged

-- at most one type is used
types_few : (types : List (List ℕ)) → AreTypes (instance ∷ []) types → length types ≤ 64
types_few [] are = omega arith
types_few (t ∷ []) are = omega arith
types_few (t ∷ s ∷ types) are = absurd (by ((are.members s).0 (inr (inl refl)))) where
  by : Among s (codes "b" ∷ []) → ⊥
  by (inl e) = let before = are.in_order 0 1 t s refl refl (omega arith) in before.2 0 (omega arith) (ap Some (sym e))
  by (inr a) = a

pub board_is_merged : IsMerged board
board_is_merged = record {
  top = record {
    name = letter_t;
    sources = (letter_s, tt);
    resets = tt;
    spaces = (letter_h, tt);
    some_space = omega arith;
    few_spaces = omega arith;
    instances = (
      record {
        name = letter_u;
        kind = letter_b;
        base = record { fit = (omega arith, tt); differ = λ i j a b p q e. (only _ a i p).0 ∙ sym (only _ b j q).0 };
        bases = record { fit = tt; differ = λ i j a b p q e f. absurd (nothing_there a i p) };
      },
      tt,
    );
    few_instances = omega arith;
    few_types = types_few;
    crossbars = (record { name = letter_m; space = letter_h }, tt);
    few_crossbars = omega arith;
    pads = tt;
    few_pads = omega arith;
    few_signals = omega arith;
  };
  files = record {
    crossbars = refl;
    blocks = record { members = λ t. (λ a. a, λ a. a); in_order = λ i j a b p q less. absurd (omega (arith, less, (only (codes "b") a i p).0, (only (codes "b") b j q).0)) };
  };
  crossbars = (hub_is_valid, tt);
  blocks = (part_is_valid, tt);
  spaces = record {
    differ = λ i j name p q. (only (codes "h") name i p).0 ∙ sym (only (codes "h") name j q).0;
    crossbars = space_listed;
    bases = based_in;
    interfaces = no_key;
    nested = λ x n y node outer inner at device j p q. absurd (no_joins x n y node at j);
  };
  names = record {
    instances = λ i j a b p q e. (only instance a i p).0 ∙ sym (only instance b j q).0;
    crossbars = λ x y a b p q e. (only hub a x p).0 ∙ sym (only hub b y q).0;
    apart = λ inst xbar a b e. apart inst xbar a b e;
  };
  nodes = record {
    spelled_once = λ x n y k a b p q e f g. (in_hub x n a p).0 ∙ sym (in_hub y k b q).0;
    one_face = λ x n y k i f a b p q e g.
        ((in_hub x n a p).0 ∙ sym (in_hub y k b q).0, (the_device n a (hub_node x n a p) e.device).0 ∙ sym (the_device k b (hub_node y k b q) g.device).0);
    one_host = λ x n y k i f a b p q e g. absurd (no_host a i f e);
    joined = λ x n node at e. absurd (both node.xbar (no_xbar n node (hub_node x n node at)) e);
    known = λ x n node at device plain none.
        absurd (none 0 0 (subst (λ (d : NodeDesc). NamesFace (design_of board) d 0 0) (the_device n node (hub_node x n node at) device).1 unit_names));
  };
  bases = a_base;
  kinds = record {
    count = refl;
    each = λ i k inst p q. (
      part,
      subst (λ (n : InstDesc). BlockIs (design_of board) n.kind k part) (only instance inst i p).1
          (subst (λ n. BlockIs (design_of board) (codes "b") n part) (only 0 k i q).1 part_of_type),
    );
  };
  ends = record {
    count = refl;
    counts = λ x xbar ends p q. ap (λ (e : XbarEnds). length e.ends) (sym (only hub_ends ends x q).1) ∙ ap (λ (c : XbarDesc). length c.nodes) (only hub xbar x p).1;
    each = λ x n node e at end. stands x n node e at (hub_node x n node at) (the_end x n e end);
  };
} where
  space_listed : (listed : XbarUse) → Among listed (used ∷ []) → Among listed.space (codes "h" ∷ [])
  space_listed listed (inl e) = inl (ap (λ (u : XbarUse). u.space) e)
  space_listed listed (inr a) = absurd a

  in_its_base : (b : SpaceBase) → Among b instance.base → Among b.space (codes "h" ∷ [])
  in_its_base b (inl e) = inl (ap (λ (s : SpaceBase). s.space) e)
  in_its_base b (inr a) = absurd a

  based_in : (inst : InstDesc) (b : SpaceBase) → Among inst (instance ∷ []) → Among b inst.base → Among b.space (codes "h" ∷ [])
  based_in inst b (inl e) among = in_its_base b (subst (λ (n : InstDesc). Among b n.base) e among)
  based_in inst b (inr a) among = absurd a

  no_key : (inst : InstDesc) (b : _) → Among inst (instance ∷ []) → Among b inst.bases → Among b.space (codes "h" ∷ [])
  no_key inst b (inl e) among = absurd (subst (λ (n : InstDesc). Among b n.bases) e among)
  no_key inst b (inr a) among = absurd a

  apart : (inst : InstDesc) (xbar : XbarDesc) → Among inst (instance ∷ []) → Among xbar (hub ∷ []) → inst.name ≡ xbar.name → ⊥
  apart inst xbar (inl p) (inl q) e = other_letter 117 109 (omega arith) (ap (λ (n : InstDesc). n.name) (sym p) ∙ (e ∙ ap (λ (c : XbarDesc). c.name) q))
  apart inst xbar (inl p) (inr a) e = a
  apart inst xbar (inr a) among e = a
