-- The top with an interface is merged: its crossbar and its block are valid, and its files fit one another.
use Rattle.std.proofs.Common.{List, Some, [], ap, arith, codes, false, inl, inr, length, refl, slice_get, subst, sym, true, ℕ, ◌<◌, ◌∙◌, ◌∷◌, ◌≡◌, ◌≤◌}
use Rattle.cg_desc.specs.Bases.{HasBase, IsInSpace}
use Rattle.cg_desc.specs.Crossbar.{Connects, IsDevice, IsValidCrossbar, IsValidNode, NodeIs}
use Rattle.cg_desc.specs.Ends.{BlockIs, IsOf, NamesFace}
use Rattle.cg_desc.specs.Merged.{BaseIs, IsMerged, design_of}
use Rattle.cg_desc.specs.Top.{AreTypes, IsUsedBefore, IsValidTop}
use Rattle.cg_desc.specs.declared.block.LaidBlock.{LaidBlock}
use Rattle.cg_desc.specs.declared.crossbar.NodeDesc.{NodeDesc}
use Rattle.cg_desc.specs.declared.crossbar.XbarDesc.{XbarDesc}
use Rattle.cg_desc.specs.declared.top.FaceBase.{FaceBase}
use Rattle.cg_desc.specs.declared.top.InstDesc.{InstDesc}
use Rattle.cg_desc.specs.declared.top.SpaceBase.{SpaceBase}
use Rattle.cg_desc.specs.declared.top.XbarEnds.{XbarEnds}
use Rattle.cg_desc.specs.declared.top.XbarUse.{XbarUse}
use Rattle.cg_svspec.specs.Names.{Among}
use Rattle.cg_svspec.specs.Printable.{IsSomeOf}
use Rattle.cg_topspec.proofs.Possible.{both, cpu, letter_c, letter_h, letter_k, letter_m, letter_s, letter_t, nothing_there, only, used}
use Rattle.cg_topspec.proofs.Served.{EitherNode, block_is_valid, data_face, device_of, in_serving, its_ends, joins_none, letter_b, letter_u, no_host_named, node_in_serving, not_nested, of_unit, served, served_block, serving, stands_so, unit, unit_is, unit_named, unit_node}

valid_node : (node : NodeDesc) → Among node (cpu ∷ unit_node ∷ []) → IsValidNode node
valid_node node (inl e) = subst IsValidNode (sym e) (record { name = inl letter_c; clock = letter_k; few_ranges = omega arith; ranges = λ r a. absurd a })
valid_node node (inr (inl e)) = subst IsValidNode (sym e) (record { name = inl letter_u; clock = letter_k; few_ranges = omega arith; ranges = λ r a. absurd a })
valid_node node (inr (inr a)) = absurd a

-- names of one letter
one_letter : (a b : ℕ) → a ∷ [] ≡ b ∷ [] → a ≡ b
one_letter a b e = cc

serving_is_valid : IsValidCrossbar serving
serving_is_valid = record {
  name = letter_m;
  clock = letter_k;
  few_nodes = omega arith;
  nodes = valid_node;
  names_differ = λ i j a b p q e. names i j a b (node_in_serving i a p) (node_in_serving j b q) e;
  devices_only = λ h d c. to_device d (node_in_serving h c.0 c.1) c.3;
  once = λ h i j d node is p q. one_of_it h i j d node (node_in_serving h node is) p q;
  only_hosts = λ i node is device. none_of_it i node (node_in_serving i node is) device;
  some_device = λ h is. host_to h is.0 (node_in_serving h is.0 is.1) is.1 is.2;
  some_host = λ d is. from_host d is.0 (node_in_serving d is.0 is.1) is.2;
} where
  names : (i j : ℕ) (a b : NodeDesc) → EitherNode i a → EitherNode j b → a.name ≡ b.name → i ≡ j
  names i j a b (inl p) (inl q) e = p.0 ∙ sym q.0
  names i j a b (inr p) (inr q) e = p.0 ∙ sym q.0
  names i j a b (inl p) (inr q) e =
      absurd (let bad : 99 ≡ 117 = one_letter 99 117 (ap (λ (n : NodeDesc). n.name) p.1 ∙ (e ∙ ap (λ (n : NodeDesc). n.name) (sym q.1))) in omega (arith, bad))
  names i j a b (inr p) (inl q) e =
      absurd (let bad : 117 ≡ 99 = one_letter 117 99 (ap (λ (n : NodeDesc). n.name) p.1 ∙ (e ∙ ap (λ (n : NodeDesc). n.name) (sym q.1))) in omega (arith, bad))

  to_device : (d : ℕ) {h : ℕ} {node : NodeDesc} → EitherNode h node → Among d node.to → IsDevice serving d
  to_device d (inl p) a = of (subst (λ (n : NodeDesc). Among d n.to) (sym p.1) a) where
    of : Among d (1 ∷ []) → IsDevice serving d
    of (inl e) = subst (IsDevice serving) (sym e) (unit_node, refl, refl)
    of (inr b) = absurd b
  to_device d (inr p) a = absurd (subst (λ (n : NodeDesc). Among d n.to) (sym p.1) a)

  one_of_it : (h i j d : ℕ) (node : NodeDesc) → EitherNode h node → slice_get node.to i ≡ Some d → slice_get node.to j ≡ Some d → i ≡ j
  one_of_it h i j d node (inl k) p q =
      (only 1 d i (subst (λ (n : NodeDesc). slice_get n.to i ≡ Some d) (sym k.1) p)).0 ∙ sym
      (only 1 d j (subst (λ (n : NodeDesc). slice_get n.to j ≡ Some d) (sym k.1) q)).0
  one_of_it h i j d node (inr k) p q = absurd (nothing_there d i (subst (λ (n : NodeDesc). slice_get n.to i ≡ Some d) (sym k.1) p))

  none_of_it : (i : ℕ) (node : NodeDesc) → EitherNode i node → node.host ≡ false → node.to ≡ []
  none_of_it i node (inl k) e = absurd (both node.host e (ap (λ (n : NodeDesc). n.host) (sym k.1)))
  none_of_it i node (inr k) e = ap (λ (n : NodeDesc). n.to) (sym k.1)

  host_to : (h : ℕ) (node : NodeDesc) → EitherNode h node → NodeIs serving h node → node.host ≡ true → (d : ℕ) × Connects serving h d
  host_to h node (inl k) is e = (1, (node, is, e, subst (λ (n : NodeDesc). Among 1 n.to) k.1 (inl refl)))
  host_to h node (inr k) is e = absurd (both node.host (ap (λ (n : NodeDesc). n.host) (sym k.1)) e)

  from_host : (d : ℕ) (node : NodeDesc) → EitherNode d node → node.host ≡ false → (h : ℕ) × Connects serving h d
  from_host d node (inl k) e = absurd (both node.host e (ap (λ (n : NodeDesc). n.host) (sym k.1)))
  from_host d node (inr k) e = (0, (cpu, refl, refl, inl k.0))

-- ---- its type

types_few : (types : List (List ℕ)) → AreTypes (unit ∷ []) types → length types ≤ 64
types_few [] are = omega arith
types_few (s ∷ []) are = omega arith
types_few (s ∷ (t ∷ types)) are = absurd (twice (are.in_order 0 1 s t refl refl (omega arith))) where
  its : Among t (codes "b" ∷ []) → codes "b" ≡ t
  its (inl e) = sym e
  its (inr a) = absurd a

  twice : IsUsedBefore (unit ∷ []) s t → ⊥
  twice used_at = used_at.2 0 (omega arith) (ap Some (its ((are.members t).0 (inr (inl refl)))))

types_are : AreTypes (unit ∷ []) (codes "b" ∷ [])
types_are = record {
  members = λ t. (λ a. a, λ a. a);
  in_order = λ i j a b p q less. absurd (omega (arith, less, (only (codes "b") a i p).0, (only (codes "b") b j q).0));
}

-- ---- its base

pub base_is : BaseIs served 0 0 16
base_is = record {
  inst = unit;
  block = served_block;
  is = unit_is;
  face = data_face;
  face_is = refl;
  space = codes "h";
  in_space = IsInSpace.of_crossbar 0 used refl (1, unit_node, record { crossbar = serving; crossbar_is = refl; is = refl }, unit_named)
      (λ y less has. omega (arith, less));
  base_is = refl;
}

base_there : (i f : ℕ) (inst : InstDesc) (block : LaidBlock) → IsOf (design_of served) i inst block → f < length block.faces
    → (base : ℕ) × HasBase (design_of served) i f base
base_there i f inst block is less =
    let at = of_unit i inst block is in
    let below : f < 1 = subst (λ (b : LaidBlock). f < length b.faces) (sym at.2) less in
    let first : f ≡ 0 = omega (arith, below) in
    (16, subst (λ k. HasBase (design_of served) k f 16) (sym at.0) (subst (λ k. HasBase (design_of served) 0 k 16) (sym first) base_is))

-- ---- the whole

is_top : IsValidTop served.top
is_top = record {
  name = letter_t;
  sources = (letter_s, tt);
  resets = tt;
  spaces = (letter_h, tt);
  some_space = omega arith;
  few_spaces = omega arith;
  instances = (
    record {
      name = letter_u;
      kind = letter_b;
      base = record {
        fit = (omega arith, tt);
        differ = λ i j a b p q e. (only (record { space = codes "h"; base = 16 }) a i p).0 ∙ sym (only (record { space = codes "h"; base = 16 }) b j q).0;
      };
      bases = record { fit = tt; differ = λ i j a b p q e g. absurd (nothing_there a i p) };
    },
    tt,
  );
  few_instances = omega arith;
  few_types = types_few;
  crossbars = (record { name = letter_m; space = letter_h }, tt);
  few_crossbars = omega arith;
  pads = tt;
  few_pads = omega arith;
  few_signals = omega arith;
}

-- a space that is used is the listed one
space_listed : (listed : XbarUse) → Among listed (used ∷ []) → Among listed.space (codes "h" ∷ [])
space_listed listed (inl e) = inl (ap (λ (u : XbarUse). u.space) e)
space_listed listed (inr a) = absurd a

base_listed : (inst : InstDesc) (b : SpaceBase) → Among inst (unit ∷ []) → Among b inst.base → Among b.space (codes "h" ∷ [])
base_listed inst b (inl e) a = its (subst (λ (i : InstDesc). Among b i.base) e a) where
  its : Among b (record { space = codes "h"; base = 16 } ∷ []) → Among b.space (codes "h" ∷ [])
  its (inl s) = inl (ap (λ (z : SpaceBase). z.space) s)
  its (inr c) = absurd c
base_listed inst b (inr c) a = absurd c

no_face_base : (inst : InstDesc) (b : FaceBase) → Among inst (unit ∷ []) → Among b inst.bases → ⊥
no_face_base inst b (inl e) a = subst (λ (i : InstDesc). Among b i.bases) e a
no_face_base inst b (inr c) a = c

names_apart_too : (inst : InstDesc) (xbar : XbarDesc) → Among inst (unit ∷ []) → Among xbar (serving ∷ []) → inst.name ≡ xbar.name → ⊥
names_apart_too inst xbar (inl a) (inl b) e =
    let bad : 117 ≡ 109 = one_letter 117 109 (ap (λ (i : InstDesc). i.name) (sym a) ∙ (e ∙ ap (λ (x : XbarDesc). x.name) b)) in omega (arith, bad)
names_apart_too inst xbar (inr a) b e = a
names_apart_too inst xbar (inl a) (inr b) e = b

known_by : (node : NodeDesc) (n : ℕ) → EitherNode n node → node.host ≡ false → ((i f : ℕ) → NamesFace (design_of served) node i f → ⊥) → IsSomeOf node.ranges
known_by node n k device unnamed =
    let it = device_of n node k device in absurd (unnamed 0 0 (subst (λ (d : NodeDesc). NamesFace (design_of served) d 0 0) it.1 unit_named))

pub served_is_merged : IsMerged served
served_is_merged = record {
  top = is_top;
  files = record { crossbars = refl; blocks = types_are };
  crossbars = (serving_is_valid, tt);
  blocks = (block_is_valid, tt);
  spaces = record {
    differ = λ i j name p q. (only (codes "h") name i p).0 ∙ sym (only (codes "h") name j q).0;
    crossbars = space_listed;
    bases = base_listed;
    interfaces = λ inst b a c. absurd (no_face_base inst b a c);
    nested = λ x n y node outer inner at device j p q. absurd (joins_none x n y node at j);
  };
  names = record {
    instances = λ i j a b p q e. (only unit a i p).0 ∙ sym (only unit b j q).0;
    crossbars = λ x y a b p q e. (only serving a x p).0 ∙ sym (only serving b y q).0;
    apart = names_apart_too;
  };
  nodes = record {
    spelled_once = λ x n y k a b p q e f g. (in_serving x n a p).0 ∙ sym (in_serving y k b q).0;
    one_face = λ x n y k i f a b p q e g. (
      (in_serving x n a p).0 ∙ sym (in_serving y k b q).0,
      (device_of n a (in_serving x n a p).1 e.device).0 ∙ sym (device_of k b (in_serving y k b q).1 g.device).0,
    );
    one_host = λ x n y k i f a b p q e g. absurd (no_host_named a i f e);
    joined = λ x n node at e. absurd (both node.xbar (not_nested n node (in_serving x n node at).1) e);
    known = λ x n node at device e unnamed. known_by node n (in_serving x n node at).1 device unnamed;
  };
  bases = base_there;
  kinds = record {
    count = refl;
    each = λ i k inst p q. kind_of_unit k (only 0 k i q).1 inst (only unit inst i p).1;
  };
  ends = record {
    count = refl;
    counts = λ x xbar ends p q. ap (λ (e : XbarEnds). length e.ends) (sym (only its_ends ends x q).1) ∙ ap (λ (c : XbarDesc). length c.nodes)
        (only serving xbar x p).1;
    each = stands_so;
  };
} where
  kind_of_unit : (k : ℕ) → 0 ≡ k → (inst : InstDesc) → unit ≡ inst → (block : LaidBlock) × BlockIs (design_of served) inst.kind k block
  kind_of_unit k e inst s =
      subst (λ j. (block : LaidBlock) × BlockIs (design_of served) inst.kind j block) e
      (subst (λ (z : InstDesc). (block : LaidBlock) × BlockIs (design_of served) z.kind 0 block) s (served_block, record { is = refl; named = refl }))
