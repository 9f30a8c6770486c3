-- The premises of the laws can be met: a top of one crossbar, whose host and device are outside.
use Rattle.std.proofs.Common.{◌≡◌, ◌⊎◌, ℕ, zero, suc, ◌<◌, ◌≤◌, ◌^◌, Bool, true, false, List, [], ◌∷◌, inl, inr, Some, codes, length, slice_get, refl, sym, ap, subst, ◌∙◌, arith}
use Rattle.cg_desc.specs.Crossbar.{Connects, IsDevice, IsShortName, IsValidCrossbar, IsValidNode, NodeIs}
use Rattle.cg_desc.specs.Ends.{Joins, NamesFace, NamesHost, NodeOf, StandsFor}
use Rattle.cg_desc.specs.Merged.{design_of, EndAt, IsMerged}
use Rattle.cg_desc.specs.Top.{AreTypes}
use Rattle.cg_desc.specs.declared.crossbar.NodeDesc.{NodeDesc}
use Rattle.cg_desc.specs.declared.crossbar.Range.{Range}
use Rattle.cg_desc.specs.declared.crossbar.XbarDesc.{XbarDesc}
use Rattle.cg_desc.specs.declared.top.MergedTop.{MergedTop}
use Rattle.cg_desc.specs.declared.top.NodeEnd.{NodeEnd}
use Rattle.cg_desc.specs.declared.top.NodeEnd.TheVariants.{Outside}
use Rattle.cg_desc.specs.declared.top.XbarUse.{XbarUse}
use Rattle.cg_svspec.specs.Names.{Among}
use Rattle.cg_svspec.specs.Printable.{IsSomeOf}
use Rattle.cg_topspec.proofs.Examples.{nowhere}

-- ---- the top

abbrev pub cpu : NodeDesc
cpu = record { name = codes "c"; host = true; xbar = false; clock = codes "k"; ranges = []; to = 1 ∷ []; at = nowhere }

abbrev pub words : Range
words = record { base = 16; size = 16 }

abbrev pub ram : NodeDesc
ram = record { name = codes "r"; host = false; xbar = false; clock = codes "k"; ranges = words ∷ []; to = []; at = nowhere }

abbrev pub main : XbarDesc
main = record { file = 0; name = codes "m"; clock = codes "k"; nodes = cpu ∷ ram ∷ []; at = nowhere }

abbrev pub used : XbarUse
used = record { name = codes "m"; space = codes "h"; clocks = record { port = codes "k"; source = codes "s" } ∷ []; at = nowhere }

abbrev pub plain : MergedTop
plain = record {
  top = record {
    file = 0;
    name = codes "t";
    sources = codes "s" ∷ [];
    resets = [];
    spaces = record { name = codes "h"; at = nowhere } ∷ [];
    insts = [];
    xbars = used ∷ [];
    pads = [];
    signals = [];
    at = nowhere;
  };
  xbars = main ∷ [];
  blocks = [];
  kinds = [];
  ends = record { ends = Outside ∷ Outside ∷ [] } ∷ [];
}

-- ---- items of short lists

pub only : {A : Type 0} (x z : A) (i : ℕ) → slice_get (x ∷ []) i ≡ Some z → (i ≡ 0) × (x ≡ z)
only x z zero e = (refl, cc)
only x z (suc i) e = cc

pub either : {A : Type 0} (x y z : A) (i : ℕ) → slice_get (x ∷ y ∷ []) i ≡ Some z → ((i ≡ 0) × (x ≡ z)) ⊎ ((i ≡ 1) × (y ≡ z))
either x y z zero e = inl (refl, cc)
either x y z (suc zero) e = inr (refl, cc)
either x y z (suc (suc i)) e = cc

pub nothing_there : {A : Type 0} (z : A) (i : ℕ) → slice_get [] i ≡ Some z → ⊥
nothing_there z i e = absurd cc

-- a node is the host, which is node 0, or the device, which is node 1
pub node_in_main : (n : ℕ) (node : NodeDesc) → NodeIs main n node → ((n ≡ 0) × (cpu ≡ node)) ⊎ ((n ≡ 1) × (ram ≡ node))
node_in_main n node e = either cpu ram node n e

pub in_main : (x n : ℕ) (node : NodeDesc) → NodeOf (design_of plain) x n node → (x ≡ 0) × NodeIs main n node
in_main x n node at = let h = only main at.crossbar x at.crossbar_is in (h.0, subst (λ (c : XbarDesc). NodeIs c n node) (sym h.1) at.is)

pub no_xbar : (x n : ℕ) (node : NodeDesc) → NodeOf (design_of plain) x n node → node.xbar ≡ false
no_xbar x n node at = by (node_in_main n node (in_main x n node at).1) where
  by : ((n ≡ 0) × (cpu ≡ node)) ⊎ ((n ≡ 1) × (ram ≡ node)) → node.xbar ≡ false
  by (inl h) = ap (λ (d : NodeDesc). d.xbar) (sym h.1)
  by (inr h) = ap (λ (d : NodeDesc). d.xbar) (sym h.1)

pub both : (b : Bool) → b ≡ false → b ≡ true → ⊥
both true e f = let no : true ≡ false = e in absurd cc
both false e f = let no : false ≡ true = f in absurd cc

pub no_joins : (x n y : ℕ) (node : NodeDesc) → NodeOf (design_of plain) x n node → Joins (design_of plain) x node y → ⊥
no_joins x n y node at j = both node.xbar (no_xbar x n node at) j.nested

pub no_face : (node : NodeDesc) (i f : ℕ) → NamesFace (design_of plain) node i f → ⊥
no_face node i f names = nothing_there names.inst i names.is.instance

pub no_host : (node : NodeDesc) (i f : ℕ) → NamesHost (design_of plain) node i f → ⊥
no_host node i f names = nothing_there names.inst i names.is.instance

pub end_is_outside : (x n : ℕ) (e : NodeEnd) → EndAt plain x n e → Outside ≡ e
end_is_outside x n e at = by (either Outside Outside e n (subst (λ z. slice_get z n ≡ Some e) (ap (λ z. z.ends) (sym (only (record { ends = Outside ∷ Outside ∷ [] }) at.0 x at.1).1)) at.2)) where
  by : ((n ≡ 0) × (Outside ≡ e)) ⊎ ((n ≡ 1) × (Outside ≡ e)) → Outside ≡ e
  by (inl h) = h.1
  by (inr h) = h.1

-- ---- it is merged

pub letter_c : IsShortName (codes "c")
letter_c = (((refl, tt), refl), omega arith)

pub letter_r : IsShortName (codes "r")
letter_r = (((refl, tt), refl), omega arith)

pub letter_k : IsShortName (codes "k")
letter_k = (((refl, tt), refl), omega arith)

pub letter_m : IsShortName (codes "m")
letter_m = (((refl, tt), refl), omega arith)

pub letter_h : IsShortName (codes "h")
letter_h = (((refl, tt), refl), omega arith)

pub letter_s : IsShortName (codes "s")
letter_s = (((refl, tt), refl), omega arith)

pub letter_t : IsShortName (codes "t")
letter_t = (((refl, tt), refl), omega arith)

pub types_few : (types : List (List ℕ)) → AreTypes [] types → length types ≤ 64
types_few [] are = omega arith
types_few (t ∷ types) are = absurd ((are.members t).0 (inl refl))

pub valid_node : (node : NodeDesc) → Among node (cpu ∷ ram ∷ []) → IsValidNode node
valid_node node (inl e) = subst IsValidNode (sym e) (record { name = inl letter_c; clock = letter_k; few_ranges = omega arith; ranges = λ r a. absurd a })
valid_node node (inr (inl e)) = subst IsValidNode (sym e) (record { name = inl letter_r; clock = letter_k; few_ranges = omega arith; ranges = few }) where
  few : (r : Range) → Among r (words ∷ []) → (r.base < 2 ^ 32) × (r.size ≤ 2 ^ 32)
  few r (inl e) = subst (λ (s : Range). (s.base < 2 ^ 32) × (s.size ≤ 2 ^ 32)) (sym e) (omega arith, omega arith)
  few r (inr a) = absurd a
valid_node node (inr (inr a)) = absurd a

pub first_of : List ℕ → ℕ
first_of [] = 0
first_of (c ∷ cs) = c

pub main_is_valid : IsValidCrossbar main
unfolding first_of
main_is_valid = record {
  name = letter_m;
  clock = letter_k;
  few_nodes = omega arith;
  nodes = valid_node;
  names_differ = λ i j a b p q e. names i j a b (node_in_main i a p) (node_in_main j b q) e;
  devices_only = λ h d c. to_device d (node_in_main h c.0 c.1) c.3;
  once = λ h i j d node is p q. one_of_it h i j d node (node_in_main h node is) p q;
  only_hosts = λ i node is device. none_of_it i node (node_in_main i node is) device;
  some_device = λ h is. host_to h is.0 (node_in_main h is.0 is.1) is.1 is.2;
  some_host = λ d is. from_host d is.0 (node_in_main d is.0 is.1) is.2;
} where
  names : (i j : ℕ) (a b : NodeDesc) → ((i ≡ 0) × (cpu ≡ a)) ⊎ ((i ≡ 1) × (ram ≡ a)) → ((j ≡ 0) × (cpu ≡ b)) ⊎ ((j ≡ 1) × (ram ≡ b)) → a.name ≡ b.name → i ≡ j
  names i j a b (inl p) (inl q) e = p.0 ∙ sym q.0
  names i j a b (inr p) (inr q) e = p.0 ∙ sym q.0
  names i j a b (inl p) (inr q) e = absurd (let bad : 99 ≡ 114 = ap first_of (ap (λ (n : NodeDesc). n.name) p.1 ∙ (e ∙ ap (λ (n : NodeDesc). n.name) (sym q.1))) in omega (arith, bad))
  names i j a b (inr p) (inl q) e = absurd (let bad : 114 ≡ 99 = ap first_of (ap (λ (n : NodeDesc). n.name) p.1 ∙ (e ∙ ap (λ (n : NodeDesc). n.name) (sym q.1))) in omega (arith, bad))

  to_device : (d : ℕ) {h : ℕ} {node : NodeDesc} → ((h ≡ 0) × (cpu ≡ node)) ⊎ ((h ≡ 1) × (ram ≡ node)) → Among d node.to → IsDevice main d
  to_device d (inl p) a = of (subst (λ (n : NodeDesc). Among d n.to) (sym p.1) a) where
    of : Among d (1 ∷ []) → IsDevice main d
    of (inl e) = subst (IsDevice main) (sym e) (ram, refl, refl)
    of (inr b) = absurd b
  to_device d (inr p) a = absurd (subst (λ (n : NodeDesc). Among d n.to) (sym p.1) a)

  one_of_it : (h i j d : ℕ) (node : NodeDesc) → ((h ≡ 0) × (cpu ≡ node)) ⊎ ((h ≡ 1) × (ram ≡ node)) → slice_get node.to i ≡ Some d → slice_get node.to j ≡ Some d → i ≡ j
  one_of_it h i j d node (inl k) p q =
      (only 1 d i (subst (λ (n : NodeDesc). slice_get n.to i ≡ Some d) (sym k.1) p)).0 ∙ sym (only 1 d j (subst (λ (n : NodeDesc). slice_get n.to j ≡ Some d) (sym k.1) q)).0
  one_of_it h i j d node (inr k) p q = absurd (nothing_there d i (subst (λ (n : NodeDesc). slice_get n.to i ≡ Some d) (sym k.1) p))

  none_of_it : (i : ℕ) (node : NodeDesc) → ((i ≡ 0) × (cpu ≡ node)) ⊎ ((i ≡ 1) × (ram ≡ node)) → node.host ≡ false → node.to ≡ []
  none_of_it i node (inl k) e = absurd (both node.host e (ap (λ (n : NodeDesc). n.host) (sym k.1)))
  none_of_it i node (inr k) e = ap (λ (n : NodeDesc). n.to) (sym k.1)

  host_to : (h : ℕ) (node : NodeDesc) → ((h ≡ 0) × (cpu ≡ node)) ⊎ ((h ≡ 1) × (ram ≡ node)) → NodeIs main h node → node.host ≡ true → (d : ℕ) × Connects main h d
  host_to h node (inl k) is e = (1, (node, is, e, subst (λ (n : NodeDesc). Among 1 n.to) k.1 (inl refl)))
  host_to h node (inr k) is e = absurd (both node.host (ap (λ (n : NodeDesc). n.host) (sym k.1)) e)

  from_host : (d : ℕ) (node : NodeDesc) → ((d ≡ 0) × (cpu ≡ node)) ⊎ ((d ≡ 1) × (ram ≡ node)) → node.host ≡ false → (h : ℕ) × Connects main h d
  from_host d node (inl k) e = absurd (both node.host e (ap (λ (n : NodeDesc). n.host) (sym k.1)))
  from_host d node (inr k) e = (0, (cpu, refl, refl, inl k.0))

pub plain_is_merged : IsMerged plain
plain_is_merged = record {
  top = record {
    name = letter_t;
    sources = (letter_s, tt);
    resets = tt;
    spaces = (letter_h, tt);
    some_space = omega arith;
    few_spaces = omega arith;
    instances = tt;
    few_instances = omega arith;
    few_types = types_few;
    crossbars = (record { name = letter_m; space = letter_h }, tt);
    few_crossbars = omega arith;
    pads = tt;
    few_pads = omega arith;
    few_signals = omega arith;
  };
  files = record { crossbars = refl; blocks = record { members = λ t. (λ a. a, λ a. a); in_order = λ i j a b p q less. absurd (nothing_there a i p) } };
  crossbars = (main_is_valid, tt);
  blocks = tt;
  spaces = record {
    differ = λ i j name p q. (only (codes "h") name i p).0 ∙ sym (only (codes "h") name j q).0;
    crossbars = space_listed;
    bases = λ inst b a c. absurd a;
    interfaces = λ inst b a c. absurd a;
    nested = λ x n y node outer inner at device j p q. absurd (no_joins x n y node at j);
  };
  names = record {
    instances = λ i j a b p q e. absurd (nothing_there a i p);
    crossbars = λ x y a b p q e. (only main a x p).0 ∙ sym (only main b y q).0;
    apart = λ inst xbar a b e. a;
  };
  nodes = record {
    spelled_once = λ x n y k a b p q e f g. (in_main x n a p).0 ∙ sym (in_main y k b q).0;
    one_face = λ x n y k i f a b p q e g. absurd (no_face a i f e);
    one_host = λ x n y k i f a b p q e g. absurd (no_host a i f e);
    joined = λ x n node at e. absurd (both node.xbar (no_xbar x n node at) e);
    known = λ x n node at device e none. known_by n node (node_in_main n node (in_main x n node at).1) device;
  };
  bases = λ i f inst block is less. absurd (nothing_there inst i is.instance);
  kinds = record { count = refl; each = λ i k inst p q. absurd (nothing_there inst i p) };
  ends = record {
    count = refl;
    counts = λ x xbar ends p q. ap (λ e. length e.ends) (sym (only (record { ends = Outside ∷ Outside ∷ [] }) ends x q).1) ∙ ap (λ (c : XbarDesc). length c.nodes) (only main xbar x p).1;
    each = λ x n node e at end. subst (StandsFor (design_of plain) x node) (end_is_outside x n e end)
        (StandsFor.outside (no_face node) (no_host node) (λ y. no_joins x n y node at));
  };
} where
  space_listed : (listed : XbarUse) → Among listed (used ∷ []) → Among listed.space (codes "h" ∷ [])
  space_listed listed (inl e) = inl (ap (λ (u : XbarUse). u.space) e)
  space_listed listed (inr a) = absurd a

  known_by : (n : ℕ) (node : NodeDesc) → ((n ≡ 0) × (cpu ≡ node)) ⊎ ((n ≡ 1) × (ram ≡ node)) → node.host ≡ false → IsSomeOf node.ranges
  known_by n node (inl k) e = absurd (both node.host e (ap (λ (d : NodeDesc). d.host) (sym k.1)))
  known_by n node (inr k) e = subst (λ (d : NodeDesc). IsSomeOf d.ranges) k.1 tt
