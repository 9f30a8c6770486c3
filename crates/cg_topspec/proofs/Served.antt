-- The premises of the laws can be met by a top with an interface: one crossbar, whose host is outside and whose device names an
-- instance of a block with one register.
use Rattle.std.proofs.Common.{None, Some, [], ap, arith, codes, false, inl, inr, length, refl, slice_get, subst, sym, ℕ, ◌<◌, ◌∷◌, ◌≡◌, ◌⊎◌}
use Rattle.cg_desc.specs.Crossbar.{IsShortName, NodeIs}
use Rattle.cg_desc.specs.Ends.{IsOf, Joins, Means, NamesFace, NamesHost, NodeOf, StandsFor, host_interfaces}
use Rattle.cg_desc.specs.Laid.{FieldsFit, IsLaid, LastEnds}
use Rattle.cg_desc.specs.Merged.{EndAt, IsValidLaidBlock, design_of}
use Rattle.cg_desc.specs.Offsets.{IsSpan}
use Rattle.cg_desc.specs.declared.block.FaceDesc.{FaceDesc}
use Rattle.cg_desc.specs.declared.block.FieldDesc.{FieldDesc}
use Rattle.cg_desc.specs.declared.block.HwAccess.TheVariants.{Hro}
use Rattle.cg_desc.specs.declared.block.LaidBlock.{LaidBlock}
use Rattle.cg_desc.specs.declared.block.LaidFace.{LaidFace}
use Rattle.cg_desc.specs.declared.block.LaidRow.{LaidRow}
use Rattle.cg_desc.specs.declared.block.RegDesc.{RegDesc}
use Rattle.cg_desc.specs.declared.block.SwAccess.TheVariants.{Rw}
use Rattle.cg_desc.specs.declared.crossbar.NodeDesc.{NodeDesc}
use Rattle.cg_desc.specs.declared.crossbar.XbarDesc.{XbarDesc}
use Rattle.cg_desc.specs.declared.top.InstDesc.{InstDesc}
use Rattle.cg_desc.specs.declared.top.MergedTop.{MergedTop}
use Rattle.cg_desc.specs.declared.top.NodeEnd.{NodeEnd}
use Rattle.cg_desc.specs.declared.top.NodeEnd.TheVariants.{Face, Outside}
use Rattle.cg_desc.specs.declared.top.XbarEnds.{XbarEnds}
use Rattle.cg_svspec.specs.Characters.{IsWord}
use Rattle.cg_topspec.proofs.Examples.{nowhere}
use Rattle.cg_topspec.proofs.NodeEnds.{meant_below}
use Rattle.cg_topspec.proofs.Possible.{both, cpu, either, letter_k, only, used}
use Rattle.cg_desc.specs.declared.block.Item.TheVariants as item
use Rattle.cg_desc.specs.declared.block.Written.TheVariants as written

-- ---- the top

abbrev pub data_field : FieldDesc
data_field = record { name = codes "D"; msb = 31; lsb = 0; sw = Rw; hw = Hro; resval = 0; mubi = false; at = nowhere }

abbrev pub data_register : RegDesc
data_register = record {
  name = codes "D";
  fields = data_field ∷ [];
  regwen = None;
  regwen_at = nowhere;
  hwext = false;
  hwqe = false;
  hwre = false;
  shadowed = false;
  at = nowhere;
}

abbrev pub data_row : LaidRow
data_row = record { first = 0; words = 1; item = item.Reg data_register }

abbrev pub data_face : LaidFace
data_face = record { name = None; size = 4; rows = data_row ∷ [] }

abbrev pub written_face : FaceDesc
written_face = record { name = None; entries = written.Reg data_register ∷ []; at = nowhere }

abbrev pub served_block : LaidBlock
served_block = record {
  desc = record {
    file = 0;
    name = codes "b";
    clocking = record { clock = codes "k"; reset = None } ∷ [];
    faces = written_face ∷ [];
    hosts = [];
    intrs = [];
    intrs_at = nowhere;
    alerts = [];
    alerts_at = nowhere;
    auto_intr = false;
    auto_alert = false;
    ios = [];
    at = nowhere;
  };
  faces = data_face ∷ [];
}

abbrev pub unit : InstDesc
unit = record {
  name = codes "u";
  kind = codes "b";
  clocks = record { port = codes "k"; source = codes "s" } ∷ [];
  resets = [];
  base = record { space = codes "h"; base = 16 } ∷ [];
  bases = [];
  at = nowhere;
}

abbrev pub unit_node : NodeDesc
unit_node = record { name = codes "u"; host = false; xbar = false; clock = codes "k"; ranges = []; to = []; at = nowhere }

abbrev pub serving : XbarDesc
serving = record { file = 0; name = codes "m"; clock = codes "k"; nodes = cpu ∷ unit_node ∷ []; at = nowhere }

abbrev pub its_ends : XbarEnds
its_ends = record { ends = Outside ∷ Face 0 0 ∷ [] }

abbrev pub served : MergedTop
served = record {
  top = record {
    file = 0;
    name = codes "t";
    sources = codes "s" ∷ [];
    resets = [];
    spaces = record { name = codes "h"; at = nowhere } ∷ [];
    insts = unit ∷ [];
    xbars = used ∷ [];
    pads = [];
    signals = [];
    at = nowhere;
  };
  xbars = serving ∷ [];
  blocks = served_block ∷ [];
  kinds = 0 ∷ [];
  ends = its_ends ∷ [];
}

-- ---- its nodes

-- a node is the host, which is node 0, or the device, which is node 1
abbrev pub EitherNode : ℕ → NodeDesc → Type 0
EitherNode n node = ((n ≡ 0) × (cpu ≡ node)) ⊎ ((n ≡ 1) × (unit_node ≡ node))

pub node_in_serving : (n : ℕ) (node : NodeDesc) → NodeIs serving n node → EitherNode n node
node_in_serving n node e = either cpu unit_node node n e

pub in_serving : (x n : ℕ) (node : NodeDesc) → NodeOf (design_of served) x n node → (x ≡ 0) × EitherNode n node
in_serving x n node at =
    let h = only serving at.crossbar x at.crossbar_is in (h.0, node_in_serving n node (subst (λ (c : XbarDesc). NodeIs c n node) (sym h.1) at.is))

pub not_nested : (n : ℕ) (node : NodeDesc) → EitherNode n node → node.xbar ≡ false
not_nested n node (inl h) = ap (λ (d : NodeDesc). d.xbar) (sym h.1)
not_nested n node (inr h) = ap (λ (d : NodeDesc). d.xbar) (sym h.1)

pub joins_none : (x n y : ℕ) (node : NodeDesc) → NodeOf (design_of served) x n node → Joins (design_of served) x node y → ⊥
joins_none x n y node at j = both node.xbar (not_nested n node (in_serving x n node at).1) j.nested

pub device_of : (n : ℕ) (node : NodeDesc) → EitherNode n node → node.host ≡ false → (n ≡ 1) × (unit_node ≡ node)
device_of n node (inl k) e = absurd (both node.host e (ap (λ (d : NodeDesc). d.host) (sym k.1)))
device_of n node (inr k) e = k

-- ---- its instance

pub its_block : (k : ℕ) (block : LaidBlock) → slice_get (served_block ∷ []) k ≡ Some block → (k ≡ 0) × (served_block ≡ block)
its_block k block e = only served_block block k e

pub unit_is : IsOf (design_of served) 0 unit served_block
unit_is = record { instance = refl; number = 0; block_is = record { is = refl; named = refl } }

pub of_unit : (i : ℕ) (inst : InstDesc) (block : LaidBlock) → IsOf (design_of served) i inst block → (i ≡ 0) × (unit ≡ inst) × (served_block ≡ block)
of_unit i inst block is = let h = only unit inst i is.instance in (h.0, h.1, (its_block is.number block is.block_is.is).1)

pub unit_named : NamesFace (design_of served) unit_node 0 0
unit_named = record { device = refl; plain = refl; inst = unit; block = served_block; is = unit_is; means = Means.without_name 0 refl }

pub no_host_named : (node : NodeDesc) (i f : ℕ) → NamesHost (design_of served) node i f → ⊥
no_host_named node i f names =
    let at = of_unit i names.inst names.block names.is in
    let below : f < length (host_interfaces names.block) = meant_below names.inst.name node.name (host_interfaces names.block) f names.means in
    nothing_below (subst (λ (b : LaidBlock). f < length (host_interfaces b)) (sym at.2) below) where
      nothing_below : f < 0 → ⊥
      nothing_below h = omega (arith, h)

-- ---- its ends

pub ends_are : (x n : ℕ) (e : NodeEnd) → EndAt served x n e → (x ≡ 0) × (((n ≡ 0) × (Outside ≡ e)) ⊎ ((n ≡ 1) × (Face 0 0 ≡ e)))
ends_are x n e at =
    let h = only its_ends at.0 x at.1 in
    (h.0, either Outside (Face 0 0) e n (subst (λ (z : XbarEnds). slice_get z.ends n ≡ Some e) (sym h.1) at.2))

pub stands_so : (x n : ℕ) (node : NodeDesc) (e : NodeEnd) → NodeOf (design_of served) x n node → EndAt served x n e → StandsFor (design_of served) x node e
stands_so x n node e at end = by (in_serving x n node at).1 (ends_are x n e end).1 where
  by : EitherNode n node → ((n ≡ 0) × (Outside ≡ e)) ⊎ ((n ≡ 1) × (Face 0 0 ≡ e)) → StandsFor (design_of served) x node e
  by (inl k) (inl z) =
      subst (StandsFor (design_of served) x node) z.1
      (StandsFor.outside (λ i f names. both node.host names.device (ap (λ (d : NodeDesc). d.host) (sym k.1))) (no_host_named node)
      (λ y. joins_none x n y node at))
  by (inl k) (inr z) = absurd (omega (arith, k.0, z.0))
  by (inr k) (inl z) = absurd (omega (arith, k.0, z.0))
  by (inr k) (inr z) =
      subst (StandsFor (design_of served) x node) z.1
      (StandsFor.device_interface 0 0 (subst (λ (d : NodeDesc). NamesFace (design_of served) d 0 0) k.1 unit_named))

-- ---- its block is valid

pub letter_b : IsShortName (codes "b")
letter_b = (((refl, tt), refl), omega arith)

pub letter_u : IsShortName (codes "u")
letter_u = (((refl, tt), refl), omega arith)

letter_d : IsWord (codes "D")
letter_d = (refl, tt)

data_fields_fit : FieldsFit 0 (data_field ∷ [])
data_fields_fit = (letter_d, omega arith, omega arith, omega arith, omega arith, tt)

data_is_laid : IsLaid data_face
data_is_laid = record {
  some_row = tt;
  rows = (omega arith, (refl, (0, refl), record { name = letter_d; some_field = tt; fields = data_fields_fit; gate = tt }), omega arith);
  end = 4;
  ends = LastEnds.last IsSpan.register;
  size = ((2, refl), omega arith, omega arith);
  few_bytes = omega arith;
}

pub block_is_valid : IsValidLaidBlock served_block
block_is_valid = record {
  block = record {
    name = letter_b.0;
    short_name = omega arith;
    clocks = (record { clock = letter_k; reset = tt }, tt);
    some_clock = omega arith;
    few_clocks = omega arith;
    interrupts = tt;
    alerts = tt;
    interfaces = (record { name = tt; entries = (record { name = letter_d; some_field = tt; fields = data_fields_fit }, tt) }, tt);
    few_interfaces = omega arith;
    interfaces_differ = (tt, tt);
    short_interrupts = tt;
    short_alerts = tt;
    short_interfaces = (tt, tt);
    hosts = tt;
    hosts_differ = tt;
    pins = record {
      inputs = [];
      outputs = [];
      inouts = [];
      stand = refl;
      valid_inputs = tt;
      valid_outputs = tt;
      valid_inouts = tt;
      few_inputs = omega arith;
      few_outputs = omega arith;
      few_inouts = omega arith;
    };
  };
  named = refl;
  laid = (data_is_laid, tt);
}
