-- A merged top as its module is made of it: crossbars, nodes and instances by their numbers. A number that names nothing has an empty thing.
use Rattle.std.specs.Prelude.{ℕ, zero, suc, eqb, Bool, false, not, ◌&&◌, List, [], ◌∷◌, ◌++◌, map, length, get_or, filter, find, flat_map, Option}
use Rattle.cg_busspec.specs.Crossbar.{node}
use Rattle.cg_desc.specs.declared.block.LaidBlock.{LaidBlock}
use Rattle.cg_desc.specs.declared.crossbar.NodeDesc.{NodeDesc}
use Rattle.cg_desc.specs.declared.crossbar.XbarDesc.{XbarDesc}
use Rattle.cg_desc.specs.declared.place.At.{At}
use Rattle.cg_desc.specs.declared.top.InstDesc.{InstDesc}
use Rattle.cg_desc.specs.declared.top.MergedTop.{MergedTop}
use Rattle.cg_desc.specs.declared.top.NodeEnd.{NodeEnd}
use Rattle.cg_desc.specs.declared.top.NodeEnd.TheVariants.{Face, Host, Xbar, Outside}
use Rattle.cg_desc.specs.declared.top.XbarEnds.{XbarEnds}

-- so many numbers, from this one on
abbrev pub counting : ℕ → ℕ → List ℕ
counting i zero = []
counting i (suc n) = i ∷ counting (suc i) n

-- ---- empty things

abbrev pub no_place : At
no_place = record { byte = 0; line = 1; column = 1 }

abbrev pub no_crossbar : XbarDesc
no_crossbar = record { file = 0; name = []; clock = []; nodes = []; at = no_place }

abbrev pub no_ends : XbarEnds
no_ends = record { ends = [] }

abbrev pub no_instance : InstDesc
no_instance = record { name = []; kind = []; clocks = []; resets = []; base = []; bases = []; at = no_place }

abbrev pub no_block : LaidBlock
no_block = record {
  desc = record {
    file = 0;
    name = [];
    clocking = [];
    faces = [];
    hosts = [];
    intrs = [];
    intrs_at = no_place;
    alerts = [];
    alerts_at = no_place;
    auto_intr = false;
    auto_alert = false;
    ios = [];
    at = no_place;
  };
  faces = [];
}

-- ---- crossbars and nodes

-- a node of a top: the number of its crossbar, and its own there
pub record NodeId : Type 0 where
  pub xbar : ℕ
  pub node : ℕ

abbrev pub node_id : ℕ → ℕ → NodeId
node_id x n = record { xbar = x; node = n }

abbrev pub crossbar_of : MergedTop → ℕ → XbarDesc
crossbar_of m x = get_or m.xbars x no_crossbar

abbrev pub node_of : MergedTop → NodeId → NodeDesc
node_of m n = node (crossbar_of m n.xbar) n.node

abbrev pub is_host : MergedTop → NodeId → Bool
is_host m n = (node_of m n).host

-- what the node stands for
abbrev pub end_of : MergedTop → NodeId → NodeEnd
end_of m n = get_or (get_or m.ends n.xbar no_ends).ends n.node Outside

-- the numbers of the crossbars, and those of the instances
abbrev pub crossbar_numbers : MergedTop → List ℕ
crossbar_numbers m = counting 0 (length m.xbars)

abbrev pub instance_numbers : MergedTop → List ℕ
instance_numbers m = counting 0 (length m.top.insts)

-- the nodes of a crossbar, and those of all crossbars, as they are numbered
abbrev pub nodes_in : MergedTop → ℕ → List NodeId
nodes_in m x = map (node_id x) (counting 0 (length (crossbar_of m x).nodes))

abbrev pub all_nodes : MergedTop → List NodeId
all_nodes m = flat_map (nodes_in m) (crossbar_numbers m)

-- the same with the hosts of each crossbar before its devices
abbrev pub ordered_in : MergedTop → ℕ → List NodeId
ordered_in m x = filter (is_host m) (nodes_in m x) ++ filter (λ n. not (is_host m n)) (nodes_in m x)

abbrev pub ordered : MergedTop → List NodeId
ordered m = flat_map (ordered_in m) (crossbar_numbers m)

-- ---- instances

abbrev pub instance_of : MergedTop → ℕ → InstDesc
instance_of m i = get_or m.top.insts i no_instance

-- the block of an instance
abbrev pub block_of : MergedTop → ℕ → LaidBlock
block_of m i = get_or m.blocks (get_or m.kinds i (length m.blocks)) no_block

-- ---- who stands for what

-- the end is this crossbar, this device interface, or this host interface
abbrev pub is_crossbar : ℕ → NodeEnd → Bool
is_crossbar y (Xbar x) = eqb x y
is_crossbar y _ = false

abbrev pub is_device_face : ℕ → ℕ → NodeEnd → Bool
is_device_face i f (Face j g) = eqb j i && eqb g f
is_device_face i f _ = false

abbrev pub is_host_face : ℕ → ℕ → NodeEnd → Bool
is_host_face i f (Host j g) = eqb j i && eqb g f
is_host_face i f _ = false

-- the first host of crossbar y that stands for crossbar x, and the first device of crossbar x that stands for crossbar y
abbrev pub inner_host : MergedTop → ℕ → ℕ → Option NodeId
inner_host m x y = find (λ n. is_host m n && is_crossbar x (end_of m n)) (nodes_in m y)

abbrev pub outer_device : MergedTop → ℕ → ℕ → Option NodeId
outer_device m x y = find (λ n. not (is_host m n) && is_crossbar y (end_of m n)) (nodes_in m x)

-- the first device that stands for this device interface of an instance, and the first host that stands for this host interface
abbrev pub device_node : MergedTop → ℕ → ℕ → Option NodeId
device_node m i f = find (λ n. not (is_host m n) && is_device_face i f (end_of m n)) (all_nodes m)

abbrev pub host_node : MergedTop → ℕ → ℕ → Option NodeId
host_node m i f = find (λ n. is_host m n && is_host_face i f (end_of m n)) (all_nodes m)
