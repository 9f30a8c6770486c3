-- A merged top with what its module is made of, so that the proofs speak of one thing; its nodes, and what its parts owe one another.
use Rattle.std.proofs.Common.{List, None, Some, [], false, length, map, slice_get, true, ℕ, ◌<◌, ◌^◌, ◌∷◌, ◌≡◌, ◌≤◌}
use Rattle.cg_busspec.specs.CrossbarMeaning.{Carries}
use Rattle.cg_clkrst.specs.declared.tie.Tie.{Tie}
use Rattle.cg_desc.specs.Reach.{IsPlain}
use Rattle.cg_desc.specs.declared.block.LaidFace.{LaidFace}
use Rattle.cg_desc.specs.declared.crossbar.NodeRanges.{NodeRanges}
use Rattle.cg_desc.specs.declared.top.MergedTop.{MergedTop}
use Rattle.cg_desc.specs.declared.top.NodeEnd.TheVariants.{Face, Host, Xbar}
use Rattle.cg_irq.specs.declared.bits.IrqMap.{IrqMap}
use Rattle.cg_pinmux.specs.declared.map.PinMap.{PinMap}
use Rattle.cg_regspec.specs.Meaning.{RegisterMeans}
use Rattle.cg_space.specs.Answers.{AreNodeRanges}
use Rattle.cg_svspec.specs.Links.{comes_in, device_link, goes_out, host_link}
use Rattle.cg_svspec.specs.Names.{Among, Differ, module_names}
use Rattle.cg_svspec.specs.Tree.{Connection, Entry, Module, Parameter, Port}
use Rattle.cg_svspec.specs.Walk.{module_named, register_name}
use Rattle.cg_svspec.specs.WellFormed.{connection_names, inputs_of}
use Rattle.cg_topspec.specs.Top.{NodeId, all_nodes, block_of, crossbar_of, device_node, end_of, inner_host, is_host, node_of, outer_device}
use Rattle.cg_topspec.specs.TopModule.{address_width, crossbar_module_name}
use Rattle.cg_topspec.specs.TopModule as spec

pub record Built : Type 0 where
  pub merged : MergedTop
  pub numbers : IrqMap
  pub ties : List Tie
  pub pins : PinMap

-- ---- its module

abbrev pub top_module : Built → Module
top_module top = spec.top_module top.merged top.numbers top.ties top.pins

abbrev pub top_ports : Built → List Port
top_ports top = spec.top_ports top.merged top.numbers top.pins

-- the names of its inputs
abbrev pub top_inputs : Built → List (List ℕ)
top_inputs top = inputs_of (top_ports top)

abbrev pub top_nets : Built → List Entry
top_nets top = spec.top_nets top.merged top.numbers top.pins

abbrev pub top_entries : Built → List Entry
top_entries top = spec.top_entries top.merged top.numbers top.ties top.pins

abbrev pub top_assigns : Built → List Entry
top_assigns top = spec.top_assigns top.merged top.numbers top.pins

abbrev pub instance_wires : Built → ℕ → List Entry
instance_wires top = spec.instance_wires top.merged top.pins

abbrev pub instance_connections : Built → ℕ → List Connection
instance_connections top = spec.instance_connections top.merged top.ties

abbrev pub instance_entry : Built → ℕ → Entry
instance_entry top = spec.instance_entry top.merged top.ties

abbrev pub crossbar_connections : Built → ℕ → List Connection
crossbar_connections top = spec.crossbar_connections top.merged top.ties

abbrev pub crossbar_entry : Built → ℕ → Entry
crossbar_entry top = spec.crossbar_entry top.merged top.ties

-- ---- its nodes

abbrev pub IsNode : MergedTop → NodeId → Type 0
IsNode m n = Among n (all_nodes m)

abbrev pub IsHost : MergedTop → NodeId → Type 0
IsHost m n = IsNode m n × (is_host m n ≡ true)

abbrev pub IsDevice : MergedTop → NodeId → Type 0
IsDevice m n = IsNode m n × (is_host m n ≡ false)

-- a device, and the host in the crossbar that it stands for
abbrev pub Joined : MergedTop → NodeId → NodeId → Type 0
Joined m d k = (y : ℕ) × (end_of m d ≡ Xbar y) × (inner_host m d.xbar y ≡ Some k)

-- a device interface of an instance is there
pub record HasFace (m : MergedTop) (i f : ℕ) : Type 0 where
  pub face : LaidFace
  pub instance_there : i < length m.top.insts
  pub face_is : slice_get (block_of m i).faces f ≡ Some face

-- Nodes stand for what they can: a host for no device interface, a device for no host interface, each interface is named by one
-- device, and a device that stands for a crossbar and a host there that stands for its crossbar are the only ones.
pub record IsJoined (m : MergedTop) : Type 0 where
  pub host_ends : (n : NodeId) → IsHost m n → (i f : ℕ) → end_of m n ≡ Face i f → ⊥
  pub device_ends : (n : NodeId) → IsDevice m n → (i f : ℕ) → end_of m n ≡ Host i f → ⊥
  pub nested_there : (d : NodeId) (y : ℕ) → IsDevice m d → end_of m d ≡ Xbar y → y < length m.xbars
  pub inner_found : (h : NodeId) (x : ℕ) → IsHost m h → end_of m h ≡ Xbar x → inner_host m x h.xbar ≡ Some h
  pub outer_given : (h : NodeId) (x : ℕ) → IsHost m h → end_of m h ≡ Xbar x → (d : NodeId) × (outer_device m x h.xbar ≡ Some d)
  pub outer_found : (d : NodeId) (y : ℕ) → IsDevice m d → end_of m d ≡ Xbar y → outer_device m d.xbar y ≡ Some d
  pub device_found : (d : NodeId) (i f : ℕ) → IsDevice m d → end_of m d ≡ Face i f → device_node m i f ≡ Some d
  -- hosts that stand for no crossbar have names that differ also where they are spelled in nets
  pub hosts_apart : (a b : NodeId) → IsHost m a → IsHost m b → IsPlain (end_of m a) → IsPlain (end_of m b)
      → (host_link (node_of m a).name).request ≡ (host_link (node_of m b).name).request → a ≡ b
  pub face_there : (d : NodeId) (i f : ℕ) → IsDevice m d → end_of m d ≡ Face i f → HasFace m i f

-- no name stands twice: in the top module, and among the ports of each instance
pub record NamesApart (top : Built) : Type 0 where
  pub top_names : Differ (module_names (top_module top))
  pub block_ports : (i : ℕ) → i < length top.merged.top.insts → Differ (connection_names (instance_connections top i))
  pub crossbar_ports : (x : ℕ) → x < length top.merged.xbars → Differ (connection_names (crossbar_connections top x))

-- ---- the modules behind it

-- Module x is crossbar `number` of the top, with these ranges: it has its nodes' ports, and carries requests to the device that has the address.
pub record IsCrossbar (m : MergedTop) (number : ℕ) (x : Module) : Type 0 where
  pub comes : (h : NodeId) → IsHost m h → h.xbar ≡ number → comes_in x (host_link (node_of m h).name) ≡ true
  pub goes : (d : NodeId) → IsDevice m d → d.xbar ≡ number → goes_out x (device_link (node_of m d).name) ≡ true
  pub ranges : List NodeRanges
  pub are_ranges : AreNodeRanges m number ranges
  pub carries : Carries x (crossbar_of m number) ranges

-- each crossbar's module is found by its name, and no block's type is a module's name
pub record HasCrossbars (top : Built) (ms : List Module) : Type 0 where
  pub module_of : ℕ → Module
  pub named : (x : ℕ) → x < length top.merged.xbars → module_named (top_module top ∷ ms) (spec.crossbar_module_name top.merged x) ≡ Some (module_of x)
  pub is : (x : ℕ) → x < length top.merged.xbars → IsCrossbar top.merged x (module_of x)
  pub blocks_unnamed : (i : ℕ) → i < length top.merged.top.insts → module_named (top_module top ∷ ms) (block_of top.merged i).desc.name ≡ None

abbrev pub parameter_names : List Parameter → List (List ℕ)
parameter_names [] = []
parameter_names (p ∷ ps) = p.name ∷ parameter_names ps

-- The register module of an interface is found by its name and acts as the interface's register block; the interface's parameter tells its
-- address bits.
pub record HasRegister (top : Built) (ms : List Module) (i f : ℕ) (h : HasFace top.merged i f) : Type 0 where
  pub registers : Module
  pub named : module_named (top_module top ∷ ms) (register_name (block_of top.merged i).desc.name h.face.name) ≡ Some registers
  pub means : RegisterMeans (register_name (block_of top.merged i).desc.name h.face.name) registers h.face
  pub bits : ℕ
  pub size_is : h.face.size ≡ 2 ^ bits
  pub some : 2 ≤ bits
  pub few : bits ≤ 32
  pub parameters_differ : Differ (parameter_names (map spec.address_width (block_of top.merged i).faces))

abbrev pub HasRegisters : Built → List Module → Type 0
HasRegisters top ms = (i f : ℕ) (h : HasFace top.merged i f) → HasRegister top ms i f h
