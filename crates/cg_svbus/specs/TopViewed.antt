-- What stands for a top in the code: its nodes and lists of names; and the cases of its definitions as the code meets them.
use Rattle.std.specs.Prelude.{◌≡◌, ℕ, zero, suc, Bool, true, false, not, List, [], ◌∷◌, ◌++◌, codes, get_or, map, Option, Some, None}
use Rattle.cg_desc.specs.declared.block.IntrDesc.{IntrDesc}
use Rattle.cg_desc.specs.declared.block.IoDesc.{IoDesc}
use Rattle.cg_desc.specs.declared.top.MergedTop.{MergedTop}
use Rattle.cg_desc.specs.declared.top.NodeEnd.{NodeEnd}
use Rattle.cg_desc.specs.declared.top.NodeEnd.TheVariants.{Face, Host, Xbar, Outside}
use Rattle.cg_irq.specs.declared.bits.Bit.{Bit}
use Rattle.cg_svbus.specs.declared.top.TopNumbers.{TopNumbers}
use Rattle.cg_svbus.specs.declared.top_lists.NameList.{NameList}
use Rattle.cg_svbus.specs.declared.top_nodes.TopNode.{TopNode}
use Rattle.cg_svspec.specs.Tree.{Port}
use Rattle.cg_topspec.specs.Nets.{Pin, no_interrupt}
use Rattle.cg_topspec.specs.Top.{NodeId, node_id, is_host, block_of, instance_numbers, crossbar_numbers, all_nodes, ordered}

-- the node for which a value stands
abbrev pub node_id_of : TopNode → NodeId
node_id_of n = node_id n.xbar n.node

-- the node is a host, or a device
abbrev pub is_kind : MergedTop → Bool → NodeId → Bool
is_kind m true = is_host m
is_kind m false = λ n. not (is_host m n)

-- a port with so many bits, where there are any
abbrev pub counted_port : (ℕ → List ℕ → Port) → List ℕ → ℕ → List Port
counted_port port name zero = []
counted_port port name (suc n) = port (suc n) name ∷ []

-- the net of an instance's interrupt or alert, and that of its port that goes to pins
abbrev pub item_net : List ℕ → List ℕ → List ℕ → List ℕ
item_net start inst item = start ++ (inst ++ (codes "_" ++ item))

abbrev pub pin_net : List ℕ → List ℕ → List ℕ → List ℕ
pin_net inst port end = codes "p_" ++ (inst ++ (codes "_" ++ (port ++ end)))

-- the interrupt of a bit
abbrev pub interrupt_of : MergedTop → Bit → IntrDesc
interrupt_of m b = get_or (block_of m b.inst).desc.intrs b.item no_interrupt

-- a node in the top has wires, but for a host that stands for an outer crossbar
abbrev pub has_wires : Bool → NodeEnd → Bool
has_wires host Outside = false
has_wires host (Xbar x) = not host
has_wires host (Face i f) = true
has_wires host (Host i f) = true

-- a port with its number
abbrev pub pin : ℕ → IoDesc → Pin
pin number port = record { number = number; port = port }

-- a port of an interface: the plain name, or the interface's name with an end
abbrev pub face_port : List ℕ → List ℕ → Option (List ℕ) → List ℕ
face_port plain end None = plain
face_port plain end (Some f) = f ++ end

-- ---- names

-- the names of a list
abbrev pub names_of : NameList → List (List ℕ)
names_of l = l.names

-- ---- numbers

-- the numbers of all instances and crossbars, and all nodes in both orders
pub record AreNumbersOf (m : MergedTop) (n : TopNumbers) : Type 0 where
  pub insts : n.insts.items ≡ instance_numbers m
  pub xbars : n.xbars.items ≡ crossbar_numbers m
  pub all : map node_id_of n.all.items ≡ all_nodes m
  pub ordered : map node_id_of n.ordered.items ≡ ordered m
