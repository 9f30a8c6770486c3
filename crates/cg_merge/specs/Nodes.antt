-- How the rules on nodes are tested: which interface a node means, which nodes stand before it, and which crossbars it joins.
use Rattle.std.specs.Prelude.{◌≡◌, ◌≢◌, ℕ, ◌<◌, Bool, true, false, not, ◌&&◌, ◌||◌, eqb, List, [], length, position, slice_get, take, Option, None, Some}
use Rattle.std.specs.List.{list_any}
use Rattle.std.specs.Str.{bytes_eq}
use Rattle.cg_svspec.specs.Links.{spelled}
use Rattle.cg_svspec.specs.Names.{Among}
use Rattle.cg_desc.specs.Ends.{IsOf, Means, NodeOf, StandsFor, device_interfaces, host_interfaces}
use Rattle.cg_desc.specs.FoundBase.{is_meant}
use Rattle.cg_desc.specs.Top.{Design}
use Rattle.cg_desc.specs.declared.block.LaidBlock.{LaidBlock}
use Rattle.cg_desc.specs.declared.crossbar.NodeDesc.{NodeDesc}
use Rattle.cg_desc.specs.declared.crossbar.XbarDesc.{XbarDesc}
use Rattle.cg_desc.specs.declared.top.InstDesc.{InstDesc}
use Rattle.cg_desc.specs.declared.top.NodeEnd.{NodeEnd}
use Rattle.cg_desc.specs.declared.top.NodeEnd.TheVariants.{Face, Host}
use Rattle.cg_desc.specs.declared.top.XbarUse.{XbarUse}
use Rattle.cg_merge.specs.Violations.{StandsBefore}

-- the same direction
abbrev pub agrees : Bool → Bool → Bool
agrees true b = b
agrees false b = not b

-- a node of this direction that stands for no crossbar means an interface
unfoldable pub is_node_for : Bool → List ℕ → Bool → Option (List ℕ) → NodeDesc → Bool
is_node_for host instance is_sole interface node = agrees host node.host && (not node.xbar && is_meant node.name instance is_sole interface)

-- a node of these crossbars passes, or one of these nodes
unfoldable pub one_before : (NodeDesc → Bool) → List XbarDesc → List NodeDesc → Bool
one_before p xbars nodes = list_any (λ xbar. list_any p xbar.nodes) xbars || list_any p nodes

-- a node means an interface, and one before it does
abbrev pub repeats : Bool → List ℕ → Bool → List XbarDesc → List NodeDesc → NodeDesc → Option (List ℕ) → Bool
repeats host instance is_sole xbars nodes node interface =
    is_node_for host instance is_sole interface node && one_before (is_node_for host instance is_sole interface) xbars nodes

-- a node that stands for no crossbar is spelled so
unfoldable pub is_spelled : List ℕ → NodeDesc → Bool
is_spelled name node = not node.xbar && bytes_eq (spelled node.name) (spelled name)

-- ---- what a node names

-- the names of a block's interfaces of one direction
abbrev pub interface_names : Bool → LaidBlock → List (Option (List ℕ))
interface_names true b = host_interfaces b
interface_names false b = device_interfaces b

-- a node of this direction that stands for no crossbar names interface f of instance i of this direction
pub record Names (d : Design) (host : Bool) (node : NodeDesc) (i f : ℕ) : Type 0 where
  pub direction : node.host ≡ host
  pub plain : node.xbar ≡ false
  pub inst : InstDesc
  pub block : LaidBlock
  pub is : IsOf d i inst block
  pub means : Means inst.name (interface_names host block) node.name f

-- these crossbars and nodes are those that stand before node n of crossbar x
pub record IsBefore (d : Design) (x n : ℕ) (xbars : List XbarDesc) (nodes : List NodeDesc) : Type 0 where
  pub crossbar : XbarDesc
  pub is : slice_get d.xbars x ≡ Some crossbar
  pub crossbars : xbars ≡ take x d.xbars
  pub own : nodes ≡ take n crossbar.nodes

-- node n of crossbar x names an interface of instance i that a node before it names
pub record RepeatsIn (d : Design) (x n : ℕ) (node : NodeDesc) (i : ℕ) : Type 0 where
  pub host : Bool
  pub face : ℕ
  pub names : Names d host node i face
  pub y : ℕ
  pub k : ℕ
  pub earlier : NodeDesc
  pub before : StandsBefore y k x n
  pub is : NodeOf d y k earlier
  pub also : Names d host earlier i face

-- of some instance
pub record Repeats (d : Design) (x n : ℕ) (node : NodeDesc) : Type 0 where
  pub i : ℕ
  pub repeats : RepeatsIn d x n node i

-- a node of an earlier crossbar is spelled so, where both stand for no crossbar
pub record SpelledBefore (d : Design) (x : ℕ) (node : NodeDesc) : Type 0 where
  pub y : ℕ
  pub k : ℕ
  pub earlier : NodeDesc
  pub before : y < x
  pub is : NodeOf d y k earlier
  pub plain : earlier.xbar ≡ false
  pub also : node.xbar ≡ false
  pub spelled_so : spelled earlier.name ≡ spelled node.name

-- a device that stands for a crossbar of another space
pub record IsElsewhere (d : Design) (x : ℕ) (node : NodeDesc) : Type 0 where
  pub outer : XbarUse
  pub inner : XbarUse
  pub device : node.host ≡ false
  pub nested : node.xbar ≡ true
  pub listed : slice_get d.top.xbars x ≡ Some outer
  pub among : Among inner d.top.xbars
  pub named : inner.name ≡ node.name
  pub differ : outer.space ≢ inner.space

-- ---- crossbars that are joined

-- a partner of a node in crossbar `outer`: it stands for that crossbar, and is of the other direction
unfoldable pub is_partner : List ℕ → NodeDesc → NodeDesc → Bool
is_partner outer node partner = partner.xbar && (agrees (not node.host) partner.host && bytes_eq partner.name outer)

-- a node in crossbar `outer` names a crossbar that has a partner of it
unfoldable pub joins : List ℕ → NodeDesc → XbarDesc → Bool
joins outer node inner = bytes_eq node.name inner.name && list_any (is_partner outer node) inner.nodes

-- ---- what is found of a node

-- the number of the first interface of this direction, of an instance of a block, that a node names
abbrev pub interface_of : Bool → InstDesc → LaidBlock → NodeDesc → Option ℕ
interface_of true inst block node = position (λ face. is_node_for true inst.name (eqb (length block.desc.hosts) 1) face.name node) block.desc.hosts
interface_of false inst block node = position (λ face. is_node_for false inst.name (eqb (length block.faces) 1) face.name node) block.faces

-- the end at an interface of this direction of instance i, if there is the interface
abbrev pub end_for : Bool → ℕ → Option ℕ → Option NodeEnd
end_for host i None = None
end_for true i (Some f) = Some (Host i f)
end_for false i (Some f) = Some (Face i f)

-- An instance has no interface that the node names, or it stands for one of them.
abbrev pub EndsIn : Design → NodeDesc → ℕ → Option NodeEnd → Type 0
EndsIn d node i None = (host : Bool) (f : ℕ) → Names d host node i f → ⊥
EndsIn d node i (Some e) = (x : ℕ) → StandsFor d x node e

-- a device that names no interface and has no range
abbrev pub NamesNothing : Design → NodeDesc → Type 0
NamesNothing d node = (node.host ≡ false) × ((node.ranges ≡ []) × ((i : ℕ) × ((f : ℕ) × Names d false node i f) → ⊥))
