-- What the nodes of a top's crossbars stand for (OpenTitan Top Generation Tool, Crossbar Tool).
use Rattle.std.specs.Prelude.{◌≡◌, ℕ, not, true, false, List, [], ◌∷◌, ◌++◌, length, map, slice_get, Option, Some, None}
use Rattle.cg_svspec.specs.Names.{Among}
use Rattle.cg_desc.specs.Crossbar.{NodeIs}
use Rattle.cg_desc.specs.Top.{Design}
use Rattle.cg_desc.specs.declared.block.LaidBlock.{LaidBlock}
use Rattle.cg_desc.specs.declared.block.LaidFace.{LaidFace}
use Rattle.cg_desc.specs.declared.crossbar.NodeDesc.{NodeDesc}
use Rattle.cg_desc.specs.declared.crossbar.XbarDesc.{XbarDesc}
use Rattle.cg_desc.specs.declared.top.InstDesc.{InstDesc}
use Rattle.cg_desc.specs.declared.top.NodeEnd.{NodeEnd}
use Rattle.cg_desc.specs.declared.top.NodeEnd.TheVariants.{Face, Host, Xbar, Outside}

-- ---- things of a design by their numbers

-- instance i is this one
abbrev pub InstanceIs : Design → ℕ → InstDesc → Type 0
InstanceIs d i inst = slice_get d.top.insts i ≡ Some inst

-- crossbar x is this one
abbrev pub CrossbarIs : Design → ℕ → XbarDesc → Type 0
CrossbarIs d x xbar = slice_get d.xbars x ≡ Some xbar

-- block k is the one of this type
pub record BlockIs (d : Design) (kind : List ℕ) (k : ℕ) (block : LaidBlock) : Type 0 where
  pub is : slice_get d.blocks k ≡ Some block
  pub named : block.desc.name ≡ kind

-- instance i is this one, of this block
pub record IsOf (d : Design) (i : ℕ) (inst : InstDesc) (block : LaidBlock) : Type 0 where
  pub instance : InstanceIs d i inst
  pub number : ℕ
  pub block_is : BlockIs d inst.kind number block

-- node n of crossbar x is this one
pub record NodeOf (d : Design) (x n : ℕ) (node : NodeDesc) : Type 0 where
  pub crossbar : XbarDesc
  pub crossbar_is : CrossbarIs d x crossbar
  pub is : NodeIs crossbar n node

-- ---- interfaces

-- the names of a block's device interfaces, and of its host interfaces, as far as they have one
abbrev pub device_interfaces : LaidBlock → List (Option (List ℕ))
device_interfaces b = map (λ f. f.name) b.faces

abbrev pub host_interfaces : LaidBlock → List (Option (List ℕ))
host_interfaces b = map (λ h. h.name) b.desc.hosts

-- Of an instance with these interfaces of one direction, a node's name means the one of number f: `instance.interface` the one of that
-- name, and `instance` the one without a name, or the only one.
pub data Means (instance : List ℕ) (interfaces : List (Option (List ℕ))) : List ℕ → ℕ → Type 0 where
  by_name : (f : ℕ) (interface : List ℕ) → slice_get interfaces f ≡ Some (Some interface) → Means instance interfaces (instance ++ (46 ∷ interface)) f
  without_name : (f : ℕ) → slice_get interfaces f ≡ Some None → Means instance interfaces instance f
  only_one : length interfaces ≡ 1 → Means instance interfaces instance 0

-- A node that stands for no crossbar names interface f of instance i: a device a device interface, and a host a host interface.
pub record NamesFace (d : Design) (node : NodeDesc) (i f : ℕ) : Type 0 where
  pub device : node.host ≡ false
  pub plain : node.xbar ≡ false
  pub inst : InstDesc
  pub block : LaidBlock
  pub is : IsOf d i inst block
  pub means : Means inst.name (device_interfaces block) node.name f

pub record NamesHost (d : Design) (node : NodeDesc) (i f : ℕ) : Type 0 where
  pub host : node.host ≡ true
  pub plain : node.xbar ≡ false
  pub inst : InstDesc
  pub block : LaidBlock
  pub is : IsOf d i inst block
  pub means : Means inst.name (host_interfaces block) node.name f

-- ---- nested crossbars

-- A node with `xbar` in crossbar x names crossbar y, in which a node with `xbar` of the other direction names crossbar x.
pub record Joins (d : Design) (x : ℕ) (node : NodeDesc) (y : ℕ) : Type 0 where
  pub nested : node.xbar ≡ true
  pub outer : XbarDesc
  pub outer_is : CrossbarIs d x outer
  pub inner : XbarDesc
  pub inner_is : CrossbarIs d y inner
  pub names : node.name ≡ inner.name
  pub partner : NodeDesc
  pub partner_there : Among partner inner.nodes
  pub partner_nested : partner.xbar ≡ true
  pub partner_faces : partner.host ≡ not node.host
  pub partner_names : partner.name ≡ outer.name

-- ---- ends

-- What node n of crossbar x stands for: the interface that it names, the crossbar that it joins, or nothing in the top.
pub data StandsFor (d : Design) (x : ℕ) (node : NodeDesc) : NodeEnd → Type 0 where
  device_interface : (i f : ℕ) → NamesFace d node i f → StandsFor d x node (Face i f)
  host_interface : (i f : ℕ) → NamesHost d node i f → StandsFor d x node (Host i f)
  crossbar : (y : ℕ) → Joins d x node y → StandsFor d x node (Xbar y)
  outside : ((i f : ℕ) → NamesFace d node i f → ⊥) → ((i f : ℕ) → NamesHost d node i f → ⊥) → ((y : ℕ) → Joins d x node y → ⊥) → StandsFor d x node Outside
