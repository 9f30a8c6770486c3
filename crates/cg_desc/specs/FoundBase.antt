-- How the base of a device interface is looked for, by its instance and its interfaces.
use Rattle.std.specs.Prelude.{ℕ, Bool, not, ◌&&◌, ◌||◌, List, ◌∷◌, ◌++◌, position, slice_get, Option, Some, None}
use Rattle.std.specs.List.{list_any}
use Rattle.std.specs.Str.{bytes_eq}
use Rattle.cg_desc.specs.Bases.{base_in, has_one_face}
use Rattle.cg_desc.specs.declared.block.LaidBlock.{LaidBlock}
use Rattle.cg_desc.specs.declared.block.LaidFace.{LaidFace}
use Rattle.cg_desc.specs.declared.crossbar.NodeDesc.{NodeDesc}
use Rattle.cg_desc.specs.declared.crossbar.XbarDesc.{XbarDesc}
use Rattle.cg_desc.specs.declared.top.InstDesc.{InstDesc}
use Rattle.cg_desc.specs.declared.top.TopDesc.{TopDesc}
use Rattle.cg_desc.specs.declared.top.SpaceDesc.{SpaceDesc}
use Rattle.cg_desc.specs.declared.top.XbarUse.{XbarUse}
use Rattle.cg_desc.specs.declared.top.MergedTop.{MergedTop}

-- a node's name means the interface of an instance that has this name, or none, and is the only one of its direction or not
unfoldable pub is_meant : List ℕ → List ℕ → Bool → Option (List ℕ) → Bool
is_meant name instance is_sole None = bytes_eq name instance
is_meant name instance is_sole (Some interface) = (is_sole && bytes_eq name instance) || bytes_eq name (instance ++ (46 ∷ interface))

-- a device that stands for no crossbar means it
unfoldable pub is_device_for : List ℕ → Bool → Option (List ℕ) → NodeDesc → Bool
is_device_for instance is_sole interface node = not node.host && (not node.xbar && is_meant node.name instance is_sole interface)

-- a node of the crossbar means it
unfoldable pub has_device_for : List ℕ → Bool → Option (List ℕ) → XbarDesc → Bool
has_device_for instance is_sole interface xbar = list_any (is_device_for instance is_sole interface) xbar.nodes

-- the name of the first space
unfoldable pub name_of_space : Option SpaceDesc → Option (List ℕ)
name_of_space None = None
name_of_space (Some space) = Some space.name

-- the space of a crossbar that is listed
unfoldable pub space_of_use : Option XbarUse → Option (List ℕ)
space_of_use None = None
space_of_use (Some listed) = Some listed.space

-- the space of the crossbar of this number, and the first space where there is none
unfoldable pub space_at : TopDesc → Option ℕ → Option (List ℕ)
space_at top None = name_of_space (slice_get top.spaces 0)
space_at top (Some x) = space_of_use (slice_get top.xbars x)

-- the base in a space, if there is the space
unfoldable pub base_at : InstDesc → Bool → Option (List ℕ) → Option (List ℕ) → Option ℕ
base_at inst is_sole interface None = None
base_at inst is_sole interface (Some space) = base_in inst is_sole interface space

-- the space of an interface of an instance
unfoldable pub space_for : MergedTop → InstDesc → Bool → Option (List ℕ) → Option (List ℕ)
space_for m inst is_sole interface = space_at m.top (position (has_device_for inst.name is_sole interface) m.xbars)

-- the block of this number
unfoldable pub block_at : List LaidBlock → Option ℕ → Option LaidBlock
block_at blocks None = None
block_at blocks (Some k) = slice_get blocks k

-- the block of an instance
unfoldable pub block_of : MergedTop → ℕ → Option LaidBlock
block_of m i = block_at m.blocks (slice_get m.kinds i)

-- the base of an interface of an instance of a block, if they are there
unfoldable pub found_in : MergedTop → Option InstDesc → LaidBlock → Option LaidFace → Option ℕ
found_in m None block face = None
found_in m (Some inst) block None = None
found_in m (Some inst) block (Some face) = base_at inst (has_one_face block) face.name (space_for m inst (has_one_face block) face.name)

-- the base of device interface f of an instance of a block, if there is the block
unfoldable pub found_of : MergedTop → Option InstDesc → Option LaidBlock → ℕ → Option ℕ
found_of m inst None f = None
found_of m inst (Some block) f = found_in m inst block (slice_get block.faces f)

-- the base of device interface f of instance i
unfoldable pub found_base : MergedTop → ℕ → ℕ → Option ℕ
found_base m i f = found_of m (slice_get m.top.insts i) (block_of m i) f
