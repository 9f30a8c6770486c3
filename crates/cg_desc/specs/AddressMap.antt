-- The address map of a top: what each address is for each host (OpenTitan Top Generation Tool).
use Rattle.std.specs.Prelude.{◌≡◌, ℕ, ◌+◌, ◌-◌, ◌/◌, ◌≤◌, ◌<◌, slice_get, Some}
use Rattle.cg_svspec.specs.Names.{Among}
use Rattle.cg_desc.specs.Merged.{NodeAt, EndAt, FaceAt, BaseIs}
use Rattle.cg_desc.specs.Ranges.{RangeHolds}
use Rattle.cg_desc.specs.Reach.{Reaches}
use Rattle.cg_desc.specs.Target.{aligned, row_end}
use Rattle.cg_desc.specs.declared.address.Place.{Place}
use Rattle.cg_desc.specs.declared.address.Place.TheVariants.{Reg as register_at, Word as word_at, Outside as outside_at, Error}
use Rattle.cg_desc.specs.declared.block.Item.TheVariants.{Reg, Window}
use Rattle.cg_desc.specs.declared.block.LaidFace.{LaidFace}
use Rattle.cg_desc.specs.declared.block.LaidRow.{LaidRow}
use Rattle.cg_desc.specs.declared.block.RegDesc.{RegDesc}
use Rattle.cg_desc.specs.declared.block.WindowDesc.{WindowDesc}
use Rattle.cg_desc.specs.declared.crossbar.NodeDesc.{NodeDesc}
use Rattle.cg_desc.specs.declared.crossbar.Range.{Range}
use Rattle.cg_desc.specs.declared.top.MergedTop.{MergedTop}
use Rattle.cg_desc.specs.declared.top.NodeEnd.TheVariants.{Face, Outside}

-- host h of crossbar x reaches device interface f of instance i, which has this base
pub record ReachesFace (m : MergedTop) (x h i f base : ℕ) (face : LaidFace) : Type 0 where
  pub z : ℕ
  pub d : ℕ
  pub reaches : Reaches m x h z d
  pub stands : EndAt m z d (Face i f)
  pub face_is : FaceAt m i f face
  pub base_is : BaseIs m i f base

-- a row of an interface with this base holds the address, whose low two bits do not count
pub record HoldsFrom (base : ℕ) (row : LaidRow) (address : ℕ) : Type 0 where
  pub from_start : base + row.first ≤ aligned address
  pub before_end : aligned address < base + row_end row

-- For host h of crossbar x this stands at the address: a register of an interface that it reaches, a word of a window there, or a device
-- outside that it reaches.
pub data StandsAt (m : MergedTop) (x h address : ℕ) : Place → Type 0 where
  at_register : (i f r base : ℕ) (face : LaidFace) (row : LaidRow) (reg : RegDesc) → ReachesFace m x h i f base face → slice_get face.rows r ≡ Some row → row.item ≡ Reg reg
      → HoldsFrom base row address → StandsAt m x h address (register_at i f r)
  at_word : (i f r base : ℕ) (face : LaidFace) (row : LaidRow) (w : WindowDesc) → ReachesFace m x h i f base face → slice_get face.rows r ≡ Some row → row.item ≡ Window w
      → HoldsFrom base row address → StandsAt m x h address (word_at i f r ((aligned address - (base + row.first)) / 4))
  at_outside : (z d : ℕ) (node : NodeDesc) (range : Range) → Reaches m x h z d → NodeAt m z d node → EndAt m z d Outside → Among range node.ranges
      → RangeHolds range (aligned address) → StandsAt m x h address (outside_at z d)

-- what the address is for the host: what stands there, and an error where nothing does
pub data IsPlaceFor (m : MergedTop) (x h address : ℕ) : Place → Type 0 where
  there : (place : Place) → StandsAt m x h address place → IsPlaceFor m x h address place
  nowhere : ((place : Place) → StandsAt m x h address place → ⊥) → IsPlaceFor m x h address Error
