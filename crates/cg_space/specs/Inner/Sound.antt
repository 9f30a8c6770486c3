-- What this crate needs of a merged top: each number names a thing that is there.
use Rattle.std.specs.Prelude.{◌≡◌, ℕ, ◌^◌, ◌≤◌, false, true, length, slice_get, Some}
use Rattle.cg_svspec.specs.Printable.{AllOf}
use Rattle.cg_desc.specs.Crossbar.{IsValidCrossbar}
use Rattle.cg_desc.specs.Ends.{CrossbarIs}
use Rattle.cg_desc.specs.Merged.{design_of, NodeAt, EndAt, FaceAt, BaseIs, IsMerged}
use Rattle.cg_desc.specs.Reach.{IsInnerHost}
use Rattle.cg_desc.specs.declared.block.LaidFace.{LaidFace}
use Rattle.cg_desc.specs.declared.crossbar.NodeDesc.{NodeDesc}
use Rattle.cg_desc.specs.declared.crossbar.XbarDesc.{XbarDesc}
use Rattle.cg_desc.specs.declared.top.MergedTop.{MergedTop}
use Rattle.cg_desc.specs.declared.top.NodeEnd.TheVariants.{Face, Host, Xbar}
use Rattle.cg_desc.specs.declared.top.XbarEnds.{XbarEnds}

-- crossbar x has a node of this number
abbrev pub HasNode : MergedTop → ℕ → ℕ → Type 0
HasNode m x n = (node : NodeDesc) × NodeAt m x n node

-- node n of crossbar x is a device
abbrev pub IsDeviceAt : MergedTop → ℕ → ℕ → Type 0
IsDeviceAt m x n = (node : NodeDesc) × NodeAt m x n node × (node.host ≡ false)

-- node n of crossbar x is a host
abbrev pub IsHostAt : MergedTop → ℕ → ℕ → Type 0
IsHostAt m x n = (node : NodeDesc) × NodeAt m x n node × (node.host ≡ true)

-- node n is a device that stands for crossbar y
abbrev pub IsNestedAt : MergedTop → ℕ → ℕ → ℕ → Type 0
IsNestedAt m x n y = IsDeviceAt m x n × EndAt m x n (Xbar y)

pub record IsSound (m : MergedTop) : Type 0 where
  pub few : length m.xbars ≤ 16
  pub crossbars : AllOf IsValidCrossbar m.xbars
  pub count : length m.ends ≡ length m.xbars
  pub counts : (x : ℕ) (xbar : XbarDesc) (ends : XbarEnds) → CrossbarIs (design_of m) x xbar → slice_get m.ends x ≡ Some ends → length ends.ends ≡ length xbar.nodes
  pub faces : (x n i f : ℕ) → EndAt m x n (Face i f) → IsMerged m × (face : LaidFace) × FaceAt m i f face × (face.size ≤ 2 ^ 24)
  pub hosts : (x n i f : ℕ) → EndAt m x n (Host i f) → ¬ IsDeviceAt m x n
  pub inner : (x n y : ℕ) → IsNestedAt m x n y → (k : ℕ) × (host : NodeDesc) × IsInnerHost m x y k host
  pub one_inner : (x y k l : ℕ) (a b : NodeDesc) → IsInnerHost m x y k a → IsInnerHost m x y l b → k ≡ l
  pub one_base : (i f a b : ℕ) → BaseIs m i f a → BaseIs m i f b → a ≡ b
