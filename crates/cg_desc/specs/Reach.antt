-- Which devices a host reaches, over nested crossbars too, and the ranges of each device (OpenTitan Top Generation Tool, Crossbar Tool).
use Rattle.std.specs.Prelude.{◌≡◌, ℕ, true, false, List, [], ◌∷◌, ◌++◌}
use Rattle.cg_svspec.specs.Names.{Among}
use Rattle.cg_desc.specs.Merged.{NodeAt, EndAt, FaceAt, BaseIs}
use Rattle.cg_desc.specs.declared.block.LaidFace.{LaidFace}
use Rattle.cg_desc.specs.declared.crossbar.NodeDesc.{NodeDesc}
use Rattle.cg_desc.specs.declared.crossbar.Range.{Range}
use Rattle.cg_desc.specs.declared.top.MergedTop.{MergedTop}
use Rattle.cg_desc.specs.declared.top.NodeEnd.{NodeEnd}
use Rattle.cg_desc.specs.declared.top.NodeEnd.TheVariants.{Face, Host, Xbar, Outside}

-- the node stands for no crossbar
abbrev pub IsPlain : NodeEnd → Type 0
IsPlain (Xbar y) = ⊥
IsPlain _ = Unit {0}

-- node h of crossbar x is a host that connects to device d there
pub record ConnectsAt (m : MergedTop) (x h d : ℕ) : Type 0 where
  pub host : NodeDesc
  pub is : NodeAt m x h host
  pub is_host : host.host ≡ true
  pub connects : Among d host.to

-- node k of crossbar y is the host there that stands for crossbar x
pub record IsInnerHost (m : MergedTop) (x y k : ℕ) (host : NodeDesc) : Type 0 where
  pub is : NodeAt m y k host
  pub is_host : host.host ≡ true
  pub stands : EndAt m y k (Xbar x)

-- ---- reach

-- Host h of crossbar x reaches device e of crossbar z, which stands for no crossbar: the devices that it connects to, and behind those that
-- stand for a crossbar all that the host there reaches that stands for the crossbar in front.
pub data Reaches (m : MergedTop) : ℕ → ℕ → ℕ → ℕ → Type 0 where
  straight : {x h d : ℕ} (e : NodeEnd) → ConnectsAt m x h d → EndAt m x d e → IsPlain e → Reaches m x h x d
  nested : {x h z e : ℕ} (d y k : ℕ) (host : NodeDesc) → ConnectsAt m x h d → EndAt m x d (Xbar y) → IsInnerHost m x y k host → Reaches m y k z e → Reaches m x h z e

-- ---- circles

-- a device of crossbar x stands for crossbar y
pub record Nests (m : MergedTop) (x y : ℕ) : Type 0 where
  pub number : ℕ
  pub device : NodeDesc
  pub is : NodeAt m x number device
  pub is_device : device.host ≡ false
  pub stands : EndAt m x number (Xbar y)

-- over devices that stand for crossbars one comes from crossbar x to crossbar y
pub data Leads (m : MergedTop) : ℕ → ℕ → Type 0 where
  itself : {x : ℕ} → Leads m x x
  onward : {x z : ℕ} (y : ℕ) → Nests m x y → Leads m y z → Leads m x z

-- no crossbar leads back to itself
abbrev pub NoCircle : MergedTop → Type 0
NoCircle m = (x y : ℕ) → Nests m x y → Leads m y x → ⊥

-- ---- ranges

mutual
  -- Device n of crossbar x has these ranges: an interface has one, of its base and size; one that stands for a crossbar has those of the
  -- devices to which the host there connects, in the order of its connections; and any other has those that are written.
  pub data HasRanges (m : MergedTop) : ℕ → ℕ → List Range → Type 0 where
    interface : {x n : ℕ} (i f base : ℕ) (face : LaidFace) → EndAt m x n (Face i f) → FaceAt m i f face → BaseIs m i f base
        → HasRanges m x n (record { base = base; size = face.size } ∷ [])
    outside : {x n : ℕ} (node : NodeDesc) → NodeAt m x n node → EndAt m x n Outside → HasRanges m x n node.ranges
    nested : {x n : ℕ} {rs : List Range} (y k : ℕ) (host : NodeDesc) → EndAt m x n (Xbar y) → IsInnerHost m x y k host → HaveRanges m y host.to rs → HasRanges m x n rs

  -- these devices of crossbar x have these ranges, one after the other
  pub data HaveRanges (m : MergedTop) : ℕ → List ℕ → List Range → Type 0 where
    nothing : {x : ℕ} → HaveRanges m x [] []
    more : {x : ℕ} {ds : List ℕ} {rs ss : List Range} (d : ℕ) → HasRanges m x d rs → HaveRanges m x ds ss → HaveRanges m x (d ∷ ds) (rs ++ ss)
