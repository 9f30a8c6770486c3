-- What a merged top breaks of the rules on nested crossbars and ranges, each as a fact with its file, its place and its name (OpenTitan
-- Top Generation Tool, Crossbar Tool).
use Rattle.std.specs.Prelude.{◌≡◌, ◌⊎◌, ℕ, ◌<◌, false, List, []}
use Rattle.cg_svspec.specs.Names.{Among}
use Rattle.cg_desc.specs.Crossbar.{NodeIs, Connects}
use Rattle.cg_desc.specs.Ends.{CrossbarIs}
use Rattle.cg_desc.specs.Merged.{design_of, EndAt}
use Rattle.cg_desc.specs.Ranges.{SomeHolds, IsRange}
use Rattle.cg_desc.specs.Reach.{Leads, NoCircle, HasRanges}
use Rattle.cg_desc.specs.declared.crossbar.NodeDesc.{NodeDesc}
use Rattle.cg_desc.specs.declared.crossbar.Range.{Range}
use Rattle.cg_desc.specs.declared.crossbar.XbarDesc.{XbarDesc}
use Rattle.cg_desc.specs.declared.fault.Fault.{Fault}
use Rattle.cg_desc.specs.declared.top.MergedTop.{MergedTop}
use Rattle.cg_desc.specs.declared.top.NodeEnd.TheVariants.{Xbar}
use Rattle.cg_finding.specs.Finding.{in_file}
use Rattle.cg_finding.specs.Rules as rules
use Rattle.cg_space.specs.Shared.{SharesAt}

-- node n of crossbar x is this device
pub record DeviceAt (m : MergedTop) (x n : ℕ) (xbar : XbarDesc) (node : NodeDesc) : Type 0 where
  pub crossbar_is : CrossbarIs (design_of m) x xbar
  pub is : NodeIs xbar n node
  pub is_device : node.host ≡ false

-- ---- nested crossbars

-- the device stands for a crossbar that leads back to the device's own
pub record IsInCircle (m : MergedTop) (x n : ℕ) : Type 0 where
  pub inner : ℕ
  pub stands : EndAt m x n (Xbar inner)
  pub back : Leads m inner x

-- ---- ranges

-- there is no range, or one of a wrong shape
abbrev pub IsBadList : List Range → Type 0
IsBadList ranges = (ranges ≡ []) ⊎ ((r : Range) × Among r ranges × ¬ IsRange r)

-- the device has such ranges
abbrev pub HasBadRanges : MergedTop → ℕ → ℕ → Type 0
HasBadRanges m x n = (ranges : List Range) × HasRanges m x n ranges × IsBadList ranges

-- a range of the list shares an address with an earlier one
abbrev pub ShareWithin : List Range → Type 0
ShareWithin ranges = (j : ℕ) × SharesAt ranges j

-- a range of device n of crossbar x shares an address with one of an earlier device there, to which a host connects that connects to both
pub record SharesWithEarlier (m : MergedTop) (x n : ℕ) (xbar : XbarDesc) (ranges : List Range) : Type 0 where
  pub device : ℕ
  pub order : device < n
  pub its_ranges : List Range
  pub has : HasRanges m x device its_ranges
  pub host : ℕ
  pub to_earlier : Connects xbar host device
  pub to_later : Connects xbar host n
  pub address : ℕ
  pub earlier_holds : SomeHolds its_ranges address
  pub later_holds : SomeHolds ranges address

-- the device has a range that shares an address with another that a host reaches too
abbrev pub HasSharedRange : MergedTop → ℕ → ℕ → XbarDesc → Type 0
HasSharedRange m x n xbar = (ranges : List Range) × HasRanges m x n ranges × (ShareWithin ranges ⊎ SharesWithEarlier m x n xbar ranges)

-- ---- all of them

-- What a merged top breaks of these rules: 56, and 54 and 55 where there is no circle in it. Each is told at a device, in its crossbar's file.
pub data Violates (m : MergedTop) : Fault → Type 0 where
  circle : (x n : ℕ) (xbar : XbarDesc) (node : NodeDesc) → DeviceAt m x n xbar node → IsInCircle m x n
      → Violates m (in_file xbar.file (rules.crossbars_in_a_circle node.at node.name))
  bad_range : (x n : ℕ) (xbar : XbarDesc) (node : NodeDesc) → NoCircle m → DeviceAt m x n xbar node → HasBadRanges m x n
      → Violates m (in_file xbar.file (rules.bad_range node.at node.name))
  overlap : (x n : ℕ) (xbar : XbarDesc) (node : NodeDesc) → NoCircle m → DeviceAt m x n xbar node → HasSharedRange m x n xbar
      → Violates m (in_file xbar.file (rules.ranges_overlap node.at node.name))

-- nothing is broken
abbrev pub NoViolation : MergedTop → Type 0
NoViolation m = (f : Fault) → ¬ Violates m f
