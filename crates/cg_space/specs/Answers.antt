-- What the calls on a merged top answer.
use Rattle.std.specs.Prelude.{◌≡◌, ℕ, false, true, List, [], length, Result, Ok, Err}
use Rattle.cg_desc.specs.Ends.{CrossbarIs}
use Rattle.cg_desc.specs.Merged.{design_of, NodeAt}
use Rattle.cg_desc.specs.Ranges.{RangesAre}
use Rattle.cg_desc.specs.Reach.{HasRanges}
use Rattle.cg_desc.specs.declared.crossbar.NodeDesc.{NodeDesc}
use Rattle.cg_desc.specs.declared.crossbar.NodeRanges.{NodeRanges}
use Rattle.cg_desc.specs.declared.crossbar.XbarDesc.{XbarDesc}
use Rattle.cg_desc.specs.declared.fault.DescFault.{DescFault}
use Rattle.cg_desc.specs.declared.fault.DescFault.TheVariants.{Fault, Memory}
use Rattle.cg_desc.specs.declared.top.MergedTop.{MergedTop}
use Rattle.cg_finding.specs.Violations.{IsFirstFault}
use Rattle.cg_space.specs.Violations.{NoViolation, Violates}

-- a value of this kind, where nothing is broken; or a refusal that names the first that is broken. Want of memory says nothing.
abbrev pub Answers : {X : Type 0} → Result X DescFault → MergedTop → (X → Type 0) → Type 0
Answers (Ok x) m IsRight = NoViolation m × IsRight x
Answers (Err (Fault fault)) m IsRight = IsFirstFault (Violates m) fault
Answers (Err Memory) m IsRight = Unit {0}

-- An entry for each node of crossbar x: a device has its ranges, and a host has none.
pub record AreNodeRanges (m : MergedTop) (x : ℕ) (entries : List NodeRanges) : Type 0 where
  pub count : (xbar : XbarDesc) → CrossbarIs (design_of m) x xbar → length entries ≡ length xbar.nodes
  pub devices : (n : ℕ) (node : NodeDesc) (entry : NodeRanges) → NodeAt m x n node → node.host ≡ false → RangesAre entries n entry → HasRanges m x n entry.ranges
  pub hosts : (n : ℕ) (node : NodeDesc) (entry : NodeRanges) → NodeAt m x n node → node.host ≡ true → RangesAre entries n entry → entry.ranges ≡ []
