-- Ports that have no source, or one that the top does not have.
use Rattle.std.specs.Prelude.{◌≡◌, ℕ, List, slice_get, Some, Result, Ok, Err}
use Rattle.cg_svspec.specs.Names.{Among}
use Rattle.cg_desc.specs.Ends.{InstanceIs}
use Rattle.cg_desc.specs.Merged.{design_of}
use Rattle.cg_desc.specs.declared.fault.DescFault.{DescFault}
use Rattle.cg_desc.specs.declared.fault.DescFault.TheVariants as refusal
use Rattle.cg_desc.specs.declared.fault.Fault.{Fault}
use Rattle.cg_desc.specs.declared.top.InstDesc.{InstDesc}
use Rattle.cg_desc.specs.declared.top.MergedTop.{MergedTop}
use Rattle.cg_desc.specs.declared.top.XbarUse.{XbarUse}
use Rattle.cg_finding.specs.Finding.{in_file}
use Rattle.cg_finding.specs.Rules as rules
use Rattle.cg_finding.specs.Violations.{IsFirstFault}
use Rattle.cg_clkrst.specs.Ports.{TiePort, clock_of, reset_of, uses_of}
use Rattle.cg_clkrst.specs.Ties.{AreTies, HasSource}
use Rattle.cg_clkrst.specs.declared.tie.Owner.TheVariants.{Inst, Xbar}
use Rattle.cg_clkrst.specs.declared.tie.Tie.{Tie}

-- a port that is used has no source that the top has
pub record LacksSource (m : MergedTop) (port : TiePort) : Type 0 where
  pub used : Among port (uses_of m)
  pub none : (source : List ℕ) → HasSource m port source → ⊥

-- What a top breaks: a clock or a reset port lacks its source, told at the name of the instance or of the listed crossbar.
pub data Violates (m : MergedTop) : Fault → Type 0 where
  instance_clock : (i : ℕ) (inst : InstDesc) (port : List ℕ) → InstanceIs (design_of m) i inst → LacksSource m (clock_of (Inst i) port)
      → Violates m (in_file m.top.file (rules.bad_clock inst.at port))
  instance_reset : (i : ℕ) (inst : InstDesc) (port : List ℕ) → InstanceIs (design_of m) i inst → LacksSource m (reset_of (Inst i) port)
      → Violates m (in_file m.top.file (rules.bad_reset inst.at port))
  crossbar_clock : (x : ℕ) (listed : XbarUse) (port : List ℕ) → slice_get m.top.xbars x ≡ Some listed → LacksSource m (clock_of (Xbar x) port)
      → Violates m (in_file m.top.file (rules.bad_clock listed.at port))

-- the ports of the top with their sources, which breaks nothing
pub record IsTied (m : MergedTop) (ties : List Tie) : Type 0 where
  pub unbroken : (f : Fault) → ¬ Violates m f
  pub are_its : AreTies m ties

-- the ties, where nothing is broken; else the first that is; want of memory says nothing
abbrev pub Ties : Result (List Tie) DescFault → MergedTop → Type 0
Ties (Ok ties) m = IsTied m ties
Ties (Err (refusal.Fault f)) m = IsFirstFault (Violates m) f
Ties (Err refusal.Memory) m = Unit {0}
