-- The module of a top is printable and well formed, and has a valuation.
use Rattle.std.specs.Prelude.{◌≡◌, ◌≤◌, List, length, None}
use Rattle.cg_clkrst.specs.declared.tie.Tie.{Tie}
use Rattle.cg_desc.specs.Merged.{IsMerged}
use Rattle.cg_desc.specs.declared.top.MergedTop.{MergedTop}
use Rattle.cg_irq.specs.Violations.{IsNumbering}
use Rattle.cg_irq.specs.declared.bits.IrqMap.{IrqMap}
use Rattle.cg_pinmux.specs.Violations.{IsPinned}
use Rattle.cg_pinmux.specs.declared.map.PinMap.{PinMap}
use Rattle.cg_svspec.specs.Printable.{IsPrintable}
use Rattle.cg_svspec.specs.WellFormed.{WellFormed, HasValuation}
use Rattle.cg_topspec.specs.Clashes.{clash_lists, first_clash}
use Rattle.cg_topspec.specs.Fits.{FitsTop}
use Rattle.cg_topspec.specs.TopModule.{top_module}

-- The vectors have no more bits than their makers allow: 1,024 interrupts and as many alerts, and 65,536 inputs and as many outputs
-- that go over the pin multiplexer.
pub record HasFewBits (numbers : IrqMap) (pins : PinMap) : Type 0 where
  pub interrupts : length numbers.intr ≤ 1024
  pub alerts : length numbers.alert ≤ 1024
  pub inputs : length pins.ins ≤ 65536
  pub outputs : length pins.outs ≤ 65536

-- So have numbers and pins that break no rule on how many there are.
abbrev pub FewBitsFollow : Type 0
FewBitsFollow = (m : MergedTop) (numbers : IrqMap) (pins : PinMap) → IsMerged m → IsNumbering m numbers → IsPinned m pins → HasFewBits numbers pins

-- The module can be printed, whichever of its names repeat.
abbrev pub TopModuleIsPrintable : Type 0
TopModuleIsPrintable =
    (m : MergedTop) (numbers : IrqMap) (ties : List Tie) (pins : PinMap) → FitsTop m numbers ties pins → HasFewBits numbers pins → IsPrintable (top_module m numbers ties pins)

-- It is well formed where no name repeats in a list.
abbrev pub TopModuleIsWellFormed : Type 0
TopModuleIsWellFormed =
    (m : MergedTop) (numbers : IrqMap) (ties : List Tie) (pins : PinMap) → FitsTop m numbers ties pins → HasFewBits numbers pins
    → first_clash (clash_lists m numbers ties pins) ≡ None → WellFormed (top_module m numbers ties pins)

-- So its nets have values in each clock, whatever its inputs have and whatever its instances drive.
abbrev pub TopModuleHasValuation : Type 0
TopModuleHasValuation =
    (m : MergedTop) (numbers : IrqMap) (ties : List Tie) (pins : PinMap) → FitsTop m numbers ties pins → HasFewBits numbers pins
    → first_clash (clash_lists m numbers ties pins) ≡ None → HasValuation (top_module m numbers ties pins)
