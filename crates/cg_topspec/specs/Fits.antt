-- What a top module is made of: a merged top with its numbers, ties and pins.
use Rattle.std.specs.Prelude.{List}
use Rattle.cg_clkrst.specs.Ties.{AreTies}
use Rattle.cg_clkrst.specs.declared.tie.Tie.{Tie}
use Rattle.cg_desc.specs.Merged.{IsMerged}
use Rattle.cg_desc.specs.declared.top.MergedTop.{MergedTop}
use Rattle.cg_irq.specs.Numbers.{AreNumbers}
use Rattle.cg_irq.specs.declared.bits.IrqMap.{IrqMap}
use Rattle.cg_pinmux.specs.Pins.{ArePins}
use Rattle.cg_pinmux.specs.declared.map.PinMap.{PinMap}

-- A valid merged top, with just its interrupts and alerts, its ties and its pins.
pub record FitsTop (m : MergedTop) (numbers : IrqMap) (ties : List Tie) (pins : PinMap) : Type 0 where
  pub merged : IsMerged m
  pub numbers_are : AreNumbers m numbers
  pub ties_are : AreTies m ties
  pub pins_are : ArePins m pins
