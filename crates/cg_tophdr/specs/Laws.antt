-- The laws of a top's header.
use Rattle.std.specs.Prelude.{◌≡◌, ℕ, ◌+◌, ◌^◌, ◌<◌, length, None}
use Rattle.cg_desc.specs.AddressMap.{IsPlaceFor, ReachesFace}
use Rattle.cg_desc.specs.Merged.{IsMerged}
use Rattle.cg_desc.specs.Target.{Target, error, IsTarget}
use Rattle.cg_desc.specs.declared.block.LaidFace.{LaidFace}
use Rattle.cg_desc.specs.declared.top.MergedTop.{MergedTop}
use Rattle.cg_irq.specs.Numbers.{AreNumbers}
use Rattle.cg_irq.specs.declared.bits.IrqMap.{IrqMap}
use Rattle.cg_pinmux.specs.Pins.{ArePins}
use Rattle.cg_pinmux.specs.declared.map.PinMap.{PinMap}
use Rattle.cg_space.specs.Rows.{IsMapHost}
use Rattle.cg_space.specs.Violations.{NoViolation}
use Rattle.cg_svspec.specs.Names.{first_repeat}
use Rattle.cg_topspec.specs.Ways.{target_place}
use Rattle.cg_tophdr.specs.Meaning.{TopHeaderMeans}
use Rattle.cg_tophdr.specs.TopHeader.{top_header_names, top_header_text}

-- so few bits of each kind that each has a number of 32 bits
pub record NumbersFit (numbers : IrqMap) (pins : PinMap) : Type 0 where
  pub interrupts : length numbers.intr < 2 ^ 32
  pub alerts : length numbers.alert < 2 ^ 32
  pub inputs : length pins.ins < 2 ^ 32
  pub outputs : length pins.outs < 2 ^ 32

-- the header of a merged top with its numbers and pins, in which no name repeats, agrees with the top
abbrev pub TopHeaderIsMeant : Type 0
TopHeaderIsMeant =
    (m : MergedTop) (numbers : IrqMap) (pins : PinMap) → IsMerged m → AreNumbers m numbers → ArePins m pins → NumbersFit numbers pins
    → first_repeat (top_header_names m numbers pins) ≡ None → TopHeaderMeans m numbers pins (top_header_text m numbers pins)

-- A header's constants together: for a host that reaches an interface, the interface's base and the offset of a register or of a window's word in
-- the interface make an address, which for the host is just that register or word.
abbrev pub BasesAndOffsetsMeet : Type 0
BasesAndOffsetsMeet =
    (m : MergedTop) (x h i f base offset : ℕ) (face : LaidFace) (target : Target) → IsMerged m → NoViolation m → IsMapHost m x h → ReachesFace m x h i f base face
    → IsTarget face offset target → ¬ (target ≡ error) → (base + offset < 2 ^ 32) × IsPlaceFor m x h (base + offset) (target_place i f target)
