-- The interrupts and alerts of a top, bit by bit, in the order of their numbers (OpenTitan Top Generation Tool).
use Rattle.std.specs.Prelude.{◌≡◌, ◌↔◌, ◌⊎◌, ℕ, ◌<◌, List, slice_get, Some}
use Rattle.cg_svspec.specs.Names.{Among}
use Rattle.cg_desc.specs.Merged.{BlockAt}
use Rattle.cg_desc.specs.declared.block.AlertDesc.{AlertDesc}
use Rattle.cg_desc.specs.declared.block.IntrDesc.{IntrDesc}
use Rattle.cg_desc.specs.declared.block.LaidBlock.{LaidBlock}
use Rattle.cg_desc.specs.declared.top.MergedTop.{MergedTop}
use Rattle.cg_irq.specs.declared.bits.Bit.{Bit}
use Rattle.cg_irq.specs.declared.bits.IrqMap.{IrqMap}

-- ---- which bits there are

-- interrupt k of instance i is this one
abbrev pub InterruptAt : MergedTop → ℕ → ℕ → IntrDesc → Type 0
InterruptAt m i k interrupt = (block : LaidBlock) × BlockAt m i block × (slice_get block.desc.intrs k ≡ Some interrupt)

-- alert k of instance i is this one
abbrev pub AlertAt : MergedTop → ℕ → ℕ → AlertDesc → Type 0
AlertAt m i k alert = (block : LaidBlock) × BlockAt m i block × (slice_get block.desc.alerts k ≡ Some alert)

-- an instance's interrupt has this bit, whether or not the block has registers for it
pub record IsInterruptBit (m : MergedTop) (b : Bit) : Type 0 where
  pub interrupt : IntrDesc
  pub is : InterruptAt m b.inst b.item interrupt
  pub within : b.bit < interrupt.width

-- an alert has one bit
pub record IsAlertBit (m : MergedTop) (b : Bit) : Type 0 where
  pub alert : AlertDesc
  pub is : AlertAt m b.inst b.item alert
  pub only : b.bit ≡ 0

-- ---- their order

-- by instance, then by the place in its block's list, then from the lowest bit
abbrev pub BitBefore : Bit → Bit → Type 0
BitBefore a b = (a.inst < b.inst) ⊎ ((a.inst ≡ b.inst) × ((a.item < b.item) ⊎ ((a.item ≡ b.item) × (a.bit < b.bit))))

-- just these bits, in their order, so each once
pub record AreBits (Is : Bit → Type 0) (bits : List Bit) : Type 0 where
  pub members : (b : Bit) → Among b bits ↔ Is b
  pub in_order : (i j : ℕ) (a b : Bit) → slice_get bits i ≡ Some a → slice_get bits j ≡ Some b → i < j → BitBefore a b

-- all interrupts and all alerts of all instances
pub record AreNumbers (m : MergedTop) (map : IrqMap) : Type 0 where
  pub interrupts : AreBits (IsInterruptBit m) map.intr
  pub alerts : AreBits (IsAlertBit m) map.alert
