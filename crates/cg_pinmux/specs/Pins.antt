-- Which bits of a top's instances go to which pins, in the order of their numbers (OpenTitan Top Generation Tool, pinmux and pinout).
use Rattle.std.specs.Prelude.{◌≡◌, ◌≢◌, ◌↔◌, ◌⊎◌, ℕ, ◌<◌, List, map, slice_get, Some}
use Rattle.cg_svspec.specs.Names.{Among}
use Rattle.cg_desc.specs.Merged.{BlockAt}
use Rattle.cg_desc.specs.declared.block.IoDesc.{IoDesc}
use Rattle.cg_desc.specs.declared.block.IoDir.TheVariants.{In, Out}
use Rattle.cg_desc.specs.declared.block.LaidBlock.{LaidBlock}
use Rattle.cg_desc.specs.declared.top.Joint.TheVariants.{Muxed, Direct}
use Rattle.cg_desc.specs.declared.top.MergedTop.{MergedTop}
use Rattle.cg_desc.specs.declared.top.SignalDesc.{SignalDesc}
use Rattle.cg_irq.specs.declared.bits.Bit.{Bit}
use Rattle.cg_pinmux.specs.Signals.{PortIs, HasBit, HasPad}
use Rattle.cg_pinmux.specs.declared.map.PadTie.{PadTie}
use Rattle.cg_pinmux.specs.declared.map.PinMap.{PinMap}

-- signal s of the top is this one
abbrev pub SignalIs : MergedTop → ℕ → SignalDesc → Type 0
SignalIs m s signal = slice_get m.top.signals s ≡ Some signal

-- a bit of a port of this instance, with the port
pub record IsPortBit (m : MergedTop) (b : Bit) (port : IoDesc) : Type 0 where
  pub block : LaidBlock
  pub block_is : BlockAt m b.inst block
  pub is : PortIs block.desc.ios b.item port
  pub within : b.bit < port.width

-- ---- which bits a signal joins

-- a bit as a signal has it, by the signal's number
pub record SignalBit : Type 0 where
  pub signal : ℕ
  pub bit : Bit

-- a muxed signal has the bit, whose port is not an output
pub record IsInput (m : MergedTop) (b : SignalBit) : Type 0 where
  pub signal : SignalDesc
  pub is : SignalIs m b.signal signal
  pub muxed : signal.joint ≡ Muxed
  pub has : HasBit m signal b.bit
  pub port : IoDesc
  pub of_port : IsPortBit m b.bit port
  pub direction : port.dir ≢ Out

-- a muxed signal has the bit, whose port is not an input
pub record IsOutput (m : MergedTop) (b : SignalBit) : Type 0 where
  pub signal : SignalDesc
  pub is : SignalIs m b.signal signal
  pub muxed : signal.joint ≡ Muxed
  pub has : HasBit m signal b.bit
  pub port : IoDesc
  pub of_port : IsPortBit m b.bit port
  pub direction : port.dir ≢ In

-- ---- their order

-- by signal, then by port, then from the lowest bit
abbrev pub SignalBitBefore : SignalBit → SignalBit → Type 0
SignalBitBefore a b =
    (a.signal < b.signal) ⊎ ((a.signal ≡ b.signal) × ((a.bit.item < b.bit.item) ⊎ ((a.bit.item ≡ b.bit.item) × (a.bit.bit < b.bit.bit))))

-- just these bits, in their order, so each once
pub record AreSignalBits (Is : SignalBit → Type 0) (bits : List SignalBit) : Type 0 where
  pub members : (b : SignalBit) → Among b bits ↔ Is b
  pub in_order : (i j : ℕ) (a b : SignalBit) → slice_get bits i ≡ Some a → slice_get bits j ≡ Some b → i < j → SignalBitBefore a b

-- the bits are those, as signals have them
pub record AreNumbered (Is : SignalBit → Type 0) (bits : List Bit) : Type 0 where
  pub uses : List SignalBit
  pub just : AreSignalBits Is uses
  pub bits_are : map (λ b. b.bit) uses ≡ bits

-- ---- pads

-- a direct signal's bit with its pad, by the signal's number
pub record SignalPad : Type 0 where
  pub signal : ℕ
  pub tie : PadTie

pub record IsPadTie (m : MergedTop) (t : SignalPad) : Type 0 where
  pub signal : SignalDesc
  pub is : SignalIs m t.signal signal
  pub direct : signal.joint ≡ Direct
  pub has : HasBit m signal t.tie.bit
  pub pad : HasPad m signal t.tie.pad

-- just the direct signals' bits with their pads, in the order of the signals
pub record ArePadTies (m : MergedTop) (ties : List PadTie) : Type 0 where
  pub uses : List SignalPad
  pub members : (t : SignalPad) → Among t uses ↔ IsPadTie m t
  pub in_order : (i j : ℕ) (a b : SignalPad) → slice_get uses i ≡ Some a → slice_get uses j ≡ Some b → i < j → a.signal < b.signal
  pub ties_are : map (λ t. t.tie) uses ≡ ties

-- the pins of a top
pub record ArePins (m : MergedTop) (pins : PinMap) : Type 0 where
  pub inputs : AreNumbered (IsInput m) pins.ins
  pub outputs : AreNumbered (IsOutput m) pins.outs
  pub pads : ArePadTies m pins.pads
