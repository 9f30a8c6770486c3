-- Signals that name nothing, or that may not stand beside the earlier ones.
use Rattle.std.specs.Prelude.{◌≡◌, ◌≢◌, ℕ, ◌<◌, ◌≤◌, List, length, Result, Ok, Err}
use Rattle.cg_desc.specs.declared.fault.DescFault.{DescFault}
use Rattle.cg_desc.specs.declared.fault.DescFault.TheVariants as refusal
use Rattle.cg_desc.specs.declared.fault.Fault.{Fault}
use Rattle.cg_desc.specs.declared.top.Joint.TheVariants.{Muxed, Direct, Manual}
use Rattle.cg_desc.specs.declared.top.MergedTop.{MergedTop}
use Rattle.cg_desc.specs.declared.top.SignalDesc.{SignalDesc}
use Rattle.cg_finding.specs.Finding.{in_file}
use Rattle.cg_finding.specs.Rules as rules
use Rattle.cg_finding.specs.Violations.{IsFirstFault}
use Rattle.cg_irq.specs.declared.bits.Bit.{Bit}
use Rattle.cg_pinmux.specs.Pins.{SignalBit, SignalIs, IsInput, IsOutput, AreSignalBits, ArePins}
use Rattle.cg_pinmux.specs.Signals.{HasBit, HasPad}
use Rattle.cg_pinmux.specs.declared.map.PinMap.{PinMap}

-- there are more than 65,536 of these bits in the signals up to number s, that one among them
abbrev pub PassesLimit : (SignalBit → Type 0) → ℕ → Type 0
PassesLimit Is s = (bits : List SignalBit) × AreSignalBits (λ b. Is b × (b.signal ≤ s)) bits × (65536 < length bits)

-- What signal s breaks: it names no instance, no port or no bit; it is direct and has two bits, or no pad that the top has, or the pad of
-- an earlier direct signal; it is not manual and has a bit of an earlier signal that is not; or it is muxed, and with it the inputs
-- or the outputs are too many. What an earlier signal has counts whatever that signal breaks.
pub data BreaksSignal (m : MergedTop) (s : ℕ) (signal : SignalDesc) : Type 0 where
  names_nothing : ((b : Bit) → HasBit m signal b → ⊥) → BreaksSignal m s signal
  two_bits : (a b : Bit) → signal.joint ≡ Direct → HasBit m signal a → HasBit m signal b → a ≢ b → BreaksSignal m s signal
  no_pad : signal.joint ≡ Direct → ((k : ℕ) → HasPad m signal k → ⊥) → BreaksSignal m s signal
  pad_twice : (r k : ℕ) (earlier : SignalDesc) → r < s → SignalIs m r earlier → earlier.joint ≡ Direct → signal.joint ≡ Direct → HasPad m earlier k → HasPad m signal k
      → BreaksSignal m s signal
  bit_twice : (r : ℕ) (earlier : SignalDesc) (b : Bit) → r < s → SignalIs m r earlier → earlier.joint ≢ Manual → signal.joint ≢ Manual → HasBit m earlier b → HasBit m signal b
      → BreaksSignal m s signal
  too_many_inputs : signal.joint ≡ Muxed → PassesLimit (IsInput m) s → BreaksSignal m s signal
  too_many_outputs : signal.joint ≡ Muxed → PassesLimit (IsOutput m) s → BreaksSignal m s signal

-- what a top breaks, told at the signal
pub data Violates (m : MergedTop) : Fault → Type 0 where
  at_signal : (s : ℕ) (signal : SignalDesc) → SignalIs m s signal → BreaksSignal m s signal
      → Violates m (in_file m.top.file (rules.bad_pin signal.at signal.inst))

-- the pins are those of the top, which breaks nothing
pub record IsPinned (m : MergedTop) (pins : PinMap) : Type 0 where
  pub unbroken : (f : Fault) → ¬ Violates m f
  pub are_its : ArePins m pins

-- the pins, where nothing is broken; else the first that is; want of memory says nothing
abbrev pub Pins : Result PinMap DescFault → MergedTop → Type 0
Pins (Ok pins) m = IsPinned m pins
Pins (Err (refusal.Fault f)) m = IsFirstFault (Violates m) f
Pins (Err refusal.Memory) m = Unit {0}
