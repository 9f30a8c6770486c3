-- The bits of the muxed signals of one direction as a whole list.
use Rattle.std.specs.Prelude.{ℕ, zero, suc, ◌+◌, ◌-◌, min, Bool, true, false, cond, List, [], ◌∷◌, ◌++◌, slice_get, Option, Some, None}
use Rattle.cg_desc.specs.declared.block.IoDesc.{IoDesc}
use Rattle.cg_desc.specs.declared.block.IoDir.{IoDir}
use Rattle.cg_desc.specs.declared.block.IoDir.TheVariants.{In, Out, InOut}
use Rattle.cg_desc.specs.declared.top.Joint.{Joint}
use Rattle.cg_desc.specs.declared.top.Joint.TheVariants.{Muxed, Direct, Manual}
use Rattle.cg_desc.specs.declared.top.MergedTop.{MergedTop}
use Rattle.cg_irq.specs.declared.bits.Bit.{Bit}
use Rattle.cg_pinmux.specs.Regions.{ports_of}
use Rattle.cg_pinmux.specs.declared.region.Region.{Region}
use Rattle.cg_pinmux.specs.declared.resolved.Resolved.{Resolved}
use Rattle.cg_pinmux.specs.declared.map.PadTie.{PadTie}
use Rattle.cg_pinmux.specs.declared.numbered.Side.{Side}
use Rattle.cg_pinmux.specs.declared.numbered.Side.TheVariants.{Inputs, Outputs}

-- what the numbers below n have, in order
unfoldable pub below : {X : Type 0} → (ℕ → List X) → ℕ → List X
below f zero = []
below f (suc n) = below f n ++ f n

-- a port of this direction has numbers on this side
abbrev pub takes : Side → IoDir → Bool
takes Inputs Out = false
takes Inputs In = true
takes Inputs InOut = true
takes Outputs In = false
takes Outputs Out = true
takes Outputs InOut = true

abbrev pub bit_at : ℕ → ℕ → ℕ → Bit
bit_at i p k = record { inst = i; item = p; bit = k }

-- the bits of port p that are in the region
unfoldable pub bits_of_port : Region → ℕ → IoDesc → List Bit
bits_of_port g p port = below (λ k. bit_at g.inst p (g.low + k) ∷ []) (min port.width g.high - g.low)

-- those with numbers on this side
abbrev pub side_bits : Side → Region → ℕ → Option IoDesc → List Bit
side_bits side g p None = []
side_bits side g p (Some port) = cond (takes side port.dir) (bits_of_port g p port) []

-- those of all ports of the region
unfoldable pub bits_of_region : MergedTop → Side → Region → List Bit
bits_of_region m side g = below (λ k. side_bits side g (g.first + k) (slice_get (ports_of m g.inst) (g.first + k))) (g.end - g.first)

-- what a signal takes
abbrev pub bits_of_joint : MergedTop → Side → Joint → Option Region → List Bit
bits_of_joint m side Muxed (Some g) = bits_of_region m side g
bits_of_joint m side Muxed None = []
bits_of_joint m side Direct g = []
bits_of_joint m side Manual g = []

abbrev pub bits_of_signal : MergedTop → Side → Option Resolved → List Bit
bits_of_signal m side None = []
bits_of_signal m side (Some r) = bits_of_joint m side r.joint r.region

-- what the signals below n take
abbrev pub bits_below : MergedTop → Side → List Resolved → ℕ → List Bit
bits_below m side rs n = below (λ s. bits_of_signal m side (slice_get rs s)) n

-- ---- pads

-- the tie of a signal that has these
abbrev pub tie_for : Joint → Option Region → Option ℕ → Option PadTie
tie_for Direct (Some g) (Some pad) = Some (record { bit = bit_at g.inst g.first g.low; pad = pad })
tie_for _ _ _ = None

abbrev pub tie_of : Resolved → Option PadTie
tie_of r = tie_for r.joint r.region r.pad

abbrev pub ties_of : Option PadTie → List PadTie
ties_of None = []
ties_of (Some tie) = tie ∷ []

-- the ties of a signal
abbrev pub ties_of_signal : Option Resolved → List PadTie
ties_of_signal None = []
ties_of_signal (Some r) = ties_of (tie_of r)

-- those of the signals below n
abbrev pub ties_below : List Resolved → ℕ → List PadTie
ties_below rs n = below (λ s. ties_of_signal (slice_get rs s)) n
