-- The bits that a signal names as a region of its block's ports, and what is asked of two regions.
use Rattle.std.specs.Prelude.{◌≡◌, ◌↔◌, ℕ, ◌<◌, ◌≤◌, List, [], ◌++◌, codes, decimal, length, Option, Some, None}
use Rattle.cg_desc.specs.FoundBase.{block_of}
use Rattle.cg_desc.specs.declared.block.IoDesc.{IoDesc}
use Rattle.cg_desc.specs.declared.block.LaidBlock.{LaidBlock}
use Rattle.cg_desc.specs.declared.top.MergedTop.{MergedTop}
use Rattle.cg_desc.specs.declared.top.SignalDesc.{SignalDesc}
use Rattle.cg_irq.specs.declared.bits.Bit.{Bit}
use Rattle.cg_pinmux.specs.Signals.{HasBit, HasPad, NamesBit, PortIs}
use Rattle.cg_pinmux.specs.declared.region.Region.{Region}

-- a bit's number as it is written behind a port
abbrev pub bit_text : ℕ → List ℕ
bit_text k = codes "[" ++ (decimal k ++ codes "]")

-- the ports of a block, and none where there is no block
abbrev pub ports_in : Option LaidBlock → List IoDesc
ports_in None = []
ports_in (Some block) = block.desc.ios

-- the ports of the block of instance i
abbrev pub ports_of : MergedTop → ℕ → List IoDesc
ports_of m i = ports_in (block_of m i)

-- bit k of port p is in the region
pub record InPart (ports : List IoDesc) (g : Region) (p k : ℕ) : Type 0 where
  pub from_first : g.first ≤ p
  pub before_end : p < g.end
  pub from_low : g.low ≤ k
  pub before_high : k < g.high
  pub port : IoDesc
  pub is : PortIs ports p port
  pub within : k < port.width

-- the region has ports, which are there and of which each has a bit in it
pub record IsNormal (ports : List IoDesc) (g : Region) : Type 0 where
  pub some_port : g.first < g.end
  pub there : g.end ≤ length ports
  pub some_bit : g.low < g.high
  pub each : (p : ℕ) (port : IoDesc) → g.first ≤ p → p < g.end → PortIs ports p port → g.low < port.width

-- the region of this instance has just the bits that the text names
pub record IsPartOf (ports : List IoDesc) (inst : ℕ) (text : List ℕ) (g : Region) : Type 0 where
  pub instance : g.inst ≡ inst
  pub normal : IsNormal ports g
  pub just : (p k : ℕ) → NamesBit ports text p k ↔ InPart ports g p k

-- what the text names, if it names a bit
abbrev pub IsPart : List IoDesc → ℕ → List ℕ → Option Region → Type 0
IsPart ports inst text None = (p k : ℕ) → NamesBit ports text p k → ⊥
IsPart ports inst text (Some g) = IsPartOf ports inst text g

-- the bit is in the region
pub record InRegion (m : MergedTop) (g : Region) (b : Bit) : Type 0 where
  pub instance : b.inst ≡ g.inst
  pub part : InPart (ports_of m g.inst) g b.item b.bit

-- the region has just the bits of the signal
pub record IsRegionOf (m : MergedTop) (s : SignalDesc) (g : Region) : Type 0 where
  pub normal : IsNormal (ports_of m g.inst) g
  pub just : (b : Bit) → HasBit m s b ↔ InRegion m g b

-- the region of a signal, if it names a bit
abbrev pub IsRegion : MergedTop → SignalDesc → Option Region → Type 0
IsRegion m s None = (b : Bit) → HasBit m s b → ⊥
IsRegion m s (Some g) = IsRegionOf m s g

-- the pad of a signal, if it names one
abbrev pub IsPad : MergedTop → SignalDesc → Option ℕ → Type 0
IsPad m s None = (k : ℕ) → HasPad m s k → ⊥
IsPad m s (Some k) = HasPad m s k
