-- The address of a request, and the ranges of a crossbar's devices that count (OpenTitan Crossbar Tool).
use Rattle.std.specs.Prelude.{ℕ, take, drop}
use Rattle.cg_svspec.specs.Bits.{Bits}
use Rattle.cg_svspec.specs.Links.{number}
pub use Rattle.cg_desc.specs.Ranges.{RangeHolds, RangesAre, HasAddress, IsRange, AreRangesOf}

-- the address of a request: bits 63 to 32
abbrev pub address_of : Bits → ℕ
address_of request = number (take 32 (drop 32 request))
