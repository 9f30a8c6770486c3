-- What a map of pins has where nothing is broken.
use Rattle.std.specs.Prelude.{◌≡◌, ℕ, List, slice_get, Some}
use Rattle.cg_svspec.specs.Names.{Among}
use Rattle.cg_irq.specs.declared.bits.Bit.{Bit}
use Rattle.cg_pinmux.specs.declared.map.PadTie.{PadTie}

-- no bit stands at two places
abbrev pub StandOnce : List Bit → Type 0
StandOnce bits = (i j : ℕ) (b : Bit) → slice_get bits i ≡ Some b → slice_get bits j ≡ Some b → i ≡ j

-- no two ties have one pad, and no two have one bit
pub record TieOnce (ties : List PadTie) : Type 0 where
  pub pads : (i j : ℕ) (a b : PadTie) → slice_get ties i ≡ Some a → slice_get ties j ≡ Some b → a.pad ≡ b.pad → i ≡ j
  pub bits : (i j : ℕ) (a b : PadTie) → slice_get ties i ≡ Some a → slice_get ties j ≡ Some b → a.bit ≡ b.bit → i ≡ j

-- no bit of a tie is among these
abbrev pub AreApart : List PadTie → List Bit → Type 0
AreApart ties bits = (t : PadTie) → Among t ties → Among t.bit bits → ⊥
