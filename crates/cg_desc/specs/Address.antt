-- The place in a design that a target of one interface is.
use Rattle.std.specs.Prelude.{◌≡◌, ℕ}
use Rattle.cg_desc.specs.Target.{Target, register, word, error, IsTarget, target_at}
use Rattle.cg_desc.specs.Laid.{IsLaid}
use Rattle.cg_desc.specs.declared.block.LaidFace.{LaidFace}
use Rattle.cg_desc.specs.declared.address.Place.{Place}
use Rattle.cg_desc.specs.declared.address.Place.TheVariants.{Reg, Word, Error}

-- of a block that stands alone: its only instance and its interface have the number 0
abbrev pub place_of : Target → Place
place_of (register row) = Reg 0 0 row
place_of (word row index) = Word 0 0 row index
place_of error = Error

-- the place that an address of the interface is
abbrev pub IsPlaceAt : LaidFace → ℕ → Place → Type 0
IsPlaceAt face address place = (target : Target) × IsTarget face address target × (place ≡ place_of target)

-- An address of a laid interface is just one thing, which is what going down the rows finds.
pub record HasOneTarget (face : LaidFace) (address : ℕ) : Type 0 where
  pub there : IsTarget face address (target_at face address)
  pub one : (target : Target) → IsTarget face address target → target ≡ target_at face address

abbrev pub EachAddressHasOneTarget : Type 0
EachAddressHasOneTarget = (face : LaidFace) → IsLaid face → (address : ℕ) → HasOneTarget face address
