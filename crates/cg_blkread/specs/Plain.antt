-- What the shadowed registers of a description have, where the block breaks no rule.
use Rattle.std.specs.Prelude.{◌≡◌, true, false}
use Rattle.cg_svspec.specs.Printable.{AllOf}
use Rattle.cg_desc.specs.AccessTable.{hardware_writes}
use Rattle.cg_desc.specs.declared.block.SwAccess.TheVariants.{Rw}
use Rattle.cg_desc.specs.declared.block.FieldDesc.{FieldDesc}
use Rattle.cg_desc.specs.declared.block.RegDesc.{RegDesc}
use Rattle.cg_desc.specs.declared.block.Written.{Written}
use Rattle.cg_desc.specs.declared.block.Written.TheVariants as written
use Rattle.cg_desc.specs.declared.block.BlockDesc.{BlockDesc}

-- software reads and writes a field, and hardware does not write it
abbrev pub IsPlain : FieldDesc → Type 0
IsPlain f = (f.sw ≡ Rw) × (hardware_writes f.hw ≡ false)

-- a register that is shadowed has storage, and plain fields
pub record IsPlainIfShadowed (r : RegDesc) : Type 0 where
  pub stored : r.shadowed ≡ true → r.hwext ≡ false
  pub fields : r.shadowed ≡ true → AllOf IsPlain r.fields

abbrev pub EntryIsPlain : Written → Type 0
EntryIsPlain (written.Reg r) = IsPlainIfShadowed r
EntryIsPlain (written.Multi m) = IsPlainIfShadowed m.reg
EntryIsPlain (written.Window w) = Unit {0}
EntryIsPlain (written.SkipTo to at) = Unit {0}
EntryIsPlain (written.Reserved words at) = Unit {0}

-- so do all of a block
abbrev pub ShadowedArePlain : BlockDesc → Type 0
ShadowedArePlain b = AllOf (λ f. AllOf EntryIsPlain f.entries) b.faces
