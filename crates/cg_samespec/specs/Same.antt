-- Blocks that are the same but for places: what is written of them.
use Rattle.std.specs.Prelude.{◌≡◌, false, List, [], ◌∷◌, map}
use Rattle.std.specs.Str.{str_eq_ignore_ascii_case}
use Rattle.cg_svspec.specs.Printable.{AllOf}
use Rattle.cg_desc.specs.Items.{items_of_block}
use Rattle.cg_desc.specs.declared.block.FieldDesc.{FieldDesc}
use Rattle.cg_desc.specs.declared.block.Item.{Item}
use Rattle.cg_desc.specs.declared.block.Item.TheVariants.{Reg, Window, SkipTo, Reserved}
use Rattle.cg_desc.specs.declared.block.BlockDesc.{BlockDesc}
use Rattle.cg_desc.specs.declared.block.LaidBlock.{LaidBlock}
use Rattle.cg_regspec.specs.RegisterModule.{modules_of}
use Rattle.cg_hdrspec.specs.BlockHeader.{header_names, header_text}

-- no two of the fields have names that are the same without regard to case
abbrev pub NamesApart : List FieldDesc → Type 0
NamesApart [] = Unit {0}
NamesApart (f ∷ fs) = AllOf (λ g. str_eq_ignore_ascii_case f.name g.name ≡ false) fs × NamesApart fs

-- so it is in a register
abbrev pub ItemIsApart : Item → Type 0
ItemIsApart (Reg r) = NamesApart r.fields
ItemIsApart (Window w) = Unit {0}
ItemIsApart (SkipTo to at) = Unit {0}
ItemIsApart (Reserved words at) = Unit {0}

-- and in each register of a block, those that come of themselves and copies included
abbrev pub FieldsAreApart : BlockDesc → Type 0
FieldsAreApart b = AllOf (λ face. AllOf ItemIsApart face.items) (items_of_block b)

-- what is written of two blocks that are laid out is the same
pub record WriteSame (a b : LaidBlock) : Type 0 where
  pub block : a.desc.name ≡ b.desc.name
  pub interfaces : map (λ face. face.name) a.faces ≡ map (λ face. face.name) b.faces
  pub modules : modules_of a ≡ modules_of b
  pub names : header_names a ≡ header_names b
  pub header : header_text a ≡ header_text b
