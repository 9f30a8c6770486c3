-- Which register a name means, and which registers can gate others (OpenTitan Register Tool, `regwen`).
use Rattle.std.specs.Prelude.{ℕ, ◌==◌, Bool, false, not, ◌&&◌, cond, List, [], ◌∷◌, map, Option, Some, None}
use Rattle.std.specs.Str.{str_eq_ignore_ascii_case}
use Rattle.cg_desc.specs.AccessTable.{is_readable}
use Rattle.cg_desc.specs.declared.block.FieldDesc.{FieldDesc}
use Rattle.cg_desc.specs.declared.block.RegDesc.{RegDesc}
use Rattle.cg_desc.specs.declared.block.Item.{Item}
use Rattle.cg_desc.specs.declared.block.Item.TheVariants.{Reg}
use Rattle.cg_desc.specs.declared.block.LaidRow.{LaidRow}

abbrev pub has_name : RegDesc → List ℕ → Bool
has_name r name = str_eq_ignore_ascii_case r.name name

-- the first register among the items that has the name, which is compared without regard to case
abbrev pub register_among : List Item → List ℕ → Option RegDesc
register_among [] name = None
register_among (Reg r ∷ items) name = cond (has_name r name) (Some r) (register_among items name)
register_among (item ∷ items) name = register_among items name

-- the first one among the rows
abbrev pub register_named : List LaidRow → List ℕ → Option RegDesc
register_named rows name = register_among (map (λ row. row.item) rows) name

-- one bit that can be read and is no multi-bit boolean
abbrev pub is_gate_field : FieldDesc → Bool
is_gate_field f = (f.msb == f.lsb) && (is_readable f.sw && not f.mubi)

-- a gate stores exactly one such field
abbrev pub is_gate : RegDesc → Bool
is_gate g = not g.hwext && is_sole g.fields where
  is_sole : List FieldDesc → Bool
  is_sole (f ∷ []) = is_gate_field f
  is_sole _ = false
