-- A register of a name.
use Rattle.std.specs.Prelude.{ℕ, cond, List, Option, Some, None}
use Rattle.cg_desc.specs.declared.block.RegDesc.{RegDesc}
use Rattle.cg_desc.specs.declared.block.Item.{Item}
use Rattle.cg_desc.specs.declared.block.Item.TheVariants.{Reg}
use Rattle.cg_regspec.specs.RegisterModule.{same_in_nets}

-- the item's register, if it has this name, without regard to case
abbrev pub named : List ℕ → Item → Option RegDesc
named name (Reg r) = cond (same_in_nets r.name name) (Some r) None
named name item = None
