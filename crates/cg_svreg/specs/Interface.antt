-- The module of one interface of a block.
use Rattle.std.specs.Prelude.{ℕ, [], None, slice_index_or}
use Rattle.cg_svspec.specs.Tree.{Module}
use Rattle.cg_desc.specs.declared.block.LaidBlock.{LaidBlock}
use Rattle.cg_desc.specs.declared.block.LaidFace.{LaidFace}
use Rattle.cg_regspec.specs.RegisterModule.{module_of_face}

-- the interface of this number, an empty one where there is none
abbrev pub interface : LaidBlock → ℕ → LaidFace
interface block i = slice_index_or block.faces i (record { name = None; rows = []; size = 0 })

-- its register module, under the name that block and interface give it
abbrev pub interface_module : LaidBlock → ℕ → Module
interface_module block i = module_of_face block (interface block i)
