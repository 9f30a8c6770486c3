-- The laws of register modules.
use Rattle.std.specs.Prelude.{◌≡◌, ℕ, List, None}
use Rattle.cg_svspec.specs.Characters.{IsName}
use Rattle.cg_svspec.specs.Names.{module_names, first_repeat}
use Rattle.cg_desc.specs.Laid.{IsLaid}
use Rattle.cg_desc.specs.declared.block.LaidFace.{LaidFace}
use Rattle.cg_regspec.specs.RegisterModule.{register_module}
use Rattle.cg_regspec.specs.Meaning.{RegisterMeans}

-- the register module of an interface that is laid out, in which no name repeats, acts as the interface's register block
abbrev pub RegisterModuleMeans : Type 0
RegisterModuleMeans =
    (name : List ℕ) (face : LaidFace) → IsName name → IsLaid face → first_repeat (module_names (register_module name face)) ≡ None
    → RegisterMeans name (register_module name face) face
