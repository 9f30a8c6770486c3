-- A module that was made acts as the interface's register block, and is printable.
use Rattle.std.proofs.Common.{◌≡◌, ℕ, List, Option, Some, None, sym, subst}
use Rattle.cg_svspec.specs.Tree.{Module}
use Rattle.cg_svspec.specs.Characters.{IsName, IsWord}
use Rattle.cg_svspec.specs.Printable.{IsPrintable}
use Rattle.cg_svspec.specs.Names.{module_names, first_repeat}
use Rattle.cg_desc.specs.Laid.{IsLaid}
use Rattle.cg_desc.specs.Valid.{IsNameIfAny}
use Rattle.cg_desc.specs.declared.block.LaidFace.{LaidFace}
use Rattle.cg_regspec.specs.Meaning.{RegisterMeans}
use Rattle.cg_regspec.specs.RegisterModule.{register_module, register_module_name}
use Rattle.cg_regspec.specs.Laws.{RegisterModuleMeans}
use Rattle.cg_regspec.proofs.WellNames.{block_module_name, interface_module_name}

-- the register module of an interface that is laid out, where no name repeats
pub made_printable : RegisterModuleMeans → (name : List ℕ) (face : LaidFace) (m : Module) → IsName name → IsLaid face
    → m ≡ register_module name face → first_repeat (module_names (register_module name face)) ≡ None → IsPrintable m
made_printable law name face m is_name laid made apart = subst IsPrintable (sym made) (law name face is_name laid apart).well_formed.printable

pub made_means : RegisterModuleMeans → (name : List ℕ) (face : LaidFace) (m : Module) → IsName name → IsLaid face
    → m ≡ register_module name face → first_repeat (module_names (register_module name face)) ≡ None → RegisterMeans name m face
made_means law name face m is_name laid made apart = subst (λ (n : Module). RegisterMeans name n face) (sym made) (law name face is_name laid apart)

-- good names of a block and of its interface make a good one of the module
pub interface_module_is_name : (block : List ℕ) (interface : Option (List ℕ)) → IsWord block → IsNameIfAny interface → IsName (register_module_name block interface)
interface_module_is_name block None word tt = block_module_name block word
interface_module_is_name block (Some interface) word good = interface_module_name block interface word good.0
