-- What is written of a block, and the first name that comes twice in it.
use Rattle.std.specs.Prelude.{◌≡◌, ℕ, List, [], ◌∷◌, ◌++◌, codes, map, Option, Some, None}
use Rattle.cg_svspec.specs.Layout.{module_text}
use Rattle.cg_svspec.specs.Names.{Among, module_names, first_repeat}
use Rattle.cg_svspec.specs.Tree.{Module}
use Rattle.cg_desc.specs.declared.block.LaidBlock.{LaidBlock}
use Rattle.cg_desc.specs.declared.block.LaidFace.{LaidFace}
use Rattle.cg_hdrspec.specs.BlockHeader.{header_names, header_text}
use Rattle.cg_hjson.specs.declared.tree.Tree.{Tree}
use Rattle.cg_regspec.specs.RegisterModule.{register_module_name, module_of_face, modules_of}
use Rattle.cg_blkdone.specs.Completed.{completed_text}
use Rattle.cg_outputs.specs.declared.out_file.OutFile.{OutFile}

-- ---- names

abbrev pub or_else : Option (List ℕ) → Option (List ℕ) → Option (List ℕ)
or_else None b = b
or_else (Some a) b = Some a

-- the first repeat among the names of a module, of the first module that has one
unfoldable pub first_clash : List Module → Option (List ℕ)
first_clash [] = None
first_clash (m ∷ ms) = or_else (first_repeat (module_names m)) (first_clash ms)

-- the first repeat among the names of its modules, module by module, or else among those that its header defines
abbrev pub clash_of : LaidBlock → Option (List ℕ)
clash_of laid = or_else (first_clash (modules_of laid)) (first_repeat (header_names laid))

-- ---- the files

-- the name of an interface's register module
abbrev pub module_name_of : LaidBlock → LaidFace → List ℕ
module_name_of laid face = register_module_name laid.desc.name face.name

-- the register text of an interface
abbrev pub register_output : LaidBlock → LaidFace → OutFile
register_output laid face = record { name = module_name_of laid face ++ codes ".sv"; bytes = module_text (module_of_face laid face) }

-- the header of a block
abbrev pub header_output : LaidBlock → OutFile
header_output laid = record { name = laid.desc.name ++ codes "_regs.h"; bytes = header_text laid }

-- the completed description of a block
abbrev pub completed_output : Tree → LaidBlock → OutFile
completed_output t laid = record { name = laid.desc.name ++ codes ".gen.hjson"; bytes = completed_text t }

-- all that is written of a block
abbrev pub block_files : Tree → LaidBlock → List OutFile
block_files t laid = header_output laid ∷ completed_output t laid ∷ map (register_output laid) laid.faces

-- the file is the register text of one of the block's interfaces
pub record IsRegisterOutput (laid : LaidBlock) (o : OutFile) : Type 0 where
  pub face : LaidFace
  pub among : Among face laid.faces
  pub is_text : o ≡ register_output laid face
