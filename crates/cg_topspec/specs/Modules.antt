-- The modules that stand behind a top's: those of its crossbars, and the register modules of its blocks.
use Rattle.std.specs.Prelude.{◌≡◌, ℕ, ◌<◌, List, length, Some, None}
use Rattle.cg_busspec.specs.Crossbar.{crossbar_of as with_ranges}
use Rattle.cg_busspec.specs.CrossbarModule.{crossbar_module}
use Rattle.cg_desc.specs.declared.block.LaidBlock.{LaidBlock}
use Rattle.cg_desc.specs.declared.block.LaidFace.{LaidFace}
use Rattle.cg_desc.specs.declared.crossbar.NodeRanges.{NodeRanges}
use Rattle.cg_desc.specs.declared.top.MergedTop.{MergedTop}
use Rattle.cg_regspec.specs.RegisterModule.{register_module_name, module_of_face}
use Rattle.cg_space.specs.Answers.{AreNodeRanges}
use Rattle.cg_svspec.specs.Names.{Among, module_names, first_repeat}
use Rattle.cg_svspec.specs.Tree.{Module}
use Rattle.cg_svspec.specs.Walk.{module_named}
use Rattle.cg_topspec.specs.Top.{crossbar_of}
use Rattle.cg_topspec.specs.TopModule.{crossbar_module_name}

-- Crossbar x has its module under its name: that of its description, with the ranges of its nodes, in which no name stands twice.
pub record HasCrossbarModule (m : MergedTop) (modules : List Module) (x : ℕ) : Type 0 where
  pub ranges : List NodeRanges
  pub are_its : AreNodeRanges m x ranges
  pub found : module_named modules (crossbar_module_name m x) ≡ Some (crossbar_module (with_ranges (crossbar_of m x) ranges))
  pub no_repeat : first_repeat (module_names (crossbar_module (with_ranges (crossbar_of m x) ranges))) ≡ None

-- An interface of a block has its register module under its name, in which no name stands twice.
pub record HasRegisterModule (modules : List Module) (block : LaidBlock) (face : LaidFace) : Type 0 where
  pub found : module_named modules (register_module_name block.desc.name face.name) ≡ Some (module_of_face block face)
  pub no_repeat : first_repeat (module_names (module_of_face block face)) ≡ None

-- Of these modules each is found by its name, and none has the name of a type.
pub record HasModules (m : MergedTop) (modules : List Module) : Type 0 where
  pub crossbars : (x : ℕ) → x < length m.xbars → HasCrossbarModule m modules x
  pub registers : (block : LaidBlock) (face : LaidFace) → Among block m.blocks → Among face block.faces → HasRegisterModule modules block face
  pub types : (block : LaidBlock) → Among block m.blocks → module_named modules block.desc.name ≡ None
