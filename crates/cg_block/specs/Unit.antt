-- The unit of a block's file.
use Rattle.std.specs.Prelude.{◌≡◌, ◌++◌, map, codes}
use Rattle.cg_svspec.specs.Layout.{module_text}
use Rattle.cg_svspec.specs.Tree.{Module}
use Rattle.cg_sv.specs.Views.{module_of}
use Rattle.cg_regspec.specs.RegisterModule.{modules_of}
use Rattle.cg_hdrspec.specs.BlockHeader.{header_text}
use Rattle.cg_files.specs.Files.{File}
use Rattle.cg_outputs.specs.declared.out_file.OutFile.{OutFile}
use Rattle.cg_desc.specs.declared.block.LaidBlock.{LaidBlock}
use Rattle.cg_hjson.specs.declared.tree.Tree.{Tree}
use Rattle.cg_block.specs.declared.texts.BlockTexts.{BlockTexts}
use Rattle.cg_block.specs.declared.unit.BlockUnit.{BlockUnit}
use Rattle.cg_block.specs.Breaks.{IsGoodFile}

-- the block of a file that breaks nothing, with its register modules and its header
pub record IsUnitOf (file : File) (unit : BlockUnit) : Type 0 where
  pub is_good : IsGoodFile file unit.tree unit.laid
  pub modules : map module_of unit.texts.modules ≡ modules_of unit.laid
  pub header : unit.texts.header ≡ header_text unit.laid

-- the unit of these
abbrev pub unit_with : Tree → LaidBlock → BlockTexts → BlockUnit
unit_with t laid texts = record { tree = t; laid = laid; texts = texts }

-- the text of a module, under its name
abbrev pub module_output : Module → OutFile
module_output m = record { name = m.name ++ codes ".sv"; bytes = module_text m }
