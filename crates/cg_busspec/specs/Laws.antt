-- The law of crossbars' modules.
use Rattle.std.specs.Prelude.{◌≡◌, List, None}
use Rattle.cg_svspec.specs.Names.{module_names, first_repeat}
use Rattle.cg_desc.specs.Crossbar.{IsValidCrossbar}
use Rattle.cg_desc.specs.declared.crossbar.NodeRanges.{NodeRanges}
use Rattle.cg_desc.specs.declared.crossbar.XbarDesc.{XbarDesc}
use Rattle.cg_busspec.specs.Crossbar.{crossbar_of}
use Rattle.cg_busspec.specs.CrossbarModule.{crossbar_module}
use Rattle.cg_busspec.specs.CrossbarMeaning.{CrossbarMeans}
use Rattle.cg_busspec.specs.Ranges.{AreRangesOf}

-- The module of a valid crossbar with its ranges, in which no name repeats, is the crossbar.
abbrev pub CrossbarModuleMeans : Type 0
CrossbarModuleMeans =
    (x : XbarDesc) (ranges : List NodeRanges) → IsValidCrossbar x → AreRangesOf x ranges → first_repeat (module_names (crossbar_module (crossbar_of x ranges))) ≡ None
    → CrossbarMeans (crossbar_module (crossbar_of x ranges)) x ranges
