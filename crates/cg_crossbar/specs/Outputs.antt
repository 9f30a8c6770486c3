-- What is written of a crossbar, and the first name that comes twice in it.
use Rattle.std.specs.Prelude.{ℕ, List, [], ◌++◌, map, codes, cond, Option}
use Rattle.cg_svspec.specs.Layout.{module_text}
use Rattle.cg_svspec.specs.Names.{module_names, first_repeat}
use Rattle.cg_svspec.specs.Tree.{Module}
use Rattle.cg_desc.specs.declared.crossbar.NodeDesc.{NodeDesc}
use Rattle.cg_desc.specs.declared.crossbar.NodeRanges.{NodeRanges}
use Rattle.cg_desc.specs.declared.crossbar.XbarDesc.{XbarDesc}
use Rattle.cg_busspec.specs.Crossbar.{crossbar_of}
use Rattle.cg_busspec.specs.CrossbarModule.{crossbar_module}
use Rattle.cg_outputs.specs.declared.out_file.OutFile.{OutFile}

-- the module of a crossbar whose nodes have these ranges
abbrev pub module_of_crossbar : XbarDesc → List NodeRanges → Module
module_of_crossbar x ranges = crossbar_module (crossbar_of x ranges)

-- the first name that repeats in its module
abbrev pub clash_of : XbarDesc → List NodeRanges → Option (List ℕ)
clash_of x ranges = first_repeat (module_names (module_of_crossbar x ranges))

-- the name of its module
abbrev pub module_name_of : XbarDesc → List ℕ
module_name_of x = codes "xbar_" ++ x.name

-- the file that is written of it
abbrev pub crossbar_output : XbarDesc → List NodeRanges → OutFile
crossbar_output x ranges = record { name = module_name_of x ++ codes ".sv"; bytes = module_text (module_of_crossbar x ranges) }

-- ---- a crossbar that stands alone

-- what is written for a device; what is written for a host does not count
abbrev pub written_for : NodeDesc → NodeRanges
written_for node = record { ranges = cond node.host [] node.ranges }

-- the ranges of its nodes
abbrev pub written_ranges : XbarDesc → List NodeRanges
written_ranges x = map written_for x.nodes
