-- What the text that is written of a crossbar means.
use Rattle.std.specs.Prelude.{◌≡◌, ℕ, List, [], ◌∷◌}
use Rattle.cg_svspec.specs.Stands.{Stands}
use Rattle.cg_svspec.specs.Tree.{Module}
use Rattle.cg_desc.specs.declared.crossbar.NodeRanges.{NodeRanges}
use Rattle.cg_desc.specs.declared.crossbar.XbarDesc.{XbarDesc}
use Rattle.cg_busspec.specs.CrossbarMeaning.{CrossbarMeans}
use Rattle.cg_crossbar.specs.Outputs.{module_name_of}

-- The text stands for one module, of the crossbar's name, that is the crossbar: every request of every host ends at the port of the device
-- that the host connects to and that has its address in a range, and in an error where there is none.
pub record CrossbarTextMeans (x : XbarDesc) (ranges : List NodeRanges) (text : List ℕ) : Type 0 where
  pub module_of_text : Module
  pub stands : Stands text (module_of_text ∷ [])
  pub named : module_of_text.name ≡ module_name_of x
  pub means : CrossbarMeans module_of_text x ranges
