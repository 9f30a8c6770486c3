-- What is written of a crossbar means it, by the laws of printed texts and of crossbars' modules.
use Rattle.std.proofs.Common.{refl}
use Rattle.cg_svspec.specs.Stands.{PrintedTextStands}
use Rattle.cg_busspec.specs.CrossbarModule.{crossbar_module}
use Rattle.cg_busspec.specs.Laws.{CrossbarModuleMeans}
use Rattle.cg_crossbar.specs.Outputs.{module_of_crossbar, written_ranges}
use Rattle.cg_crossbar.specs.Laws.{CrossbarOutputMeans, CrossbarFileMeans}
use Rattle.cg_crossbar.proofs.Valid.{described_is_valid}

pub output_means : PrintedTextStands → CrossbarModuleMeans → CrossbarOutputMeans
unfolding crossbar_module
output_means printed law x ranges valid are apart =
    let means = law x ranges valid are apart in
    record {
      module_of_text = module_of_crossbar x ranges;
      stands = printed (module_of_crossbar x ranges) means.well_formed.printable;
      named = refl;
      means = means;
    }

pub file_means : CrossbarOutputMeans → CrossbarFileMeans
file_means law file x good = law x (written_ranges x) (described_is_valid file x good.describes) good.spaced good.no_clash
