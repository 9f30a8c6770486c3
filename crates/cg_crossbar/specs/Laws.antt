-- The laws of crossbars' files.
use Rattle.std.specs.Prelude.{◌≡◌, List, None}
use Rattle.cg_desc.specs.Crossbar.{IsValidCrossbar}
use Rattle.cg_desc.specs.Ranges.{AreRangesOf}
use Rattle.cg_desc.specs.declared.crossbar.NodeRanges.{NodeRanges}
use Rattle.cg_desc.specs.declared.crossbar.XbarDesc.{XbarDesc}
use Rattle.cg_finding.specs.Finding.{Finding}
use Rattle.cg_files.specs.Files.{File}
use Rattle.cg_crossbar.specs.Outputs.{clash_of, crossbar_output, written_ranges}
use Rattle.cg_crossbar.specs.Breaks.{BreaksAlone, IsGoodFile}
use Rattle.cg_crossbar.specs.Meaning.{CrossbarTextMeans}

-- what is written of a valid crossbar with its ranges, in which no name comes twice, has its meaning
abbrev pub CrossbarOutputMeans : Type 0
CrossbarOutputMeans =
    (x : XbarDesc) (ranges : List NodeRanges) → IsValidCrossbar x → AreRangesOf x ranges → clash_of x ranges ≡ None → CrossbarTextMeans x ranges (crossbar_output x ranges).bytes

-- what is written of a file of a crossbar that breaks nothing has its meaning
abbrev pub CrossbarFileMeans : Type 0
CrossbarFileMeans = (file : File) (x : XbarDesc) → IsGoodFile file x → CrossbarTextMeans x (written_ranges x) (crossbar_output x (written_ranges x)).bytes

-- a file of a crossbar that breaks nothing breaks nothing
abbrev pub GoodFileBreaksNothing : Type 0
GoodFileBreaksNothing = (file : File) (x : XbarDesc) (f : Finding) → IsGoodFile file x → ¬ BreaksAlone file f

-- a file is of one such crossbar at most
abbrev pub GoodFileIsOne : Type 0
GoodFileIsOne = (file : File) (x y : XbarDesc) → IsGoodFile file x → IsGoodFile file y → x ≡ y
