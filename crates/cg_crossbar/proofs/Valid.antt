-- What a file describes is valid.
use Rattle.std.proofs.Common.{sym, subst}
use Rattle.cg_desc.specs.Crossbar.{IsValidCrossbar}
use Rattle.cg_desc.specs.declared.crossbar.XbarDesc.{XbarDesc}
use Rattle.cg_xbread.specs.Violations.{keys, nodes}
use Rattle.cg_xbread.proofs.Valid.{valid_crossbar}
use Rattle.cg_files.specs.Files.{File}
use Rattle.cg_crossbar.specs.Stages.{Describes}

pub described_is_valid : (file : File) (x : XbarDesc) → Describes file x → IsValidCrossbar x
described_is_valid file x is =
    subst IsValidCrossbar (sym is.is) (valid_crossbar file.number is.tree (λ f broken. is.sound f (keys broken)) (λ f broken. is.sound f (nodes (λ g also. is.sound g (keys also)) broken)))
