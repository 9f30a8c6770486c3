-- A crossbar's description, as its file gives it.
use Rattle.std.specs.Prelude.{◌≡◌}
use Rattle.cg_desc.specs.declared.crossbar.XbarDesc.{XbarDesc}
use Rattle.cg_finding.specs.Finding.{Finding}
use Rattle.cg_hjson.specs.declared.tree.Tree.{Tree}
use Rattle.cg_xbread.specs.Described.{crossbar_of}
use Rattle.cg_xbread.specs.Violations.{Violates as BreaksDescription}
use Rattle.cg_files.specs.Files.{File, HasTree}

-- The file is a document that breaks no rule of crossbars' descriptions, and describes this crossbar.
pub record Describes (file : File) (x : XbarDesc) : Type 0 where
  pub tree : Tree
  pub has_tree : HasTree file tree
  pub sound : (f : Finding) → ¬ BreaksDescription tree f
  pub is : x ≡ crossbar_of file.number tree
