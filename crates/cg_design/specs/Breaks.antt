-- What each of a top's files breaks by itself. Each rule is read where what it speaks of breaks no rule of an earlier phase.
use Rattle.std.specs.Prelude.{◌≡◌, ◌≢◌, ℕ, List, codes, Some, Result, Ok, Err}
use Rattle.cg_desc.specs.declared.block.LaidBlock.{LaidBlock}
use Rattle.cg_desc.specs.declared.crossbar.XbarDesc.{XbarDesc}
use Rattle.cg_desc.specs.declared.fault.DescFault.{DescFault}
use Rattle.cg_desc.specs.declared.top.TopDesc.{TopDesc}
use Rattle.cg_finding.specs.Finding.{Finding}
use Rattle.cg_finding.specs.Rules as rules
use Rattle.cg_finding.specs.Violations.{RefusesFirst}
use Rattle.cg_hjson.specs.declared.tree.Tree.{Tree}
use Rattle.cg_keys.specs.Lookups.{place_at, text_at}
use Rattle.cg_keys.specs.Values.{members_of}
use Rattle.cg_files.specs.Files.{File, HasTree, BreaksFile}
use Rattle.cg_topread.specs.Described.{top_of}
use Rattle.cg_topread.specs.Violations.{Violates as BreaksTopKeys}
use Rattle.cg_block.specs.Breaks.{BreaksLayout}
use Rattle.cg_block.specs.Stages.{IsLaidOutAs}
use Rattle.cg_crossbar.specs.Breaks.{BreaksCrossbar}
use Rattle.cg_crossbar.specs.Stages.{Describes}

-- ---- names

-- The string at `name` is another one than that under which the top has the file; at the value.
pub record IsMisnamed (name : List ℕ) (t : Tree) (f : Finding) : Type 0 where
  pub text : List ℕ
  pub written : text_at (codes "name") (members_of t) ≡ Some text
  pub differs : text ≢ name
  pub says : f ≡ rules.bad_name (place_at (codes "name") (members_of t) t.at) (codes "name")

-- ---- what is broken

-- what a top's own file breaks up to its keys
pub data BreaksTopFile (file : File) : Finding → Type 0 where
  of_file : {f : Finding} → BreaksFile file f → BreaksTopFile file f
  keys : {f : Finding} (t : Tree) → HasTree file t → BreaksTopKeys t f → BreaksTopFile file f

-- what the file of a crossbar that is listed under this name breaks up to its nodes and connections
pub data BreaksCrossbarFile (name : List ℕ) (file : File) : Finding → Type 0 where
  of_crossbar : {f : Finding} → BreaksCrossbar file f → BreaksCrossbarFile name file f
  misnamed : {f : Finding} (t : Tree) → HasTree file t → IsMisnamed name t f → BreaksCrossbarFile name file f

-- what the file of the block of this type breaks up to its layout
pub data BreaksBlockFile (kind : List ℕ) (file : File) : Finding → Type 0 where
  of_file : {f : Finding} → BreaksFile file f → BreaksBlockFile kind file f
  layout : {f : Finding} (t : Tree) → HasTree file t → BreaksLayout file.number t f → BreaksBlockFile kind file f
  misnamed : {f : Finding} (t : Tree) → HasTree file t → IsMisnamed kind t f → BreaksBlockFile kind file f

-- ---- what is described

-- the file, whose tree this is, describes this top
pub record DescribesTop (file : File) (tree : Tree) (top : TopDesc) : Type 0 where
  pub has_tree : HasTree file tree
  pub sound : (f : Finding) → ¬ BreaksTopKeys tree f
  pub is : top ≡ top_of file.number tree

-- the file describes this crossbar, under this name
pub record DescribesCrossbar (name : List ℕ) (file : File) (x : XbarDesc) : Type 0 where
  pub describes : Describes file x
  pub named : x.name ≡ name

-- the file, whose tree this is, describes this block, under this name, and its interfaces are laid out so
pub record DescribesBlock (kind : List ℕ) (file : File) (t : Tree) (laid : LaidBlock) : Type 0 where
  pub has_tree : HasTree file t
  pub laid_out : IsLaidOutAs file.number t laid
  pub named : laid.desc.name ≡ kind

-- ---- what is answered

-- a value that is right; or a refusal that names the first of these
abbrev pub Finds : {X : Type 0} → Result X DescFault → ℕ → (Finding → Type 0) → (X → Type 0) → Type 0
Finds (Ok x) number Breaks IsRight = IsRight x
Finds (Err e) number Breaks IsRight = RefusesFirst e number Breaks
