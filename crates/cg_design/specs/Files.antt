-- The files of a top, by their names and in their order: its own, those of the crossbars that it lists, and those of its blocks.
use Rattle.std.specs.Prelude.{◌≡◌, ℕ, suc, ◌+◌, List, [], ◌∷◌, ◌++◌, codes, length, map, slice_get, Option, Some, None}
use Rattle.cg_desc.specs.declared.top.TopDesc.{TopDesc}
use Rattle.cg_desc.specs.declared.top.XbarUse.{XbarUse}
use Rattle.cg_files.specs.Files.{File}

-- ---- names

-- the file of a crossbar of this name
abbrev pub crossbar_file : List ℕ → List ℕ
crossbar_file name = codes "xbar_" ++ (name ++ codes ".hjson")

-- the file of the block of this type
abbrev pub block_file : List ℕ → List ℕ
block_file kind = kind ++ codes ".hjson"

-- The files that a top names: those of its crossbars as it lists them, and those of its types of blocks.
abbrev pub named_files : TopDesc → List (List ℕ) → List (List ℕ)
named_files top types = map (λ u. crossbar_file u.name) top.xbars ++ map block_file types

-- ---- numbers

-- how many bytes a file has; one that is absent has none
abbrev pub size_of : Option (List ℕ) → ℕ
size_of None = 0
size_of (Some bytes) = length bytes

-- the file of this number as it is given, None where it is absent, behind files of so many bytes together
abbrev pub given_file : ℕ → ℕ → Option (List ℕ) → File
given_file number before given = record { number = number; before = before; given = given }

-- files as they are given, from this number on, where the files before have so many bytes together
abbrev pub files_from : ℕ → ℕ → List (Option (List ℕ)) → List File
files_from number before [] = []
files_from number before (g ∷ gs) = given_file number before g ∷ files_from (suc number) (before + size_of g) gs

-- the files of a build in their order
abbrev pub numbered : List (Option (List ℕ)) → List File
numbered given = files_from 0 0 given

-- file n of the build is this one
abbrev pub FileIs : List File → ℕ → File → Type 0
FileIs files n file = slice_get files n ≡ Some file

-- ---- which file is whose

-- the file of crossbar x, which the top lists so, behind the top's own
pub record IsCrossbarFile (files : List File) (top : TopDesc) (x : ℕ) (listed : XbarUse) (file : File) : Type 0 where
  pub listed_is : slice_get top.xbars x ≡ Some listed
  pub is : FileIs files (1 + x) file

-- the file of block k, which is of this type, behind those of the crossbars
pub record IsBlockFile (files : List File) (top : TopDesc) (types : List (List ℕ)) (k : ℕ) (kind : List ℕ) (file : File) : Type 0 where
  pub kind_is : slice_get types k ≡ Some kind
  pub is : FileIs files (1 + length top.xbars + k) file
