-- The files that a run reads, in their order, and what a store gave for each.
use Rattle.std.specs.Prelude.{◌≡◌, ℕ, zero, suc, ◌+◌, List, [], ◌∷◌, map, length, Option, Some, None}
use Rattle.std.specs.FinMap as fin
use Rattle.cg_base.specs.Outside.{Files}
use Rattle.cg_svspec.specs.Printable.{AllOf}
use Rattle.cg_files.specs.Files.{File}

-- a file that was read, by its whole name, with what the store gave for it: None where it is absent
pub record Read : Type 0 where
  pub name : List ℕ
  pub given : Option (List ℕ)

abbrev pub read : List ℕ → Option (List ℕ) → Read
read name given = record { name = name; given = given }

-- what the store gave is its file of that name, where its files are told
abbrev pub Gave : Option Files → Read → Type 0
Gave files r = (m : Files) → files ≡ Some m → fin.get m r.name ≡ r.given

abbrev pub GaveAll : Option Files → List Read → Type 0
GaveAll files reads = AllOf (Gave files) reads

abbrev pub names_of : List Read → List (List ℕ)
names_of reads = map (λ r. r.name) reads

-- ---- as the files of a build

-- how many bytes a file has; one that is absent has none
abbrev pub size_of : Option (List ℕ) → ℕ
size_of None = 0
size_of (Some bytes) = length bytes

-- from this number on, where the files before have so many bytes together
abbrev pub files_from : ℕ → ℕ → List Read → List File
files_from number before [] = []
files_from number before (r ∷ rs) =
    record { number = number; before = before; given = r.given } ∷ files_from (suc number) (before + size_of r.given) rs

abbrev pub files_of : List Read → List File
files_of reads = files_from 0 0 reads

-- the name under which the file of this number was looked for
abbrev pub name_of_file : List Read → ℕ → List ℕ
name_of_file [] n = []
name_of_file (r ∷ rs) zero = r.name
name_of_file (r ∷ rs) (suc n) = name_of_file rs n
