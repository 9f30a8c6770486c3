-- `topgen`: a whole top, from the files that its description names to all that is written of it.
use Rattle.std.specs.Prelude.{◌≡◌, ℕ, ◌+◌, eqb, not, List, [], ◌∷◌, ◌++◌, length, replicate, slice_get, cond, drop, nat_lt, option_map, Option, Some, None}
use Rattle.std.specs.FinMap as fin
use Rattle.cg_base.specs.Outside.{Files}
use Rattle.cg_svspec.specs.Characters.{Each}
use Rattle.cg_svspec.specs.Names.{Among}
use Rattle.cg_desc.specs.declared.fault.Fault.{Fault}
use Rattle.cg_files.specs.Files.{limit}
use Rattle.cg_outputs.specs.declared.out_file.OutFile.{OutFile}
use Rattle.cg_keep.specs.Files.{AreWanted, BuiltMeans, IsBuilt}
use Rattle.cg_keep.specs.Files as keep
use Rattle.cg_deeds.specs.Told.{stored_name}
use Rattle.cg_gen.specs.Reads.{Read}

-- ---- names

-- a folder with its last slash, or none
pub data IsFolder : List ℕ → Type 0 where
  none : IsFolder []
  some : (name : List ℕ) → IsFolder (name ++ 47 ∷ [])

-- the file of this whole name has this name in this folder
pub record StandsIn (file folder name : List ℕ) : Type 0 where
  pub is : file ≡ folder ++ name
  pub folder_is : IsFolder folder
  pub without_slash : Each (λ c. not (eqb c 47)) name

-- ---- the files that were read

-- too many bytes
unfoldable pub too_many : List ℕ
too_many = replicate (1 + limit) 0

-- of a file that is too large nothing is kept but that it is
abbrev pub as_kept : List ℕ → List ℕ
as_kept bytes = cond (nat_lt limit (length bytes)) too_many bytes

-- the name of a file in a folder, whose whole name begins with the folder's
abbrev pub in_folder : List ℕ → List ℕ → List ℕ
in_folder folder name = drop (length folder) name

-- with a file that was read; the first that the store gave for a name counts
abbrev pub with_given : Files → List ℕ → Option (List ℕ) → Option (List ℕ) → Files
with_given files name (Some kept) given = files
with_given files name None None = files
with_given files name None (Some bytes) = fin.insert files name (as_kept bytes)

abbrev pub with_read : List ℕ → Files → Read → Files
with_read folder files r = with_given files (in_folder folder r.name) (fin.get files (in_folder folder r.name)) r.given

abbrev pub with_reads : List ℕ → Files → List Read → Files
with_reads folder files [] = files
with_reads folder files (r ∷ rs) = with_reads folder (with_read folder files r) rs

-- the files that were read, by their names in the folder
abbrev pub files_read : List ℕ → List Read → Files
files_read folder reads = with_reads folder fin.empty reads

-- ---- the command

-- it reads the top's own file, and then each file that this one names, in their order and in its folder
pub data NextRead (file : List ℕ) : List Read → List ℕ → Type 0 where
  own : NextRead file [] file
  next : {name : List ℕ} {names : List (List ℕ)} {folder own : List ℕ} (first : Read) (more : List Read) → StandsIn file folder own
      → AreWanted (fin.get (files_read folder (first ∷ [])) own) own names → slice_get names (length (first ∷ more)) ≡ Some name → NextRead file (first ∷ more) (folder ++ name)

-- the files that it read break this rule
pub record Violates (file : List ℕ) (reads : List Read) (fault : Fault) : Type 0 where
  pub folder : List ℕ
  pub own : List ℕ
  pub stands : StandsIn file folder own
  pub breaks : keep.Violates own (files_read folder reads) fault

-- and this is all that is written of them, where they break none
pub record AreWritten (file : List ℕ) (reads : List Read) (outputs : List OutFile) : Type 0 where
  pub folder : List ℕ
  pub own : List ℕ
  pub stands : StandsIn file folder own
  pub built : IsBuilt own (files_read folder reads) outputs

abbrev pub IsGood : List ℕ → List Read → Type 0
IsGood file reads = (outputs : List OutFile) × AreWritten file reads outputs

-- ---- what a good run means, where the files are told

-- The names of the build's files, as the files in the store name them, with these files.
pub record HasFiles (file : List ℕ) (before : Files) (own : List ℕ) (files : Files) : Type 0 where
  pub folder : List ℕ
  pub stands : StandsIn file folder own
  pub names : List (List ℕ)
  pub wanted : AreWanted (fin.get files own) own names
  pub are : (name : List ℕ) → Among name names → fin.get files name ≡ option_map as_kept (fin.get before (folder ++ name))

-- The files break nothing; the store holds all that is written of them, and every name that is none of its outputs' is as it was.
pub record WritesTop (dir file : List ℕ) (before after : Files) : Type 0 where
  pub own : List ℕ
  pub files : Files
  pub has_files : HasFiles file before own files
  pub outputs : List OutFile
  pub built : IsBuilt own files outputs
  pub means : BuiltMeans own files outputs
  pub holds : (o : OutFile) → Among o outputs → fin.get after (stored_name dir o.name) ≡ Some o.bytes
  pub others : (name : List ℕ) → ((o : OutFile) → Among o outputs → ¬ (name ≡ stored_name dir o.name)) → fin.get after name ≡ fin.get before name
