-- What the store holds behind the commands of a session, where its files are told.
use Rattle.std.specs.Prelude.{◌≡◌, ℕ, List, [], Some, None}
use Rattle.std.specs.FinMap as fin
use Rattle.cg_base.specs.Outside.{Files}
use Rattle.cg_svspec.specs.Names.{Among}
use Rattle.cg_outputs.specs.declared.out_file.OutFile.{OutFile}
use Rattle.cg_deeds.specs.declared.deed.Deed.{Deed}
use Rattle.cg_deeds.specs.declared.deed.Deed.TheVariants.{Write}
use Rattle.cg_keep.specs.Files.{BuiltMeans, IsBuilt}
use Rattle.cg_session.specs.Play.{stored_all}

-- a file of this name was written
pub record WasWritten (deeds : List Deed) (name : List ℕ) : Type 0 where
  pub bytes : List ℕ
  pub among : Among (Write name bytes) deeds

-- one of the outputs has this name
pub record IsOutputName (os : List OutFile) (name : List ℕ) : Type 0 where
  pub output : OutFile
  pub among : Among output os
  pub is : name ≡ output.name

-- Behind these deeds the store holds the outputs of the last good build; no name that an earlier build has written, but those; and every
-- other name as it was.
pub record HoldsOutputs (good : List OutFile) (deeds : List Deed) (before after : Files) : Type 0 where
  pub outputs : (o : OutFile) → Among o good → fin.get after o.name ≡ Some o.bytes
  pub gone : (name : List ℕ) → WasWritten deeds name → ¬ IsOutputName good name → fin.get after name ≡ None
  pub others : (name : List ℕ) → ¬ WasWritten deeds name → fin.get after name ≡ fin.get before name

-- the last good build's outputs are all that is written of the files as they were then, and mean what these say; or there was none
pub data MeansFiles (top dir : List ℕ) (good : List OutFile) : Type 0 where
  none_yet : good ≡ [] → MeansFiles top dir good
  of_build : (files : Files) (os : List OutFile) → IsBuilt top files os → BuiltMeans top files os → good ≡ stored_all dir os → MeansFiles top dir good
