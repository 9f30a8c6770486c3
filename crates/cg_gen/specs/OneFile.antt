-- Commands that read one description: what they read, what breaks a rule there, and what they write of it.
use Rattle.std.specs.Prelude.{◌≡◌, ℕ, List, [], Some}
use Rattle.std.specs.FinMap as fin
use Rattle.cg_base.specs.Outside.{Files}
use Rattle.cg_svspec.specs.Names.{Among}
use Rattle.cg_deeds.specs.Told.{stored_name}
use Rattle.cg_desc.specs.declared.fault.Fault.{Fault}
use Rattle.cg_finding.specs.Finding.{Finding, in_file}
use Rattle.cg_outputs.specs.declared.out_file.OutFile.{OutFile}
use Rattle.cg_files.specs.Files.{File, some_file}
use Rattle.cg_gen.specs.Reads.{Read, files_of}

-- it reads its description, and no other file
pub record NextRead (file : List ℕ) (reads : List Read) (name : List ℕ) : Type 0 where
  pub first : reads ≡ []
  pub description : name ≡ file

-- the description breaks a rule, of those that such a file may break
pub record Violates (Breaks : File → Finding → Type 0) (reads : List Read) (fault : Fault) : Type 0 where
  pub file : File
  pub among : Among file (files_of reads)
  pub broken : Finding
  pub breaks : Breaks file broken
  pub is_fault : fault ≡ in_file file.number broken

-- it describes something, which is what such a file that breaks nothing does
pub record IsGood {X : Type 0} (Describes : File → X → Type 0) (reads : List Read) : Type 0 where
  pub file : File
  pub among : Among file (files_of reads)
  pub described : X
  pub is_good : Describes file described

-- the file is asked for of what is described
pub record IsOutput {X : Type 0} (Describes : File → X → Type 0) (IsAskedFor : X → OutFile → Type 0) (reads : List Read) (o : OutFile) : Type 0 where
  pub file : File
  pub among : Among file (files_of reads)
  pub described : X
  pub is_good : Describes file described
  pub is_asked_for : IsAskedFor described o

-- ---- what a good run means, where the files are told

-- the store holds this output, whose bytes have this meaning
pub record HoldsText (dir : List ℕ) (after : Files) (name : List ℕ) (Means : List ℕ → Type 0) : Type 0 where
  pub text : List ℕ
  pub held : fin.get after (stored_name dir name) ≡ Some text
  pub means : Means text

-- The description breaks nothing; the store holds what is asked for of what it describes, with its meaning, and every name that is none
-- of its outputs' is as it was.
pub record Writes {X : Type 0} (Describes : File → X → Type 0) (IsAskedFor : X → OutFile → Type 0) (Holds : File → X → Files → Type 0)
    (dir file : List ℕ) (before after : Files) : Type 0 where
  pub description : List ℕ
  pub is_description : fin.get before file ≡ Some description
  pub described : X
  pub is_good : Describes (some_file 0 0 description) described
  pub holds : Holds (some_file 0 0 description) described after
  pub others : (name : List ℕ) → ((o : OutFile) → IsAskedFor described o → ¬ (name ≡ stored_name dir o.name)) → fin.get after name ≡ fin.get before name
