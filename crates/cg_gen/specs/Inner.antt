-- What the parts of a run say, from which the clauses of the whole are made.
use Rattle.std.specs.Prelude.{◌≡◌, ◌<◌, ℕ, List, length, Option, Some, None, Result, Ok, Err}
use Rattle.cg_base.specs.Outside.{Files}
use Rattle.cg_desc.specs.declared.fault.Fault.{Fault}
use Rattle.cg_finding.specs.Violations.{IsFirstFault}
use Rattle.cg_words.specs.Words.{IsCommand}
use Rattle.cg_words.specs.declared.command.Command.{Command}
use Rattle.cg_words.specs.declared.command.Command.TheVariants as command
use Rattle.cg_words.specs.declared.fault.WordsFault.{WordsFault}
use Rattle.cg_words.specs.declared.fault.WordsFault.TheVariants as unread
use Rattle.cg_gen.specs.declared.said.Said.{Said}
use Rattle.cg_gen.specs.declared.said.Said.TheVariants as said
use Rattle.cg_outputs.specs.declared.out_file.OutFile.{OutFile}
use Rattle.cg_files.specs.Files.{File, limit}
use Rattle.cg_deeds.specs.declared.deed.Deed.{Deed}
use Rattle.cg_gen.specs.declared.due.Due.{Due}
use Rattle.cg_gen.specs.declared.ending.Ending.{Ending}
use Rattle.cg_gen.specs.declared.ending.Ending.TheVariants.{Done, ReadFailed, WriteFailed, Memory}
use Rattle.cg_gen.specs.declared.given.Given.{Given}
use Rattle.cg_gen.specs.declared.given.Given.TheVariants as given
use Rattle.cg_deeds.specs.declared.stop.Stop.{Stop}
use Rattle.cg_deeds.specs.declared.stop.Stop.TheVariants as stop
use Rattle.cg_deeds.specs.Outside.{Outlets}
use Rattle.cg_deeds.specs.Deeds.{contents, after_deeds, FaultRose, StoppedAt}
use Rattle.cg_gen.specs.Reads.{Read}
use Rattle.cg_gen.specs.Commands.{Violates, IsGood, AreWritten, folder_of}
use Rattle.cg_gen.specs.Due.{due_of_fault, due_of_outputs}
use Rattle.cg_gen.specs.Run.{Finds, NextReadFails}

-- ---- deeds

-- how the performing of what is due ends
abbrev pub PerformEnds : Ending → Due → Outlets → Outlets → Type 0
PerformEnds (Done status) due before after = (due.status ≡ status) × (contents after ≡ after_deeds due.deeds (contents before))
PerformEnds ReadFailed due before after = ⊥
PerformEnds WriteFailed due before after =
    (deed : Deed) × StoppedAt deed due.deeds (contents before) (contents after) × FaultRose deed before after
PerformEnds Memory due before after = (deed : Deed) × StoppedAt deed due.deeds (contents before) (contents after)

-- ---- reads

-- what the program holds of a file is what the store gave: of one that is too large nothing but that it is
abbrev pub IsGiven : Given → Option (List ℕ) → Type 0
IsGiven given.Absent g = g ≡ None
IsGiven given.Large g = (bytes : List ℕ) × (g ≡ Some bytes) × (limit < length bytes)
IsGiven (given.Bytes bytes) g = g ≡ Some bytes

-- the only file of a build
abbrev pub only_file : Option (List ℕ) → File
only_file g = record { number = 0; before = 0; given = g }

-- ---- what is due for a command's files

-- the first fault of them is told, exactly where there is one; or else the outputs are written into the folder
pub data IsDueFor (Violates : Fault → Type 0) (Good : Type 0) (AreWritten : List OutFile → Type 0) (dir : List ℕ) (reads : List Read) (due : Due) : Type 0 where
  refuses : (fault : Fault) → IsFirstFault Violates fault → due ≡ due_of_fault reads fault → IsDueFor Violates Good AreWritten dir reads due
  builds : (outputs : List OutFile) → ((fault : Fault) → ¬ Violates fault) → Good → AreWritten outputs → due ≡ due_of_outputs dir outputs
      → IsDueFor Violates Good AreWritten dir reads due

-- for the command behind these reads
abbrev pub IsDueFrom : Command → List Read → Due → Type 0
IsDueFrom c reads due = IsDueFor (Violates c reads) (IsGood c reads) (AreWritten c reads) (folder_of c) reads due

-- ---- the plan

-- what is due is found, or a read of the command failed; want of memory says nothing
abbrev pub PlanEnds : Result Due Stop → List (List ℕ) → Option Files → (asked asked' : Option (List (List ℕ))) → (faults faults' : ℕ) → Type 0
PlanEnds (Ok due) words files asked asked' faults faults' = (reads : List Read) × Finds words files asked asked' reads due
PlanEnds (Err stop.Failed) words files asked asked' faults faults' = NextReadFails words files asked asked' faults faults'
PlanEnds (Err stop.Memory) words files asked asked' faults faults' = Unit {0}

-- ---- words

-- the words are this command, or none
abbrev pub AreWords : List (List ℕ) → Option Command → Type 0
AreWords words (Some c) = IsCommand words c
AreWords words None = (c : Command) → ¬ IsCommand words c

-- a session's words; or another command's, or none; or that memory was not found for reading them
abbrev pub IsSaid : Result Command WordsFault → Said → Type 0
IsSaid read (said.Session file dir workers) = read ≡ Ok (command.Session file dir workers)
IsSaid read (said.OnFiles (Some c)) = (read ≡ Ok c) × ((file dir : List ℕ) (workers : ℕ) → ¬ (c ≡ command.Session file dir workers))
IsSaid read (said.OnFiles None) = read ≡ Err unread.NotCommand
IsSaid read said.Memory = read ≡ Err unread.Memory
