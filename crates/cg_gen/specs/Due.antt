-- What a run is to do, by its words and by what the store gave for the files that they name.
use Rattle.std.specs.Prelude.{ℕ, List, [], ◌∷◌, ◌++◌, map, length, codes}
use Rattle.cg_deeds.specs.Told.{built_line, line}
use Rattle.cg_desc.specs.FaultText.{fault_line}
use Rattle.cg_desc.specs.declared.fault.Fault.{Fault}
use Rattle.cg_finding.specs.Violations.{IsFirstFault}
use Rattle.cg_outputs.specs.declared.out_file.OutFile.{OutFile}
use Rattle.cg_words.specs.Words.{IsCommand}
use Rattle.cg_words.specs.declared.command.Command.{Command}
use Rattle.cg_words.specs.declared.command.Command.TheVariants.{Sample}
use Rattle.cg_deeds.specs.declared.deed.Stream.TheVariants.{Out, Err}
use Rattle.cg_deeds.specs.declared.deed.Deed.{Deed}
use Rattle.cg_deeds.specs.declared.deed.Deed.TheVariants.{Write, Say}
use Rattle.cg_gen.specs.declared.due.Status.{Status}
use Rattle.cg_gen.specs.declared.due.Status.TheVariants.{Built, Refused, NoCommand}
use Rattle.cg_gen.specs.declared.due.Due.{Due}
use Rattle.cg_gen.specs.Reads.{Read, name_of_file}
use Rattle.cg_deeds.specs.Told.{stored_name}
use Rattle.cg_gen.specs.Sample.{IsSampleDue}
use Rattle.cg_gen.specs.Commands.{IsBuiltCommand, NextRead, Violates, IsGood, AreWritten, folder_of}

-- the usage text, of all commands
unfoldable pub usage : List ℕ
usage =
    line (codes "usage: regtool (-r|-D|-j) -t DIR FILE") ++ (line (codes "usage: tlgen -t FILE -o DIR")
    ++ (line (codes "usage: topgen -t FILE -o DIR -w N") ++ (line (codes "usage: session -t FILE -o DIR -w N")
    ++ (line (codes "usage: probe DIR HOST ADDR") ++ line (codes "usage: sample NUMBER")))))

-- ---- the reads of a command

-- the command reads these files, in this order
pub data HasRead (command : Command) : List Read → Type 0 where
  none : HasRead command []
  one_more : (reads : List Read) (next : Read) → HasRead command reads → NextRead command reads next.name → HasRead command (reads ++ next ∷ [])

-- and no further one
pub record HasReadAll (command : Command) (reads : List Read) : Type 0 where
  pub has_read : HasRead command reads
  pub all : (name : List ℕ) → ¬ NextRead command reads name

-- ---- deeds

-- a file is written into a folder
abbrev pub write_of : List ℕ → OutFile → Deed
write_of dir o = Write (stored_name dir o.name) o.bytes

-- the outputs are written, and their number is told
abbrev pub due_of_outputs : List ℕ → List OutFile → Due
due_of_outputs dir outputs = record { deeds = map (write_of dir) outputs ++ (Say Out (built_line (length outputs) 0) ∷ []); status = Built }

-- a line is told among the errors
abbrev pub due_of_line : List ℕ → Status → Due
due_of_line text status = record { deeds = Say Err text ∷ []; status = status }

-- the fault's line is told
abbrev pub due_of_fault : List Read → Fault → Due
due_of_fault reads fault = due_of_line (line (fault_line (name_of_file reads fault.file) fault)) Refused

-- the usage text is told
abbrev pub due_of_no_command : Due
due_of_no_command = due_of_line usage NoCommand

-- ---- what is due

-- What is due behind these reads. The words are no command that is built, and nothing is read; or they are one, all its files were
-- read, and the first fault of them is told, exactly where there is one; or else its outputs are written. Of a sample nothing is read.
pub data IsDue (words : List (List ℕ)) : List Read → Due → Type 0 where
  no_command : ((c : Command) → IsBuiltCommand c → ¬ IsCommand words c) → IsDue words [] due_of_no_command
  refuses : (reads : List Read) (fault : Fault) (c : Command) → IsCommand words c → HasReadAll c reads → IsFirstFault (Violates c reads) fault
      → IsDue words reads (due_of_fault reads fault)
  builds : (reads : List Read) (c : Command) (outputs : List OutFile) → IsCommand words c → IsBuiltCommand c → HasReadAll c reads → ((fault : Fault) → ¬ Violates c reads fault)
      → IsGood c reads → AreWritten c reads outputs → IsDue words reads (due_of_outputs (folder_of c) outputs)
  samples : (number : ℕ) (due : Due) → IsCommand words (Sample number) → IsSampleDue number due → IsDue words [] due
