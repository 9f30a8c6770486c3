-- What a run leaves, by its status.
use Rattle.std.specs.Prelude.{◌≡◌, ◌⊎◌, ℕ, ◌<◌, List, [], ◌∷◌, ◌++◌, Option, Some}
use Rattle.cg_base.specs.Outside.{Files, Rose, also_asked}
use Rattle.cg_words.specs.Words.{IsCommand}
use Rattle.cg_words.specs.declared.command.Command.{Command}
use Rattle.cg_words.specs.declared.command.Command.TheVariants.{Session}
use Rattle.cg_session.specs.Session.{SessionRuns}
use Rattle.cg_deeds.specs.declared.deed.Deed.{Deed}
use Rattle.cg_gen.specs.declared.due.Due.{Due}
use Rattle.cg_gen.specs.declared.due.Status.{Status}
use Rattle.cg_gen.specs.declared.due.Status.TheVariants.{Built, Refused, NoCommand}
use Rattle.cg_gen.specs.declared.ending.Ending.{Ending}
use Rattle.cg_gen.specs.declared.ending.Ending.TheVariants.{Done, ReadFailed, WriteFailed, Memory}
use Rattle.cg_deeds.specs.Outside.{World, Calm}
use Rattle.cg_deeds.specs.Deeds.{contents, after_deeds, FaultRose, StoppedAt}
use Rattle.cg_gen.specs.Reads.{Read, GaveAll, names_of}
use Rattle.cg_gen.specs.Commands.{NextRead}
use Rattle.cg_gen.specs.Due.{HasRead, IsDue}
use Rattle.cg_gen.specs.Meaning.{WritesMeaning}

-- ---- statuses

abbrev pub number_of : Status → ℕ
number_of Built = 0
number_of Refused = 1
number_of NoCommand = 2

abbrev pub code_of : Ending → ℕ
code_of (Done status) = number_of status
code_of ReadFailed = 3
code_of WriteFailed = 4
code_of Memory = 5

-- ---- what each leaves

-- The store was asked for these files and no others, in this order, and gave them so; and then this is due.
pub record Finds (words : List (List ℕ)) (files : Option Files) (asked asked' : Option (List (List ℕ))) (reads : List Read) (due : Due) : Type 0 where
  pub gave : GaveAll files reads
  pub asked_for : asked' ≡ also_asked asked (names_of reads)
  pub is_due : IsDue words reads due

abbrev pub FindsIn : List (List ℕ) → World → World → List Read → Due → Type 0
FindsIn words before after reads due = Finds words before.outlets.files before.asked after.asked reads due

-- 0, 1 and 2: all that was due with this status is done
pub record Performs (status : Status) (words : List (List ℕ)) (before after : World) : Type 0 where
  pub reads : List Read
  pub due : Due
  pub finds : FindsIn words before after reads due
  pub is_status : due.status ≡ status
  pub is_done : contents after.outlets ≡ after_deeds due.deeds (contents before.outlets)

-- the next read of the command failed, behind these
pub record NextReadFails (words : List (List ℕ)) (files : Option Files) (asked asked' : Option (List (List ℕ))) (faults faults' : ℕ) : Type 0 where
  pub command : Command
  pub is_command : IsCommand words command
  pub reads : List Read
  pub gave : GaveAll files reads
  pub has_read : HasRead command reads
  pub next : List ℕ
  pub is_next : NextRead command reads next
  pub asked_for : asked' ≡ also_asked asked (names_of reads ++ next ∷ [])
  pub rose : Rose faults faults'

-- 3: the next read of the command failed, and nothing changed
pub record ReadFails (words : List (List ℕ)) (before after : World) : Type 0 where
  pub fails : NextReadFails words before.outlets.files before.asked after.asked before.reads after.reads
  pub same : contents after.outlets ≡ contents before.outlets

-- 4: one of the deeds failed, behind those that are done
pub record WriteFails (words : List (List ℕ)) (before after : World) : Type 0 where
  pub reads : List Read
  pub due : Due
  pub finds : FindsIn words before after reads due
  pub deed : Deed
  pub stopped : StoppedAt deed due.deeds (contents before.outlets) (contents after.outlets)
  pub rose : FaultRose deed before.outlets after.outlets

-- an object found no memory for one of the deeds, behind those that are done
pub record DeedUnfound (words : List (List ℕ)) (before after : World) : Type 0 where
  pub reads : List Read
  pub due : Due
  pub finds : FindsIn words before after reads due
  pub deed : Deed
  pub stopped : StoppedAt deed due.deeds (contents before.outlets) (contents after.outlets)

-- 5: memory was not found: before the first deed, or for one
abbrev pub MemoryUnfound : List (List ℕ) → World → World → Type 0
MemoryUnfound words before after = (contents after.outlets ≡ contents before.outlets) ⊎ DeedUnfound words before after

-- Where no count rose and the files are told, whatever is due ends in its status, but for want of memory.
abbrev pub Completes : ℕ → List (List ℕ) → World → World → Type 0
Completes status words before after =
    Calm before after → (m : Files) → before.outlets.files ≡ Some m → (reads : List Read) (due : Due) → GaveAll (Some m) reads → IsDue words reads due
    → (status ≡ number_of due.status) ⊎ (status ≡ 5)

-- ---- the whole

-- what each way to end says
abbrev pub Ends : Ending → List (List ℕ) → World → World → Type 0
Ends (Done status) words before after = Performs status words before after
Ends ReadFailed words before after = ReadFails words before after
Ends WriteFailed words before after = WriteFails words before after
Ends Memory words before after = MemoryUnfound words before after

-- What a run with this status did whose words are no session's.
pub record RunsOnFiles (status : ℕ) (words : List (List ℕ)) (before after : World) : Type 0 where
  pub range : status < 6
  -- the outputs are written, and their number is told
  pub done : status ≡ 0 → Performs Built words before after
  -- the first fault is told, and nothing is written
  pub refused : status ≡ 1 → Performs Refused words before after
  -- the words are no command that is built, and the usage text is told
  pub no_command : status ≡ 2 → Performs NoCommand words before after
  pub read_failed : status ≡ 3 → ReadFails words before after
  pub write_failed : status ≡ 4 → WriteFails words before after
  pub memory : status ≡ 5 → MemoryUnfound words before after
  -- where no count rose, what is due decides the status, but for want of memory
  pub complete : Completes status words before after
  -- the bytes in the store mean what the files that were read describe
  pub meaning : status ≡ 0 → WritesMeaning words before after
  -- no byte of the input is taken
  pub input_left : after.left ≡ before.left

-- What a run with this status did: of a session, by its input; of every other command, and of words that are none, by the files that they name.
pub record Runs (status : ℕ) (words : List (List ℕ)) (before after : World) : Type 0 where
  pub session : (file dir : List ℕ) (workers : ℕ) → IsCommand words (Session file dir workers) → SessionRuns status file dir before after
  pub on_files : ((file dir : List ℕ) (workers : ℕ) → ¬ IsCommand words (Session file dir workers)) → RunsOnFiles status words before after
