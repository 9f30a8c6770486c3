-- What a session leaves, by its status.
use Rattle.std.specs.Prelude.{◌≡◌, ◌⊎◌, ◌≤◌, ◌<◌, ◌+◌, ℕ, Bool, true, false, nat_lt, List, [], ◌∷◌, ◌++◌, length, take, codes, cond, Option, Some}
use Rattle.std.specs.Fmt.{decimal}
use Rattle.cg_base.specs.Outside.{Files, Rose, Taken}
use Rattle.cg_inputs.specs.Input.{Command, build_files, Begins, IsEnd, IsNone, IsShort, Reads, Stop, ended, false_line, short, HasReading}
use Rattle.cg_deeds.specs.Outside.{World, Calm}
use Rattle.cg_deeds.specs.Deeds.{contents, after_deeds, FaultRose, StoppedAt}
use Rattle.cg_deeds.specs.Told.{line}
use Rattle.cg_deeds.specs.declared.deed.Deed.{Deed}
use Rattle.cg_deeds.specs.declared.deed.Deed.TheVariants.{Say}
use Rattle.cg_deeds.specs.declared.deed.Stream.TheVariants.{Err}
use Rattle.cg_session.specs.Answers.{Answer, Answers}
use Rattle.cg_session.specs.Holding.{HoldsOutputs, MeansFiles}
use Rattle.cg_session.specs.Play.{Kept, deeds_of, Plays}

-- how many bytes of an input count
abbrev pub limit : ℕ
limit = 67108864

-- no byte is left, where that is told
abbrev pub IsSpent : Option (List ℕ) → Type 0
IsSpent left = (rest : List ℕ) → left ≡ Some rest → rest ≡ []

-- the line that the command of this number is none
abbrev pub no_command_line : ℕ → List ℕ
no_command_line number = line (codes "session command " ++ (decimal number ++ codes " is not a command"))

-- the one behind these commands is told to be none
abbrev pub no_command_told : List Command → List Deed
no_command_told commands = Say Err (no_command_line (length commands + 1)) ∷ []

-- ---- what was taken

-- Of the input these commands were taken, and then this rest, no more than what counts; and so the commands are played.
pub record HasTaken (top dir : List ℕ) (before after : World) (commands : List Command) (rest : List ℕ) (k : Kept) (deeds : List Deed) : Type 0 where
  pub bytes : List ℕ
  pub taken : Taken before.left after.left bytes
  pub within : length bytes ≤ limit
  pub reads : Reads bytes commands rest
  pub plays : Plays top dir commands k deeds

-- all of these deeds are done, and no others
abbrev pub AreDone : World → World → List Deed → Type 0
AreDone before after deeds = contents after.outlets ≡ after_deeds deeds (contents before.outlets)

-- the same, and the deeds of these commands are done
pub record HasDone (top dir : List ℕ) (before after : World) (commands : List Command) (rest : List ℕ) (k : Kept) : Type 0 where
  pub deeds : List Deed
  pub has_taken : HasTaken top dir before after commands rest k deeds
  pub done : AreDone before after deeds

-- ---- 0 to 2

-- 0 and 1, by the last build: the line `end` was taken, and no byte behind it
pub record Finishes (is_refused : Bool) (top dir : List ℕ) (before after : World) : Type 0 where
  pub commands : List Command
  pub rest : List ℕ
  pub kept : Kept
  pub has_done : HasDone top dir before after commands rest kept
  pub is_end : IsEnd rest []
  pub last : kept.refused ≡ is_refused

-- what stands behind the commands is no command, or the input ends in one
pub record IsNoCommand (top dir : List ℕ) (before after : World) (commands : List Command) (deeds : List Deed) : Type 0 where
  pub rest : List ℕ
  pub kept : Kept
  pub has_taken : HasTaken top dir before after commands rest kept deeds
  pub cause : IsNone rest ⊎ (IsShort rest × IsSpent after.left)

-- 2: its number is told
pub record RefusesCommand (top dir : List ℕ) (before after : World) : Type 0 where
  pub commands : List Command
  pub deeds : List Deed
  pub no_command : IsNoCommand top dir before after commands deeds
  pub done : AreDone before after (deeds ++ no_command_told commands)

-- ---- 3

-- 3: the source failed in a command
pub record FailsReading (top dir : List ℕ) (before after : World) : Type 0 where
  pub commands : List Command
  pub rest : List ℕ
  pub kept : Kept
  pub has_done : HasDone top dir before after commands rest kept
  pub is_short : IsShort rest
  pub rose : Rose before.input_faults after.input_faults

-- ---- 4 and 5

-- The last deeds, behind those of the commands before: of a build, behind whose line nothing was taken; or that there is no command.
pub data AreLast (top dir : List ℕ) (before after : World) (deeds last : List Deed) : Type 0 where
  of_build : (commands : List Command) (rest : List ℕ) (k : Kept) (answer : Answer) → HasTaken top dir before after commands rest k deeds → Begins rest build_files []
      → Answers top k.files answer → last ≡ deeds_of dir k.good answer → AreLast top dir before after deeds last
  of_no_command : (commands : List Command) → IsNoCommand top dir before after commands deeds → last ≡ no_command_told commands
      → AreLast top dir before after deeds last

-- one of the last deeds was begun, behind those that are done
pub record StopsAt (top dir : List ℕ) (before after : World) (deed : Deed) : Type 0 where
  pub deeds : List Deed
  pub last : List Deed
  pub are_last : AreLast top dir before after deeds last
  pub stopped : StoppedAt deed last (after_deeds deeds (contents before.outlets)) (contents after.outlets)

-- 4: and it failed
pub record FailsWriting (top dir : List ℕ) (before after : World) : Type 0 where
  pub deed : Deed
  pub stops : StopsAt top dir before after deed
  pub rose : FaultRose deed before.outlets after.outlets

-- 5: memory was not found for a command, before its first deed; or for one of the last deeds
pub data MemoryUnfound (top dir : List ℕ) (before after : World) : Type 0 where
  for_command : (commands : List Command) (rest : List ℕ) (k : Kept) → HasDone top dir before after commands rest k → MemoryUnfound top dir before after
  for_deed : (deed : Deed) → StopsAt top dir before after deed → MemoryUnfound top dir before after

-- ---- 6

-- 6: what counts of the input was taken, which ends in a command, and one more byte came
pub record IsTooLong (top dir : List ℕ) (before after : World) : Type 0 where
  pub commands : List Command
  pub rest : List ℕ
  pub kept : Kept
  pub deeds : List Deed
  pub bytes : List ℕ
  pub more : ℕ
  pub taken : Taken before.left after.left (bytes ++ more ∷ [])
  pub full : length bytes ≡ limit
  pub reads : Reads bytes commands rest
  pub is_short : IsShort rest
  pub plays : Plays top dir commands kept deeds
  pub done : AreDone before after deeds

-- ---- exactly where

-- the status of an input whose first bytes read so, and which has more than these or not
abbrev pub HasStatus : (top dir : List ℕ) → List Command → Stop → Bool → ℕ → Type 0
HasStatus top dir commands (ended rest) more status =
    (k : Kept) × (deeds : List Deed) × Plays top dir commands k deeds × (status ≡ cond k.refused 1 0)
HasStatus top dir commands false_line more status = status ≡ 2
HasStatus top dir commands short more status = status ≡ cond more 6 2

-- Where no count rose and the input is told, it decides the status, but for want of memory.
abbrev pub Completes : ℕ → (top dir : List ℕ) → World → World → Type 0
Completes status top dir before after =
    Calm before after → (cs : List ℕ) → before.left ≡ Some cs → (commands : List Command) (stop : Stop) → HasReading (take limit cs) commands stop
    → HasStatus top dir commands stop (nat_lt limit (length cs)) status ⊎ (status ≡ 5)

-- ---- the whole

-- the store was asked to read nothing
pub record ReadsNoFile (before after : World) : Type 0 where
  pub asked : after.asked ≡ before.asked
  pub reads : after.reads ≡ before.reads

-- Behind commands that are done the store holds, where its files are told, the outputs of their last good build, which mean what its files
-- say; no other name that was written; and every other name as it was.
abbrev pub DoneMeans : (top dir : List ℕ) → World → World → Type 0
DoneMeans top dir before after =
    (commands : List Command) (rest : List ℕ) (k : Kept) (d : HasDone top dir before after commands rest k) (m : Files) → before.outlets.files ≡ Some m
    → (n : Files) × (after.outlets.files ≡ Some n) × HoldsOutputs k.good d.deeds m n × MeansFiles top dir k.good

-- What a session with this status did: of the top with this name among the files that were put, into this folder.
pub record SessionRuns (status : ℕ) (top dir : List ℕ) (before after : World) : Type 0 where
  pub range : status < 7
  -- the last build was good, or there was none
  pub good : status ≡ 0 → Finishes false top dir before after
  -- the last build was refused
  pub refused : status ≡ 1 → Finishes true top dir before after
  -- a command is none, or cut short, and its number is told
  pub no_command : status ≡ 2 → RefusesCommand top dir before after
  pub read_failed : status ≡ 3 → FailsReading top dir before after
  pub write_failed : status ≡ 4 → FailsWriting top dir before after
  pub memory : status ≡ 5 → MemoryUnfound top dir before after
  pub too_long : status ≡ 6 → IsTooLong top dir before after
  -- where no count rose, the input decides the status, but for want of memory
  pub complete : Completes status top dir before after
  -- the bytes in the store mean what the files of the last good build say
  pub meaning : DoneMeans top dir before after
  pub reads_no_file : ReadsNoFile before after
