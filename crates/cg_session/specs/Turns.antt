-- How the deeds of a build end: inner definitions. A build says nothing among the errors, so what they hold is left open.
use Rattle.std.specs.Prelude.{◌≡◌, ◌⊎◌, ◌≤◌, ℕ, true, false, List, [], ◌∷◌, Option, None, Result, Ok, Err}
use Rattle.std.specs.FinMap as fin
use Rattle.cg_base.specs.Outside.{Files, Rose, OnlyAt, written, removed, put, TookPrefix}
use Rattle.cg_outputs.specs.declared.out_file.OutFile.{OutFile}
use Rattle.cg_deeds.specs.Deeds.{Contents, after_deeds}
use Rattle.cg_deeds.specs.Inner.{Stopped}
use Rattle.cg_deeds.specs.declared.deed.Deed.{Deed}
use Rattle.cg_deeds.specs.declared.deed.Deed.TheVariants.{Write, Remove, Say}
use Rattle.cg_deeds.specs.declared.deed.Stream.TheVariants as stream
use Rattle.cg_deeds.specs.declared.stop.Stop.{Stop}
use Rattle.cg_deeds.specs.declared.stop.Stop.TheVariants as stop
use Rattle.cg_session.specs.Answers.{Answer, builds, refuses, Answers, refused_line}
use Rattle.cg_session.specs.Play.{Kept, keeping, stored_all, built_deeds, deeds_of, BuildDoes}
use Rattle.cg_session.specs.declared.kept.Session.{Session}
use Rattle.cg_session.specs.declared.build.BuildAnswer.{BuildAnswer}
use Rattle.cg_session.specs.declared.build.BuildAnswer.TheVariants as answer

-- ---- what a build changes

-- the store's files and the output, with the counts of faults
pub record Side : Type 0 where
  pub files : Option Files
  pub changes : ℕ
  pub out : Option (List ℕ)
  pub out_faults : ℕ

abbrev pub side : Option Files → ℕ → Option (List ℕ) → ℕ → Side
side files changes out out_faults = record { files = files; changes = changes; out = out; out_faults = out_faults }

-- with what the errors hold
abbrev pub seen : Side → Option (List ℕ) → Contents
seen s err = record { files = s.files; out = s.out; err = err }

-- no count fell
pub record NotBefore (before after : Side) : Type 0 where
  pub changes : before.changes ≤ after.changes
  pub out : before.out_faults ≤ after.out_faults

-- nothing was done
pub record Untouched (before after : Side) : Type 0 where
  pub files : after.files ≡ before.files
  pub out : after.out ≡ before.out

-- ---- changes of the store

abbrev pub after_change : Deed → Option Files → Option Files
after_change (Write name bytes) files = written files name bytes
after_change (Remove name) files = removed files name
after_change (Say stream line) files = files

abbrev pub after_changes : List Deed → Option Files → Option Files
after_changes [] files = files
after_changes (d ∷ ds) files = after_changes ds (after_change d files)

abbrev pub BegunChange : Deed → Option Files → Option Files → Type 0
BegunChange (Write name bytes) before after = OnlyAt name before after
BegunChange (Remove name) before after = OnlyAt name before after
BegunChange (Say stream line) before after = ⊥

-- it stopped at one of the changes
abbrev pub StoppedIn : List Deed → Option Files → Option Files → Type 0
StoppedIn [] before after = ⊥
StoppedIn (d ∷ ds) before after = BegunChange d before after ⊎ StoppedIn ds (after_change d before) after

-- how changes end
abbrev pub ChangesEnd : Result (Unit {0}) Stop → List Deed → Option Files → Option Files → ℕ → ℕ → Type 0
ChangesEnd (Ok u) deeds old new f g = new ≡ after_changes deeds old
ChangesEnd (Err stop.Failed) deeds old new f g = Rose f g × StoppedIn deeds old new
ChangesEnd (Err stop.Memory) deeds old new f g = StoppedIn deeds old new

-- how the telling of a line ends
abbrev pub Tells : Result (Unit {0}) Stop → List ℕ → Option (List ℕ) → Option (List ℕ) → ℕ → ℕ → Type 0
Tells (Ok u) line old new f g = new ≡ put old line
Tells (Err stop.Failed) line old new f g = Rose f g × TookPrefix old new line
Tells (Err stop.Memory) line old new f g = TookPrefix old new line

-- ---- all deeds of a build

-- they are done
abbrev pub AllDone : List Deed → Side → Side → Type 0
AllDone deeds before after = (err : Option (List ℕ)) → seen after err ≡ after_deeds deeds (seen before err)

-- one of them was begun
abbrev pub StopsIn : Deed → List Deed → Side → Side → Type 0
StopsIn deed deeds before after = (err : Option (List ℕ)) → Stopped deed deeds (seen before err) (seen after err)

-- the count of its object rose
abbrev pub RoseAt : Deed → Side → Side → Type 0
RoseAt (Write name bytes) before after = Rose before.changes after.changes
RoseAt (Remove name) before after = Rose before.changes after.changes
RoseAt (Say stream.Out line) before after = Rose before.out_faults after.out_faults
RoseAt (Say stream.Err line) before after = ⊥

-- one of them failed
pub record DeedFails (deeds : List Deed) (before after : Side) : Type 0 where
  pub deed : Deed
  pub stops : StopsIn deed deeds before after
  pub rose : RoseAt deed before after

-- memory was not found, before the first or for one of them
pub data DeedUnfound (deeds : List Deed) (before after : Side) : Type 0 where
  before_all : Untouched before after → DeedUnfound deeds before after
  for_one : (deed : Deed) → StopsIn deed deeds before after → DeedUnfound deeds before after

abbrev pub DeedsEnd : Result (Unit {0}) Stop → List Deed → Side → Side → Type 0
DeedsEnd (Ok u) deeds before after = AllDone deeds before after
DeedsEnd (Err stop.Failed) deeds before after = DeedFails deeds before after
DeedsEnd (Err stop.Memory) deeds before after = DeedUnfound deeds before after

-- ---- a build of what is kept

-- all its deeds are done
pub record TurnDone (top dir : List ℕ) (k k' : Kept) (before after : Side) : Type 0 where
  pub deeds : List Deed
  pub does : BuildDoes top dir k k' deeds
  pub done : AllDone deeds before after

-- one of them failed
pub record TurnFails (top dir : List ℕ) (k : Kept) (before after : Side) : Type 0 where
  pub answer : Answer
  pub is_answer : Answers top k.files answer
  pub fails : DeedFails (deeds_of dir k.good answer) before after

-- memory was not found, before the answer or after it
pub data TurnUnfound (top dir : List ℕ) (k : Kept) (before after : Side) : Type 0 where
  no_answer : Untouched before after → TurnUnfound top dir k before after
  no_deed : (answer : Answer) → Answers top k.files answer → DeedUnfound (deeds_of dir k.good answer) before after → TurnUnfound top dir k before after

abbrev pub TurnEnds : Result (Unit {0}) Stop → (top dir : List ℕ) → Kept → Kept → Side → Side → Type 0
TurnEnds (Ok u) top dir k k' before after = TurnDone top dir k k' before after
TurnEnds (Err stop.Failed) top dir k k' before after = TurnFails top dir k before after
TurnEnds (Err stop.Memory) top dir k k' before after = TurnUnfound top dir k before after

-- ---- the program's answer and what it keeps

-- the answer as the program holds it: the outputs under their names in the store, or the line
abbrev pub IsHeld : (dir : List ℕ) → BuildAnswer → Answer → Type 0
IsHeld dir (answer.Built os) (builds outputs) = os ≡ stored_all dir outputs
IsHeld dir (answer.Built os) (refuses names fault) = ⊥
IsHeld dir (answer.Refused line) (builds outputs) = ⊥
IsHeld dir (answer.Refused line) (refuses names fault) = line ≡ refused_line names fault

-- the deeds of an answer that is held so
abbrev pub held_deeds : List OutFile → BuildAnswer → List Deed
held_deeds last (answer.Built os) = built_deeds last os
held_deeds last (answer.Refused line) = Say stream.Out line ∷ []

-- what is kept behind it
abbrev pub held_after : Kept → BuildAnswer → Kept
held_after k (answer.Built os) = keeping k.files os false
held_after k (answer.Refused line) = keeping k.files k.good true

-- what the program keeps
abbrev pub kept_in : Session → Kept
kept_in s = keeping s.keep.files s.good s.refused

-- the top and the folder are as they were
pub record SamePlace (before after : Session) : Type 0 where
  pub top : after.keep.top ≡ before.keep.top
  pub dir : after.dir ≡ before.dir

-- at the beginning of a session
abbrev pub opened : (top dir : List ℕ) → Session
opened top dir = record { keep = record { top = top; files = fin.empty; last = None }; dir = dir; good = []; refused = false }
