-- What a run did, by what its words are.
use Rattle.std.proofs.Common.{◌≡◌, ℕ, List, Option, Some, None, Result, Ok, refl, sym, subst, inl}
use Rattle.cg_words.specs.Words.{IsCommand, ReadsCommand}
use Rattle.cg_words.specs.declared.command.Command.{Command}
use Rattle.cg_words.specs.declared.command.Command.TheVariants.{Session}
use Rattle.cg_words.specs.declared.fault.WordsFault.{WordsFault}
use Rattle.cg_words.proofs.ExactWords.{one_command}
use Rattle.cg_deeds.specs.Outside.{World}
use Rattle.cg_session.specs.Laws.{SessionHolds}
use Rattle.cg_session.specs.Session.{SessionRuns}
use Rattle.cg_session.specs.declared.ending.Ending.TheVariants as session
use Rattle.cg_session.proofs.Runs.{runs}
use Rattle.cg_session.proofs.SessionEnding.{nothing_done}
use Rattle.cg_keep.specs.Laws.{BuiltBreaksNothing}
use Rattle.cg_gen.specs.declared.due.Status.TheVariants.{Built}
use Rattle.cg_gen.specs.declared.ending.Ending.TheVariants.{Memory}
use Rattle.cg_gen.specs.declared.said.Said.TheVariants.{OnFiles}
use Rattle.cg_gen.specs.Inner.{AreWords, IsSaid}
use Rattle.cg_gen.specs.Meaning.{WritesMeaning}
use Rattle.cg_gen.specs.Run.{Performs, Runs, RunsOnFiles}
use Rattle.cg_gen.proofs.Endings.{ended}

-- words that were read as a command are it
said_so : (words : List (List ℕ)) (read : Result Command WordsFault) (c : Command) → read ≡ Ok c → ReadsCommand words read → IsCommand words c
said_so words read c same reads = subst (ReadsCommand words) same reads

pub command_is : (words : List (List ℕ)) (o : Option Command) (c : Command) → o ≡ Some c → AreWords words o → IsCommand words c
command_is words o c same are = subst (AreWords words) same are

-- ---- a session

same_file : (file dir other into : List ℕ) (workers count : ℕ) → Session file dir workers ≡ Session other into count → file ≡ other
same_file file dir other into workers count e = cc

same_dir : (file dir other into : List ℕ) (workers count : ℕ) → Session file dir workers ≡ Session other into count → dir ≡ into
same_dir file dir other into workers count e = cc

pub session_runs : (words : List (List ℕ)) (read : Result Command WordsFault) (file dir : List ℕ) (workers status : ℕ) (before after : World) → read ≡ Ok (Session file dir workers)
    → ReadsCommand words read → SessionRuns status file dir before after → Runs status words before after
session_runs words read file dir workers status before after same reads ran = record {
  session = λ other into count is. moved other into count (one_command words (Session file dir workers) (Session other into count) here is);
  on_files = λ other. absurd (other file dir workers here);
} where
  here : IsCommand words (Session file dir workers)
  here = said_so words read (Session file dir workers) same reads

  moved : (other into : List ℕ) (count : ℕ) → Session file dir workers ≡ Session other into count → SessionRuns status other into before after
  moved other into count e =
      subst (λ d. SessionRuns status other d before after) (same_dir file dir other into workers count e)
      (subst (λ f. SessionRuns status f dir before after) (same_file file dir other into workers count e) ran)

-- ---- no session

-- the words are the command that was read, or none
pub words_of : (words : List (List ℕ)) (read : Result Command WordsFault) (o : Option Command) → IsSaid read (OnFiles o) → ReadsCommand words read → AreWords words o
words_of words read (Some c) is reads = subst (ReadsCommand words) is.0 reads
words_of words read None is reads = subst (ReadsCommand words) is reads

no_session : (words : List (List ℕ)) (read : Result Command WordsFault) (o : Option Command) → IsSaid read (OnFiles o) → AreWords words o → (file dir : List ℕ) (workers : ℕ)
    → ¬ IsCommand words (Session file dir workers)
no_session words read (Some c) is are file dir workers also = is.1 file dir workers (one_command words c (Session file dir workers) are also)
no_session words read None is are file dir workers also = are (Session file dir workers) also

pub files_run : (words : List (List ℕ)) (read : Result Command WordsFault) (o : Option Command) (status : ℕ) (before after : World) → IsSaid read (OnFiles o) → AreWords words o
    → RunsOnFiles status words before after → Runs status words before after
files_run words read o status before after is are ran = record {
  session = λ file dir workers also. absurd (no_session words read o is are file dir workers also);
  on_files = λ none. ran;
}

-- ---- no memory for the words

pub nothing_runs : BuiltBreaksNothing → SessionHolds → (words : List (List ℕ)) (world : World) (status : ℕ) → status ≡ 5
    → (Performs Built words world world → WritesMeaning words world world) → Runs status words world world
nothing_runs law holds words world status is means = subst (λ n. Runs n words world world) (sym is) (record {
  session = λ file dir workers is. runs file dir world world session.Memory (nothing_done file dir world world refl) holds (record { asked = refl; reads = refl });
  on_files = λ other. ended law Memory 5 words world world (inl refl) refl refl means;
})
