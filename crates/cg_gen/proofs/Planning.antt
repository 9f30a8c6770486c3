-- What is due for the words, from what the pieces say.
use Rattle.std.proofs.Common.{◌≡◌, ◌⊎◌, ◌≤◌, ℕ, List, [], ◌∷◌, ◌++◌, append-nil, Option, Some, None, Result, Ok, Err, IfOk, IfErr, refl, sym, ap, ◌∙◌, subst, inl, inr}
use Rattle.std.specs.FinMap as fin
use Rattle.cg_base.specs.Outside.{Files, Rose, also_asked}
use Rattle.cg_words.specs.Words.{IsCommand}
use Rattle.cg_words.specs.declared.command.Command.{Command}
use Rattle.cg_words.specs.declared.command.Command.TheVariants.{Regtool, Tlgen, Sample}
use Rattle.cg_words.specs.declared.command.RegOut.{RegOut}
use Rattle.cg_words.proofs.ExactWords.{one_command}
use Rattle.cg_gen.specs.declared.due.Due.{Due}
use Rattle.cg_gen.specs.OneFile as one
use Rattle.cg_gen.specs.Reads.{Read, read, Gave, GaveAll}
use Rattle.cg_gen.specs.Commands.{IsBuiltCommand, NextRead}
use Rattle.cg_gen.specs.Due.{HasRead, none, one_more, HasReadAll, IsDue, no_command, refuses, builds, samples, due_of_no_command}
use Rattle.cg_gen.specs.Inner as inner
use Rattle.cg_gen.specs.declared.given.Given.{Given}
use Rattle.cg_deeds.specs.declared.stop.Stop.{Stop}
use Rattle.cg_deeds.specs.declared.stop.Stop.TheVariants as stop
use Rattle.cg_gen.specs.Inner.{IsDueFrom, PlanEnds}
use Rattle.cg_gen.specs.Run.{Finds, NextReadFails}
use Rattle.cg_gen.specs.Sample.{IsSampleDue}

-- ---- behind all reads of a command

-- what is due for its files is due for the words
pub due_behind : (words : List (List ℕ)) (c : Command) (reads : List Read) (due : Due) → IsCommand words c → IsBuiltCommand c → HasReadAll c reads → IsDueFrom c reads due → IsDue words reads due
due_behind words c reads due is built has (inner.refuses fault first same) = subst (IsDue words reads) (sym same) (refuses reads fault c is has first)
due_behind words c reads due is built has (inner.builds outputs sound good are same) = subst (IsDue words reads) (sym same) (builds reads c outputs is built has sound good are)

-- ---- a command that reads one description

-- a list with an item at its end is not empty
not_empty : {X : Type 0} (xs : List X) (x : X) → xs ++ x ∷ [] ≡ [] → ⊥
not_empty [] x e = cc
not_empty (y ∷ ys) x e = cc

-- the command reads this file, and no other
pub record ReadsOne (c : Command) (file : List ℕ) : Type 0 where
  pub into : (reads : List Read) (name : List ℕ) → one.NextRead file reads name → NextRead c reads name
  pub back : (reads : List Read) (name : List ℕ) → NextRead c reads name → one.NextRead file reads name

pub regtool_reads_one : (made : RegOut) (dir file : List ℕ) → ReadsOne (Regtool made dir file) file
regtool_reads_one made dir file = record { into = λ reads name is. is; back = λ reads name is. is }

pub tlgen_reads_one : (file dir : List ℕ) → ReadsOne (Tlgen file dir) file
tlgen_reads_one file dir = record { into = λ reads name is. is; back = λ reads name is. is }

module _ (c : Command) (file : List ℕ) (reads_one : ReadsOne c file) where
  first_read : NextRead c [] file
  first_read = reads_one.into [] file (record { first = refl; description = refl })

  -- it has read its description
  pub has_read : (g : Option (List ℕ)) → HasReadAll c (read file g ∷ [])
  has_read g = record {
    has_read = one_more [] (read file g) none first_read;
    all = λ name next. let bad : ◌≡◌ {A = List Read} (read file g ∷ []) [] = (reads_one.back (read file g ∷ []) name next).first in cc;
  }

  -- it reads nothing first, and then nothing but its description
  pub read_so : (reads : List Read) → HasRead c reads → (reads ≡ []) ⊎ ((g : Option (List ℕ)) × (reads ≡ read file g ∷ []))
  read_so _ none = inl refl
  read_so _ (one_more before next has is) =
      let so = reads_one.back before next.name is in
      inr (next.given, (λ i. so.first i ++ (record { name = so.description i; given = next.given }) ∷ []))

  -- the description was read, and this is due for it
  pub planned : (words : List (List ℕ)) (files : Option Files) (asked asked' : Option (List (List ℕ))) (g : Option (List ℕ)) (due : Due)
      → IsCommand words c → IsBuiltCommand c → Gave files (read file g) → asked' ≡ also_asked asked (file ∷ []) → IsDueFrom c (read file g ∷ []) due
      → (reads : List Read) × Finds words files asked asked' reads due
  planned words files asked asked' g due is built gave told for =
      (read file g ∷ [], record { gave = (gave, tt); asked_for = told; is_due = due_behind words c (read file g ∷ []) due is built (has_read g) for })

  -- the read of the description failed
  pub read_failed : (words : List (List ℕ)) (files : Option Files) (asked asked' : Option (List (List ℕ))) (faults faults' : ℕ)
      → IsCommand words c → asked' ≡ also_asked asked (file ∷ []) → Rose faults faults' → NextReadFails words files asked asked' faults faults'
  read_failed words files asked asked' faults faults' is told rose = record {
    command = c;
    is_command = is;
    reads = [];
    gave = tt;
    has_read = none;
    next = file;
    is_next = first_read;
    asked_for = told;
    rose = rose;
  }

  -- a read that was stopped
  pub read_stopped : (e : Stop) (words : List (List ℕ)) (files : Option Files) (asked asked' : Option (List (List ℕ))) (faults faults' : ℕ)
      → IsCommand words c → asked' ≡ also_asked asked (file ∷ []) → (◌≡◌ {A = Result Given Stop} (Err e) (Err stop.Failed) → Rose faults faults')
      → PlanEnds (Err e) words files asked asked' faults faults'
  read_stopped stop.Failed words files asked asked' faults faults' is told rose = read_failed words files asked asked' faults faults' is told (rose refl)
  read_stopped stop.Memory words files asked asked' faults faults' is told rose = tt

  -- all that was read is the description, as it is
  pub reads_are : (m : Files) (reads : List Read) → GaveAll (Some m) reads → HasReadAll c reads → reads ≡ read file (fin.get m file) ∷ []
  reads_are m reads gave has = by (read_so reads has.has_read) where
    by : (reads ≡ []) ⊎ ((g : Option (List ℕ)) × (reads ≡ read file g ∷ [])) → reads ≡ read file (fin.get m file) ∷ []
    by (inl empty) = absurd (has.all file (reads_one.into reads file (record { first = empty; description = refl })))
    by (inr (g, is)) =
        let told : fin.get m file ≡ g = (subst (GaveAll (Some m)) is gave).0 m refl in
        is ∙ ap (λ x. read file x ∷ []) (sym told)

-- ---- words that are no command that is built

none_asked : (asked : Option (List (List ℕ))) → asked ≡ also_asked asked []
none_asked None = refl
none_asked (Some names) = ap Some (sym (append-nil names))

pub usage_planned : (words : List (List ℕ)) (files : Option Files) (asked asked' : Option (List (List ℕ))) (due : Due) → ((c : Command) → IsBuiltCommand c → ¬ IsCommand words c)
    → asked' ≡ asked → due ≡ due_of_no_command → (reads : List Read) × Finds words files asked asked' reads due
usage_planned words files asked asked' due other told same =
    ([], record { gave = tt; asked_for = told ∙ none_asked asked; is_due = subst (IsDue words []) (sym same) (no_command other) })

-- of two commands that words are, both are built or none
pub not_built : (words : List (List ℕ)) (c : Command) → IsCommand words c → ¬ IsBuiltCommand c → (d : Command) → IsBuiltCommand d → ¬ IsCommand words d
not_built words c is other d built also = other (subst IsBuiltCommand (one_command words d c also is) built)

-- the usage text, as far as memory was found
pub usage_ends : (words : List (List ℕ)) (files : Option Files) (asked : Option (List (List ℕ))) (faults : ℕ) (r : Result Due Stop) → ((c : Command) → IsBuiltCommand c → ¬ IsCommand words c)
    → IfOk r (λ d. d ≡ due_of_no_command) → IfErr r (λ e. e ≡ stop.Memory) → PlanEnds r words files asked asked faults faults
usage_ends words files asked faults (Ok d) other due memory = usage_planned words files asked asked d other refl due
usage_ends words files asked faults (Err stop.Memory) other due memory = tt
usage_ends words files asked faults (Err stop.Failed) other due memory = absurd (let bad : stop.Failed ≡ stop.Memory = memory in cc)

-- what is due for a sample, as far as memory was found
pub sample_ends : (words : List (List ℕ)) (number : ℕ) (files : Option Files) (asked : Option (List (List ℕ))) (faults : ℕ) (r : Result Due Stop) → IsCommand words (Sample number)
    → IfOk r (λ d. IsSampleDue number d) → IfErr r (λ e. e ≡ stop.Memory) → PlanEnds r words files asked asked faults faults
sample_ends words number files asked faults (Ok d) is due memory = ([], record { gave = tt; asked_for = none_asked asked; is_due = samples number d is due })
sample_ends words number files asked faults (Err stop.Memory) is due memory = tt
sample_ends words number files asked faults (Err stop.Failed) is due memory = absurd (let bad : stop.Failed ≡ stop.Memory = memory in cc)

-- the number of a sample is from 1 to 200
pub some_instance : (words : List (List ℕ)) (number : ℕ) → IsCommand words (Sample number) → 1 ≤ number
some_instance [] number is = absurd is
some_instance (tool ∷ words) number is = is.1.size.from_low

pub few_instances : (words : List (List ℕ)) (number : ℕ) → IsCommand words (Sample number) → number ≤ 200
few_instances [] number is = absurd is
few_instances (tool ∷ words) number is = is.1.size.to_high

-- if-ok in other words
pub if_ok : {X E : Type 0} (P Q : X → Type 0) (r : Result X E) → ((x : X) → P x → Q x) → IfOk r P → IfOk r Q
if_ok P Q (Ok x) up is = up x is
if_ok P Q (Err e) up is = tt
