-- The laws of sessions.
use Rattle.std.specs.Prelude.{◌≡◌, ℕ, List, [], ◌∷◌, ◌++◌, Some}
use Rattle.cg_base.specs.Outside.{Files}
use Rattle.cg_desc.specs.Faults.{SameRank}
use Rattle.cg_inputs.specs.Input.{Command}
use Rattle.cg_outputs.specs.declared.out_file.OutFile.{OutFile}
use Rattle.cg_deeds.specs.Deeds.{Contents, after_deeds}
use Rattle.cg_deeds.specs.declared.deed.Deed.{Deed}
use Rattle.cg_deeds.specs.declared.deed.Deed.TheVariants.{Write, Remove, Say}
use Rattle.cg_keep.specs.Files.{BuiltMeans, IsBuilt}
use Rattle.cg_session.specs.Answers.{Answer, builds, refuses, Answers}
use Rattle.cg_session.specs.Play.{Kept, deeds_of, Plays, stored_all}
use Rattle.cg_session.specs.Holding.{HoldsOutputs, MeansFiles}

-- ---- one way

-- two answers that are the same, a fault up to what the order of faults reads of it
abbrev pub SameAnswer : Answer → Answer → Type 0
SameAnswer (builds xs) (builds ys) = xs ≡ ys
SameAnswer (builds xs) (refuses names fault) = ⊥
SameAnswer (refuses names fault) (builds ys) = ⊥
SameAnswer (refuses names fault) (refuses others other) = (names ≡ others) × SameRank fault other

-- files have one answer
abbrev pub AnswersAreOne : Type 0
AnswersAreOne = (top : List ℕ) (files : Files) (a b : Answer) → Answers top files a → Answers top files b → SameAnswer a b

-- the changes of the store among deeds
abbrev pub changes_in : List Deed → List Deed
changes_in [] = []
changes_in (Write name bytes ∷ ds) = Write name bytes ∷ changes_in ds
changes_in (Remove name ∷ ds) = Remove name ∷ changes_in ds
changes_in (Say stream line ∷ ds) = changes_in ds

-- commands are played in one way: what is kept is one, and so are the changes of the store
abbrev pub PlaysAreOne : Type 0
PlaysAreOne = (top dir : List ℕ) (commands : List Command) (j k : Kept) (ds es : List Deed) → Plays top dir commands j ds → Plays top dir commands k es
    → (j ≡ k) × (changes_in ds ≡ changes_in es)

-- ---- what the store holds

-- the store behind deeds, where it is told
pub record StoreIs (deeds : List Deed) (before : Contents) (files : Files) : Type 0 where
  pub is : (after_deeds deeds before).files ≡ Some files

-- Behind the commands of a session the store holds the outputs of the last good build, as all that is written of the files as they were
-- then, and of the names that were written before no others.
abbrev pub SessionHolds : Type 0
SessionHolds = (top dir : List ℕ) (commands : List Command) (k : Kept) (deeds : List Deed) → Plays top dir commands k deeds
    → (before : Contents) (m : Files) → before.files ≡ Some m → (n : Files) × StoreIs deeds before n × HoldsOutputs k.good deeds m n × MeansFiles top dir k.good

-- Behind each good build, whatever the commands before it, the store holds just what is written of the files as they are, which means what
-- they say.
abbrev pub EveryBuildHolds : Type 0
EveryBuildHolds = (top dir : List ℕ) (commands : List Command) (k : Kept) (deeds : List Deed) (os : List OutFile) → Plays top dir commands k deeds → IsBuilt top k.files os
    → (before : Contents) (m : Files) → before.files ≡ Some m → (n : Files) × StoreIs (deeds ++ deeds_of dir k.good (builds os)) before n
    × HoldsOutputs (stored_all dir os) (deeds ++ deeds_of dir k.good (builds os)) m n × BuiltMeans top k.files os
