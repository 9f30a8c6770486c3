-- How the files of a folder are read one after the other, and what is kept of them.
use Rattle.std.specs.Prelude.{◌≡◌, ◌≤◌, ℕ, List, [], ◌∷◌, ◌++◌, length, slice_get, Option, Some, Result, Ok, Err}
use Rattle.std.specs.FinMap as fin
use Rattle.cg_base.specs.Outside.{Files, Rose, also_asked}
use Rattle.cg_keep.specs.Files.{AreWanted}
use Rattle.cg_keep.specs.Kept.{Kept}
use Rattle.cg_gen.specs.Reads.{Read, GaveAll, names_of}
use Rattle.cg_gen.specs.Topgen.{with_reads}
use Rattle.cg_deeds.specs.declared.stop.Stop.{Stop}
use Rattle.cg_deeds.specs.declared.stop.Stop.TheVariants as stop

-- what a store shows of its reads: its files and the names that it was asked for, where they are told, and its count of failed reads
pub record Shown : Type 0 where
  pub files : Option Files
  pub asked : Option (List (List ℕ))
  pub faults : ℕ

abbrev pub shown : Option Files → Option (List (List ℕ)) → ℕ → Shown
shown files asked faults = record { files = files; asked = asked; faults = faults }

-- these are reads of the first of these names, in this folder and in their order
abbrev pub AreOfNames : List ℕ → List Read → List (List ℕ) → Type 0
AreOfNames folder [] names = Unit {0}
AreOfNames folder (r ∷ rs) [] = ⊥
AreOfNames folder (r ∷ rs) (name ∷ names) = (r.name ≡ folder ++ name) × AreOfNames folder rs names

-- The first of these names, so many as there are reads, were read in this folder, and what the store gave is kept.
pub record Gathered (folder : List ℕ) (names : List (List ℕ)) (before after : Shown) (kept kept' : Kept) (reads : List Read) : Type 0 where
  pub of_names : AreOfNames folder reads names
  pub gave : GaveAll before.files reads
  pub same : after.files ≡ before.files
  pub asked_for : after.asked ≡ also_asked before.asked (names_of reads)
  pub later : before.faults ≤ after.faults
  pub are_kept : kept' ≡ record kept { files = with_reads folder kept.files reads }

-- so the first n of these names, and all of them
pub record GatheredTo (n : ℕ) (folder : List ℕ) (names : List (List ℕ)) (before after : Shown) (kept kept' : Kept) : Type 0 where
  pub reads : List Read
  pub gathered : Gathered folder names before after kept kept' reads
  pub count : length reads ≡ n

abbrev pub GatheredAll : (folder : List ℕ) (names : List (List ℕ)) (before after : Shown) (kept kept' : Kept) → Type 0
GatheredAll folder names before after kept kept' = GatheredTo (length names) folder names before after kept kept'

-- behind some reads the next one failed
pub record NextFails (folder : List ℕ) (names : List (List ℕ)) (before after : Shown) : Type 0 where
  pub reads : List Read
  pub of_names : AreOfNames folder reads names
  pub gave : GaveAll before.files reads
  pub next : List ℕ
  pub is_next : slice_get names (length reads) ≡ Some next
  pub asked_for : after.asked ≡ also_asked before.asked (names_of reads ++ (folder ++ next) ∷ [])
  pub rose : Rose before.faults after.faults

-- how the reading of these names ends; want of memory says nothing
abbrev pub GatherEnds : Result (Unit {0}) Stop → (folder : List ℕ) (names : List (List ℕ)) (before after : Shown) (kept kept' : Kept) → Type 0
GatherEnds (Ok u) folder names before after kept kept' = GatheredAll folder names before after kept kept'
GatherEnds (Err stop.Failed) folder names before after kept kept' = NextFails folder names before after
GatherEnds (Err stop.Memory) folder names before after kept kept' = Unit {0}

-- ---- the files of a top

-- all files of the top whose own file has this name in the folder were read
pub record GatheredTop (folder own : List ℕ) (names : List (List ℕ)) (before after : Shown) (kept kept' : Kept) : Type 0 where
  pub first : Read
  pub more : List Read
  pub wanted : AreWanted (fin.get (with_reads folder kept.files (first ∷ [])) own) own names
  pub gathered : Gathered folder names before after kept kept' (first ∷ more)
  pub count : length (first ∷ more) ≡ length names

-- the read of its own file failed, or that of one that this one names
pub data TopFails (folder own : List ℕ) (before after : Shown) (kept : Kept) : Type 0 where
  at_first : after.asked ≡ also_asked before.asked ((folder ++ own) ∷ []) → Rose before.faults after.faults → TopFails folder own before after kept
  behind : (first : Read) (more : List Read) (names : List (List ℕ)) (next : List ℕ) → AreWanted (fin.get (with_reads folder kept.files (first ∷ [])) own) own names
      → AreOfNames folder (first ∷ more) names → GaveAll before.files (first ∷ more) → slice_get names (length (first ∷ more)) ≡ Some next
      → after.asked ≡ also_asked before.asked (names_of (first ∷ more) ++ (folder ++ next) ∷ []) → Rose before.faults after.faults → TopFails folder own before after kept

-- how the reading of a top's files ends; want of memory says nothing
abbrev pub TopEnds : Result (List (List ℕ)) Stop → (folder own : List ℕ) (before after : Shown) (kept kept' : Kept) → Type 0
TopEnds (Ok names) folder own before after kept kept' = GatheredTop folder own names before after kept kept'
TopEnds (Err stop.Failed) folder own before after kept kept' = TopFails folder own before after kept
TopEnds (Err stop.Memory) folder own before after kept kept' = Unit {0}
