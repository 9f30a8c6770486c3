-- What the commands of a session do: the files that are kept, and the deeds of each build.
use Rattle.std.specs.Prelude.{◌≡◌, ℕ, ◌+◌, ◌-◌, Bool, true, false, not, ◌&&◌, List, [], ◌∷◌, ◌++◌, length, map, take, drop}
use Rattle.std.specs.List.{filter, list_any}
use Rattle.std.specs.Str.{bytes_eq}
use Rattle.std.specs.FinMap as fin
use Rattle.cg_base.specs.Outside.{Files}
use Rattle.cg_inputs.specs.Input.{Command, put_file, del_file, build_files}
use Rattle.cg_outputs.specs.declared.out_file.OutFile.{OutFile}
use Rattle.cg_deeds.specs.Told.{built_line, stored_name}
use Rattle.cg_deeds.specs.declared.deed.Deed.{Deed}
use Rattle.cg_deeds.specs.declared.deed.Deed.TheVariants.{Write, Remove, Say}
use Rattle.cg_deeds.specs.declared.deed.Stream.TheVariants.{Out}
use Rattle.cg_session.specs.Answers.{Answer, builds, refuses, Answers, refused_line}

-- ---- from one good build to the next

-- one of the outputs is this one, with its bytes
abbrev pub has_output : List OutFile → OutFile → Bool
has_output os o = list_any (λ p. bytes_eq p.name o.name && bytes_eq p.bytes o.bytes) os

-- one of the outputs has this name
abbrev pub has_name : List OutFile → List ℕ → Bool
has_name os name = list_any (λ p. bytes_eq p.name name) os

-- the outputs that the last good build did not have, or had with other bytes
abbrev pub new_ones : List OutFile → List OutFile → List OutFile
new_ones last os = filter (λ o. not (has_output last o)) os

-- the outputs of the last good build that are outputs no more
abbrev pub old_ones : List OutFile → List OutFile → List OutFile
old_ones last os = filter (λ o. not (has_name os o.name)) last

-- the outputs but for the manifest, which is the last of them, and the manifest
abbrev pub texts_of : List OutFile → List OutFile
texts_of os = take (length os - 1) os

abbrev pub manifest_of : List OutFile → List OutFile
manifest_of os = drop (length os - 1) os

abbrev pub write_of : OutFile → Deed
write_of o = Write o.name o.bytes

abbrev pub removal_of : OutFile → Deed
removal_of o = Remove o.name

-- What is changed from the outputs of the last good build to these: the new ones are written, the old ones are removed, and the manifest is
-- written behind, where it is new. Where no build was good yet, all are new.
abbrev pub changes : List OutFile → List OutFile → List Deed
changes last os = map write_of (new_ones last (texts_of os)) ++ (map removal_of (old_ones last os) ++ map write_of (new_ones last (manifest_of os)))

-- how many files are written, and how many are removed
abbrev pub written_count : List OutFile → List OutFile → ℕ
written_count last os = length (new_ones last (texts_of os)) + length (new_ones last (manifest_of os))

abbrev pub removed_count : List OutFile → List OutFile → ℕ
removed_count last os = length (old_ones last os)

-- ---- what is kept, and what a command does

-- The files that were put, the outputs of the last good build under their names in the store, and whether the last build was refused.
pub record Kept : Type 0 where
  pub files : Files
  pub good : List OutFile
  pub refused : Bool

abbrev pub keeping : Files → List OutFile → Bool → Kept
keeping files good refused = record { files = files; good = good; refused = refused }

-- at the beginning of a session
abbrev pub nothing_kept : Kept
nothing_kept = keeping fin.empty [] false

-- outputs under their names in the store
abbrev pub stored : List ℕ → OutFile → OutFile
stored dir o = record { name = stored_name dir o.name; bytes = o.bytes }

abbrev pub stored_all : List ℕ → List OutFile → List OutFile
stored_all dir os = map (stored dir) os

-- the deeds of a good build, by the last good outputs and the new ones: its changes, and then its line
abbrev pub built_deeds : List OutFile → List OutFile → List Deed
built_deeds last os = changes last os ++ Say Out (built_line (written_count last os) (removed_count last os)) ∷ []

-- the deeds of a build, by its answer; of a refused one they are the fault's line alone
abbrev pub deeds_of : (dir : List ℕ) → (last : List OutFile) → Answer → List Deed
deeds_of dir last (builds os) = built_deeds last (stored_all dir os)
deeds_of dir last (refuses names fault) = Say Out (refused_line names fault) ∷ []

-- what is kept behind a build
abbrev pub after_build : (dir : List ℕ) → Kept → Answer → Kept
after_build dir k (builds os) = keeping k.files (stored_all dir os) false
after_build dir k (refuses names fault) = keeping k.files k.good true

-- a build of the files that are kept
pub record BuildDoes (top dir : List ℕ) (k k' : Kept) (deeds : List Deed) : Type 0 where
  pub answer : Answer
  pub is_answer : Answers top k.files answer
  pub kept_is : k' ≡ after_build dir k answer
  pub deeds_are : deeds ≡ deeds_of dir k.good answer

-- what a command makes of what is kept, and its deeds
abbrev pub Does : (top dir : List ℕ) → Command → Kept → Kept → List Deed → Type 0
Does top dir (put_file name bytes) k k' deeds = (k' ≡ keeping (fin.insert k.files name bytes) k.good k.refused) × (deeds ≡ [])
Does top dir (del_file name) k k' deeds = (k' ≡ keeping (fin.remove k.files name) k.good k.refused) × (deeds ≡ [])
Does top dir build_files k k' deeds = BuildDoes top dir k k' deeds

-- what commands make of what is kept, one after the other, and all their deeds
abbrev pub PlaysFrom : (top dir : List ℕ) → List Command → Kept → Kept → List Deed → Type 0
PlaysFrom top dir [] k k' deeds = (k' ≡ k) × (deeds ≡ [])
PlaysFrom top dir (c ∷ commands) k k' deeds =
    (between : Kept) × (first rest : List Deed) × Does top dir c k between first × PlaysFrom top dir commands between k' rest × (deeds ≡ first ++ rest)

-- the same from the beginning of a session
abbrev pub Plays : (top dir : List ℕ) → List Command → Kept → List Deed → Type 0
Plays top dir commands k deeds = PlaysFrom top dir commands nothing_kept k deeds
