-- The names that a module declares, and the first that is declared twice.
use Rattle.std.specs.Prelude.{◌≡◌, ℕ, ◌<◌, ◌⊎◌, ◌↔◌, slice_get, Bool, false, ◌||◌, List, [], ◌∷◌, ◌++◌, Option, Some, None, if◌then◌else◌}
use Rattle.std.specs.Str.{bytes_eq}
use Rattle.cg_svspec.specs.Tree.{Port, Entry, wire, drive, assign, inst, Module}

-- the name that an entry declares, if any: an assigned name is not counted again
abbrev pub entry_names : List Entry → List (List ℕ)
entry_names [] = []
entry_names (wire w n ∷ es) = n ∷ entry_names es
entry_names (drive w n x ∷ es) = n ∷ entry_names es
entry_names (assign n x ∷ es) = entry_names es
entry_names (inst m ps n cs ∷ es) = n ∷ entry_names es

abbrev pub port_names : List Port → List (List ℕ)
port_names [] = []
port_names (p ∷ ps) = p.name ∷ port_names ps

-- ports, wires and instances in text order, without the module's own name
abbrev pub module_names : Module → List (List ℕ)
module_names m = port_names m.ports ++ entry_names m.entries

-- the name is one of these
abbrev pub is_among : List (List ℕ) → List ℕ → Bool
is_among [] n = false
is_among (m ∷ ms) n = bytes_eq m n || is_among ms n

-- the first of the names that is among the earlier ones or those in `before`
abbrev pub first_repeat_after : List (List ℕ) → List (List ℕ) → Option (List ℕ)
first_repeat_after before [] = None
first_repeat_after before (n ∷ ns) = if is_among before n then Some n else first_repeat_after (n ∷ before) ns

-- the first name that repeats an earlier one
abbrev pub first_repeat : List (List ℕ) → Option (List ℕ)
first_repeat names = first_repeat_after [] names

-- the item is one of these
abbrev pub Among : {X : Type 0} → X → List X → Type 0
Among x [] = ⊥
Among x (y ∷ ys) = (x ≡ y) ⊎ Among x ys

-- no name stands twice
abbrev pub Differ : List (List ℕ) → Type 0
Differ [] = Unit {0}
Differ (n ∷ ns) = (Among n ns → ⊥) × Differ ns

-- the name at this place stands at an earlier place too
pub record Repeats (names : List (List ℕ)) (place : ℕ) : Type 0 where
  pub name : List ℕ
  pub is : slice_get names place ≡ Some name
  pub earlier : ℕ
  pub below : earlier < place
  pub same : slice_get names earlier ≡ Some name

-- the name at the least place of which this is so
pub record IsFirstRepeat (names : List (List ℕ)) (name : List ℕ) : Type 0 where
  pub place : ℕ
  pub is : slice_get names place ≡ Some name
  pub repeats : Repeats names place
  pub first : (k : ℕ) → k < place → Repeats names k → ⊥

-- what is found is just the first repeat, and nothing is found just where no name stands twice
pub record FindsFirstRepeat (names : List (List ℕ)) : Type 0 where
  pub some : (name : List ℕ) → (first_repeat names ≡ Some name) ↔ IsFirstRepeat names name
  pub none : (first_repeat names ≡ None) ↔ Differ names

abbrev pub FirstRepeatIsFirst : Type 0
FirstRepeatIsFirst = (names : List (List ℕ)) → FindsFirstRepeat names
