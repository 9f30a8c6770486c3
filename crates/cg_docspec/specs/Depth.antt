-- How deep the parts of a tree stand.
use Rattle.std.specs.Prelude.{ℕ, suc, ◌⊎◌, List, ◌∷◌, ◌++◌}
use Rattle.cg_docspec.specs.Place.{Place}
use Rattle.cg_docspec.specs.Tree.{Tree, Member, list_of, object_of}

-- t stands in the tree at depth d; the root has depth 1
pub data StandsAt (root : Tree) : ℕ → Tree → Type 0 where
  the_root : StandsAt root 1 root
  in_list : {d : ℕ} {at : Place} {t : Tree} (before after : List Tree) → StandsAt root d (list_of (before ++ t ∷ after) at) → StandsAt root (suc d) t
  in_object : {d : ℕ} {at : Place} {t : Tree} (key : List ℕ) (key_place : Place) (before after : List Member) →
      StandsAt root d (object_of (before ++ record { key = key; key_place = key_place; value = t } ∷ after) at) → StandsAt root (suc d) t

-- an object or a list of depth d opens there
abbrev pub Opener : Tree → ℕ → Place → Type 0
Opener root d at = ((ms : List Member) × StandsAt root d (object_of ms at)) ⊎ ((ts : List Tree) × StandsAt root d (list_of ts at))
