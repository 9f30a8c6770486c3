-- Keys that stand twice in an object, in every object of a document.
use Rattle.std.specs.Prelude.{ℕ, Bool, false, ◌||◌, cond, List, [], ◌∷◌, ◌++◌}
use Rattle.std.specs.Str.{bytes_eq}
use Rattle.cg_desc.specs.declared.place.At.{At}
use Rattle.cg_docspec.specs.Place.{Place}
use Rattle.cg_docspec.specs.Tree as document
use Rattle.cg_finding.specs.Finding.{Finding}
use Rattle.cg_finding.specs.Rules as rules
use Rattle.cg_hjson.specs.Views.{tree_of}
use Rattle.cg_hjson.specs.declared.tree.Tree.{Tree}

-- the place of the program for which a place stands
abbrev pub at_of : Place → At
at_of p = record { byte = p.byte; line = p.line; column = p.column }

-- a key is one of these
abbrev pub is_key_among : List (List ℕ) → List ℕ → Bool
is_key_among [] key = false
is_key_among (k ∷ ks) key = bytes_eq k key || is_key_among ks key

-- 20: a key that stands before in its object; at the later key
abbrev pub repeat : List (List ℕ) → List ℕ → Place → List Finding
repeat before key at = cond (is_key_among before key) (rules.duplicate_key (at_of at) key ∷ []) []

-- the keys of these members that stand before in their object, behind members with the keys `before`
unfoldable pub repeats : List (List ℕ) → document.Members → List Finding
repeats before document.no_members = []
repeats before (document.member_and key at value ms) = repeat before key at ++ repeats (before ++ key ∷ []) ms

unfoldable mutual
  -- the keys that stand twice in an object, in the value and in all that is below it
  pub tree_repeats : document.Tree → List Finding
  tree_repeats (document.tree kind at) = kind_repeats kind

  pub kind_repeats : document.Kind → List Finding
  kind_repeats document.null = []
  kind_repeats (document.boolean b) = []
  kind_repeats (document.integer n) = []
  kind_repeats (document.string u) = []
  kind_repeats (document.array ts) = trees_repeats ts
  kind_repeats (document.object ms) = repeats [] ms ++ members_repeats ms

  pub trees_repeats : document.Trees → List Finding
  trees_repeats document.no_trees = []
  trees_repeats (document.tree_and t ts) = tree_repeats t ++ trees_repeats ts

  pub members_repeats : document.Members → List Finding
  members_repeats document.no_members = []
  members_repeats (document.member_and key at value ms) = tree_repeats value ++ members_repeats ms

-- 20: the keys that stand before in their object, in every object of a value
unfoldable pub duplicate_faults : Tree → List Finding
duplicate_faults t = tree_repeats (tree_of t)
