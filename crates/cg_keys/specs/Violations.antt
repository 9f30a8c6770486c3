-- The rules on the keys of an object, each as a fact with its place and its name.
use Rattle.std.specs.Prelude.{ℕ, ◌≡◌, true, false, List, ◌∷◌, ◌++◌, Some, None, ◌⊎◌}
use Rattle.cg_desc.specs.declared.place.At.{At}
use Rattle.cg_docspec.specs.Depth.{StandsAt}
use Rattle.cg_docspec.specs.Place.{Place}
use Rattle.cg_docspec.specs.Tree as document
use Rattle.cg_finding.specs.Finding.{Finding, Among}
use Rattle.cg_finding.specs.Rules as rules
use Rattle.cg_hjson.specs.Views.{tree_of}
use Rattle.cg_hjson.specs.declared.tree.Tree.{Tree}
use Rattle.cg_hjson.specs.declared.tree.Member.{Member}
use Rattle.cg_keys.specs.Forms.{fits_one}
use Rattle.cg_keys.specs.Table.{Key, misfit, value_at}
use Rattle.cg_keys.specs.Duplicates.{at_of}

-- 21: a needed key is absent; at the object's opener
pub record MissingKey (opener : At) (ms : List Member) (ks : List Key) (f : Finding) : Type 0 where
  pub row : Key
  pub listed : Among row ks
  pub needed : row.needed ≡ true
  pub absent : value_at row.key ms ≡ None
  pub says : f ≡ rules.missing_key opener row.key

-- 22, 24, 25: the value at a key has none of the key's forms; at the value
pub record WrongValue (ms : List Member) (ks : List Key) (f : Finding) : Type 0 where
  pub row : Key
  pub value : Tree
  pub listed : Among row ks
  pub there : value_at row.key ms ≡ Some value
  pub unfit : fits_one row.forms value ≡ false
  pub says : f ≡ misfit row.key row.forms value

-- an object breaks its table of keys
abbrev pub BreaksTable : At → List Member → List Key → Finding → Type 0
BreaksTable opener ms ks f = MissingKey opener ms ks f ⊎ WrongValue ms ks f

-- 20: an object of the document has a key that stands before in it; at the later key
pub record DuplicateKey (root : Tree) (f : Finding) : Type 0 where
  pub depth : ℕ
  pub opener : Place
  pub before : List document.Member
  pub later : document.Member
  pub after : List document.Member
  pub stands : StandsAt (tree_of root) depth (document.object_of (before ++ later ∷ after) opener)
  pub earlier : document.Member
  pub among : Among earlier before
  pub same : earlier.key ≡ later.key
  pub says : f ≡ rules.duplicate_key (at_of later.key_place) later.key
