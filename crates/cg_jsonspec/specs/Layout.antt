-- The text of a JSON value with a line for each item and each member, two spaces deeper for each bracket, as `serde_json` lays it out.
use Rattle.std.specs.Prelude.{ℕ, suc, ◌*◌, List, [], ◌∷◌, ◌++◌, codes, replicate, Bool, true, false}
use Rattle.json.specs.Print.{quoted}
use Rattle.serde_json.specs.Data.{Data, Items, Members, null, boolean, number, string, array, object, no_items, item, no_members, member}
use Rattle.serde_json.specs.Written.{number_text}

-- a new line, at this depth
abbrev pub line : ℕ → List ℕ
line depth = 10 ∷ replicate (2 * depth) 32

abbrev pub word : Bool → List ℕ
word true = codes "true"
word false = codes "false"

-- a value that stands at some depth; an empty list or object stays on its line
unfoldable mutual
  pub layout : ℕ → Data → List ℕ
  layout n null = codes "null"
  layout n (boolean b) = word b
  layout n (number x) = number_text x
  layout n (string s) = quoted s
  layout n (array ds) = codes "[" ++ items_layout n ds
  layout n (object ms) = codes "{" ++ members_layout n ms

  -- the items of a list and its end
  pub items_layout : ℕ → Items → List ℕ
  items_layout n no_items = codes "]"
  items_layout n (item d ds) = line (suc n) ++ (layout (suc n) d ++ more_items n ds)

  -- the items behind the first
  pub more_items : ℕ → Items → List ℕ
  more_items n no_items = line n ++ codes "]"
  more_items n (item d ds) = codes "," ++ (line (suc n) ++ (layout (suc n) d ++ more_items n ds))

  -- the members of an object and its end
  pub members_layout : ℕ → Members → List ℕ
  members_layout n no_members = codes "}"
  members_layout n (member k d ms) = line (suc n) ++ (quoted k ++ (codes ": " ++ (layout (suc n) d ++ more_members n ms)))

  -- the members behind the first
  pub more_members : ℕ → Members → List ℕ
  more_members n no_members = line n ++ codes "}"
  more_members n (member k d ms) = codes "," ++ (line (suc n) ++ (quoted k ++ (codes ": " ++ (layout (suc n) d ++ more_members n ms))))

-- the whole text, with a line feed at its end
abbrev pub layout_text : Data → List ℕ
layout_text d = layout 0 d ++ 10 ∷ []
