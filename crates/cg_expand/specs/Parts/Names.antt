-- Names of items that come twice, by the names that are known.
use Rattle.std.specs.Prelude.{ℕ, Bool, ◌||◌, cond, List, [], ◌∷◌, ◌++◌}
use Rattle.std.specs.HashSet.{contains_text}
use Rattle.std.specs.Option.{option_map_or}
use Rattle.std.specs.Str.{str_to_ascii_lowercase}
use Rattle.cg_desc.specs.declared.block.Item.{Item}
use Rattle.cg_finding.specs.Finding.{Finding}
use Rattle.cg_finding.specs.Rules as rules
use Rattle.cg_expand.specs.Violations.{Named, has_name, name_of}
use Rattle.cg_expand.specs.declared.names.Names.{Names}

-- the names have this one, without regard to case
unfoldable pub has : Names → List ℕ → Bool
has names name = contains_text names.lower (str_to_ascii_lowercase name)

-- these names, and the item's
abbrev pub also : Item → (List ℕ → Bool) → List ℕ → Bool
also item known name = has_name name item || known name

-- what a name at its place breaks where these names are known
unfoldable pub known_twice : (List ℕ → Bool) → Named → List Finding
known_twice known n = cond (known n.name) (rules.name_twice n.at n.name ∷ []) []

-- what an item breaks where these names are known
abbrev pub item_twice : (List ℕ → Bool) → Item → List Finding
item_twice known item = option_map_or (known_twice known) (name_of item) []

-- what these items break, where the names of the earlier ones are known too
unfoldable pub names_twice : (List ℕ → Bool) → List Item → List Finding
names_twice known [] = []
names_twice known (item ∷ items) = item_twice known item ++ names_twice (also item known) items
