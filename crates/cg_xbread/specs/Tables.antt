-- The keys of a crossbar's objects, with the forms of their values (OpenTitan Crossbar Tool, configuration).
use Rattle.std.specs.Prelude.{ℕ, not, ◌&&◌, cond, is_some, List, [], ◌∷◌, codes}
use Rattle.cg_hjson.specs.declared.tree.Member.{Member}
use Rattle.cg_keys.specs.Table.{Key, needs, may, value_at}
use Rattle.cg_keys.specs.declared.forms.Form.TheVariants.{Text, Name, Number, Boolean, Items, Object, Word}
use Rattle.cg_keys.specs.declared.words.Words.TheVariants.{NodeType}

-- the key that tells a crossbar's clock: `clock_primary` where it stands and `clock` does not, else `clock`
unfoldable pub clock_key : List Member → List ℕ
clock_key ms = cond (not (is_some (value_at (codes "clock") ms)) && is_some (value_at (codes "clock_primary") ms)) (codes "clock_primary") (codes "clock")

-- the table of a crossbar, with this key of its clock
abbrev pub crossbar_keys_with : List ℕ → List Key
crossbar_keys_with clock =
    needs (codes "name") (Name ∷ [])
    ∷ needs clock (Name ∷ [])
    ∷ needs (codes "nodes") (Items ∷ [])
    ∷ needs (codes "connections") (Object ∷ [])
    ∷ []

-- the table of the crossbar with these members
abbrev pub crossbar_keys : List Member → List Key
crossbar_keys ms = crossbar_keys_with (clock_key ms)

-- a node's name is a string here; that it is a name, or two joined by a dot, is a rule of its own
abbrev pub node_keys : List Key
node_keys =
    needs (codes "name") (Text ∷ [])
    ∷ needs (codes "type") (Word NodeType ∷ [])
    ∷ may (codes "clock") (Name ∷ [])
    ∷ may (codes "xbar") (Boolean ∷ [])
    ∷ may (codes "addr_range") (Items ∷ [])
    ∷ []

-- a base is a number of 32 bits, and a size is at most 2^32
abbrev pub range_keys : List Key
range_keys = needs (codes "base_addr") (Number 0 4294967295 ∷ []) ∷ needs (codes "size_byte") (Number 0 4294967296 ∷ []) ∷ []
