-- The types of instances, each where it is first used.
use Rattle.std.specs.Prelude.{ℕ, length, List, [], flat_map, codes, cond}
use Rattle.std.specs.Option.{option_to_list}
use Rattle.std.specs.Prelude.{Option, Some, None, option_and_then}
use Rattle.cg_desc.specs.Top.{type_uses}
use Rattle.cg_desc.specs.declared.top.InstDesc.{InstDesc}
use Rattle.cg_hjson.specs.declared.tree.Tree.{Tree}
use Rattle.cg_keys.specs.Forms.{is_name, name_limit}
use Rattle.cg_keys.specs.Lookups.{text_at}
use Rattle.cg_keys.specs.Values.{members_of}
use Rattle.cg_nodes.specs.Listed.{new_names}

-- the type of an instance, where it is a name
abbrev pub if_name : List ℕ → Option (List ℕ)
if_name s = cond (is_name name_limit s) (Some s) None

unfoldable pub type_in : Tree → Option (List ℕ)
type_in instance = option_and_then if_name (text_at (codes "type") (members_of instance))

-- the types of these instances that are names
unfoldable pub types_in : List Tree → List (List ℕ)
types_in instances = flat_map (λ t. option_to_list (type_in t)) instances

-- how many types these instances have
unfoldable pub type_count : List Tree → ℕ
type_count instances = length (new_names [] (types_in instances))

-- the types of instances, each where it is first used
unfoldable pub types_of : List InstDesc → List (List ℕ)
types_of insts = new_names [] (type_uses insts)
