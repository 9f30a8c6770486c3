-- What a table of values has at a name.
use Rattle.std.specs.Prelude.{[], bytes_eq}
use Rattle.std.specs.HashMap.{get_by}
use Rattle.std.specs.Option.{option_map_or}
use Rattle.cg_svspec.specs.Value.{Values}
use Rattle.cg_sveval.specs.declared.known.Known.{Known}

-- the bits of a name, or none
abbrev pub value_in : Known → Values
value_in known name = option_map_or (λ value. value.items) (get_by (λ k. bytes_eq name k.now) known.values) []
