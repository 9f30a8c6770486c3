use Rattle.std.proofs.Common.{[], ap}
use Rattle.std.specs.Map.{lookup}
use Rattle.std.specs.Option.{option_map_or}
use Rattle.std.specs.Str.{bytes_eq}
use Rattle.cg_sveval.proofs.known.Known.new.Goals as goal

pub returns : goal.returns
returns c = λ name. ap (λ entries. option_map_or (λ value. value.items) (lookup (λ k. bytes_eq name k.now) entries) []) c.new.ensures.empty
