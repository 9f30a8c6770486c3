use Rattle.std.proofs.Common.{◌≡◌, ℕ, List, map, drop}
use Rattle.std.specs.HashMap.{get_by}
use Rattle.std.specs.Option.{unwrap_or}
use Rattle.std.specs.Str.{bytes_eq}
use Rattle.cg_blkread.specs.Raw.{parameter_number, parameter_of}
use Rattle.cg_blkread.proofs.parameters.Parameters.of.Given as goal

-- the numbers found so far hide those of the parameters that are left
abbrev pub invariant-loop-parameter : goal.invariant-loop-parameter
invariant-loop-parameter l =
    (name : List ℕ) → unwrap_or (get_by (λ k. bytes_eq name k.now) l.numbers) (parameter_number (map parameter_of (drop l.parameter-index l.written)) name)
    ≡ parameter_number (map parameter_of l.written) name
