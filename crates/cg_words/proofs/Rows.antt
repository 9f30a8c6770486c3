-- What the matches say, by their rows.
use Rattle.std.proofs.Common.{◌≡◌, List, ℕ, sym}
use Rattle.clap.specs.Matches.{first_value}
use Rattle.clap.specs.Walk.{first_of, rows_of}
use Rattle.clap.specs.declared.parser.matches.Found.{Found}
use Rattle.clap.proofs.WalkLemmas as walk

-- the first value of an argument
pub first_of_rows : (f : Found) (id : List ℕ) → first_of id (rows_of f) ≡ first_value f id
first_of_rows f id = sym (walk.first_value-rows f id)
