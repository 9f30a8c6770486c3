-- What a check tells, by what it means to be broken.
use Rattle.std.specs.Prelude.{◌≡◌, List, Option}
use Rattle.cg_finding.specs.Finding.{Finding, In, first_of}

-- all that is broken stands in a list, whose first is told
pub record TellsFirst (told : Option Finding) (Breaks : Finding → Type 0) : Type 0 where
  pub faults : List Finding
  pub first : told ≡ first_of faults
  pub sound : (f : Finding) → In f faults → Breaks f
  pub complete : (f : Finding) → Breaks f → In f faults
