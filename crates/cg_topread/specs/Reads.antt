-- What reading a top's description answers.
use Rattle.std.specs.Prelude.{◌≡◌, ℕ, Result, Ok, Err}
use Rattle.cg_desc.specs.declared.top.TopDesc.{TopDesc}
use Rattle.cg_desc.specs.declared.fault.DescFault.{DescFault}
use Rattle.cg_hjson.specs.declared.tree.Tree.{Tree}
use Rattle.cg_finding.specs.Finding.{Finding}
use Rattle.cg_finding.specs.Violations.{RefusesFirst}
use Rattle.cg_topread.specs.Described.{top_of}
use Rattle.cg_topread.specs.Violations.{Violates}

-- the description, where the top breaks no rule; else the first that it breaks
abbrev pub Reads : Result TopDesc DescFault → ℕ → Tree → Type 0
Reads (Ok top) file t = ((f : Finding) → ¬ Violates t f) × (top ≡ top_of file t)
Reads (Err fault) file t = RefusesFirst fault file (Violates t)
