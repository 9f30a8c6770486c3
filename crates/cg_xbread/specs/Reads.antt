-- What reading a crossbar's description answers.
use Rattle.std.specs.Prelude.{◌≡◌, ℕ, Result, Ok, Err}
use Rattle.cg_desc.specs.declared.crossbar.XbarDesc.{XbarDesc}
use Rattle.cg_desc.specs.declared.fault.DescFault.{DescFault}
use Rattle.cg_hjson.specs.declared.tree.Tree.{Tree}
use Rattle.cg_finding.specs.Finding.{Finding}
use Rattle.cg_finding.specs.Violations.{RefusesFirst}
use Rattle.cg_xbread.specs.Described.{crossbar_of}
use Rattle.cg_xbread.specs.Violations.{Violates}

-- the description, where the crossbar breaks no rule; else the first that it breaks
abbrev pub Reads : Result XbarDesc DescFault → ℕ → Tree → Type 0
Reads (Ok xbar) file t = ((f : Finding) → ¬ Violates t f) × (xbar ≡ crossbar_of file t)
Reads (Err fault) file t = RefusesFirst fault file (Violates t)
