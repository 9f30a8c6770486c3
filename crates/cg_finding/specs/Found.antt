-- What a found fault of the program stands for.
use Rattle.std.specs.Prelude.{Option, Some, None}
use Rattle.cg_finding.specs.Finding.{Finding}
use Rattle.cg_finding.specs.declared.found.Found.{Found}

-- the finding that is found
abbrev pub seen : Found → Finding
seen f = record { phase = f.phase; rule = f.rule; at = f.at; name = f.name.now }

-- the finding that is found, if one is
abbrev pub sees : Option Found → Option Finding
sees None = None
sees (Some f) = Some (seen f)
