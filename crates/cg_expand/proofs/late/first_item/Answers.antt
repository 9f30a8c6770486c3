use Rattle.std.proofs.Common.{ap, ◌∙◌}
use Rattle.cg_finding.specs.Finding.{first_of}
use Rattle.cg_expand.specs.Parts.Faults.{none_known}
use Rattle.cg_expand.specs.Parts.Names.{has}
use Rattle.cg_expand.proofs.KnownNames.{same_known}
use Rattle.cg_expand.proofs.late.first_item.Goals as goal

pub returns : goal.returns
returns c = c.in_ok-found.ensures ∙ ap first_of (same_known (has c.new.result) none_known c.args.items.now c.new.ensures)
