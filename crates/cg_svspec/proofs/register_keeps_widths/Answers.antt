use Rattle.cg_svspec.proofs.KeepsWidths.{keeps_widths}
use Rattle.cg_svspec.proofs.register_keeps_widths.Goals as goal

pub returns : goal.returns
returns c = keeps_widths
