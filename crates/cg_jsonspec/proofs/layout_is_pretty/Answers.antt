use Rattle.cg_jsonspec.proofs.Laid.{pretty_layout}
use Rattle.cg_jsonspec.proofs.layout_is_pretty.Goals as goal

pub returns : goal.returns
returns c = pretty_layout
