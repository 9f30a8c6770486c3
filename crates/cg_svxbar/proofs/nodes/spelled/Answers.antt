use Rattle.std.proofs.Common.{◌∙◌}
use Rattle.cg_svxbar.proofs.Labels.{label_is}
use Rattle.cg_svxbar.proofs.nodes.spelled.Goals as goal

pub returns : goal.returns
returns c = let replaced = c.in_ok-label.ensures.ok in c.from_string.ensures ∙ label_is replaced.0 c.args.name.now _ replaced.1
