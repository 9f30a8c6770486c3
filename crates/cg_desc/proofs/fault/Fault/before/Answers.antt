use Rattle.std.proofs.Common.{ap, ◌∙◌}
use Rattle.std.specs.Ordering.{is_lt}
use Rattle.cg_desc.proofs.FaultOrder.{Before-is_lt}
use Rattle.cg_desc.proofs.fault.Fault.before.Goals as goal

pub returns : goal.returns
returns c = Before-is_lt c.args.self.now c.args.other.now c.is_lt.result (c.is_lt.ensures ∙ ap is_lt c.compare.ensures)
