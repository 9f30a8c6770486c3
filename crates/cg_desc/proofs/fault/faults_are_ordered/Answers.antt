use Rattle.cg_desc.proofs.FaultOrder.{before_irreflexive, before_transitive, before_total}
use Rattle.cg_desc.proofs.fault.faults_are_ordered.Goals as goal

pub returns : goal.returns
returns c = record { irreflexive = before_irreflexive; transitive = before_transitive; total = before_total }
