use Rattle.cg_space.proofs.Tabling.{EntriesBelow}
use Rattle.cg_space.proofs.table.table_of.Given as goal

abbrev pub invariant-loop-node : goal.invariant-loop-node
invariant-loop-node l = EntriesBelow l.top l.xbar l.node l.table
