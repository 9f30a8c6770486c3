use Rattle.std.proofs.Common.{◌≤◌, ◌-◌, length}
use Rattle.cg_base.specs.Outside.{Taken}
use Rattle.cg_session.proofs.reader.read_bytes.Given as goal

abbrev pub invariant-pieces : goal.invariant-pieces
invariant-pieces g l = record {
  taken : Taken (g.I.Source.left l.fn.input) (g.I.Source.left l.input) l.bytes.items;
  within : length l.bytes.items ≤ l.most;
  later : g.I.Source.faults l.fn.input ≤ g.I.Source.faults l.input;
}

abbrev pub decreases-pieces : goal.decreases-pieces
decreases-pieces g l = l.most - length l.bytes.items
