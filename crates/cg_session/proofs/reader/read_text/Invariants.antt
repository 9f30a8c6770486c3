use Rattle.std.proofs.Common.{◌≤◌, ◌-◌, length}
use Rattle.cg_base.specs.Outside.{Taken}
use Rattle.cg_inputs.specs.Lines.{HasNoFeed}
use Rattle.cg_session.proofs.reader.read_text.Given as goal

-- the bytes so far are of one line
abbrev pub invariant-loop-text : goal.invariant-loop-text
invariant-loop-text g l = record {
  taken : Taken (g.I.Source.left l.fn.input) (g.I.Source.left l.input) l.text.items;
  is_line : HasNoFeed l.text.items;
  within : length l.text.items ≤ l.room;
  later : g.I.Source.faults l.fn.input ≤ g.I.Source.faults l.input;
}

abbrev pub decreases-loop-text : goal.decreases-loop-text
decreases-loop-text g l = 101 - length l.text.items
