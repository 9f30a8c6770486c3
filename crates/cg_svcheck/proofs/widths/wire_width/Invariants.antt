use Rattle.std.proofs.Common.{◌≡◌, drop, map}
use Rattle.cg_sv.specs.Views.{entry_of}
use Rattle.cg_svcheck.specs.Widths.{width_at, wire_nets}
use Rattle.cg_svcheck.proofs.widths.wire_width.Given as goal

-- what is left says what all say
abbrev pub invariant-loop-entry : goal.invariant-loop-entry
invariant-loop-entry l = width_at (wire_nets (map entry_of (drop l.entry-index l.entries))) l.name ≡ width_at (wire_nets (map entry_of l.entries)) l.name
