use Rattle.std.proofs.Common.{◌≡◌, ◌++◌, drop, map}
use Rattle.std.specs.Prelude.{flat_map}
use Rattle.cg_clkrst.specs.Owned.{port_at}
use Rattle.cg_clkrst.specs.Ports.{entry_uses}
use Rattle.cg_clkrst.specs.declared.tie.Owner.{Owner}
use Rattle.cg_clkrst.proofs.ports.block_ports.Given as goal

-- the ports so far and those of the entries that are left are all
abbrev pub invariant-loop-entry : goal.invariant-loop-entry
invariant-loop-entry l =
    (owner : Owner) → map (port_at owner) l.ports ++ flat_map (entry_uses owner) (drop l.entry-index l.entry-items) ≡ flat_map (entry_uses owner) l.block.desc.clocking
