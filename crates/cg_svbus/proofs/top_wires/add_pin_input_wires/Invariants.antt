use Rattle.std.proofs.Common.{◌≡◌, ◌++◌, drop, map}
use Rattle.std.specs.Prelude.{filter}
use Rattle.cg_sv.specs.Views.{entry_of}
use Rattle.cg_topspec.specs.Nets.{takes_in, numbered}
use Rattle.cg_topspec.specs.Top.{block_of}
use Rattle.cg_topspec.specs.TopModule.{pin_input_wire, pin_input_wires}
use Rattle.cg_svbus.proofs.top_wires.add_pin_input_wires.Given as goal

-- the entries so far, and then those of the ports that are left, are all
abbrev pub invariant-loop-number : goal.invariant-loop-number
invariant-loop-number l =
    map entry_of l.entries ++ map (pin_input_wire l.top l.pins l.inst) (filter (λ p. takes_in p.port.dir) (numbered l.number (drop l.number (block_of l.top l.inst).desc.ios)))
    ≡ map entry_of l.fn.entries ++ pin_input_wires l.top l.pins l.inst
