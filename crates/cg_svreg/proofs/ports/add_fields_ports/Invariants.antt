use Rattle.std.proofs.Common.{◌≡◌, ◌++◌, drop, map}
use Rattle.cg_sv.specs.Views.{port_of}
use Rattle.cg_regspec.specs.RegisterModule.{fields_ports}
use Rattle.cg_svreg.proofs.ports.add_fields_ports.Given as goal

-- the ports so far, and then those of the fields that are left, are all ports
abbrev pub invariant-loop-field : goal.invariant-loop-field
invariant-loop-field l =
    map port_of l.ports ++ fields_ports l.register (drop l.field-index l.fields)
    ≡ map port_of l.fn.ports ++ fields_ports l.register l.fields
