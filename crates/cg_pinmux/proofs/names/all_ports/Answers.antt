use Rattle.std.proofs.Common.{◌<◌, length, refl, sym, ◌∙◌, arith}
use Rattle.std.proofs.lemmas.Bool.Decides.{nat_tests}
use Rattle.cg_pinmux.proofs.Naming.{every_port}
use Rattle.cg_pinmux.proofs.names.all_ports.Goals as goal

pub returns : goal.returns
returns c =
    let none = sym c.is_empty.ensures ∙ c.if-is_empty.false in
    let some : 0 < length c.args.ports.now = grind (arith, nat_tests) in
    every_port c.args.ports.now c.requires c.args.inst 64 refl some
