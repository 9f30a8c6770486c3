use Rattle.std.proofs.Common.{refl, sym, ◌∙◌}
use Rattle.cg_pinmux.proofs.Naming.{no_port, whole_port}
use Rattle.cg_pinmux.proofs.Reading.{none_plain}
use Rattle.cg_pinmux.proofs.names.port_in.Goals as goal

pub returns-in-Some : goal.returns-in-Some
returns-in-Some c =
    whole_port c.args.ports.now c.requires.valid c.args.inst c.in-Some.port 64 c.args.name.now refl c.requires.some (none_plain _ c.requires.plain) (sym c.in-Some.ensures.place) c.in-Some.ensures.within

pub returns-in-None : goal.returns-in-None
returns-in-None c = no_port c.args.ports.now c.requires.valid c.args.inst c.args.name.now c.requires.some (none_plain _ c.requires.plain) (sym c.port_named.ensures.place ∙ c.in-None.is)
