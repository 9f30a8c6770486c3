use Rattle.std.proofs.Common.{sym, ◌∙◌}
use Rattle.cg_pinmux.proofs.Looking.{no_instance, region_is, valid_ports}
use Rattle.cg_pinmux.proofs.resolved.region_of.Goals as goal

pub region_in-requires : goal.region_in-requires
region_in-requires c = rw c.ports_of.ensures (valid_ports c.args.top.now c.requires c.in-Some.inst)

pub returns-in-Some : goal.returns-in-Some
returns-in-Some c =
    let place = rw (c.as_slice.ensures, c.as_str.ensures) at c.instance_named.ensures.place in
    region_is c.args.top.now c.args.signal.now c.in-Some.inst c.region_in.result (sym place ∙ c.in-Some.is) (rw (c.ports_of.ensures, c.as_str-in-Some.ensures) at c.region_in.ensures)

pub returns-in-None : goal.returns-in-None
returns-in-None c =
    let place = rw (c.as_slice.ensures, c.as_str.ensures) at c.instance_named.ensures.place in
    no_instance c.args.top.now c.args.signal.now (sym place ∙ c.in-None.is)
