use Rattle.std.proofs.Common.{arith}
use Rattle.std.proofs.lemmas.Option.{slice_get_within}
use Rattle.cg_clkrst.proofs.NamedSources.{for_crossbar}
use Rattle.cg_clkrst.specs.declared.tie.Owner.TheVariants.{Xbar}
use Rattle.cg_clkrst.proofs.FirstLacks.{nothing_lacks}
use Rattle.cg_clkrst.proofs.OwnPorts.{found_none, found_there, no_ports, of_crossbar}
use Rattle.cg_clkrst.proofs.missing.first_in_crossbar.Goals as goal

pub returns-in_default : goal.returns-in_default
returns-in_default c =
    let none = found_none c.args.top.now.xbars c.args.number (rw (c.in_default.is, c.as_slice.ensures) at c.get.ensures.lookup.0) in
    nothing_lacks c.args.top.now (Xbar c.args.number) c.args.listed.now.at (no_ports c.args.top.now c.args.number c.args.listed.now c.requires.there none)

pub overflow_cast-number : goal.overflow_cast-number
overflow_cast-number c = let within = slice_get_within c.args.top.now.top.xbars c.args.number c.args.listed.now c.requires.there in omega (arith, within, c.requires.few)

pub first_lacking-requires-clause-named : goal.first_lacking-requires-clause-named
first_lacking-requires-clause-named c =
    for_crossbar c.args.top.now c.args.number c.args.listed.now c.crossbar_owner-owned.result c.requires.there c.crossbar_owner-owned.ensures.owner c.crossbar_owner-owned.ensures.clocks c.crossbar_owner-owned.ensures.resets

pub first_lacking-requires-clause-own : goal.first_lacking-requires-clause-own
first_lacking-requires-clause-own c = of_crossbar c.args.top.now c.args.number c.args.listed.now c.in-Some.xbar.now c.requires.there (found_there c.args.top.now.xbars c.args.number c.in-Some.xbar.now (rw (c.in-Some.is, c.as_slice.ensures) at c.get.ensures.lookup.0) (rw (c.in-Some.is, c.as_slice.ensures) at c.get.ensures.lookup.1)) c.crossbar_owner-owned.result.owner c.crossbar_owner-owned.ensures.owner c.as_slice-2.result.now _ c.as_slice-2.ensures c.in_ok-ports.ensures
