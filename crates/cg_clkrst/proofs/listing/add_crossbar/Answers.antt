use Rattle.std.proofs.Common.{arith}
use Rattle.std.proofs.lemmas.Option.{slice_get_within}
use Rattle.cg_clkrst.proofs.NamedSources.{for_crossbar}
use Rattle.cg_clkrst.proofs.OwnPorts.{found_none, found_there, of_crossbar, tied_crossbar}
use Rattle.cg_clkrst.proofs.Tyings.{no_crossbar, own_sources}
use Rattle.cg_clkrst.proofs.listing.add_crossbar.Goals as goal

pub returns-in_default : goal.returns-in_default
returns-in_default c are =
    no_crossbar c.args.top.now c.args.number c.args.listed.now _ c.requires.there (found_none c.args.top.now.xbars c.args.number (rw (c.in_default.is, c.as_slice.ensures) at c.get.ensures.lookup.0)) are

pub overflow_cast-number : goal.overflow_cast-number
overflow_cast-number c = let within = slice_get_within c.args.top.now.top.xbars c.args.number c.args.listed.now c.requires.there in omega (arith, within, c.requires.few)

pub add_ties-requires-clause-named : goal.add_ties-requires-clause-named
add_ties-requires-clause-named c =
    for_crossbar c.args.top.now c.args.number c.args.listed.now c.crossbar_owner-owned.result c.requires.there c.crossbar_owner-owned.ensures.owner c.crossbar_owner-owned.ensures.clocks c.crossbar_owner-owned.ensures.resets

pub add_ties-requires-clause-sourced : goal.add_ties-requires-clause-sourced
add_ties-requires-clause-sourced c =
    own_sources c.args.top.now c.crossbar_owner-owned.result.owner _
    (of_crossbar c.args.top.now c.args.number c.args.listed.now c.in-Some.xbar.now c.requires.there (found_there c.args.top.now.xbars c.args.number c.in-Some.xbar.now (rw (c.in-Some.is, c.as_slice.ensures) at c.get.ensures.lookup.0) (rw (c.in-Some.is, c.as_slice.ensures) at c.get.ensures.lookup.1)) c.crossbar_owner-owned.result.owner c.crossbar_owner-owned.ensures.owner c.as_slice-2.result.now _ c.as_slice-2.ensures c.in_ok-ports.ensures)
    c.requires.sourced

pub returns : goal.returns
returns c are = tied_crossbar c.args.top.now c.args.number c.args.listed.now c.in-Some.xbar.now c.requires.there (found_there c.args.top.now.xbars c.args.number c.in-Some.xbar.now (rw (c.in-Some.is, c.as_slice.ensures) at c.get.ensures.lookup.0) (rw (c.in-Some.is, c.as_slice.ensures) at c.get.ensures.lookup.1)) c.crossbar_owner-owned.result.owner c.crossbar_owner-owned.ensures.owner c.as_slice-2.result.now _ c.as_slice-2.ensures c.in_ok-ports.ensures _ _ c.in_ok-add_ties.ensures are
