use Rattle.std.proofs.Common.{◌<◌, length, sym, subst}
use Rattle.std.proofs.lemmas.Option.{slice_get_within}
use Rattle.cg_irq.proofs.InstanceBlocks.{read_block}
use Rattle.cg_clkrst.proofs.NamedSources.{for_instance}
use Rattle.cg_clkrst.proofs.OwnPorts.{of_instance, tied_instance}
use Rattle.cg_clkrst.proofs.Tyings.{own_sources}
use Rattle.cg_clkrst.proofs.listing.add_instance.Goals as goal

pub add_ties-requires-clause-named : goal.add_ties-requires-clause-named
add_ties-requires-clause-named c =
    for_instance c.args.top.now c.args.number c.args.inst.now c.instance_owner-owned.result c.requires.there c.instance_owner-owned.ensures.owner c.instance_owner-owned.ensures.clocks c.instance_owner-owned.ensures.resets

pub add_ties-requires-clause-sourced : goal.add_ties-requires-clause-sourced
add_ties-requires-clause-sourced c =
    let within : c.args.number < length c.args.top.now.kinds = subst (λ n. c.args.number < n) (sym c.requires.has_blocks.count) (slice_get_within c.args.top.now.top.insts c.args.number c.args.inst.now c.requires.there) in
    let block = read_block c.args.top.now c.requires.has_blocks c.args.number _ c.index-as_slice-as_slice.result _ within (rw (c.as_slice.ensures, c.as_slice-2.ensures) at c.index-as_slice-as_slice.is) in
    own_sources c.args.top.now c.instance_owner-owned.result.owner _ (of_instance c.args.top.now c.args.number _ c.index-as_slice-as_slice.result block.0 block.1 c.instance_owner-owned.result.owner c.instance_owner-owned.ensures.owner c.as_slice-3.result.now _ c.as_slice-3.ensures c.in_ok-ports.ensures) c.requires.sourced

pub returns : goal.returns
returns c are =
    let within : c.args.number < length c.args.top.now.kinds = subst (λ n. c.args.number < n) (sym c.requires.has_blocks.count) (slice_get_within c.args.top.now.top.insts c.args.number c.args.inst.now c.requires.there) in
    let block = read_block c.args.top.now c.requires.has_blocks c.args.number _ c.index-as_slice-as_slice.result _ within (rw (c.as_slice.ensures, c.as_slice-2.ensures) at c.index-as_slice-as_slice.is) in
    tied_instance c.args.top.now c.args.number _ c.index-as_slice-as_slice.result block.0 block.1 c.instance_owner-owned.result.owner c.instance_owner-owned.ensures.owner c.as_slice-3.result.now _ c.as_slice-3.ensures c.in_ok-ports.ensures _ _ c.in_ok-add_ties.ensures are
