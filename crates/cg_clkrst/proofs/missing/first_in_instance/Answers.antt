use Rattle.std.proofs.Common.{◌<◌, length, sym, subst}
use Rattle.std.proofs.lemmas.Option.{slice_get_within}
use Rattle.cg_irq.proofs.InstanceBlocks.{read_block}
use Rattle.cg_clkrst.proofs.NamedSources.{for_instance}
use Rattle.cg_clkrst.proofs.OwnPorts.{of_instance}
use Rattle.cg_clkrst.proofs.missing.first_in_instance.Goals as goal

pub first_lacking-requires-clause-named : goal.first_lacking-requires-clause-named
first_lacking-requires-clause-named c =
    for_instance c.args.top.now c.args.number c.args.inst.now c.instance_owner-owned.result c.requires.there c.instance_owner-owned.ensures.owner c.instance_owner-owned.ensures.clocks c.instance_owner-owned.ensures.resets

pub first_lacking-requires-clause-own : goal.first_lacking-requires-clause-own
first_lacking-requires-clause-own c =
    let within : c.args.number < length c.args.top.now.kinds = subst (λ n. c.args.number < n) (sym c.requires.has_blocks.count) (slice_get_within c.args.top.now.top.insts c.args.number c.args.inst.now c.requires.there) in
    let block = read_block c.args.top.now c.requires.has_blocks c.args.number _ c.index-as_slice-as_slice.result _ within (rw (c.as_slice.ensures, c.as_slice-2.ensures) at c.index-as_slice-as_slice.is) in
    of_instance c.args.top.now c.args.number _ c.index-as_slice-as_slice.result block.0 block.1 c.instance_owner-owned.result.owner c.instance_owner-owned.ensures.owner c.as_slice-3.result.now _ c.as_slice-3.ensures c.in_ok-ports.ensures
