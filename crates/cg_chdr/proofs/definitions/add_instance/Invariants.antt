use Rattle.std.proofs.Common.{◌≡◌, ◌++◌, drop, map}
use Rattle.cg_blkhdr.specs.Views.{definition_of}
use Rattle.cg_topspec.specs.Top.{block_of}
use Rattle.cg_tophdr.specs.TopHeader.{interfaces_from, instance_definitions}
use Rattle.cg_chdr.proofs.definitions.add_instance.Given as goal

-- the definitions so far, and then those of the interfaces that are left, are all
abbrev pub invariant-loop-index : goal.invariant-loop-index
invariant-loop-index l =
    map definition_of l.definitions ++ interfaces_from l.top l.inst l.index (drop l.index (block_of l.top l.inst).faces)
    ≡ map definition_of l.fn.definitions ++ instance_definitions l.top l.inst
