use Rattle.std.proofs.Common.{◌≡◌, ◌++◌, drop}
use Rattle.std.specs.Prelude.{flat_map}
use Rattle.cg_topspec.specs.Clashes.{register_names}
use Rattle.cg_svbus.proofs.top_lists.add_registers.Given as goal

-- the names so far, and then those of the types that are left, are all
abbrev pub invariant-loop-block : goal.invariant-loop-block
invariant-loop-block l =
    l.names ++ flat_map register_names (drop l.block-index l.top.blocks) ≡ l.fn.names ++ flat_map register_names l.top.blocks
