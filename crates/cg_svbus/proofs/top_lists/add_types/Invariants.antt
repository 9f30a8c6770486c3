use Rattle.std.proofs.Common.{◌≡◌, ◌++◌, drop, map}
use Rattle.cg_topspec.specs.Clashes.{type_names}
use Rattle.cg_svbus.proofs.top_lists.add_types.Given as goal

-- the names so far, and then those of the types that are left, are all
abbrev pub invariant-loop-block : goal.invariant-loop-block
invariant-loop-block l =
    l.names ++ map (λ b. b.desc.name) (drop l.block-index l.top.blocks) ≡ l.fn.names ++ type_names l.top
