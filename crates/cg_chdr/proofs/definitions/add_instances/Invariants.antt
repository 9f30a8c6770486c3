use Rattle.std.proofs.Common.{◌≡◌, ◌++◌, map}
use Rattle.std.specs.Prelude.{flat_map}
use Rattle.cg_blkhdr.specs.Views.{definition_of}
use Rattle.cg_topspec.specs.Top.{counting}
use Rattle.cg_tophdr.specs.TopHeader.{instance_definitions}
use Rattle.cg_chdr.proofs.definitions.add_instances.Given as goal

-- the definitions so far are those of the instances up to this one
abbrev pub invariant-loop-index : goal.invariant-loop-index
invariant-loop-index l = map definition_of l.definitions ≡ map definition_of l.fn.definitions ++ flat_map (instance_definitions l.top) (counting 0 l.index)
