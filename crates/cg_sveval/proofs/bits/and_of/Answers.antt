use Rattle.std.proofs.Common.{◌&&◌}
use Rattle.cg_sveval.proofs.BitSteps.{zip_done}
use Rattle.cg_sveval.proofs.bits.and_of.Goals as goal

pub returns : goal.returns
returns c =
    zip_done ◌&&◌ c.loop-place.found.items c.args.left.now c.args.right.now _ c.loop-place.place c.min-place-end.result c.loop-place.invariant c.min-place-end.ensures
    c.loop-place-test.false
