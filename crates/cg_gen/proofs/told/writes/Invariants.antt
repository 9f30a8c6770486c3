use Rattle.std.proofs.Common.{◌≡◌, ◌++◌, map}
use Rattle.cg_gen.specs.Due.{write_of}
use Rattle.cg_gen.proofs.told.writes.Given as goal

abbrev pub invariant-loop-output : goal.invariant-loop-output
invariant-loop-output l = l.deeds ++ map (write_of l.dir) l.output-iterator.rest.items ≡ map (write_of l.dir) l.fn.outputs
