use Rattle.std.proofs.Common.{ℕ, ◌↔◌}
use Rattle.cg_svspec.specs.Names.{Among}
use Rattle.cg_space.proofs.Linking.{NestsBelow}
use Rattle.cg_space.proofs.links.nested_crossbars.Given as goal

-- the nodes so far have these
abbrev pub invariant-loop-node : goal.invariant-loop-node
invariant-loop-node l = (y : ℕ) → Among y l.inner ↔ NestsBelow l.top l.xbar l.node y
