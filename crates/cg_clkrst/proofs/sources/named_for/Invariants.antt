use Rattle.std.proofs.Common.{◌≡◌, drop}
use Rattle.cg_clkrst.specs.Ties.{source_for}
use Rattle.cg_clkrst.proofs.sources.named_for.Given as goal

-- the pairs that are left name what all do
abbrev pub invariant-loop-pair : goal.invariant-loop-pair
invariant-loop-pair l = source_for (drop l.pair-index l.pairs) l.port ≡ source_for l.pairs l.port
