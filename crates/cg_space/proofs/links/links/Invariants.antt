use Rattle.cg_space.proofs.Linking.{LinksBelow}
use Rattle.cg_space.proofs.links.links.Given as goal

abbrev pub invariant-loop-xbar : goal.invariant-loop-xbar
invariant-loop-xbar l = LinksBelow l.top l.xbar l.links
