use Rattle.std.proofs.Common.{subst, sym}
use Rattle.cg_nodes.specs.Clocks.{IsClocks}
use Rattle.cg_nodes.specs.Parts.{IsParts}
use Rattle.cg_nodes.proofs.ClocksListed.{clocks_listed}
use Rattle.cg_nodes.proofs.PartsListed.{parts_listed}
use Rattle.cg_nodes.proofs.graph.nodes.Goals as goal

pub returns-clause-parts : goal.returns-clause-parts
returns-clause-parts c = subst (IsParts c.args.xbar.now) (sym c.in_ok-parts.ensures) (parts_listed c.args.xbar.now)

pub returns-clause-clocks : goal.returns-clause-clocks
returns-clause-clocks c = subst (IsClocks c.args.xbar.now) (sym c.in_ok-clocks.ensures) (clocks_listed c.args.xbar.now)
