use Rattle.std.proofs.Common.{ap}
use Rattle.std.specs.Option.{option_copied}
use Rattle.cg_clkrst.proofs.FirstLacks.{lacks, lacks_not}
use Rattle.cg_clkrst.proofs.missing.lacking.Goals as goal

pub returns-in-Some : goal.returns-in-Some
returns-in-Some c =
    lacks_not c.args.top.now c.args.owned.now c.args.port.now c.requires _ c.source_of.ensures _ (ap option_copied c.in-Some.is)

pub returns-in-None : goal.returns-in-None
returns-in-None c = rw c.lack_of.ensures (lacks c.args.top.now c.args.owned.now c.args.port.now c.requires _ c.source_of.ensures (ap option_copied c.in-None.is))
