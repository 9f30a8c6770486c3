use Rattle.std.proofs.Common.{nat_le, ap, sym, length, ◌∙◌}
use Rattle.std.specs.Prelude.{filter}
use Rattle.std.proofs.lemmas.List.Sums.{length-filter}
use Rattle.cg_nodes.specs.Listed.{connects, feeders_of, has_join}
use Rattle.cg_nodes.proofs.parts.has_join.Goals as goal

pub returns : goal.returns
unfolding has_join feeders_of
returns c =
    ap (nat_le 2)
    (c.feeder_count.ensures ∙ sym (length-filter (connects c.args.xbar.now c.args.device) c.args.hosts.now)
    ∙ ap (λ hosts. length (filter (connects c.args.xbar.now c.args.device) hosts)) c.requires)
