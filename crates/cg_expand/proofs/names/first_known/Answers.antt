use Rattle.std.proofs.Common.{sym, ◌∙◌}
use Rattle.cg_finding.proofs.Firsts.{None-earlier}
use Rattle.cg_expand.specs.Parts.Names.{has}
use Rattle.cg_expand.proofs.KnownNames.{no_more_known, one_more_known}
use Rattle.cg_expand.proofs.names.first_known.Goals as goal

pub loop-item-init : goal.loop-item-init
loop-item-init c = None-earlier _

pub loop-item-preserved : goal.loop-item-preserved
loop-item-preserved c =
    one_more_known c.args.items.now c.loop-item.item-index c.item-item.result (has c.loop-item.known) (has c.first_in_item.new.self) _ _ _
    c.loop-item-test.true c.item-item.is c.in_ok-first_in_item.ensures.found c.in_ok-first_in_item.ensures.known c.earlier_of-first.ensures
    ∙ c.loop-item.invariant

pub returns : goal.returns
returns c =
    sym (no_more_known c.args.items.now c.loop-item.item-index (has c.loop-item.known) _ c.loop-item-test.false)
    ∙ c.loop-item.invariant
