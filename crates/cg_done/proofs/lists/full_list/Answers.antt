use Rattle.std.proofs.Common.{◌∙◌, ap}
use Rattle.serde_json.specs.Data.{array}
use Rattle.cg_done.specs.Parts.{full_by}
use Rattle.cg_blkdone.proofs.Kept.{kept_in}
use Rattle.cg_blkdone.proofs.Loops.{one_more, all_done}
use Rattle.cg_done.proofs.lists.full_list.Goals as goal

pub full_part-requires : goal.full_part-requires
full_part-requires c = kept_in c.args.items.now c.loop-item.item-index c.item-item.result c.loop-item-test.true c.item-item.is c.requires

pub loop-item-preserved : goal.loop-item-preserved
loop-item-preserved c =
    one_more (full_by c.args.part) c.args.items.now c.loop-item.item-index c.item-item.result c.loop-item.list.items c.push.new.self.items c.in_ok-value.value
    c.loop-item-test.true c.item-item.is c.loop-item.invariant c.in_ok-push.ensures.items c.in_ok-value.ensures

pub returns : goal.returns
returns c = c.from.ensures ∙ ap array (all_done (full_by c.args.part) c.args.items.now c.loop-item.item-index c.loop-item.list.items c.loop-item-test.false c.loop-item.invariant)
