use Rattle.std.proofs.Common.{sym, ◌∙◌}
use Rattle.cg_expand.proofs.Rooms.{room_for_alerts, room_for_interrupts}
use Rattle.cg_expand.proofs.block.made_items.Goals as goal

pub automatic_items-requires-clause-interrupts : goal.automatic_items-requires-clause-interrupts
automatic_items-requires-clause-interrupts c = λ room. room_for_interrupts c.args.block.now (sym c.has_room.ensures ∙ room)

pub automatic_items-requires-clause-alerts : goal.automatic_items-requires-clause-alerts
automatic_items-requires-clause-alerts c = λ room. room_for_alerts c.args.block.now (sym c.has_room.ensures ∙ room)
