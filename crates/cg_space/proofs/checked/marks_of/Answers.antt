use Rattle.cg_space.proofs.Linking.{links_within}
use Rattle.cg_space.proofs.checked.marks_of.Goals as goal

pub all_reached-requires : goal.all_reached-requires
all_reached-requires c = record { within = rw c.as_slice.ensures (links_within c.args.top.now _ c.requires c.in_ok-links.ensures) }
