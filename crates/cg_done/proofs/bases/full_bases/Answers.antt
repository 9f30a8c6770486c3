use Rattle.std.proofs.Common.{sym, subst}
use Rattle.cg_blkdone.specs.Parts.{ValuesAreKept}
use Rattle.cg_blkdone.proofs.Kept.{kept_values}
use Rattle.cg_done.proofs.bases.full_bases.Goals as goal

pub with_bases-requires : goal.with_bases-requires
unfolding ValuesAreKept
with_bases-requires c = subst ValuesAreKept (sym c.members.ensures) (kept_values c.args.tree.now c.requires)
