use Rattle.std.proofs.Common.{◌≡◌, drop}
use Rattle.serde_json.specs.View.{view}
use Rattle.cg_blkdone.specs.Full.{entries_pairs, with_all}
use Rattle.cg_blkdone.proofs.lists.with_lists.Given as goal

abbrev pub invariant-loop-member : goal.invariant-loop-member
invariant-loop-member l = with_all (entries_pairs (drop l.member-index l.members)) (view l.whole) ≡ with_all (entries_pairs l.members) (view l.fn.value)
