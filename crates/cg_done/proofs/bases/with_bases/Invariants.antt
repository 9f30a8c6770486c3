use Rattle.std.proofs.Common.{◌≡◌, drop}
use Rattle.serde_json.specs.View.{view}
use Rattle.cg_blkdone.specs.Full.{with_all}
use Rattle.cg_blkdone.specs.Parts.{each_pair}
use Rattle.cg_done.specs.FullTop.{full_base}
use Rattle.cg_done.proofs.bases.with_bases.Given as goal

abbrev pub invariant-loop-member : goal.invariant-loop-member
invariant-loop-member l = with_all (each_pair full_base (drop l.member-index l.members)) (view l.whole) ≡ with_all (each_pair full_base l.members) (view l.fn.value)
