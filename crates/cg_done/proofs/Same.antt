-- The tree of a completed description describes the same top but for places, and completing it changes nothing.
use Rattle.std.proofs.Common.{◌≡◌, sym, subst}
use Rattle.cg_keys.specs.Values.{members_of}
use Rattle.cg_blkdone.specs.Completed.{Says}
use Rattle.cg_blkdone.proofs.Completion.{Completed}
use Rattle.cg_blkdone.proofs.Whole.{differ_by, told_by}
use Rattle.cg_done.specs.Completed.{CompletedTopIsSame}
use Rattle.cg_done.specs.FullTop.{full_top, top_pairs}
use Rattle.cg_done.proofs.ReadTops.{keys_once, root_object}
use Rattle.cg_done.proofs.SameTop.{top_described, top_twice}
use Rattle.cg_done.proofs.TopNeat.{full_neat}

-- the tree describes the same top, and is complete
pub completes : CompletedTopIsSame
unfolding full_top
completes t u read says =
    let neat = full_neat t in
    let done : Completed (top_pairs (members_of t)) t u = told_by u (full_top t) says neat in
    let old = keys_once t read in
    let new = differ_by u (full_top t) says neat in
    let is = root_object t read in
    let twice : full_top u ≡ full_top t = top_twice t u old new done is in
    record {
      describes = top_described t u old new done is;
      same = twice;
      is_complete = subst (Says u) (sym twice) says;
    }
