use Rattle.std.proofs.Common.{map, option_map}
use Rattle.cg_design.proofs.Counting.{count_all, count_next}
use Rattle.cg_design.proofs.Rows.{count_given, given_at}
use Rattle.cg_design.proofs.reading.behind_all.Goals as goal

pub loop-bytes-preserved : goal.loop-bytes-preserved
loop-bytes-preserved c exact count =
    count_next (map (option_map (λ b. b.now)) c.args.given.now) exact c.loop-bytes.bytes-index _ c.loop-bytes.count c.behind-count.result
    (given_at c.args.given.now c.loop-bytes.bytes-index c.loop-bytes-test.true) (c.loop-bytes.invariant exact count) c.behind-count.ensures

pub returns : goal.returns
returns c exact count =
    count_all (map (option_map (λ b. b.now)) c.args.given.now) exact c.loop-bytes.bytes-index c.loop-bytes.count
    (count_given c.args.given.now c.loop-bytes.bytes-index c.loop-bytes-test.false) (c.loop-bytes.invariant exact count)
