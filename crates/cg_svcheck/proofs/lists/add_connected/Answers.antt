use Rattle.cg_svcheck.proofs.Listing.{connections_less, connections_more}
use Rattle.cg_svcheck.proofs.lists.add_connected.Goals as goal
use Rattle.cg_svcheck.proofs.lists.add_connected.Goals.{then-is_output_among+in_ok-add_driven, else-is_output_among}

pub loop-conn-preserved : goal.loop-conn-preserved
loop-conn-preserved c = elim c.if-is_output_among.branch [
  | then-is_output_among+in_ok-add_driven w ↦ λ ins holds.
      connections_more ins c.args.«module».now c.args.conns.now c.loop-conn.conn-index c.conn-item.result c.loop-conn.names _ _ _ _ c.loop-conn-test.true c.conn-item.is
      (c.is_output_among.ensures ins holds) w.if-is_output_among.true w.names-is w.in_ok-add_driven.ensures (c.loop-conn.invariant ins holds)
  | else-is_output_among w ↦ λ ins holds.
      connections_less ins c.args.«module».now c.args.conns.now c.loop-conn.conn-index c.conn-item.result c.loop-conn.names _ _ _ c.loop-conn-test.true c.conn-item.is
      (c.is_output_among.ensures ins holds) w.if-is_output_among.false w.names-is (c.loop-conn.invariant ins holds)
]
