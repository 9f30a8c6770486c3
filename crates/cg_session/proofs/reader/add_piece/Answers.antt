use Rattle.cg_session.proofs.LineReading.{goes_beyond, part_more}
use Rattle.cg_session.proofs.reader.add_piece.Goals as goal

pub returns-else-place-piece : goal.returns-else-place-piece
returns-else-place-piece c =
    goes_beyond c.loop-place.place c.args.piece.now c.args.text.now.items c.loop-place.text.items c.loop-place-test.true c.if-place-piece.false c.if-byte-eq10.true
    c.loop-place.invariant.is_line c.loop-place.invariant.grown

pub loop-place-preserved : goal.loop-place-preserved
loop-place-preserved c =
    let r = part_more c.loop-place.place c.args.piece.now c.args.text.now.items c.loop-place.text.items c.push.new.self.items c.loop-place-test.true c.if-byte-eq10.false
    c.loop-place.invariant.is_line c.loop-place.invariant.grown c.in_ok-push.ensures.items in
    record { is_line = r.is_line; grown = r.grown }
