use Rattle.std.proofs.Common.{◌+◌, ◌≤◌, arith, length, rules}
use Rattle.cg_session.proofs.Takes.{take_short, then_some, unfound_bytes}
use Rattle.cg_session.proofs.reader.read_bytes.Goals as goal

pub returns-in_err-next_piece : goal.returns-in_err-next_piece
returns-in_err-next_piece g c =
    let most : c.min-most.result ≤ c.args.room = search rules in
    let fits : length c.pieces.bytes.items + c.ask_for_bytes-ask.result ≤ c.min-most.result = search rules in
    let short = take_short c.ask_for_bytes-ask.result c.pieces.buf in
    unfound_bytes c.from_residual.result c.args.count c.args.room c.next_piece.new.bytes.items _ _ _ _ c.from_residual.ensures.0
    (then_some c.args.room _ _ _ _ c.pieces.bytes.items _ _ _ c.pieces.invariant.taken c.pieces.invariant.later (omega arith) c.in_err-next_piece.ensures)
