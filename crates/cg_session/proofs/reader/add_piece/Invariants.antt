use Rattle.std.proofs.Common.{◌≡◌, ◌++◌, take}
use Rattle.cg_inputs.specs.Lines.{HasNoFeed}
use Rattle.cg_session.proofs.reader.add_piece.Given as goal

-- no line feed came so far, and what came is appended
abbrev pub invariant-loop-place : goal.invariant-loop-place
invariant-loop-place l = record {
  is_line : HasNoFeed (take l.place l.piece);
  grown : l.text.items ≡ l.fn.text.items ++ take l.place l.piece;
}
