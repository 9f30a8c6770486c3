use Rattle.std.proofs.Common.{◌≡◌, ◌+◌, ◌≤◌, length}
use Rattle.std.specs.Str.{chars, IsUtf8}
use Rattle.std.specs.Str.Iter.{chars_rest}
use Rattle.cg_docspec.specs.Machine.Run.{answer, answer_from}
use Rattle.cg_hjson.specs.Views.{place_of}
use Rattle.cg_hjson.specs.Reading.{state_of}
use Rattle.cg_hjson.proofs.reader.run.Given as goal

-- the rest has the text's answer, and the counts of the place are at most the bytes that were read
abbrev pub invariant-loop-c : goal.invariant-loop-c
invariant-loop-c l = record {
  can : (goal.iterator-loop-c).can_next l.c-iterator;
  finite : (goal.iterator-loop-c).is_finite l.c-iterator;
  utf8 : IsUtf8 (chars_rest l.c-iterator);
  same : answer_from (place_of l.at) (state_of l.state) (chars (chars_rest l.c-iterator)) ≡ answer (chars l.text);
  byte : l.at.byte + length (chars_rest l.c-iterator) ≡ length l.text;
  line : l.at.line ≤ l.at.byte + 1;
  column : l.at.column ≤ l.at.byte + 1;
}
