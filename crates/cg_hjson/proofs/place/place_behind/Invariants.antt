use Rattle.std.proofs.Common.{◌≡◌, ◌+◌, ◌≤◌, length}
use Rattle.std.specs.Str.{chars, IsUtf8}
use Rattle.std.specs.Str.Iter.{chars_rest}
use Rattle.cg_docspec.specs.Place.{origin, place_after}
use Rattle.cg_hjson.specs.Views.{place_of}
use Rattle.cg_hjson.proofs.place.place_behind.Given as goal

-- the rest leads to the same place, and the counts are at most the bytes that were read
abbrev pub invariant-loop-c : goal.invariant-loop-c
invariant-loop-c l = record {
  can : (goal.iterator-loop-c).can_next l.c-iterator;
  finite : (goal.iterator-loop-c).is_finite l.c-iterator;
  utf8 : IsUtf8 (chars_rest l.c-iterator);
  same : place_after (place_of l.at) (chars (chars_rest l.c-iterator)) ≡ place_after origin (chars l.text);
  byte : l.at.byte + length (chars_rest l.c-iterator) ≡ length l.text;
  line : l.at.line ≤ l.at.byte + 1;
  column : l.at.column ≤ l.at.byte + 1;
}
