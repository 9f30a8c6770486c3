use Rattle.std.proofs.Common.{◌≡◌, ◌≤◌, ◌+◌, length, map}
use denote.Text.{Utf8}
use denote.Shadow.{shadow}
use Rattle.cg_hdrspec.specs.Reading.{joined, answer_of, answer}
use Rattle.cg_blkhdr.specs.Answers.{constant_of}
use Rattle.cg_blkhdr.proofs.reading.read_lines.Given as goal

abbrev pub decreases-loop-line : goal.decreases-loop-line
decreases-loop-line l = length l.rest

abbrev pub invariant-loop-line : goal.invariant-loop-line
invariant-loop-line l = record {
  is_text : shadow (Utf8 l.rest);
  found : joined (map constant_of l.constants) (answer_of l.number l.rest) ≡ answer l.text;
  counted : l.number + length l.rest ≤ length l.text + 1;
}
