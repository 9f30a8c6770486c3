use Rattle.std.proofs.Common.{◌≡◌, ◌+◌, drop}
use Rattle.cg_hdrspec.specs.BlockHeader.{reset_word}
use Rattle.cg_blkhdr.specs.Small.{FieldsAreSmall}
use Rattle.cg_blkhdr.proofs.values.reset_word.Given as goal

-- the word so far, and that of the fields that are left, make the whole word
abbrev pub invariant-loop-field : goal.invariant-loop-field
invariant-loop-field l = record {
  sum : l.word + reset_word (drop l.field-index l.fields) ≡ reset_word l.fields;
  small : FieldsAreSmall (drop l.field-index l.fields);
}
