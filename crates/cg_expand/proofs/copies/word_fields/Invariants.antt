use Rattle.std.proofs.Common.{◌≡◌, ◌+◌, ◌*◌}
use Rattle.std.specs.List.{flat_map, range_with_len}
use Rattle.cg_desc.specs.Items.{copies_per_word, copy_fields}
use Rattle.cg_expand.proofs.copies.word_fields.Given as goal

-- the fields so far are those of the copies so far
abbrev pub invariant-loop-place : goal.invariant-loop-place
invariant-loop-place l =
    l.fields ≡ flat_map (λ place. copy_fields l.multireg (l.fn.number * copies_per_word l.multireg + place) place) (range_with_len 0 l.place)
