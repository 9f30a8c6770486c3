use Rattle.std.proofs.Common.{◌+◌, ◌++◌, [], ◌∷◌, refl, sym, ◌∙◌}
use Rattle.std.proofs.lemmas.List.FromFn.{map-range_with_len_more}
use Rattle.cg_sample.specs.Sample.{named}
use Rattle.cg_sample.proofs.lines.names.Goals as goal

-- one more name stands at the end
pub loop-offset-preserved : goal.loop-offset-preserved
loop-offset-preserved c =
    let first = c.args.first in
    let offset = c.loop-offset.offset in
    c.in_ok-push.ensures.ok
    ∙ (λ i. c.loop-offset.invariant i ++ c.in_ok-name.ensures i ∷ [])
    ∙ sym (map-range_with_len_more (named c.args.start.now) first offset (first + offset) refl)
