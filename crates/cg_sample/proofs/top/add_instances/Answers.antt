use Rattle.std.proofs.Common.{◌++◌, [], ◌∷◌, ◌∙◌}
use Rattle.cg_sample.specs.Sample.{instance_line}
use Rattle.cg_sample.proofs.Counting.{one_more}
use Rattle.cg_sample.proofs.top.add_instances.Goals as goal

-- one more line stands at the end
pub loop-place-preserved : goal.loop-place-preserved
loop-place-preserved c =
    let line = c.deref.ensures ∙ c.in_ok-line.ensures in
    c.in_ok-add.ensures
    ∙ (λ i. c.loop-place.invariant i ++ line i ∷ [])
    ∙ one_more (instance_line c.args.number) c.args.lines.now c.loop-place.place
