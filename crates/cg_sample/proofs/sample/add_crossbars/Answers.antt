use Rattle.std.proofs.Common.{◌++◌, [], ◌∷◌, ◌∙◌}
use Rattle.cg_sample.specs.Sample.{below_file}
use Rattle.cg_sample.proofs.Counting.{one_more}
use Rattle.cg_sample.proofs.sample.add_crossbars.Goals as goal

-- one more file stands at the end
pub loop-crossbar-preserved : goal.loop-crossbar-preserved
loop-crossbar-preserved c =
    c.in_ok-push.ensures.ok
    ∙ (λ i. c.loop-crossbar.invariant i ++ c.in_ok-file.ensures i ∷ [])
    ∙ one_more (below_file c.args.number) c.args.files.now c.loop-crossbar.crossbar
