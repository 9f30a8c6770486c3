use Rattle.std.proofs.Common.{◌++◌, [], ◌∷◌, ◌∙◌}
use Rattle.cg_sample.specs.Sample.{block_file, block_lines, block_name}
use Rattle.cg_sample.proofs.Counting.{one_more}
use Rattle.cg_sample.proofs.sample.add_types.Goals as goal

-- one more file stands at the end
pub loop-kind-preserved : goal.loop-kind-preserved
loop-kind-preserved c =
    c.in_ok-push.ensures.ok
    ∙ (λ i. c.loop-kind.invariant i ++ c.in_ok-file.ensures i ∷ [])
    ∙ one_more (λ j. block_file (block_name j) (block_lines j)) c.args.files.now c.loop-kind.kind
