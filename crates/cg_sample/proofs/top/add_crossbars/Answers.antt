use Rattle.std.proofs.Common.{◌++◌, [], ◌∷◌, ap, ◌∙◌}
use Rattle.cg_sample.specs.Sample.{crossbar_name, listed_line}
use Rattle.cg_sample.proofs.Counting.{one_more}
use Rattle.cg_sample.proofs.top.add_crossbars.Goals as goal

-- one more line stands at the end
pub loop-crossbar-preserved : goal.loop-crossbar-preserved
loop-crossbar-preserved c =
    let line = c.deref.ensures ∙ c.in_ok-line.ensures ∙ ap listed_line (c.as_str.ensures ∙ c.in_ok-name.ensures) in
    c.in_ok-add.ensures
    ∙ (λ i. c.loop-crossbar.invariant i ++ line i ∷ [])
    ∙ one_more (λ k. listed_line (crossbar_name k)) c.args.lines.now c.loop-crossbar.crossbar
