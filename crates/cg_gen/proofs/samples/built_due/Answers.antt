use Rattle.std.proofs.Common.{◌≡◌, ap, subst, sym, ◌∙◌}
use Rattle.cg_keep.specs.declared.keep.Built.{Built}
use Rattle.cg_gen.specs.Sample.{AreCounts, IsSampleDue, counts, due_of_counts}
use Rattle.cg_gen.proofs.Planning.{if_ok}
use Rattle.cg_gen.proofs.Sampling.{counted, same_some}
use Rattle.cg_gen.proofs.samples.built_due.Goals as goal

-- what was counted is told
pub returns : goal.returns
returns c n built top files last is =
    let here : c.in-Some.built.now ≡ built = same_some c.in-Some.built.now built (c.in-Some.ensures ∙ last) in
    let are : AreCounts n c.in_ok-counts.counts =
    counted n c.args.keep.now.top c.args.keep.now.files c.in-Ok.source built c.as_slice-files.result.now c.in_ok-digest.digest c.in_ok-counts.counts top files c.in-Ok.ensures.describes is
    (c.as_slice-files.ensures ∙ ap (λ (b : Built). b.files) here) c.in_ok-digest.ensures
    (record {
      instances = c.in_ok-counts.ensures.instances;
      crossbars = c.in_ok-counts.ensures.crossbars;
      rows = c.in_ok-counts.ensures.rows;
      interrupts = c.in_ok-counts.ensures.interrupts;
      outputs = c.in_ok-counts.ensures.written.0;
      digest_is = c.in_ok-counts.ensures.written.1;
    }) in
    if_ok (λ due. due ≡ due_of_counts c.in_ok-counts.counts) (IsSampleDue n) c.counts_due.result (λ due same. subst (IsSampleDue n) (sym same) (counts c.in_ok-counts.counts are)) c.counts_due.ensures
