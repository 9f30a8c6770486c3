use Rattle.std.proofs.Common.{sym, ◌∙◌, arith}
use Rattle.std.proofs.lemmas.Bool.{false≢true}
use Rattle.std.proofs.lemmas.Option.{slice_get_within}
use Rattle.cg_desc.specs.Merged.{design_of}
use Rattle.cg_merge.specs.Nodes.{RepeatsIn}
use Rattle.cg_merge.proofs.Repeats.{none_more}
use Rattle.cg_merge.proofs.interfaces.repeats_one.Goals as goal

pub loop-number-preserved : goal.loop-number-preserved
loop-number-preserved c x n before i less =
    none_more (RepeatsIn (design_of c.args.top.now) x n c.args.node.now) c.loop-number.number (c.loop-number.invariant x n before)
    (λ here. false≢true (sym c.if-repeats_in.false ∙ (c.repeats_in.ensures x n before).1 here)) i less

pub returns : goal.returns
returns c x n before = (
  λ is. absurd (false≢true is),
  λ r.
      let within = slice_get_within c.args.top.now.top.insts r.i r.repeats.names.inst r.repeats.names.is.instance in
      let most = rw c.as_slice-inst-items.ensures at c.loop-number-test.false in
      absurd (c.loop-number.invariant x n before r.i (omega arith) r.repeats),
)
