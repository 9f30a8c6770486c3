use Rattle.std.proofs.Common.{ℕ, refl, sym, ◌∙◌, arith, false}
use Rattle.std.proofs.lemmas.Bool.{false≢true}
use Rattle.std.proofs.lemmas.Option.{slice_get_within}
use Rattle.cg_desc.specs.Merged.{design_of}
use Rattle.cg_merge.specs.Nodes.{Names}
use Rattle.cg_merge.proofs.Repeats.{none_more}
use Rattle.cg_merge.proofs.interfaces.names_face.Goals as goal

pub returns-then-names_in : goal.returns-then-names_in
returns-then-names_in c = (λ is. (c.loop-number.number, c.names_in.ensures.0 c.if-names_in.true), λ has. refl)

pub loop-number-preserved : goal.loop-number-preserved
loop-number-preserved c i less named =
    none_more (λ k. (f : ℕ) × Names (design_of c.args.top.now) false c.args.node.now k f) c.loop-number.number c.loop-number.invariant
    (λ here. false≢true (sym c.if-names_in.false ∙ c.names_in.ensures.1 here)) i less named

pub returns : goal.returns
returns c = (
  λ is. absurd (false≢true is),
  λ r.
      let names = r.1.1 in
      let within = slice_get_within c.args.top.now.top.insts r.0 names.inst names.is.instance in
      let most = rw c.as_slice-inst-items.ensures at c.loop-number-test.false in
      absurd (c.loop-number.invariant r.0 (omega arith) r.1),
)
