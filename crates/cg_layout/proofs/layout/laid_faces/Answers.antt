use Rattle.std.proofs.Common.{◌≡◌, length, get_or, sym, ap, ◌∙◌, arith}
use Rattle.std.specs.Vec.Iter.{into_iter_items}
use Rattle.cg_layout.proofs.Lists.{nothing_left}
use Rattle.cg_layout.proofs.Placing.{placing_end, placing_more, placing_start, placing_unbroken}
use Rattle.cg_layout.proofs.layout.laid_faces.Goals as goal

pub loop-face_items-init : goal.loop-face_items-init
loop-face_items-init c =
    let gives = c.into_iter-face_items-iterator.ensures.into_iter_gives in
    let all : into_iter_items c.into_iter-face_items-iterator.result ≡ c.args.items = gives.0 ∙ c.into_vec-face_items-items.ensures in record {
      placing = rw (all, c.new-laid.ensures) (placing_start c.args.faces.now c.args.items c.requires.all c.requires.valid c.requires.unbroken);
      counted = gives.1 ∙ sym (ap length gives.0 ∙ sym c.into_vec-face_items-items.result.ok.0);
    }

pub laid_face-requires-clause-unbroken : goal.laid_face-requires-clause-unbroken
laid_face-requires-clause-unbroken c =
    placing_unbroken c.in-Some.ensures.steps.0 c.loop-face_items.invariant.placing c.index-faces-len.result
    (c.index-faces-len.is ∙ ap (λ n. get_or c.args.faces.now n c.index-faces-len.result) c.len.ensures)

pub loop-face_items-preserved : goal.loop-face_items-preserved
loop-face_items-preserved c = record {
  placing = placing_more c.in-Some.ensures.steps.0 c.loop-face_items.invariant.placing c.index-faces-len.result
      (c.index-faces-len.is ∙ ap (λ n. get_or c.args.faces.now n c.index-faces-len.result) c.len.ensures) c.in_ok-laid_face.field-0 c.push.new.self
      c.in_ok-laid_face.ensures c.in_ok-push.ensures.ok;
  counted = let gone = c.in-Some.ensures.steps.1 in let short = ap length c.in-Some.ensures.steps.0 in let count = c.loop-face_items.invariant.counted in omega arith;
}

pub returns : goal.returns
returns c =
    let none = c.in-None.ensures.steps.0 in
    placing_end (nothing_left _ (sym c.loop-face_items.invariant.counted ∙ none)) c.loop-face_items.invariant.placing
