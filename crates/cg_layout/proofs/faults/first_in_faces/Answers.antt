use Rattle.std.proofs.Common.{◌<◌, length, sym, ap, ◌∙◌, arith}
use Rattle.std.specs.List.{zip}
use Rattle.cg_layout.proofs.Faces.{goes_on_end, goes_on_more, goes_on_start}
use Rattle.cg_layout.proofs.Lists.{zip_done, zip_front}
use Rattle.cg_layout.proofs.faults.first_in_faces.Goals as goal

pub loop-number-init : goal.loop-number-init
loop-number-init c = goes_on_start (zip c.args.faces.now c.args.items.now)

pub loop-number-preserved : goal.loop-number-preserved
loop-number-preserved c =
    let room : c.loop-number.number < length c.args.items.now = omega arith in
    let own = c.as_slice.ensures ∙ ap (λ face. face.items) (sym c.index-items-number.is) in
    goes_on_more (zip c.args.faces.now c.args.items.now) _ _ (c.index-faces-number.result, c.index-items-number.result) _ _ _
    (zip_front c.args.faces.now c.args.items.now c.loop-number.number _ _ _ _ c.loop-number-test.true room c.index-faces-number.is c.index-items-number.is)
    (rw own at c.first_in_face-in_face.ensures) c.earlier_of-first.ensures c.loop-number.invariant

pub returns : goal.returns
returns c =
    goes_on_end (zip c.args.faces.now c.args.items.now) _ _ (zip_done c.args.faces.now c.args.items.now c.loop-number.number c.loop-number-test.false)
    c.loop-number.invariant
