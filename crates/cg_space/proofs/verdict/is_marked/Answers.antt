use Rattle.std.proofs.Common.{◌∙◌, refl, ap, length, get_or, false, arith}
use Rattle.cg_space.proofs.Judging.{marks_read}
use Rattle.cg_space.proofs.verdict.is_marked.Goals as goal

pub bounds-as_slice-to : goal.bounds-as_slice-to
bounds-as_slice-to c =
    let same = c.as_slice.ensures ∙ marks_read c.args.marks.now c.args.from c.index-marks-from.result _ c.requires.from c.index-marks-from.is refl in
    omega (arith, ap length same, c.requires.to)

pub returns : goal.returns
returns c =
    let same = c.as_slice.ensures ∙ marks_read c.args.marks.now c.args.from c.index-marks-from.result _ c.requires.from c.index-marks-from.is refl in
    ap (λ l. get_or l c.args.to false) same
