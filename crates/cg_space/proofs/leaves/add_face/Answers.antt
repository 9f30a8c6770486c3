use Rattle.std.proofs.Common.{◌≡◌, refl, arith}
use Rattle.std.proofs.lemmas.Option.{slice_get_read}
use Rattle.cg_space.specs.Inner.Leaves.{AtPlace, AtSome, IsFaceRow, face_row}
use Rattle.cg_space.proofs.Growing.{adds_all, adds_as, adds_at, adds_item, adds_next}
use Rattle.cg_space.proofs.HostRows.{face_some, some_face}
use Rattle.cg_space.proofs.LaidRows.{row_within, rows_few, some_words}
use Rattle.cg_space.proofs.Mapping.{row_fits}
use Rattle.cg_space.proofs.OneRow.{laid_of}
use Rattle.cg_space.proofs.leaves.add_face.Goals as goal

pub overflow_cast-number : goal.overflow_cast-number
overflow_cast-number c =
    let face = c.face_at-laid.result.now in
    let laid = laid_of c.args.top.now c.args.inst c.args.face face c.requires.merged c.face_at-laid.ensures in
    omega (arith, rows_few face.rows 0 face.rows laid.rows, rw c.as_slice-row-items.ensures at c.loop-number-test.true)

pub face_row-requires-clause-some : goal.face_row-requires-clause-some
face_row-requires-clause-some c =
    let face = c.face_at-laid.result.now in
    let there = slice_get_read c.as_slice-row-items.result.now _ c.loop-number.number c.row-item.result refl c.loop-number-test.true c.row-item.is in
    some_words face.rows c.row-item.result
    (row_fits c.args.top.now c.args.inst c.args.face c.loop-number.number face c.row-item.result c.requires.merged c.face_at-laid.ensures (rw c.as_slice-row-items.ensures at there))

pub face_row-requires-clause-few : goal.face_row-requires-clause-few
face_row-requires-clause-few c =
    let face = c.face_at-laid.result.now in
    let laid = laid_of c.args.top.now c.args.inst c.args.face face c.requires.merged c.face_at-laid.ensures in
    let there = slice_get_read c.as_slice-row-items.result.now _ c.loop-number.number c.row-item.result refl c.loop-number-test.true c.row-item.is in
    omega (arith, row_within face c.loop-number.number c.row-item.result laid (rw c.as_slice-row-items.ensures at there), laid.few_bytes)

pub face_row-requires-clause-ends : goal.face_row-requires-clause-ends
face_row-requires-clause-ends c =
    let face = c.face_at-laid.result.now in
    let laid = laid_of c.args.top.now c.args.inst c.args.face face c.requires.merged c.face_at-laid.ensures in
    let there = slice_get_read c.as_slice-row-items.result.now _ c.loop-number.number c.row-item.result refl c.loop-number-test.true c.row-item.is in
    let ends = c.requires.fits (record { base = c.base-base.result; size = face.size })
    (record { face = face; face_is = c.face_at-laid.ensures; base = c.base-base.result; base_is = c.base-base.ensures; is = refl }) in
    omega (arith, row_within face c.loop-number.number c.row-item.result laid (rw c.as_slice-row-items.ensures at there), ends)

pub loop-number-preserved : goal.loop-number-preserved
loop-number-preserved c =
    let there = slice_get_read c.as_slice-row-items.result.now _ c.loop-number.number c.row-item.result refl c.loop-number-test.true c.row-item.is in
    adds_next c.args.rows.now c.loop-number.rows c.push.new.self
    (AtPlace (λ k laid row. row ≡ face_row c.args.host c.args.inst c.args.face c.base-base.result k laid) c.as_slice-row-items.result.now) c.loop-number.number
    c.loop-number.invariant
    (adds_at c.loop-number.rows c.push.new.self (λ k laid row. row ≡ face_row c.args.host c.args.inst c.args.face c.base-base.result k laid) c.as_slice-row-items.result.now
    c.loop-number.number c.row-item.result there
    (rw c.face_row.ensures at (adds_item c.loop-number.rows c.push.new.self c.face_row.result c.in_ok-push.ensures.ok)))

pub returns : goal.returns
returns c =
    adds_as c.args.rows.now c.loop-number.rows (AtSome (λ k laid row. row ≡ face_row c.args.host c.args.inst c.args.face c.base-base.result k laid) c.face_at-laid.result.now.rows)
    (IsFaceRow c.args.top.now c.args.host c.args.inst c.args.face)
    (rw c.as_slice-row-items.ensures at
    (adds_all c.args.rows.now c.loop-number.rows (λ k laid row. row ≡ face_row c.args.host c.args.inst c.args.face c.base-base.result k laid) c.as_slice-row-items.result.now
    c.loop-number.number c.loop-number-test.false c.loop-number.invariant))
    (λ row s. some_face c.args.top.now c.args.host c.args.inst c.args.face c.base-base.result c.face_at-laid.result.now row c.face_at-laid.ensures c.base-base.ensures s)
    (λ row r. face_some c.args.top.now c.args.host c.args.inst c.args.face c.base-base.result c.face_at-laid.result.now row c.requires.merged c.face_at-laid.ensures c.base-base.ensures r)
