use Rattle.std.proofs.Common.{◌∙◌, ◌<◌, length, arith}
use Rattle.cg_space.proofs.Sound.{xbar_within}
use Rattle.cg_space.proofs.Tabling.{face_fits, if_ok, kept_face, kept_nested, kept_outside, table_read, to_devices, written_fit}
use Rattle.cg_space.proofs.table.coverage_of.Goals as goal

pub face_range-requires-clause-merged : goal.face_range-requires-clause-merged
face_range-requires-clause-merged c =
    (c.requires.sound.faces c.args.xbar c.args.node c.in-Face.inst c.in-Face.face (rw c.in-Face.is at c.end_at.ensures)).0

pub face_range-requires-clause-there : goal.face_range-requires-clause-there
face_range-requires-clause-there c =
    let known = c.requires.sound.faces c.args.xbar c.args.node c.in-Face.inst c.in-Face.face (rw c.in-Face.is at c.end_at.ensures) in
    (known.1, known.2)

pub of-requires : goal.of-requires
of-requires c =
    (face_fits c.args.top.now c.args.xbar c.args.node c.in-Face.inst c.in-Face.face _ c.requires.sound (rw c.in-Face.is at c.end_at.ensures) c.face_range.ensures, tt)

pub overflow_cast-xbar : goal.overflow_cast-xbar
overflow_cast-xbar c = omega (arith, c.requires.sound.few, xbar_within c.args.top.now c.args.xbar c.args.node (c.requires.device.0, c.requires.device.1))

pub inner_to-to-requires-clause-there : goal.inner_to-to-requires-clause-there
inner_to-to-requires-clause-there c =
    let inner = c.requires.sound.inner c.args.xbar c.args.node c.in-Xbar.inner (c.requires.device, rw c.in-Xbar.is at c.end_at.ensures) in
    xbar_within c.args.top.now c.in-Xbar.inner inner.0 (inner.1, inner.2.is)

pub bounds-tables-inner : goal.bounds-tables-inner
bounds-tables-inner c =
    let inner = c.requires.sound.inner c.args.xbar c.args.node c.in-Xbar.inner (c.requires.device, rw c.in-Xbar.is at c.end_at.ensures) in
    omega (arith, c.requires.all, xbar_within c.args.top.now c.in-Xbar.inner inner.0 (inner.1, inner.2.is))

pub coverage_of_all-requires-clause-table : goal.coverage_of_all-requires-clause-table
coverage_of_all-requires-clause-table c =
    let stands = rw c.in-Xbar.is at c.end_at.ensures in
    let inner = c.requires.sound.inner c.args.xbar c.args.node c.in-Xbar.inner (c.requires.device, stands) in
    let there : c.in-Xbar.inner < length c.args.tables.now = omega (arith, c.requires.all, xbar_within c.args.top.now c.in-Xbar.inner inner.0 (inner.1, inner.2.is)) in
    table_read c.args.top.now c.in-Xbar.inner c.args.tables.now _ _ there (c.as_slice.ensures ∙ c.index-tables-inner.is) (c.requires.below c.in-Xbar.inner stands)

pub coverage_of_all-requires-clause-devices : goal.coverage_of_all-requires-clause-devices
coverage_of_all-requires-clause-devices c =
    let inner = c.requires.sound.inner c.args.xbar c.args.node c.in-Xbar.inner (c.requires.device, rw c.in-Xbar.is at c.end_at.ensures) in
    rw (c.inner_to-to.ensures inner.0 inner.1 inner.2) (to_devices c.args.top.now c.in-Xbar.inner inner.0 inner.1 c.requires.sound inner.2.is inner.2.is_host)

pub of-requires-in-Outside : goal.of-requires-in-Outside
of-requires-in-Outside c = rw c.as_slice-in-Outside.ensures (written_fit c.args.top.now c.args.xbar c.args.node _ c.requires.sound c.node_at.ensures)

pub returns-in-Face : goal.returns-in-Face
returns-in-Face c =
    if_ok c.of.result c.of.ensures (λ coverage is.
    kept_face c.args.top.now c.args.xbar c.args.node c.in-Face.inst c.in-Face.face _ coverage (rw c.in-Face.is at c.end_at.ensures) c.face_range.ensures is)

pub returns-in-Xbar : goal.returns-in-Xbar
returns-in-Xbar c =
    let stands = rw c.in-Xbar.is at c.end_at.ensures in
    let inner = c.requires.sound.inner c.args.xbar c.args.node c.in-Xbar.inner (c.requires.device, stands) in
    if_ok c.coverage_of_all.result c.coverage_of_all.ensures (λ coverage are.
    kept_nested c.args.top.now c.args.xbar c.args.node c.in-Xbar.inner _ coverage stands inner c.inner_to-to.ensures are)

pub returns-in-Outside : goal.returns-in-Outside
returns-in-Outside c =
    if_ok c.of-in-Outside.result c.of-in-Outside.ensures (λ coverage is.
    kept_outside c.args.top.now c.args.xbar c.args.node c.node_at.result.now coverage c.node_at.ensures (rw c.in-Outside.is at c.end_at.ensures) (rw c.as_slice-in-Outside.ensures at is))

pub returns-in-Host : goal.returns-in-Host
returns-in-Host c =
    absurd (c.requires.sound.hosts c.args.xbar c.args.node c.in-Host.inst c.in-Host.face (rw c.in-Host.is at c.end_at.ensures) c.requires.device)
