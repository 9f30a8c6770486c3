use Rattle.std.proofs.Common.{refl}
use Rattle.std.proofs.lemmas.Bool.{false≢true}
use Rattle.std.proofs.lemmas.Option.{slice_get-get_or}
use Rattle.cg_space.proofs.Looking.{at_among, none_at_all, none_more, not_error}
use Rattle.cg_space.specs.Rows.{first, nowhere}
use Rattle.cg_space.proofs.lookup.find.Goals as goal

pub loop-row-preserved : goal.loop-row-preserved
loop-row-preserved c =
    none_more c.args.rows.now c.args.host c.args.addr c.loop-row.row-index _ (slice_get-get_or c.args.rows.now c.loop-row.row-index _ c.loop-row-test.true)
    (λ h. false≢true (c.if-holds.ensures.1 h)) c.loop-row.invariant

pub returns-then-holds-clause-found : goal.returns-then-holds-clause-found
returns-then-holds-clause-found c =
    rw (c.with_index.ensures, c.aligned.ensures) (first c.loop-row.row-index _ (slice_get-get_or c.args.rows.now c.loop-row.row-index _ c.loop-row-test.true) (c.if-holds.ensures.0 refl) c.loop-row.invariant)

pub returns-then-holds-clause-error : goal.returns-then-holds-clause-error
returns-then-holds-clause-error c =
    let at = slice_get-get_or c.args.rows.now c.loop-row.row-index _ c.loop-row-test.true in
    let among = at_among c.args.rows.now c.loop-row.row-index _ at in (
      λ is. absurd (not_error _ _ (c.requires _ among) (rw c.with_index.ensures at is)),
      λ none. absurd (none _ among (c.if-holds.ensures.0 refl)),
    )

pub returns-clause-found : goal.returns-clause-found
returns-clause-found c = nowhere (none_at_all c.args.rows.now c.args.host c.args.addr c.loop-row.row-index c.loop-row-test.false c.loop-row.invariant)

pub returns-clause-error : goal.returns-clause-error
returns-clause-error c = (λ is. none_at_all c.args.rows.now c.args.host c.args.addr c.loop-row.row-index c.loop-row-test.false c.loop-row.invariant, λ none. refl)
