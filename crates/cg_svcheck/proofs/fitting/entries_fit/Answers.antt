use Rattle.cg_sv.specs.Views.{module_of}
use Rattle.cg_svcheck.proofs.Stepping.{step}
use Rattle.cg_svcheck.proofs.fitting.entries_fit.Goals as goal

pub loop-place-preserved : goal.loop-place-preserved
loop-place-preserved c =
    step (module_of c.args.«module».now) c.as_slice-entries.result.now c.split_at.result.0.now c.split_at.result.1.now c.in-Some.field-0-1.now c.loop-place.place
    c.in-Some.entry.now _ c.entry_fits.result c.split_at.ensures.front c.split_at.ensures.back c.in-Some.ensures.cases.0 c.entry_fits.ensures c.if-not-entry_fits.false
    c.loop-place.invariant
