use Rattle.std.proofs.lemmas.Option.{slice_get-get_or}
use Rattle.cg_pinmux.proofs.Breaking.{decides_breaks, normal_at}
use Rattle.cg_pinmux.proofs.check.is_broken.Goals as goal

pub is_unfit-unfit-requires : goal.is_unfit-unfit-requires
is_unfit-unfit-requires c = normal_at c.args.top.now c.args.signals.now c.requires.resolved c.args.number _ (slice_get-get_or c.args.signals.now c.args.number _ c.requires.within)

pub returns : goal.returns
returns c signal is =
    rw (c.is_unfit-unfit.ensures, c.is_taken-taken.ensures, c.is_too_many-too_many.ensures)
    (decides_breaks c.args.top.now c.args.signals.now c.requires.resolved c.args.ins.now c.args.outs.now c.requires.ins c.requires.outs c.args.number _
    (slice_get-get_or c.args.signals.now c.args.number _ c.requires.within) signal is)
