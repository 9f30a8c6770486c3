use Rattle.cg_pinmux.proofs.Kept.{are_normal}
use Rattle.cg_pinmux.proofs.pinning.look.Goals as goal

pub number_bits-requires : goal.number_bits-requires
number_bits-requires c = rw c.as_slice.ensures (are_normal c.args.top.now c.in_ok-signals.signals c.in_ok-signals.ensures)

pub number_bits-requires-2 : goal.number_bits-requires-2
number_bits-requires-2 c = rw c.as_slice-2.ensures (are_normal c.args.top.now c.in_ok-signals.signals c.in_ok-signals.ensures)
