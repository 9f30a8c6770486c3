use Rattle.std.proofs.Common.{sym, ◌∙◌}
use Rattle.cg_pinmux.proofs.Looking.{no_such_pad, such_pad}
use Rattle.cg_pinmux.proofs.resolved.pad_of.Goals as goal

pub returns-in-Some-pad_named : goal.returns-in-Some-pad_named
returns-in-Some-pad_named c =
    let place = rw (c.as_slice.ensures, c.as_str.ensures) at c.pad_named.ensures.place in
    such_pad c.args.top.now c.args.signal.now c.in-Some.name c.in-Some-pad_named.pad c.in-Some.is (sym place ∙ c.in-Some-pad_named.is)

pub returns-in-None : goal.returns-in-None
returns-in-None c =
    let place = rw (c.as_slice.ensures, c.as_str.ensures) at c.pad_named.ensures.place in
    no_such_pad c.args.top.now c.args.signal.now c.in-Some.name c.in-Some.is (sym place ∙ c.in-None.is)
