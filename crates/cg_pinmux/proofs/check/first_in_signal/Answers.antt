use Rattle.std.proofs.Common.{refl, sym, ◌∙◌}
use Rattle.std.proofs.lemmas.Bool.{false≢true}
use Rattle.cg_finding.proofs.Told.{tells_nothing, tells_one}
use Rattle.cg_pinmux.proofs.check.first_in_signal.Goals as goal

pub returns-then-is_broken : goal.returns-then-is_broken
returns-then-is_broken c = rw (c.bad_pin.ensures, c.as_str.ensures) (tells_one _ (c.if-is_broken.true, refl) (λ f broken. broken.1))

pub returns-else-is_broken : goal.returns-else-is_broken
returns-else-is_broken c = tells_nothing (λ f broken. false≢true (sym c.if-is_broken.false ∙ broken.0))
