use Rattle.cg_chip.proofs.Telling.{clash_told, none_told}
use Rattle.cg_chip.proofs.crossbars.crossbar_text.Goals as goal

-- no name comes twice
pub returns-in-Ok-clause-tells : goal.returns-in-Ok-clause-tells
returns-in-Ok-clause-tells c = none_told _ _ _ c.in-Ok.ensures.apart

-- a name does
pub returns-in-Err-Clash-clause-tells : goal.returns-in-Err-Clash-clause-tells
returns-in-Err-Clash-clause-tells c = clash_told _ _ _ c.in-Err-Clash.name _ c.clash.ensures (c.crossbar_output.ensures.clash c.in-Err-Clash.name (cc))
