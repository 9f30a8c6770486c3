use Rattle.std.proofs.Common.{◌≡◌, drop}
use Rattle.cg_regspec.specs.RegisterModule.{gate_net}
use Rattle.cg_svreg.proofs.gates.gate_net.Given as goal

-- no register of the name stands before the rows that are left
abbrev pub invariant-loop-row : goal.invariant-loop-row
invariant-loop-row l = gate_net (drop l.row-index l.rows) l.name ≡ gate_net l.rows l.name
