use Rattle.std.proofs.Common.{◌≡◌, drop}
use Rattle.cg_busspec.specs.Crossbar.{crossbar_of}
use Rattle.cg_busspec.specs.CrossbarModule.{select}
use Rattle.cg_sv.specs.Views.{expression_of}
use Rattle.cg_svxbar.proofs.selects.select.Given as goal

-- the select of the devices from this number on
abbrev pub invariant-loop-number : goal.invariant-loop-number
invariant-loop-number l = expression_of l.select ≡ select (crossbar_of l.xbar l.ranges) l.request l.number (drop l.number l.devices)
