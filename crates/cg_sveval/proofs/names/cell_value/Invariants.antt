use Rattle.std.proofs.Common.{◌≡◌, drop}
use Rattle.cg_sveval.specs.Tables.{cell_value}
use Rattle.cg_sveval.proofs.names.cell_value.Given as goal

-- what is left has the same first one of the name
abbrev pub invariant-loop-cell : goal.invariant-loop-cell
invariant-loop-cell l = cell_value (drop l.cell-index l.cells) l.name ≡ cell_value l.cells l.name
