use Rattle.std.proofs.Common.{◌≡◌, length}
use Rattle.cg_space.specs.Inner.Tables.{RightBelow}
use Rattle.cg_space.proofs.table.tables.Given as goal

-- the ranks so far have their tables
abbrev pub invariant-loop-rank : goal.invariant-loop-rank
invariant-loop-rank l = record { all : length l.tables.items ≡ length l.top.xbars; below : RightBelow l.top l.ranks l.tables.items l.rank 0 }
