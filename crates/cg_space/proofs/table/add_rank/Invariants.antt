use Rattle.std.proofs.Common.{◌≡◌, length}
use Rattle.cg_space.specs.Inner.Tables.{RightBelow}
use Rattle.cg_space.proofs.table.add_rank.Given as goal

-- the crossbars so far have their tables
abbrev pub invariant-loop-xbar : goal.invariant-loop-xbar
invariant-loop-xbar l = record { all : length l.tables ≡ length l.top.xbars; below : RightBelow l.top l.ranks l.tables l.rank l.xbar }
