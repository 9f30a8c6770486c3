use Rattle.std.proofs.Common.{◌≡◌, ◌++◌, drop, map}
use Rattle.cg_blkread.specs.Raw.{raw_entry}
use Rattle.cg_blkread.proofs.read_entries.read_entries.Given as goal

-- the entries so far and those of the items that are left are all
abbrev pub invariant-loop-item : goal.invariant-loop-item
invariant-loop-item l =
    l.entries ++ map (raw_entry l.parameters) (drop l.item-index l.items) ≡ l.fn.entries ++ map (raw_entry l.parameters) l.items
