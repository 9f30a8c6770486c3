use Rattle.std.proofs.Common.{◌≡◌, ◌++◌, drop, map}
use Rattle.cg_blkread.specs.Described.{written_entry}
use Rattle.cg_blkread.specs.Raw.{raw_entry}
use Rattle.cg_blkread.proofs.described_interfaces.describe_list.Given as goal

-- the entries so far and those of the items that are left are all
abbrev pub invariant-loop-item : goal.invariant-loop-item
invariant-loop-item l =
    l.entries ++ map (λ e. written_entry (raw_entry l.parameters e)) (drop l.item-index l.items)
    ≡ map (λ e. written_entry (raw_entry l.parameters e)) l.items
