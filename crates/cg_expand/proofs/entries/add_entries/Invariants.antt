use Rattle.std.proofs.Common.{◌≡◌, ◌++◌, drop}
use Rattle.std.specs.List.{flat_map}
use Rattle.cg_desc.specs.Items.{entry_items}
use Rattle.cg_expand.proofs.entries.add_entries.Given as goal

-- the items so far, and those of the entries that are left, are all
abbrev pub invariant-loop-entry : goal.invariant-loop-entry
invariant-loop-entry l = l.items ++ flat_map entry_items (drop l.entry-index l.entries) ≡ l.fn.items ++ flat_map entry_items l.entries
