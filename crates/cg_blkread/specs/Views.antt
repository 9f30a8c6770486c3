-- What the program's values stand for.
use Rattle.cg_hjson.specs.declared.tree.Member.{Member}
use Rattle.cg_blkread.specs.Interfaces as interfaces
use Rattle.cg_blkread.specs.declared.entry_lists.EntryList.{EntryList}

-- the list of entries, with its key
abbrev pub list_of : EntryList → interfaces.EntryList
list_of l = record { key = l.key.now; value = l.value.now }

-- the list of entries that a member is to have
abbrev pub member_list : Member → interfaces.EntryList
member_list m = record { key = m.key; value = m.value }
