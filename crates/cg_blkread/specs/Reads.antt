-- What reading a block's description answers.
use Rattle.std.specs.Prelude.{◌≡◌, ℕ, List, flat_map, map, Result, Ok, Err}
use Rattle.cg_desc.specs.declared.block.BlockDesc.{BlockDesc}
use Rattle.cg_desc.specs.declared.fault.DescFault.{DescFault}
use Rattle.cg_hjson.specs.declared.tree.Tree.{Tree}
use Rattle.cg_hjson.specs.declared.tree.Member.{Member}
use Rattle.cg_finding.specs.Finding.{Finding, In, of_least_phase}
use Rattle.cg_finding.specs.Violations.{RefusesFirst}
use Rattle.cg_keys.specs.Values.{items_of, members_of}
use Rattle.cg_blkread.specs.Facts.Interfaces.{BreaksInterfaces}
use Rattle.cg_blkread.specs.Facts.Keys.{BreaksKeys}
use Rattle.cg_blkread.specs.Facts.Profile.{BreaksProfile}
use Rattle.cg_blkread.specs.Facts.Values.{BreaksValues}
use Rattle.cg_blkread.specs.Interfaces.{entry_lists}
use Rattle.cg_blkread.specs.Keys.{key_faults}
use Rattle.cg_blkread.specs.Raw.{parameters, raw_entry}
use Rattle.cg_blkread.specs.Values.{entry_values}
use Rattle.cg_blkread.specs.Described.{block_of}
use Rattle.cg_blkread.specs.declared.raw.RawEntry.{RawEntry}

-- ---- the rules

-- what a block breaks of the rules on keys, kinds and the profile
pub data BreaksShape (t : Tree) (f : Finding) : Type 0 where
  keys : BreaksKeys t f → BreaksShape t f
  profile : BreaksProfile t f → BreaksShape t f
  interfaces : BreaksInterfaces t f → BreaksShape t f

-- what a block breaks: a rule on values is read where no rule on keys, kinds and the profile is broken
pub data Violates (t : Tree) (f : Finding) : Type 0 where
  shape : BreaksShape t f → Violates t f
  values : ((g : Finding) → ¬ BreaksShape t g) → BreaksValues t f → Violates t f

-- the description, where the block breaks none of these rules; else the first that it breaks
abbrev pub Reads : Result BlockDesc DescFault → ℕ → Tree → Type 0
Reads (Ok block) file t = ((f : Finding) → ¬ Violates t f) × (block ≡ block_of file t)
Reads (Err fault) file t = RefusesFirst fault file (Violates t)

-- ---- the same as lists, by which it is proved

-- all entries, as they are written
unfoldable pub raw_entries : List Member → List RawEntry
raw_entries ms = flat_map (λ l. map (raw_entry (parameters ms)) (items_of l.value)) (entry_lists ms)

-- what the values of a block break
unfoldable pub value_faults : Tree → List Finding
value_faults t = flat_map entry_values (raw_entries (members_of t))

-- the finding is one of the list of the least phase
abbrev pub IsListed : Tree → Finding → Type 0
IsListed t f = In f (of_least_phase (key_faults t) (value_faults t))
