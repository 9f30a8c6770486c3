-- The parts of completed descriptions, as the program makes them.
use Rattle.std.specs.Prelude.{ℕ, List, [], ◌∷◌, map, All, Option}
use Rattle.serde_json.specs.Data.{Data}
use Rattle.cg_hjson.specs.Json.{KeysDiffer, IntegersFit}
use Rattle.cg_hjson.specs.Views.{tree_of}
use Rattle.cg_hjson.specs.declared.tree.Tree.{Tree}
use Rattle.cg_hjson.specs.declared.tree.Member.{Member}
use Rattle.cg_blkread.specs.declared.raw.RawField.{RawField}
use Rattle.cg_blkdone.specs.Full.{Pair, field_pairs, full_alert, full_entry, full_interrupt, full_parameter, full_pin, pair, said_with}
use Rattle.cg_blkdone.specs.declared.lists.Part.{Part}
use Rattle.cg_blkdone.specs.declared.lists.Part.TheVariants.{Interrupt, Alert, Parameter, Pin, Entry}

-- JSON keeps all of the value: no object has a key twice, and each integer is from -2^63 to 2^64 - 1
pub record IsKept (t : Tree) : Type 0 where
  pub keys : KeysDiffer (tree_of t)
  pub integers : IntegersFit (tree_of t)

-- all of these are kept, and all members' values
unfoldable pub AreKept : List Tree → Type 0
AreKept ts = All IsKept ts

unfoldable pub ValuesAreKept : List Member → Type 0
ValuesAreKept ms = All (λ m. IsKept m.value) ms

-- the fields of a register, each with its tree
unfoldable pub fields_with : Option ℕ → List RawField → List Tree → List Data
fields_with register_resval [] ts = []
fields_with register_resval (f ∷ fs) [] = []
fields_with register_resval (f ∷ fs) (t ∷ ts) = said_with (field_pairs register_resval f) t ∷ fields_with register_resval fs ts

-- a part of a list, by what it is
abbrev pub full_by : Part → Tree → Data
full_by Interrupt = full_interrupt
full_by Alert = full_alert
full_by Parameter = full_parameter
full_by Pin = full_pin
full_by Entry = full_entry

-- each member's key with its value, completed
abbrev pub each_pair : (Tree → Data) → List Member → List Pair
each_pair full ms = map (λ m. pair m.key (full m.value)) ms
