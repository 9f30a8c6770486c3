-- The rules on keys and the forms of their values, as facts on a block's document.
use Rattle.std.specs.Prelude.{◌≡◌, ◌⊎◌, ◌<◌, ℕ, false, codes, List, [], ◌∷◌, ◌++◌, length, Some, None}
use Rattle.cg_svspec.specs.Names.{Among}
use Rattle.cg_hjson.specs.declared.tree.Tree.{Tree}
use Rattle.cg_hjson.specs.declared.tree.Member.{Member}
use Rattle.cg_finding.specs.Finding.{Finding}
use Rattle.cg_finding.specs.Rules.{wrong_kind}
use Rattle.cg_keys.specs.Elements.{elements}
use Rattle.cg_keys.specs.Forms.{fits_one}
use Rattle.cg_keys.specs.Table.{Key, misfit}
use Rattle.cg_keys.specs.Values.{array_in, items_of, members_of, object_in}
use Rattle.cg_keys.specs.Violations.{BreaksTable, DuplicateKey}
use Rattle.cg_keys.specs.declared.forms.Form.{Form}
use Rattle.cg_keys.specs.declared.forms.Form.TheVariants.{Items, Object}
use Rattle.cg_blkread.specs.Facts.Parts.{HasAt, IsEntryList, IsFieldOf, IsMultireg, IsRegister, IsReservation, IsSingle, IsSkip, IsWindow}
use Rattle.cg_blkread.specs.Tables.{alert_keys, block_keys, clocking_keys, copy_keys, field_keys, interface_keys, interrupt_keys, parameter_keys, pin_keys, register_keys, window_keys, word_number}

-- the block has at this key a list of objects, each with these keys
pub data ListsObjects : List ℕ → List Key → Type 0 where
  clocks : ListsObjects (codes "clocking") clocking_keys
  interfaces : ListsObjects (codes "bus_interfaces") interface_keys
  interrupts : ListsObjects (codes "interrupt_list") interrupt_keys
  alerts : ListsObjects (codes "alert_list") alert_keys
  parameters : ListsObjects (codes "param_list") parameter_keys
  inputs : ListsObjects (codes "available_input_list") pin_keys
  outputs : ListsObjects (codes "available_output_list") pin_keys
  inouts : ListsObjects (codes "available_inout_list") pin_keys

-- the list at this key has at least, and at most, so many elements
pub data IsLimited : List ℕ → ℕ → ℕ → Type 0 where
  clocks : IsLimited (codes "clocking") 1 64
  inputs : IsLimited (codes "available_input_list") 0 64
  outputs : IsLimited (codes "available_output_list") 0 64
  inouts : IsLimited (codes "available_inout_list") 0 64

-- an object inside a block has these keys
pub data HasTable (t : Tree) : Tree → List Key → Type 0 where
  listed : {key : List ℕ} {keys : List Key} (element : Tree) → ListsObjects key keys → Among element (elements key (members_of t)) → HasTable t element keys
  register : {r : Tree} → IsSingle t r → HasTable t r register_keys
  multireg : {m : Tree} → IsMultireg t m → HasTable t m (register_keys ++ copy_keys)
  field : {f : Tree} (r : Tree) → IsRegister t r → IsFieldOf r f → HasTable t f field_keys
  window : {w : Tree} → IsWindow t w → HasTable t w window_keys

-- a value is to have one of these forms, beside those that tables say; it stands at this key
pub data HasForms (t : Tree) : List ℕ → List Form → Tree → Type 0 where
  entries : {key : List ℕ} {list : Tree} → IsEntryList t key list → HasForms t key (Items ∷ []) list
  multireg : {m : Tree} → IsMultireg t m → HasForms t (codes "multireg") (Object ∷ []) m
  window : {w : Tree} → IsWindow t w → HasForms t (codes "window") (Object ∷ []) w
  skip : {s : Tree} → IsSkip t s → HasForms t (codes "skipto") (word_number ∷ []) s
  reservation : {r : Tree} → IsReservation t r → HasForms t (codes "reserved") (word_number ∷ []) r

-- the elements of a list are to be objects; it stands at this key
pub data ListsOnlyObjects (t : Tree) : List ℕ → Tree → Type 0 where
  listed : {key : List ℕ} {keys : List Key} {list : Tree} → ListsObjects key keys → HasAt key t list → ListsOnlyObjects t key list
  fields : {list : Tree} (r : Tree) → IsRegister t r → HasAt (codes "fields") r list → ListsOnlyObjects t (codes "fields") list
  entries : {key : List ℕ} {list : Tree} → IsEntryList t key list → ListsOnlyObjects t key list

-- what a block breaks of these rules
pub data BreaksKeys (t : Tree) : Finding → Type 0 where
  -- 20: an object, anywhere in the document, has a key twice
  duplicate : {f : Finding} → DuplicateKey t f → BreaksKeys t f
  -- 21, 22, 24, 25: the block lacks a needed key, or a value has none of its key's forms
  of_block : {f : Finding} → BreaksTable t.at (members_of t) block_keys f → BreaksKeys t f
  -- 21, 22, 24, 25: so does an object inside the block
  of_object : {f : Finding} {keys : List Key} (object : Tree) (ms : List Member) → HasTable t object keys → object_in object ≡ Some ms
      → BreaksTable object.at ms keys f → BreaksKeys t f
  -- 22, 24: a list of entries, or an entry's one value, has not its form
  unfit : {key : List ℕ} {forms : List Form} (value : Tree) → HasForms t key forms value → fits_one forms value ≡ false
      → BreaksKeys t (misfit key forms value)
  -- 22: an element of a list of objects is no object; at the list
  no_object : {key : List ℕ} (list element : Tree) → ListsOnlyObjects t key list → Among element (items_of list) → object_in element ≡ None
      → BreaksKeys t (wrong_kind list.at key)
  -- 22: a list is too short or too long
  wrong_length : {key : List ℕ} (least most : ℕ) (list : Tree) (elements : List Tree) → IsLimited key least most → HasAt key t list
      → array_in list ≡ Some elements → (length elements < least) ⊎ (most < length elements) → BreaksKeys t (wrong_kind list.at key)
