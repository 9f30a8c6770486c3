-- The parts of a block's document, as relations: its lists of entries, its entries, registers and fields.
use Rattle.std.specs.Prelude.{◌≡◌, ℕ, true, codes, List, Some, None}
use Rattle.cg_svspec.specs.Names.{Among}
use Rattle.cg_hjson.specs.declared.tree.Tree.{Tree}
use Rattle.cg_hjson.specs.declared.tree.Member.{Member}
use Rattle.cg_keys.specs.Elements.{elements}
use Rattle.cg_keys.specs.Forms.{boolean_in}
use Rattle.cg_keys.specs.Table.{value_at}
use Rattle.cg_keys.specs.Values.{items_of, members_of, object_in}

-- an object has this value at a key
abbrev pub HasAt : List ℕ → Tree → Tree → Type 0
HasAt key t value = value_at key (members_of t) ≡ Some value

-- a value is no object, or one without a key
abbrev pub HasNot : List ℕ → Tree → Type 0
HasNot key t = value_at key (members_of t) ≡ None

-- an object has at a key a value that is true
abbrev pub HasTrueAt : List ℕ → Tree → Tree → Type 0
HasTrueAt key t value = HasAt key t value × (boolean_in value ≡ Some true)

-- A value is to be a list of entries: `registers` itself, or each of its members where it is an object. It stands at this key.
pub data IsEntryList (t : Tree) : List ℕ → Tree → Type 0 where
  sole : {list : Tree} → HasAt (codes "registers") t list → object_in list ≡ None → IsEntryList t (codes "registers") list
  member : {key : List ℕ} {list : Tree} (registers : Tree) (lists : List Member) → HasAt (codes "registers") t registers
      → object_in registers ≡ Some lists → value_at key lists ≡ Some list → IsEntryList t key list

-- an entry of the block stands in one of its lists of entries
pub record IsEntry (t e : Tree) : Type 0 where
  pub key : List ℕ
  pub list : Tree
  pub listed : IsEntryList t key list
  pub among : Among e (items_of list)

-- ---- kinds of entries: each is known by its key, of which the first in this order counts, and else it is a register

pub record IsMultireg (t m : Tree) : Type 0 where
  pub entry : Tree
  pub is_entry : IsEntry t entry
  pub there : HasAt (codes "multireg") entry m

pub record IsWindow (t w : Tree) : Type 0 where
  pub entry : Tree
  pub is_entry : IsEntry t entry
  pub no_multireg : HasNot (codes "multireg") entry
  pub there : HasAt (codes "window") entry w

pub record IsSkip (t s : Tree) : Type 0 where
  pub entry : Tree
  pub is_entry : IsEntry t entry
  pub no_multireg : HasNot (codes "multireg") entry
  pub no_window : HasNot (codes "window") entry
  pub there : HasAt (codes "skipto") entry s

pub record IsReservation (t r : Tree) : Type 0 where
  pub entry : Tree
  pub is_entry : IsEntry t entry
  pub no_multireg : HasNot (codes "multireg") entry
  pub no_window : HasNot (codes "window") entry
  pub no_skip : HasNot (codes "skipto") entry
  pub there : HasAt (codes "reserved") entry r

-- an entry that is itself a register
pub record IsSingle (t r : Tree) : Type 0 where
  pub is_entry : IsEntry t r
  pub no_multireg : HasNot (codes "multireg") r
  pub no_window : HasNot (codes "window") r
  pub no_skip : HasNot (codes "skipto") r
  pub no_reservation : HasNot (codes "reserved") r

-- ---- registers and fields

-- a register is an entry of its own, or is copied by a multireg
pub data IsRegister (t r : Tree) : Type 0 where
  single : IsSingle t r → IsRegister t r
  copied : IsMultireg t r → IsRegister t r

-- a field is written in the `fields` of a register
abbrev pub IsFieldOf : Tree → Tree → Type 0
IsFieldOf r f = Among f (elements (codes "fields") (members_of r))
