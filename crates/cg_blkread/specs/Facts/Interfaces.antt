-- Rules 21 and 22 on interfaces together, and on the shape and the lists of `registers`, as facts on a block's document.
use Rattle.std.specs.Prelude.{◌≡◌, ◌⊎◌, ◌<◌, ℕ, true, codes, List, [], ◌∷◌, ◌++◌, length, Some, None}
use Rattle.cg_svspec.specs.Names.{Among}
use Rattle.cg_hjson.specs.declared.tree.Tree.{Tree}
use Rattle.cg_hjson.specs.declared.tree.Member.{Member}
use Rattle.cg_finding.specs.Finding.{Finding}
use Rattle.cg_finding.specs.Rules.{missing_key, wrong_kind}
use Rattle.cg_keys.specs.Forms.{fits}
use Rattle.cg_keys.specs.Table.{value_at}
use Rattle.cg_keys.specs.Values.{array_in, items_of, members_of, object_in}
use Rattle.cg_keys.specs.declared.forms.Form.TheVariants.{Name, Word}
use Rattle.cg_keys.specs.declared.words.Words.TheVariants.{Direction}
use Rattle.cg_blkread.specs.Interfaces.{devices, hosts, interface_name}
use Rattle.cg_blkread.specs.Facts.Parts.{HasAt}

-- an interface is an object whose direction is there, and direction and name have their forms
pub record IsGoodInterface (i : Tree) : Type 0 where
  pub direction : Tree
  pub directed : HasAt (codes "direction") i direction
  pub is_direction : fits (Word Direction) direction ≡ true
  pub named : (value : Tree) → HasAt (codes "name") i value → fits Name value ≡ true

-- `bus_interfaces` is a list of good interfaces: where it is not, only their number is judged here
pub record HasGoodInterfaces (t : Tree) : Type 0 where
  pub list : Tree
  pub interfaces : List Tree
  pub there : HasAt (codes "bus_interfaces") t list
  pub is_list : array_in list ≡ Some interfaces
  pub good : (i : Tree) → Among i interfaces → IsGoodInterface i

-- two of them have one name, or none
pub record TwoHaveOneName (is : List Tree) : Type 0 where
  pub before : List Tree
  pub one : Tree
  pub after : List Tree
  pub other : Tree
  pub stands : is ≡ before ++ one ∷ after
  pub later : Among other after
  pub alike : interface_name one ≡ interface_name other

-- `registers` is to be one list where there is no device interface, or the only one has no name; else an object of lists
abbrev pub AsksForList : List Tree → Type 0
AsksForList ds = (ds ≡ []) ⊎ ((d : Tree) × (ds ≡ d ∷ []) × (interface_name d ≡ None))

-- `registers` has an entry without a device interface: in a list where there is none, or in a member that names none
pub data HasStrayEntry (ds : List Tree) (registers : Tree) : Type 0 where
  in_list : (e : Tree) → ds ≡ [] → Among e (items_of registers) → HasStrayEntry ds registers
  in_member : (e : Tree) (lists : List Member) (key : List ℕ) (list : Tree) → object_in registers ≡ Some lists → value_at key lists ≡ Some list
      → ((d : Tree) → Among d ds → ¬ (interface_name d ≡ Some key)) → Among e (items_of list) → HasStrayEntry ds registers

-- what a block breaks of these rules
pub data BreaksInterfaces (t : Tree) : Finding → Type 0 where
  -- 22: there are more than eight device interfaces
  many_devices : (list : Tree) → HasAt (codes "bus_interfaces") t list → 8 < length (devices (members_of t))
      → BreaksInterfaces t (wrong_kind list.at (codes "bus_interfaces"))
  -- 21: one of several device interfaces has no name
  nameless : HasGoodInterfaces t → (d : Tree) → 1 < length (devices (members_of t)) → Among d (devices (members_of t)) → interface_name d ≡ None
      → BreaksInterfaces t (missing_key d.at (codes "name"))
  -- 22: two interfaces of one direction have one name, or none
  one_name : HasGoodInterfaces t → (list : Tree) → HasAt (codes "bus_interfaces") t list
      → TwoHaveOneName (devices (members_of t)) ⊎ TwoHaveOneName (hosts (members_of t)) → BreaksInterfaces t (wrong_kind list.at (codes "bus_interfaces"))
  -- 22: `registers` is a list where an object is asked for
  no_list_asked : HasGoodInterfaces t → (registers : Tree) (entries : List Tree) → HasAt (codes "registers") t registers → array_in registers ≡ Some entries
      → ¬ AsksForList (devices (members_of t)) → BreaksInterfaces t (wrong_kind registers.at (codes "registers"))
  -- 22: `registers` is an object where a list is asked for
  list_asked : HasGoodInterfaces t → (registers : Tree) (lists : List Member) → HasAt (codes "registers") t registers → object_in registers ≡ Some lists
      → AsksForList (devices (members_of t)) → BreaksInterfaces t (wrong_kind registers.at (codes "registers"))
  -- 22: `registers` has entries without an interface
  stray_entry : HasGoodInterfaces t → (registers : Tree) → HasAt (codes "registers") t registers → HasStrayEntry (devices (members_of t)) registers
      → BreaksInterfaces t (wrong_kind registers.at (codes "registers"))
  -- 21: `registers` is an object without the list of a named device interface
  no_list : HasGoodInterfaces t → (registers : Tree) (lists : List Member) (d : Tree) (name : List ℕ) → HasAt (codes "registers") t registers
      → object_in registers ≡ Some lists → Among d (devices (members_of t)) → interface_name d ≡ Some name → value_at name lists ≡ None
      → BreaksInterfaces t (missing_key registers.at name)
