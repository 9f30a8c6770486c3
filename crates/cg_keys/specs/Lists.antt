-- What is wrong with a list or an object at a key, as facts with their places and names; and the first members of each key.
use Rattle.std.specs.Prelude.{◌≡◌, ℕ, ◌<◌, false, cond, List, [], ◌∷◌, length, Some}
use Rattle.std.specs.List.{list_any}
use Rattle.std.specs.Str.{bytes_eq}
use Rattle.cg_svspec.specs.Names.{Among}
use Rattle.cg_desc.specs.declared.place.At.{At}
use Rattle.cg_finding.specs.Finding.{Finding}
use Rattle.cg_finding.specs.Rules as rules
use Rattle.cg_hjson.specs.declared.tree.Tree.{Tree}
use Rattle.cg_hjson.specs.declared.tree.Member.{Member}
use Rattle.cg_keys.specs.Elements.{elements}
use Rattle.cg_keys.specs.Forms.{fits}
use Rattle.cg_keys.specs.Table.{value_at}
use Rattle.cg_keys.specs.Values.{array_in, items_of, object_in}
use Rattle.cg_keys.specs.declared.forms.Form.{Form}

-- ---- lists

-- 22: an element of the list at a key has not this form; once, at the list
pub record WrongElement (wanted : Form) (ms : List Member) (key : List ℕ) (f : Finding) : Type 0 where
  pub list : Tree
  pub there : value_at key ms ≡ Some list
  pub element : Tree
  pub among : Among element (items_of list)
  pub unfit : fits wanted element ≡ false
  pub says : f ≡ rules.wrong_kind list.at key

-- 22: the list at a key has more than so many elements; at the list
pub record TooLong (most : ℕ) (ms : List Member) (key : List ℕ) (f : Finding) : Type 0 where
  pub list : Tree
  pub there : value_at key ms ≡ Some list
  pub long : most < length (items_of list)
  pub says : f ≡ rules.wrong_kind list.at key

-- 22: the list at a key has fewer than so many elements; at the list
pub record TooShort (least : ℕ) (ms : List Member) (key : List ℕ) (f : Finding) : Type 0 where
  pub list : Tree
  pub there : value_at key ms ≡ Some list
  pub items : List Tree
  pub is_list : array_in list ≡ Some items
  pub short : length items < least
  pub says : f ≡ rules.wrong_kind list.at key

-- 22: the value at a key has not this form; at the value
pub record WrongForm (wanted : Form) (ms : List Member) (key : List ℕ) (f : Finding) : Type 0 where
  pub value : Tree
  pub there : value_at key ms ≡ Some value
  pub unfit : fits wanted value ≡ false
  pub says : f ≡ rules.wrong_kind value.at key

-- an element of the list at a key is an object and breaks this
pub record InElement (Breaks : At → List Member → Finding → Type 0) (ms : List Member) (key : List ℕ) (f : Finding) : Type 0 where
  pub element : Tree
  pub among : Among element (elements key ms)
  pub inner : List Member
  pub object : object_in element ≡ Some inner
  pub breaks : Breaks element.at inner f

-- the value at a key is an object and breaks this
pub record InObject (Breaks : At → List Member → Finding → Type 0) (ms : List Member) (key : List ℕ) (f : Finding) : Type 0 where
  pub value : Tree
  pub there : value_at key ms ≡ Some value
  pub inner : List Member
  pub object : object_in value ≡ Some inner
  pub breaks : Breaks value.at inner f

-- the value of some key of an object breaks this
pub record InMember (Breaks : List ℕ → Tree → Finding → Type 0) (ms : List Member) (f : Finding) : Type 0 where
  pub key : List ℕ
  pub value : Tree
  pub there : value_at key ms ≡ Some value
  pub breaks : Breaks key value f

-- ---- the first members of each key

-- the members but for those whose key an earlier one, or one of `before`, is
unfoldable pub first_members_after : List (List ℕ) → List Member → List Member
first_members_after before [] = []
first_members_after before (m ∷ ms) = cond (list_any (bytes_eq m.key) before) (first_members_after before ms) (m ∷ first_members_after (m.key ∷ before) ms)

abbrev pub first_members : List Member → List Member
first_members ms = first_members_after [] ms
