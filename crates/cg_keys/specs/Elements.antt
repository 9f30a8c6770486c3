-- Lists at a key: their elements, how many there may be, and what breaks a table in each.
use Rattle.std.specs.Prelude.{ℕ, ◌&&◌, cond, nat_le, length, List, [], ◌∷◌, Option, Some, None}
use Rattle.std.specs.List.{list_all, flat_map}
use Rattle.cg_desc.specs.declared.place.At.{At}
use Rattle.cg_finding.specs.Finding.{Finding}
use Rattle.cg_finding.specs.Rules as rules
use Rattle.cg_hjson.specs.declared.tree.Tree.{Tree}
use Rattle.cg_hjson.specs.declared.tree.Member.{Member}
use Rattle.cg_keys.specs.Values.{object_in, array_in, items_of}
use Rattle.cg_keys.specs.Forms.{fits}
use Rattle.cg_keys.specs.Table.{Key, value_at, table_faults}
use Rattle.cg_keys.specs.declared.forms.Form.{Form}
use Rattle.cg_keys.specs.declared.forms.Form.TheVariants.{Object}

abbrev pub items_in : Option Tree → List Tree
items_in None = []
items_in (Some t) = items_of t

-- the elements of the list at a key; none where there is no list
unfoldable pub elements : List ℕ → List Member → List Tree
elements key ms = items_in (value_at key ms)

-- 22: the value is a list, and one of its elements has not this form; once, at the list
unfoldable pub list_faults : Form → List ℕ → Tree → List Finding
list_faults form key t = cond (list_all (fits form) (items_of t)) [] (rules.wrong_kind t.at key ∷ [])

abbrev pub in_list : Form → List ℕ → Option Tree → List Finding
in_list form key None = []
in_list form key (Some t) = list_faults form key t

-- 22: the list at a key has an element that has not this form; once, at the list
unfoldable pub item_faults : Form → List ℕ → List Member → List Finding
item_faults form key ms = in_list form key (value_at key ms)

-- 22: the list at a key has an element that is no object; once, at the list
abbrev pub element_faults : List ℕ → List Member → List Finding
element_faults key ms = item_faults Object key ms

abbrev pub wrong_length : ℕ → ℕ → List ℕ → Tree → Option (List Tree) → List Finding
wrong_length least most key t None = []
wrong_length least most key t (Some ts) = cond (nat_le least (length ts) && nat_le (length ts) most) [] (rules.wrong_kind t.at key ∷ [])

abbrev pub length_wrong : ℕ → ℕ → List ℕ → Option Tree → List Finding
length_wrong least most key None = []
length_wrong least most key (Some t) = wrong_length least most key t (array_in t)

-- 22: the list at a key has fewer than `least` elements or more than `most`; at the list
unfoldable pub length_faults : ℕ → ℕ → List ℕ → List Member → List Finding
length_faults least most key ms = length_wrong least most key (value_at key ms)

abbrev pub in_object : At → List Key → Option (List Member) → List Finding
in_object opener ks None = []
in_object opener ks (Some ms) = table_faults opener ms ks

-- what is wrong in a value by a table of keys, where it is an object
unfoldable pub object_faults : List Key → Tree → List Finding
object_faults ks t = in_object t.at ks (object_in t)

-- what is wrong in each of some values by a table of keys
abbrev pub each_faults : List Key → List Tree → List Finding
each_faults ks ts = flat_map (object_faults ks) ts
