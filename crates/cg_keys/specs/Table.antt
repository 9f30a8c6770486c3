-- A table of the keys of an object, and what breaks it.
use Rattle.std.specs.Prelude.{ℕ, Bool, true, false, cond, List, [], ◌∷◌, Option, Some, None}
use Rattle.std.specs.List.{flat_map}
use Rattle.std.specs.Str.{bytes_eq}
use Rattle.cg_desc.specs.declared.place.At.{At}
use Rattle.cg_finding.specs.Finding.{Finding, finding}
use Rattle.cg_finding.specs.Rules as rules
use Rattle.cg_hjson.specs.declared.tree.Tree.{Tree}
use Rattle.cg_hjson.specs.declared.tree.Member.{Member}
use Rattle.cg_keys.specs.Forms.{fits_one, rule_broken}
use Rattle.cg_keys.specs.declared.forms.Form.{Form}
use Rattle.cg_keys.specs.declared.table.Row.{Row}

-- a key, the forms that its value may have, and whether it must be there
pub record Key : Type 0 where
  pub key : List ℕ
  pub forms : List Form
  pub needed : Bool

-- the key of a row of the program
abbrev pub key_of : Row → Key
key_of r = record { key = r.key.now; forms = r.forms.now; needed = r.needed }

-- a key that must be there
abbrev pub needs : List ℕ → List Form → Key
needs key forms = record { key = key; forms = forms; needed = true }

-- a key that may be there
abbrev pub may : List ℕ → List Form → Key
may key forms = record { key = key; forms = forms; needed = false }

-- the value at a key: the first member's that has the key
unfoldable pub value_at : List ℕ → List Member → Option Tree
value_at key [] = None
value_at key (m ∷ ms) = cond (bytes_eq m.key key) (Some m.value) (value_at key ms)

-- 22, 24 or 25: a value at this key has none of these forms; at the value
abbrev pub misfit : List ℕ → List Form → Tree → Finding
misfit key forms t = finding 2 (rule_broken forms t) t.at key

-- the value has none of the key's forms
unfoldable pub value_faults : List ℕ → List Form → Tree → List Finding
value_faults key forms t = cond (fits_one forms t) [] (misfit key forms t ∷ [])

-- 21: a needed key is absent; at the object's opener
abbrev pub at_key : At → Key → Option Tree → List Finding
at_key opener k None = cond k.needed (rules.missing_key opener k.key ∷ []) []
at_key opener k (Some t) = value_faults k.key k.forms t

-- what is wrong at one key of an object
unfoldable pub key_faults : At → List Member → Key → List Finding
key_faults opener ms k = at_key opener k (value_at k.key ms)

-- what is wrong in an object, by its table of keys
abbrev pub table_faults : At → List Member → List Key → List Finding
table_faults opener ms ks = flat_map (key_faults opener ms) ks
