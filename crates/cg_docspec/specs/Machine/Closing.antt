-- What becomes of a value or a key that was read.
use Rattle.std.specs.Prelude.{ℕ, true, List, [], ◌∷◌, ◌++◌, Option, Some, None}
use Rattle.cg_docspec.specs.Place.{Place}
use Rattle.cg_docspec.specs.Tree.{Tree}
use Rattle.cg_docspec.specs.Machine.Awaited as awaited
use Rattle.cg_docspec.specs.Machine.Frame.{Frame, in_list, in_object, in_member}
use Rattle.cg_docspec.specs.Machine.Now as now
use Rattle.cg_docspec.specs.Machine.State.{State, reading}

-- a value is closed: it joins what is open around it, or it is the document's tree
unfoldable pub delivered : List Frame → Tree → Option State
delivered [] t = Some (record { stack = []; now = now.gap awaited.end; found = Some t })
delivered (in_list at ts ∷ outer) t = Some (reading (in_list at (ts ++ t ∷ []) ∷ outer) (now.gap (awaited.item true)))
delivered (in_member at ms key key_place ∷ outer) t =
    Some (reading (in_object at (ms ++ record { key = key; key_place = key_place; value = t } ∷ []) ∷ outer) (now.gap (awaited.item true)))
delivered (in_object at ms ∷ outer) t = None

-- a key is read: its colon comes next
unfoldable pub keyed : List Frame → List ℕ → Place → Option State
keyed [] key key_place = None
keyed (in_object at ms ∷ outer) key key_place = Some (reading (in_member at ms key key_place ∷ outer) (now.gap awaited.colon))
keyed (in_list at ts ∷ outer) key key_place = None
keyed (in_member at ms other other_place ∷ outer) key key_place = None
