-- What an interface breaks of the rules on rows and gates, as what its list has.
use Rattle.std.proofs.Common.{◌≡◌, ℕ, Bool, true, false, ◌||◌, ◌⊎◌, List, [], ◌∷◌, inl, inr, Option, Some, None, refl, ap, ◌∙◌}
use Rattle.std.specs.List.{Contains, flat_map}
use Rattle.cg_desc.specs.declared.block.FaceDesc.{FaceDesc}
use Rattle.cg_desc.specs.declared.block.RegDesc.{RegDesc}
use Rattle.cg_desc.specs.declared.block.Item.{Item}
use Rattle.cg_desc.specs.declared.block.Item.TheVariants.{Reg, Window, SkipTo, Reserved}
use Rattle.cg_finding.specs.Finding.{Among, Finding, In, earlier, finding, first_of}
use Rattle.cg_finding.proofs.Members.{flat_map_has, in_flat_map, in_unless, unless_has}
use Rattle.cg_layout.specs.Inner.Gates.{faults_of_gate, faults_of_regwen, gate_faults, has_row}
use Rattle.cg_finding.specs.Told.{TellsFirst}
use Rattle.cg_desc.specs.Gates.{is_gate, register_among}
use Rattle.cg_layout.specs.Violations.{BreaksIn, BreaksOffsets, HasNoRow, is_row, name_or_empty}
use Rattle.cg_layout.proofs.Lists.{among, contains}
use Rattle.cg_finding.proofs.Told.{tells_as, tells_either, tells_list, tells_nothing, tells_one}

-- ---- rows

-- a member of items without a row is none
no_row_among : (items : List Item) (item : Item) → has_row items ≡ false → Among item items → is_row item ≡ false
no_row_among [] item h is = absurd is
no_row_among (x ∷ items) item h (inl is) = rw is (no_row_first (is_row x) (has_row items) h)
  where
    no_row_first : (b c : Bool) → (b || c) ≡ false → b ≡ false
    no_row_first false c e = refl
    no_row_first true c e = cc
no_row_among (x ∷ items) item h (inr later) = no_row_among items item (no_row_rest (is_row x) (has_row items) h) later
  where
    no_row_rest : (b c : Bool) → (b || c) ≡ false → c ≡ false
    no_row_rest false c e = e
    no_row_rest true c e = cc

-- where no row is found there is none
pub row_missing : (items : List Item) → has_row items ≡ false → HasNoRow items
row_missing items h item has = no_row_among items item h (among items item has)

-- one of the items is a row
abbrev HasSomeRow : List Item → Type 0
HasSomeRow items = (item : Item) × Among item items × (is_row item ≡ true)

some_row_by : (x : Item) (items : List Item) (b : Bool) → is_row x ≡ b → (b || has_row items) ≡ true → (has_row items ≡ true → HasSomeRow items) → HasSomeRow (x ∷ items)
some_row_by x items true e h rest = (x, inl refl, e)
some_row_by x items false e h rest = let found = rest h in (found.0, inr found.1, found.2)

some_row : (items : List Item) → has_row items ≡ true → HasSomeRow items
some_row [] h = cc
some_row (x ∷ items) h = some_row_by x items (is_row x) refl h (λ e. some_row items e)

-- where one is found there is one
pub row_there : (items : List Item) → has_row items ≡ true → ¬ HasNoRow items
row_there items h none =
    let found = some_row items h in
    let e : is_row found.0 ≡ false = none found.0 (contains items found.0 found.1) in
    let f = found.2 in
    cc

-- what an interface without a row breaks
abbrev pub IsWithoutRow : FaceDesc → List Item → Finding → Type 0
IsWithoutRow face items f = HasNoRow items × (f ≡ finding 5 33 face.at (name_or_empty face.name))

-- there is a row
pub tells_row : (face : FaceDesc) (items : List Item) → has_row items ≡ true → TellsFirst None (IsWithoutRow face items)
tells_row face items h = tells_nothing (λ f broken. row_there items h broken.0)

-- there is none
pub tells_no_row : (face : FaceDesc) (items : List Item) (name : List ℕ) → has_row items ≡ false → name ≡ name_or_empty face.name
    → TellsFirst (Some (finding 5 33 face.at name)) (IsWithoutRow face items)
tells_no_row face items name h called =
    rw called (tells_one (finding 5 33 face.at (name_or_empty face.name)) (row_missing items h, refl) (λ f broken. broken.1))

-- ---- gates

-- what a register breaks by the name of its gate, and by the register that has it
gate_breaks : (face : FaceDesc) (items : List Item) (r : RegDesc) (name : List ℕ) (f : Finding) (gate : Option RegDesc) → Contains items (Reg r)
    → r.regwen ≡ Some name → register_among items name ≡ gate → In f (faults_of_gate r name gate) → BreaksIn face items f
unfolding faults_of_gate
gate_breaks face items r name f None has e g (inl is) = rw is (BreaksIn.unknown_regwen r has e g)
gate_breaks face items r name f None has e g (inr none) = absurd none
gate_breaks face items r name f (Some gate) has e g among =
    let found = in_unless (is_gate gate) f (finding 5 36 r.regwen_at name) among in
    rw found.1 (BreaksIn.bad_regwen r gate has e g found.0)

-- what a register breaks by the name of its gate, if it has one
regwen_breaks : (face : FaceDesc) (items : List Item) (r : RegDesc) (f : Finding) (regwen : Option (List ℕ)) → Contains items (Reg r)
    → r.regwen ≡ regwen → In f (faults_of_regwen items r regwen) → BreaksIn face items f
unfolding faults_of_regwen
regwen_breaks face items r f None has e among = absurd among
regwen_breaks face items r f (Some name) has e among = gate_breaks face items r name f (register_among items name) has e refl among

-- what an item breaks
item_breaks : (face : FaceDesc) (items : List Item) (item : Item) (f : Finding) → Contains items item → In f (gate_faults items item) → BreaksIn face items f
unfolding gate_faults
item_breaks face items (Reg r) f has among = regwen_breaks face items r f r.regwen has refl among
item_breaks face items (Window w) f has among = absurd among
item_breaks face items (SkipTo to at) f has among = absurd among
item_breaks face items (Reserved words at) f has among = absurd among

-- what is in the list of an interface breaks a rule on gates
gates_break : (face : FaceDesc) (items : List Item) (f : Finding) → In f (flat_map (gate_faults items) items) → BreaksIn face items f
gates_break face items f among =
    let one = in_flat_map (gate_faults items) items f among in
    item_breaks face items one.item f (contains items one.item one.among) one.found

-- a register's gate is among the items, or is not there
gate_is : (items : List Item) (r : RegDesc) (name : List ℕ) (gate : Option RegDesc) → r.regwen ≡ Some name → register_among items name ≡ gate
    → gate_faults items (Reg r) ≡ faults_of_gate r name gate
unfolding gate_faults faults_of_regwen
gate_is items r name gate e g = ap (faults_of_regwen items r) e ∙ ap (faults_of_gate r name) g

-- what breaks a rule on gates is in the list
unknown_listed : (items : List Item) (r : RegDesc) (name : List ℕ) → Contains items (Reg r) → r.regwen ≡ Some name → register_among items name ≡ None
    → In (finding 5 35 r.regwen_at name) (flat_map (gate_faults items) items)
unfolding faults_of_gate
unknown_listed items r name has e g =
    flat_map_has (gate_faults items) items (Reg r) (finding 5 35 r.regwen_at name) (among items (Reg r) has) (rw (gate_is items r name None e g) (inl refl))

bad_listed : (items : List Item) (r gate : RegDesc) (name : List ℕ) → Contains items (Reg r) → r.regwen ≡ Some name → register_among items name ≡ Some gate
    → is_gate gate ≡ false → In (finding 5 36 r.regwen_at name) (flat_map (gate_faults items) items)
unfolding faults_of_gate
bad_listed items r gate name has e g bad =
    let f = finding 5 36 r.regwen_at name in
    flat_map_has (gate_faults items) items (Reg r) f (among items (Reg r) has)
    (rw (gate_is items r name (Some gate) e g) (unless_has (is_gate gate) f f bad refl))

-- ---- an interface

-- what an interface breaks, by the three checks
abbrev BreaksByCheck : FaceDesc → List Item → Finding → Type 0
BreaksByCheck face items f = IsWithoutRow face items f ⊎ (In f (flat_map (gate_faults items) items) ⊎ BreaksOffsets 0 items f)

-- what a check finds is broken
from_checks : (face : FaceDesc) (items : List Item) (f : Finding) → BreaksByCheck face items f → BreaksIn face items f
from_checks face items f (inl broken) = rw broken.1 (BreaksIn.no_row broken.0)
from_checks face items f (inr (inl among)) = gates_break face items f among
from_checks face items f (inr (inr broken)) = BreaksIn.offsets broken

-- what is broken a check finds
by_checks : (face : FaceDesc) (items : List Item) (f : Finding) → BreaksIn face items f → BreaksByCheck face items f
by_checks face items _ (BreaksIn.no_row none) = inl (none, refl)
by_checks face items _ (BreaksIn.unknown_regwen {name} r has e g) = inr (inl (unknown_listed items r name has e g))
by_checks face items _ (BreaksIn.bad_regwen {name} r gate has e g bad) = inr (inl (bad_listed items r gate name has e g bad))
by_checks face items f (BreaksIn.offsets broken) = inr (inr broken)

-- the three checks tell the first that an interface breaks
pub tells_face : (face : FaceDesc) (items : List Item) {a b c : Option Finding} → TellsFirst a (IsWithoutRow face items)
    → b ≡ first_of (flat_map (gate_faults items) items) → TellsFirst c (BreaksOffsets 0 items) → TellsFirst (earlier a (earlier b c)) (BreaksIn face items)
tells_face face items rows gates offsets =
    tells_as (tells_either rows (tells_either (rw gates (tells_list (flat_map (gate_faults items) items))) offsets)) (from_checks face items) (by_checks face items)
