-- Where what entries stand for stands in the file.
use Rattle.std.proofs.Common.{ℕ, ◌≡◌, ◌+◌, ◌*◌, ◌<◌, nat_lt, true, ◌⊎◌, List, [], ◌∷◌, ◌++◌, map, Some, inl, inr, refl, sym, subst}
use Rattle.std.specs.List.{flat_map, list_all, range_with_len}
use Rattle.std.proofs.lemmas.Bool.{and_parts, ltb-true}
use Rattle.cg_desc.specs.declared.place.At.{At}
use Rattle.cg_desc.specs.declared.block.FieldDesc.{FieldDesc}
use Rattle.cg_desc.specs.declared.block.RegDesc.{RegDesc}
use Rattle.cg_desc.specs.declared.block.MultiDesc.{MultiDesc}
use Rattle.cg_desc.specs.declared.block.Written.{Written}
use Rattle.cg_desc.specs.declared.block.Written.TheVariants as written
use Rattle.cg_desc.specs.declared.block.Item.{Item}
use Rattle.cg_desc.specs.declared.block.Item.TheVariants.{Reg, Window}
use Rattle.cg_desc.specs.Items.{copies_in_word, copies_per_word, copy_bits, copy_fields, entry_items, multireg_word, word_count, word_fields}
use Rattle.cg_finding.specs.Finding.{Among}
use Rattle.cg_expand.specs.Violations.{Named, name_of}
use Rattle.cg_expand.specs.Parts.Copies.{moved}
use Rattle.cg_expand.specs.Parts.Faults.{entry_behind, fields_of, register_behind}
use Rattle.cg_expand.specs.Parts.Labels.{field_label, is_behind}
use Rattle.cg_expand.proofs.Later.{passes}
use Rattle.cg_finding.proofs.Membership.{in_map, map_has}

-- ---- what stands in lists that are made of lists

record FromList {X Y : Type 0} (f : X → List Y) (xs : List X) (y : Y) : Type 0 where
  source : X
  among : Among source xs
  there : Among y (f source)

either : {X : Type 0} (xs ys : List X) (x : X) → Among x (xs ++ ys) → Among x xs ⊎ Among x ys
either [] ys x among = inr among
either (y ∷ xs) ys x (inl is) = inl (inl is)
either (y ∷ xs) ys x (inr among) = elim (either xs ys x among) [ inl here ↦ inl (inr here) | inr there ↦ inr there ]

from_list : {X Y : Type 0} (f : X → List Y) (xs : List X) (y : Y) → Among y (flat_map f xs) → FromList f xs y
from_list f [] y among = absurd among
from_list f (x ∷ xs) y among =
    elim (either (f x) (flat_map f xs) y among) [
      | inl here ↦ record { source = x; among = inl refl; there = here }
      | inr later ↦ let rest = from_list f xs y later in record { source = rest.source; among = inr rest.among; there = rest.there }
    ]

-- ---- items that stand behind a place

-- the item's name, and the names of its fields, stand behind a place
pub record IsBehind (at : At) (item : Item) : Type 0 where
  pub name : (n : Named) → name_of item ≡ Some n → at.byte < n.at.byte
  pub fields : (f : FieldDesc) → Among f (fields_of item) → at.byte < f.at.byte

fields_behind : (at : At) (fs : List FieldDesc) (f : FieldDesc) → list_all (is_behind at) (map field_label fs) ≡ true → Among f fs → at.byte < f.at.byte
fields_behind at fs f all among =
    ltb-true at.byte f.at.byte (passes (is_behind at) (map field_label fs) (field_label f) all (map_has field_label fs f among))

-- an item that is named at this place, with these fields
named_behind : (at : At) (item : Item) (m : Named) → name_of item ≡ Some m → at.byte < m.at.byte → ((f : FieldDesc) → Among f (fields_of item) → at.byte < f.at.byte) → IsBehind at item
named_behind at item m is behind fields = record {
  name = λ n e. let same : m ≡ n = cc in subst (λ (k : Named). at.byte < k.at.byte) same behind;
  fields = fields;
}

register_is_behind : (at : At) (r : RegDesc) → register_behind at r ≡ true → IsBehind at (Reg r)
register_is_behind at r behind =
    let parts = and_parts (nat_lt at.byte r.at.byte) (list_all (is_behind at) (map field_label r.fields)) behind in
    named_behind at (Reg r) (record { name = r.name; at = r.at }) refl (ltb-true at.byte r.at.byte parts.0) (λ f among. fields_behind at r.fields f parts.1 among)

-- a field of a copy stands where the register's does
copy_place : (m : MultiDesc) (number place : ℕ) (at : At) (f : FieldDesc) → ((g : FieldDesc) → Among g m.reg.fields → at.byte < g.at.byte)
    → Among f (copy_fields m number place) → at.byte < f.at.byte
unfolding copy_fields
copy_place m number place at f behind among =
    let one = in_map (moved number (copy_bits m.reg.fields * place)) m.reg.fields f among in
    subst (λ (g : FieldDesc). at.byte < g.at.byte) (sym one.is) (behind one.source one.among)

word_behind : (at : At) (m : MultiDesc) (j : ℕ) → register_behind at m.reg ≡ true → IsBehind at (Reg (multireg_word m j))
unfolding multireg_word word_fields
word_behind at m j behind =
    let reg = register_is_behind at m.reg behind in
    let place : at.byte < m.reg.at.byte = reg.name (record { name = m.reg.name; at = m.reg.at }) refl in
    named_behind at (Reg (multireg_word m j)) (record { name = (multireg_word m j).name; at = m.reg.at }) refl place
    (λ f among. let one = from_list (λ k. copy_fields m (j * copies_per_word m + k) k) (range_with_len 0 (copies_in_word m j)) f among in
    copy_place m (j * copies_per_word m + one.source) one.source at f reg.fields one.there)

-- what an entry stands for stands behind a place where the entry does
entry_is_behind : (at : At) (e : Written) (item : Item) → entry_behind at e ≡ true → Among item (entry_items e) → IsBehind at item
entry_is_behind at (written.Reg r) item behind (inl is) = subst (IsBehind at) (sym is) (register_is_behind at r behind)
entry_is_behind at (written.Reg r) item behind (inr none) = absurd none
entry_is_behind at (written.Multi m) item behind among =
    let one = in_map (λ j. Reg (multireg_word m j)) (range_with_len 0 (word_count m)) item among in
    subst (IsBehind at) (sym one.is) (word_behind at m one.source behind)
entry_is_behind at (written.Window w) item behind (inl is) =
    subst (IsBehind at) (sym is) (named_behind at (Window w) (record { name = w.name; at = w.at }) refl (ltb-true at.byte w.at.byte behind) (λ f none. absurd none))
entry_is_behind at (written.Window w) item behind (inr none) = absurd none
entry_is_behind at (written.SkipTo to place) item behind (inl is) =
    subst (IsBehind at) (sym is) (record { name = λ n e. cc; fields = λ f none. absurd none })
entry_is_behind at (written.SkipTo to place) item behind (inr none) = absurd none
entry_is_behind at (written.Reserved words place) item behind (inl is) =
    subst (IsBehind at) (sym is) (record { name = λ n e. cc; fields = λ f none. absurd none })
entry_is_behind at (written.Reserved words place) item behind (inr none) = absurd none

pub entries_are_behind : (at : At) (es : List Written) (item : Item) → list_all (entry_behind at) es ≡ true → Among item (flat_map entry_items es) → IsBehind at item
entries_are_behind at es item behind among =
    let one = from_list entry_items es item among in
    entry_is_behind at one.source item (passes (entry_behind at) es one.source behind one.among) one.there
