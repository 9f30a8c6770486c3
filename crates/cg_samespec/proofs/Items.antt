-- The items of a block but for places are those of the block but for places.
use Rattle.std.proofs.Common.{ℕ, ◌≡◌, ◌+◌, ◌-◌, ◌*◌, ◌/◌, nat_lt, Bool, true, false, ◌&&◌, cond, List, [], ◌∷◌, ◌++◌, map, None, refl, sym, ap, ◌∙◌}
use Rattle.std.specs.Prelude.{codes, min}
use Rattle.std.specs.List.{flat_map, range_with_len}
use Rattle.std.proofs.lemmas.List.{map-append}
use Rattle.cg_desc.specs.declared.block.SwAccess.{SwAccess}
use Rattle.cg_desc.specs.declared.block.SwAccess.TheVariants.{Rw, Wo}
use Rattle.cg_desc.specs.declared.block.HwAccess.{HwAccess}
use Rattle.cg_desc.specs.declared.block.HwAccess.TheVariants.{Hro, Hrw}
use Rattle.cg_desc.specs.declared.block.FieldDesc.{FieldDesc}
use Rattle.cg_desc.specs.declared.block.RegDesc.{RegDesc}
use Rattle.cg_desc.specs.declared.block.MultiDesc.{MultiDesc}
use Rattle.cg_desc.specs.declared.block.Written.{Written}
use Rattle.cg_desc.specs.declared.block.Written.TheVariants as written
use Rattle.cg_desc.specs.declared.block.Item.{Item}
use Rattle.cg_desc.specs.declared.block.Item.TheVariants.{Reg, Window, SkipTo, Reserved}
use Rattle.cg_desc.specs.declared.block.IntrDesc.{IntrDesc}
use Rattle.cg_desc.specs.declared.block.AlertDesc.{AlertDesc}
use Rattle.cg_desc.specs.declared.block.FaceDesc.{FaceDesc}
use Rattle.cg_desc.specs.declared.block.FaceItems.{FaceItems}
use Rattle.cg_desc.specs.declared.block.BlockDesc.{BlockDesc}
use Rattle.cg_desc.specs.Items.{alert_fields, alert_registers, automatic_field, automatic_items, copies_in_word, copies_per_word, copy_bits, copy_fields, copy_gate, entry_items, has_some, interrupt_fields, interrupt_registers, items_of_block, items_of_faces, multireg_word, numbered, state_access, word_count, word_fields}
use Rattle.cg_blkdone.specs.Places.{alert_unplaced, block_unplaced, entry_unplaced, face_unplaced, field_unplaced, interrupt_unplaced, multireg_unplaced, register_unplaced, start, window_unplaced}
use Rattle.cg_samespec.proofs.Lists.{flat_map_changes, map_map}

-- an item but for its places
abbrev pub item_unplaced : Item → Item
item_unplaced (Reg r) = Reg (register_unplaced r)
item_unplaced (Window w) = Window (window_unplaced w)
item_unplaced (SkipTo to at) = SkipTo to start
item_unplaced (Reserved words at) = Reserved words start

-- the items of an interface but for their places
abbrev pub items_unplaced : FaceItems → FaceItems
items_unplaced face = record { items = map item_unplaced face.items }

-- the register with these fields
abbrev pub with_fields : RegDesc → List FieldDesc → RegDesc
with_fields r fs = record { name = r.name; fields = fs; regwen = r.regwen; regwen_at = r.regwen_at; hwext = r.hwext; hwqe = r.hwqe; hwre = r.hwre; shadowed = r.shadowed; at = r.at }

-- ---- registers that come of themselves

interrupt_fields_are : (sw : IntrDesc → SwAccess) (hw : HwAccess) (lsb : ℕ) (is : List IntrDesc) → ((i : IntrDesc) → sw (interrupt_unplaced i) ≡ sw i)
    → interrupt_fields sw hw lsb (map interrupt_unplaced is) ≡ map field_unplaced (interrupt_fields sw hw lsb is)
unfolding interrupt_fields
interrupt_fields_are sw hw lsb [] blind = refl
interrupt_fields_are sw hw lsb (i ∷ is) blind = λ k. automatic_field i.name lsb i.width (blind i k) hw start ∷ interrupt_fields_are sw hw (lsb + i.width) is blind k

alert_fields_are : (lsb : ℕ) (as' : List AlertDesc) → alert_fields lsb (map alert_unplaced as') ≡ map field_unplaced (alert_fields lsb as')
unfolding alert_fields
alert_fields_are lsb [] = refl
alert_fields_are lsb (a ∷ as') = ap (λ fs. automatic_field a.name lsb 1 Wo Hro start ∷ fs) (alert_fields_are (lsb + 1) as')

-- a register of these fields and no places
abbrev sole : List ℕ → Bool → List FieldDesc → Item
sole name hwext fields = Reg (record { name = name; fields = fields; regwen = None; regwen_at = start; hwext = hwext; hwqe = false; hwre = false; shadowed = false; at = start })

interrupt_registers_are : (b : BlockDesc) → interrupt_registers (block_unplaced b) ≡ map item_unplaced (interrupt_registers b)
unfolding interrupt_registers block_unplaced
interrupt_registers_are b =
    let state = interrupt_fields_are state_access Hrw 0 b.intrs (λ i. refl) in
    let enable = interrupt_fields_are (λ i. Rw) Hro 0 b.intrs (λ i. refl) in
    let test = interrupt_fields_are (λ i. Wo) Hro 0 b.intrs (λ i. refl) in
    λ k. sole (codes "INTR_STATE") false (state k) ∷ sole (codes "INTR_ENABLE") false (enable k) ∷ sole (codes "INTR_TEST") true (test k) ∷ []

alert_registers_are : (b : BlockDesc) → alert_registers (block_unplaced b) ≡ map item_unplaced (alert_registers b)
unfolding alert_registers block_unplaced
alert_registers_are b = λ k. sole (codes "ALERT_TEST") true (alert_fields_are 0 b.alerts k) ∷ []

has_some_changed : {X : Type 0} (u : X → X) (xs : List X) → has_some (map u xs) ≡ has_some xs
has_some_changed u [] = refl
has_some_changed u (x ∷ xs) = refl

-- two lists that are changed, each of which may be left out
over_two : (p q : Bool) (xs ys : List Item) → cond p (map item_unplaced xs) [] ++ cond q (map item_unplaced ys) [] ≡ map item_unplaced (cond p xs [] ++ cond q ys [])
over_two true true xs ys = sym (map-append item_unplaced xs ys)
over_two true false xs ys = sym (map-append item_unplaced xs [])
over_two false true xs ys = refl
over_two false false xs ys = refl

automatic_are : (b : BlockDesc) → automatic_items (block_unplaced b) ≡ map item_unplaced (automatic_items b)
unfolding block_unplaced
automatic_are b =
    (λ k. cond (b.auto_intr && has_some_changed interrupt_unplaced b.intrs k) (interrupt_registers_are b k) []
    ++ cond (b.auto_alert && has_some_changed alert_unplaced b.alerts k) (alert_registers_are b k) [])
    ∙ over_two (b.auto_intr && has_some b.intrs) (b.auto_alert && has_some b.alerts) (interrupt_registers b) (alert_registers b)

-- ---- copies of a register

copy_bits_are : (fs : List FieldDesc) → copy_bits (map field_unplaced fs) ≡ copy_bits fs
copy_bits_are [] = refl
copy_bits_are (f ∷ fs) = refl

per_word_are : (m : MultiDesc) → copies_per_word (multireg_unplaced m) ≡ copies_per_word m
unfolding copies_per_word
per_word_are m = λ k. cond m.compact (32 / copy_bits_are m.reg.fields k) 1

word_count_are : (m : MultiDesc) → word_count (multireg_unplaced m) ≡ word_count m
unfolding word_count
word_count_are m = λ k. (m.count + (per_word_are m k - 1)) / per_word_are m k

in_word_are : (m : MultiDesc) (j : ℕ) → copies_in_word (multireg_unplaced m) j ≡ copies_in_word m j
unfolding copies_in_word
in_word_are m j = λ k. min (per_word_are m k) (m.count - j * per_word_are m k)

-- a field of copy `number`, so many bits higher
abbrev copied : ℕ → ℕ → FieldDesc → FieldDesc
copied number shift f =
    record { name = numbered f.name number; msb = f.msb + shift; lsb = f.lsb + shift; sw = f.sw; hw = f.hw; resval = f.resval; mubi = f.mubi; at = f.at }

copied_are : (number shift : ℕ) (fs : List FieldDesc) → map (copied number shift) (map field_unplaced fs) ≡ map field_unplaced (map (copied number shift) fs)
copied_are number shift [] = refl
copied_are number shift (f ∷ fs) = ap (λ gs. field_unplaced (copied number shift f) ∷ gs) (copied_are number shift fs)

copy_fields_are : (m : MultiDesc) (number place : ℕ) → copy_fields (multireg_unplaced m) number place ≡ map field_unplaced (copy_fields m number place)
unfolding copy_fields
copy_fields_are m number place =
    (λ k. map (copied number (copy_bits_are m.reg.fields k * place)) (map field_unplaced m.reg.fields)) ∙ copied_are number (copy_bits m.reg.fields * place) m.reg.fields

word_fields_are : (m : MultiDesc) (j : ℕ) → word_fields (multireg_unplaced m) j ≡ map field_unplaced (word_fields m j)
unfolding word_fields
word_fields_are m j =
    (λ k. flat_map (λ place. copy_fields (multireg_unplaced m) (j * per_word_are m k + place) place) (range_with_len 0 (in_word_are m j k)))
    ∙ flat_map_changes field_unplaced (λ place. copy_fields m (j * copies_per_word m + place) place) (λ place. copy_fields (multireg_unplaced m) (j * copies_per_word m + place) place)
    (λ place. copy_fields_are m (j * copies_per_word m + place) place) (range_with_len 0 (copies_in_word m j))

multireg_word_is : (m : MultiDesc) (j : ℕ) → multireg_word (multireg_unplaced m) j ≡ register_unplaced (multireg_word m j)
unfolding multireg_word copy_gate
multireg_word_is m j = λ k. record {
  name = cond (nat_lt 1 (word_count_are m k)) (numbered m.reg.name j) m.reg.name;
  fields = word_fields_are m j k;
  regwen = copy_gate m j;
  regwen_at = start;
  hwext = m.reg.hwext;
  hwqe = m.reg.hwqe;
  hwre = m.reg.hwre;
  shadowed = m.reg.shadowed;
  at = start;
}

-- ---- entries and interfaces

entry_items_are : (e : Written) → entry_items (entry_unplaced e) ≡ map item_unplaced (entry_items e)
entry_items_are (written.Reg r) = refl
entry_items_are (written.Multi m) =
    (λ k. map (λ j. Reg (multireg_word_is m j k)) (range_with_len 0 (word_count_are m k))) ∙ sym (map_map item_unplaced (λ j. Reg (multireg_word m j)) (range_with_len 0 (word_count m)))
entry_items_are (written.Window w) = refl
entry_items_are (written.SkipTo to at) = refl
entry_items_are (written.Reserved words at) = refl

entries_items_are : (es : List Written) → flat_map entry_items (map entry_unplaced es) ≡ map item_unplaced (flat_map entry_items es)
entries_items_are [] = refl
entries_items_are (e ∷ es) = (λ k. entry_items_are e k ++ entries_items_are es k) ∙ sym (map-append item_unplaced (entry_items e) (flat_map entry_items es))

faces_items_are : (front : List Item) (fs : List FaceDesc) → items_of_faces (map item_unplaced front) (map face_unplaced fs) ≡ map items_unplaced (items_of_faces front fs)
unfolding items_of_faces
faces_items_are front [] = refl
faces_items_are front (f ∷ fs) =
    let here = (λ k. map item_unplaced front ++ entries_items_are f.entries k) ∙ sym (map-append item_unplaced front (flat_map entry_items f.entries)) in
    λ k. record { items = here k } ∷ faces_items_are [] fs k

-- the items of a block but for places
pub block_items_are : (b : BlockDesc) → items_of_block (block_unplaced b) ≡ map items_unplaced (items_of_block b)
unfolding block_unplaced
block_items_are b = (λ k. items_of_faces (automatic_are b k) (map face_unplaced b.faces)) ∙ faces_items_are (automatic_items b) b.faces
