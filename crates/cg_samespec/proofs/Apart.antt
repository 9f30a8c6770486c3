-- Registers whose fields' names are apart: no field has the name of another, and places do not matter.
use Rattle.std.proofs.Common.{ℕ, ◌≡◌, ◌<◌, true, false, List, [], ◌∷◌, map, inl, inr, refl, sym, ap, subst, ◌∙◌, arith}
use Rattle.std.specs.Str.{str_eq_ignore_ascii_case, str_to_ascii_lowercase}
use Rattle.std.specs.Str.{bytes_eq}
use Rattle.cg_svspec.specs.Printable.{AllOf}
use Rattle.cg_svspec.proofs.NamesLemmas.{name_is_itself, same_name}
use Rattle.cg_desc.specs.declared.block.FieldDesc.{FieldDesc}
use Rattle.cg_desc.specs.declared.block.Item.{Item}
use Rattle.cg_desc.specs.declared.block.Item.TheVariants.{Reg, Window, SkipTo, Reserved}
use Rattle.cg_desc.specs.declared.block.FaceItems.{FaceItems}
use Rattle.cg_desc.specs.declared.block.BlockDesc.{BlockDesc}
use Rattle.cg_desc.specs.Items.{items_of_block}
use Rattle.cg_finding.specs.Finding.{Among, Finding}
use Rattle.cg_expand.specs.Violations.{FieldNameTwice}
use Rattle.cg_blkdone.specs.Completed.{AreSame}
use Rattle.cg_blkdone.specs.Places.{field_unplaced}
use Rattle.cg_samespec.specs.Same.{FieldsAreApart, ItemIsApart, NamesApart}
use Rattle.cg_samespec.proofs.Items.{block_items_are, item_unplaced, items_unplaced}
use Rattle.cg_samespec.proofs.Lists.{all_among, all_changed, all_of_changed, among}

-- ---- places do not matter

names_apart_unplaced : (fs : List FieldDesc) → NamesApart fs → NamesApart (map field_unplaced fs)
names_apart_unplaced [] apart = tt
names_apart_unplaced (f ∷ fs) apart =
    (all_changed field_unplaced (λ g. str_eq_ignore_ascii_case f.name g.name ≡ false) (λ g. str_eq_ignore_ascii_case f.name g.name ≡ false) (λ g h. h) fs apart.0, names_apart_unplaced fs apart.1)

names_apart_placed : (fs : List FieldDesc) → NamesApart (map field_unplaced fs) → NamesApart fs
names_apart_placed [] apart = tt
names_apart_placed (f ∷ fs) apart =
    (all_of_changed field_unplaced (λ g. str_eq_ignore_ascii_case f.name g.name ≡ false) (λ g. str_eq_ignore_ascii_case f.name g.name ≡ false) (λ g h. h) fs apart.0, names_apart_placed fs apart.1)

item_apart_unplaced : (item : Item) → ItemIsApart item → ItemIsApart (item_unplaced item)
item_apart_unplaced (Reg r) apart = names_apart_unplaced r.fields apart
item_apart_unplaced (Window w) apart = tt
item_apart_unplaced (SkipTo to at) apart = tt
item_apart_unplaced (Reserved words at) apart = tt

item_apart_placed : (item : Item) → ItemIsApart (item_unplaced item) → ItemIsApart item
item_apart_placed (Reg r) apart = names_apart_placed r.fields apart
item_apart_placed (Window w) apart = tt
item_apart_placed (SkipTo to at) apart = tt
item_apart_placed (Reserved words at) apart = tt

-- the items of an interface are apart
abbrev pub FaceIsApart : FaceItems → Type 0
FaceIsApart face = AllOf ItemIsApart face.items

face_apart_unplaced : (face : FaceItems) → FaceIsApart face → FaceIsApart (items_unplaced face)
face_apart_unplaced face = all_changed item_unplaced ItemIsApart ItemIsApart item_apart_unplaced face.items

face_apart_placed : (face : FaceItems) → FaceIsApart (items_unplaced face) → FaceIsApart face
face_apart_placed face = all_of_changed item_unplaced ItemIsApart ItemIsApart item_apart_placed face.items

-- the same items but for places
pub same_items : (a b : BlockDesc) → AreSame a b → map items_unplaced (items_of_block a) ≡ map items_unplaced (items_of_block b)
same_items a b same = sym (block_items_are a) ∙ ap (λ x. items_of_block x) same ∙ block_items_are b

-- so the fields of a block that is the same are apart too
pub same_is_apart : (a b : BlockDesc) → AreSame a b → FieldsAreApart a → FieldsAreApart b
same_is_apart a b same apart =
    all_of_changed items_unplaced FaceIsApart FaceIsApart face_apart_placed (items_of_block b)
    (subst (AllOf FaceIsApart) (same_items a b same) (all_changed items_unplaced FaceIsApart FaceIsApart face_apart_unplaced (items_of_block a) apart))

-- ---- no field has the name of another

alike_either_way : (m n : List ℕ) → str_eq_ignore_ascii_case m n ≡ true → str_eq_ignore_ascii_case n m ≡ true
alike_either_way m n alike =
    let same : str_to_ascii_lowercase m ≡ str_to_ascii_lowercase n = same_name (str_to_ascii_lowercase m) (str_to_ascii_lowercase n) alike in
    subst (λ x. bytes_eq x (str_to_ascii_lowercase m) ≡ true) same (name_is_itself (str_to_ascii_lowercase m))

none_alike : (f g : FieldDesc) (fs : List FieldDesc) → AllOf (λ h. str_eq_ignore_ascii_case f.name h.name ≡ false) fs → Among g fs → str_eq_ignore_ascii_case f.name g.name ≡ true → ⊥
none_alike f g fs apart has alike = let other : str_eq_ignore_ascii_case f.name g.name ≡ false = all_among (λ h. str_eq_ignore_ascii_case f.name h.name ≡ false) g fs apart has in cc

no_two : (e f : FieldDesc) (fs : List FieldDesc) → NamesApart fs → Among e fs → Among f fs → e.at.byte < f.at.byte → str_eq_ignore_ascii_case e.name f.name ≡ true → ⊥
no_two e f [] apart has_e has_f before alike = absurd has_e
no_two e f (x ∷ xs) apart (inl is_e) (inl is_f) before alike =
    let same : e.at.byte ≡ f.at.byte = ap (λ (g : FieldDesc). g.at.byte) (is_e ∙ sym is_f) in absurd (omega arith)
no_two e f (x ∷ xs) apart (inl is_e) (inr has_f) before alike =
    none_alike x f xs apart.0 has_f (subst (λ (g : FieldDesc). str_eq_ignore_ascii_case g.name f.name ≡ true) is_e alike)
no_two e f (x ∷ xs) apart (inr has_e) (inl is_f) before alike =
    none_alike x e xs apart.0 has_e (alike_either_way e.name x.name (subst (λ (g : FieldDesc). str_eq_ignore_ascii_case e.name g.name ≡ true) is_f alike))
no_two e f (x ∷ xs) apart (inr has_e) (inr has_f) before alike = no_two e f xs apart.1 has_e has_f before alike

-- in an interface whose fields are apart no field's name comes twice
pub no_field_twice : (face : FaceItems) (f : Finding) → FaceIsApart face → FieldNameTwice face.items f → ⊥
no_field_twice face f apart twice =
    let fields = twice.register.fields in
    let here : ItemIsApart (Reg twice.register) = all_among ItemIsApart (Reg twice.register) face.items apart (among face.items (Reg twice.register) twice.among) in
    no_two twice.earlier twice.field fields here (among fields twice.earlier twice.is_earlier) (among fields twice.field twice.is_field) twice.before twice.alike

-- each field of the item stands at the start of its file
abbrev AtStart : Item → Type 0
AtStart (Reg r) = AllOf (λ f. f.at.byte ≡ 0) r.fields
AtStart item = Unit {0}

fields_at_start : (fs : List FieldDesc) → AllOf (λ f. f.at.byte ≡ 0) (map field_unplaced fs)
fields_at_start [] = tt
fields_at_start (f ∷ fs) = (refl, fields_at_start fs)

item_at_start : (item : Item) → AtStart (item_unplaced item)
item_at_start (Reg r) = fields_at_start r.fields
item_at_start (Window w) = tt
item_at_start (SkipTo to at) = tt
item_at_start (Reserved words at) = tt

items_at_start : (items : List Item) → AllOf AtStart (map item_unplaced items)
items_at_start [] = tt
items_at_start (item ∷ items) = (item_at_start item, items_at_start items)

-- and where there are no places none does
pub no_field_twice_unplaced : (face : FaceItems) (f : Finding) → FieldNameTwice (items_unplaced face).items f → ⊥
no_field_twice_unplaced face f twice =
    let items : List Item = map item_unplaced face.items in
    let here : AtStart (Reg twice.register) = all_among AtStart (Reg twice.register) items (items_at_start face.items) (among items (Reg twice.register) twice.among) in
    let first : twice.field.at.byte ≡ 0 = all_among (λ g. g.at.byte ≡ 0) twice.field twice.register.fields here (among twice.register.fields twice.field twice.is_field) in
    let before = twice.before in
    absurd (omega arith)
