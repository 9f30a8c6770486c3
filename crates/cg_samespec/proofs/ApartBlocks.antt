-- In a block that was read from a text, and breaks no rule, no two fields of a register have one name.
use Rattle.std.proofs.Common.{◌≡◌, ℕ, ◌&&◌, Bool, true, false, List, [], ◌∷◌, ◌++◌, map, Option, Some, None, cond, codes, inl, inr, refl, ap, subst}
use Rattle.std.specs.List.{Contains, flat_map, range_with_len}
use Rattle.std.specs.Option.{option_map_or}
use Rattle.cg_svspec.specs.Printable.{AllOf}
use Rattle.cg_desc.specs.Items.{alert_registers, automatic_items, entry_items, has_some, interrupt_registers, items_of_block, items_of_faces, multireg_word, word_count}
use Rattle.cg_desc.specs.Valid.{IsValidBlock, IsValidEntry, IsValidInterface}
use Rattle.cg_desc.specs.declared.block.BlockDesc.{BlockDesc}
use Rattle.cg_desc.specs.declared.block.FaceDesc.{FaceDesc}
use Rattle.cg_desc.specs.declared.block.FaceItems.{FaceItems}
use Rattle.cg_desc.specs.declared.block.Item.{Item}
use Rattle.cg_desc.specs.declared.block.Item.TheVariants.{Reg}
use Rattle.cg_desc.specs.declared.block.Written.{Written}
use Rattle.cg_desc.specs.declared.block.Written.TheVariants as written
use Rattle.cg_finding.specs.Finding.{Among, Finding, In, first_of, of_least_phase}
use Rattle.cg_hjson.specs.Views.{tree_of}
use Rattle.cg_hjson.specs.declared.tree.Member.{Member}
use Rattle.cg_hjson.specs.declared.tree.Tree.{Tree}
use Rattle.cg_keys.specs.Elements.{elements}
use Rattle.cg_keys.specs.Table.{value_at}
use Rattle.cg_keys.specs.Values.{items_of, members_of, object_in, or_empty}
use Rattle.cg_blkread.specs.Described.{block_of, entries_in, entry_list_of, face_desc, list_in, list_of_value, written_entry}
use Rattle.cg_blkread.specs.Interfaces.{devices, interface_name}
use Rattle.cg_blkread.specs.Keys.{key_faults}
use Rattle.cg_blkread.specs.Raw.{Parameter, number_or_zero, parameters, raw_entry, raw_multireg, raw_register, raw_window}
use Rattle.cg_blkread.specs.Reads.{value_faults}
use Rattle.cg_blkread.specs.Reads.{Violates as BreaksKeysOrValues}
use Rattle.cg_blkread.proofs.Facts.Listed.{nothing_listed}
use Rattle.cg_blkread.specs.declared.raw.RawEntry.TheVariants as entry
use Rattle.cg_blkread.proofs.Sound.Block.{valid_block}
use Rattle.cg_expand.specs.Violations.{Violates as BreaksNamesOrCounts, field_name_twice}
use Rattle.cg_finding.proofs.Membership.{contains_of}
use Rattle.cg_samespec.specs.Laws.{ReadFieldsAreApart}
use Rattle.cg_samespec.specs.Same.{ItemIsApart}
use Rattle.cg_samespec.proofs.ApartTrees.{Stands, document_stands}
use Rattle.cg_samespec.proofs.ApartParts.{IfThere, InRow, TreeIn, elements_row, items_row, value_there}
use Rattle.cg_samespec.proofs.ApartFields.{PlacesApart, alerts_apart, interrupts_apart, register_apart}
use Rattle.cg_samespec.proofs.ApartNames.{IsPlaced, items_differ}
use Rattle.cg_samespec.proofs.ApartCopies.{word_placed}

-- ---- lists

both : (xs ys : List Item) → AllOf IsPlaced xs → AllOf IsPlaced ys → AllOf IsPlaced (xs ++ ys)
both [] ys here there = there
both (x ∷ xs) ys here there = (here.0, both xs ys here.1 there)

if_so : (b : Bool) (xs : List Item) → AllOf IsPlaced xs → AllOf IsPlaced (cond b xs [])
if_so true xs all = all
if_so false xs all = tt

mapped : {X : Type 0} (f : X → Item) (xs : List X) → ((x : X) → IsPlaced (f x)) → AllOf IsPlaced (map f xs)
mapped f [] all = tt
mapped f (x ∷ xs) all = (all x, mapped f xs all)

-- ---- entries

-- the fields of an entry's register stand at places of their own
abbrev EntryApart : Written → Type 0
EntryApart (written.Reg r) = PlacesApart r.fields
EntryApart (written.Multi m) = PlacesApart m.reg.fields
EntryApart (written.Window w) = Unit {0}
EntryApart (written.SkipTo to at) = Unit {0}
EntryApart (written.Reserved words at) = Unit {0}

entry_placed : (e : Written) → IsValidEntry e → EntryApart e → AllOf IsPlaced (entry_items e)
entry_placed (written.Reg r) valid apart = (inl apart, tt)
entry_placed (written.Multi m) valid apart = mapped (λ j. Reg (multireg_word m j)) (range_with_len 0 (word_count m)) (λ j. word_placed m j valid apart)
entry_placed (written.Window w) valid apart = (tt, tt)
entry_placed (written.SkipTo to at) valid apart = (tt, tt)
entry_placed (written.Reserved words at) valid apart = (tt, tt)

entries_placed : (es : List Written) → AllOf IsValidEntry es → AllOf EntryApart es → AllOf IsPlaced (flat_map entry_items es)
entries_placed [] valid apart = tt
entries_placed (e ∷ es) valid apart = both (entry_items e) (flat_map entry_items es) (entry_placed e valid.0 apart.0) (entries_placed es valid.1 apart.1)

-- ---- entries that were read

entry_by : (ps : List Parameter) (t : Tree) (low high : ℕ) (m w s r : Option Tree) → IfThere low high m → TreeIn low high t
    → EntryApart (written_entry (option_map_or (λ m. entry.Multireg (raw_multireg ps m)) m
    (option_map_or (λ w. entry.Window (raw_window ps w)) w
    (option_map_or (λ s. entry.SkipTo (number_or_zero s) s.at) s
    (option_map_or (λ r. entry.Reserved (number_or_zero r) r.at) r
    (entry.Register (raw_register t)))))))
unfolding written_entry raw_multireg
entry_by ps t low high (Some m) w s r there here = register_apart m low high there
entry_by ps t low high None (Some w) s r there here = tt
entry_by ps t low high None None (Some s) r there here = tt
entry_by ps t low high None None None (Some r) there here = tt
entry_by ps t low high None None None None there here = register_apart t low high here

entry_apart : (ps : List Parameter) (t : Tree) (low high : ℕ) → TreeIn low high t → EntryApart (written_entry (raw_entry ps t))
unfolding raw_entry
entry_apart ps t low high h =
    entry_by ps t low high (value_at (codes "multireg") (members_of t)) (value_at (codes "window") (members_of t))
    (value_at (codes "skipto") (members_of t)) (value_at (codes "reserved") (members_of t)) (value_there (codes "multireg") t low high h) h

row_apart : (ps : List Parameter) (ts : List Tree) (low high : ℕ) → InRow low high ts → AllOf EntryApart (map (λ e. written_entry (raw_entry ps e)) ts)
row_apart ps [] low high h = tt
row_apart ps (t ∷ ts) low high h = (entry_apart ps t low h.0 h.1, row_apart ps ts h.0 high h.2)

list_apart : (ps : List Parameter) (o : Option Tree) (low high : ℕ) → IfThere low high o → AllOf EntryApart (entries_in ps o)
list_apart ps None low high h = tt
list_apart ps (Some t) low high h = row_apart ps (items_of t) low high (items_row t low high h)

-- the list of an interface's entries stands in the block
named_list : (t : Tree) (name : Option (List ℕ)) (o : Option (List Member)) (low high : ℕ) → object_in t ≡ o → TreeIn low high t
    → IfThere low high (list_in t name o)
named_list t name None low high is h = h
named_list t None (Some ms) low high is h = tt
named_list t (Some name) (Some ms) low high is h = subst (λ ns. IfThere low high (value_at name ns)) (ap or_empty is) (value_there name t low high h)

list_there : (o : Option Tree) (name : Option (List ℕ)) (low high : ℕ) → IfThere low high o → IfThere low high (list_of_value o name)
list_there None name low high h = tt
list_there (Some t) name low high h = named_list t name (object_in t) low high refl h

face_apart : (t d : Tree) (low high : ℕ) → TreeIn low high t → AllOf EntryApart (face_desc (members_of t) d).entries
unfolding face_desc entry_list_of
face_apart t d low high h =
    let ms : List Member = members_of t in
    list_apart (parameters ms) (entry_list_of ms d) low high
    (list_there (value_at (codes "registers") ms) (interface_name d) low high (value_there (codes "registers") t low high h))

-- ---- interfaces

-- what an interface's own entries stand for
abbrev OwnPlaced : FaceDesc → Type 0
OwnPlaced d = AllOf IsPlaced (flat_map entry_items d.entries)

own_placed : (t : Tree) (ds : List Tree) (low high : ℕ) → TreeIn low high t → AllOf IsValidInterface (map (face_desc (members_of t)) ds)
    → AllOf OwnPlaced (map (face_desc (members_of t)) ds)
own_placed t [] low high h valid = tt
own_placed t (d ∷ ds) low high h valid =
    (entries_placed (face_desc (members_of t) d).entries valid.0.entries (face_apart t d low high h), own_placed t ds low high h valid.1)

faces_placed : (front : List Item) (ds : List FaceDesc) → AllOf IsPlaced front → AllOf OwnPlaced ds
    → AllOf (λ (face : FaceItems). AllOf IsPlaced face.items) (items_of_faces front ds)
unfolding items_of_faces
faces_placed front [] first own = tt
faces_placed front (d ∷ ds) first own = (both front (flat_map entry_items d.entries) first own.0, faces_placed [] ds tt own.1)

-- ---- registers that come of themselves

automatic_placed : (file : ℕ) (t : Tree) (low high : ℕ) → TreeIn low high t → AllOf IsPlaced (automatic_items (block_of file t))
unfolding block_of interrupt_registers alert_registers
automatic_placed file t low high h =
    let b : BlockDesc = block_of file t in
    let is : List Tree = elements (codes "interrupt_list") (members_of t) in
    let as' : List Tree = elements (codes "alert_list") (members_of t) in
    let row : InRow low high is = elements_row (codes "interrupt_list") t low high h in
    both (cond (b.auto_intr && has_some b.intrs) (interrupt_registers b) []) (cond (b.auto_alert && has_some b.alerts) (alert_registers b) [])
    (if_so (b.auto_intr && has_some b.intrs) (interrupt_registers b)
    (inl (interrupts_apart _ _ is low high row), (inl (interrupts_apart _ _ is low high row), (inl (interrupts_apart _ _ is low high row), tt))))
    (if_so (b.auto_alert && has_some b.alerts) (alert_registers b) (inl (alerts_apart as' low high (elements_row (codes "alert_list") t low high h)), tt))

-- ---- blocks

block_placed : (file : ℕ) (t : Tree) → Stands (tree_of t) → IsValidBlock (block_of file t)
    → AllOf (λ (face : FaceItems). AllOf IsPlaced face.items) (items_of_block (block_of file t))
unfolding block_of
block_placed file t stands valid =
    faces_placed (automatic_items (block_of file t)) (block_of file t).faces (automatic_placed file t stands.low stands.high stands.within)
    (own_placed t (devices (members_of t)) stands.low stands.high stands.within valid.interfaces)

some_faces_differ : (b : BlockDesc) (faces : List FaceItems) → ((face : FaceItems) → Among face faces → Among face (items_of_block b))
    → ((f : Finding) → ¬ BreaksNamesOrCounts b f) → AllOf (λ (face : FaceItems). AllOf IsPlaced face.items) faces
    → AllOf (λ (face : FaceItems). AllOf ItemIsApart face.items) faces
some_faces_differ b [] there none placed = tt
some_faces_differ b (face ∷ faces) there none placed =
    let here : Contains (items_of_block b) face = contains_of (items_of_block b) face (there face (inl refl)) in (
      items_differ face.items (λ f twice. none f (field_name_twice face here twice)) placed.0,
      some_faces_differ b faces (λ g among. there g (inr among)) none placed.1,
    )

-- ---- a block that breaks no rule on keys and values

sound_is_valid : (file : ℕ) (t : Tree) → ((f : Finding) → ¬ BreaksKeysOrValues t f) → IsValidBlock (block_of file t)
unfolding first_of
sound_is_valid file t none =
    let empty = nothing_listed t none in
    valid_block file t (ap first_of empty.0) (ap first_of empty.1)

-- no two fields of a register have one name
pub fields_are_apart : ReadFieldsAreApart
fields_are_apart text t file is_document sound none =
    let b : BlockDesc = block_of file t in
    some_faces_differ b (items_of_block b) (λ face among. among) none (block_placed file t (document_stands is_document) (sound_is_valid file t sound))
