-- What a block breaks, as lists of findings.
use Rattle.std.specs.Prelude.{ℕ, nat_lt, Bool, true, false, ◌&&◌, cond, List, [], ◌∷◌, ◌++◌, map, length}
use Rattle.std.specs.List.{flat_map, list_all}
use Rattle.cg_desc.specs.declared.place.At.{At}
use Rattle.cg_desc.specs.declared.block.FieldDesc.{FieldDesc}
use Rattle.cg_desc.specs.declared.block.RegDesc.{RegDesc}
use Rattle.cg_desc.specs.declared.block.Written.{Written}
use Rattle.cg_desc.specs.declared.block.Written.TheVariants as written
use Rattle.cg_desc.specs.declared.block.Item.{Item}
use Rattle.cg_desc.specs.declared.block.Item.TheVariants.{Reg, Window, SkipTo, Reserved}
use Rattle.cg_desc.specs.declared.block.FaceItems.{FaceItems}
use Rattle.cg_desc.specs.declared.block.BlockDesc.{BlockDesc}
use Rattle.cg_desc.specs.Items.{has_some, items_of_block, items_of_faces}
use Rattle.cg_finding.specs.Finding.{Finding}
use Rattle.cg_finding.specs.Rules as rules
use Rattle.cg_expand.specs.Violations.{Named, interrupt_bits}
use Rattle.cg_expand.specs.Parts.Automatic.{automatic_with, has_room}
use Rattle.cg_expand.specs.Parts.Labels.{alert_label, field_label, interrupt_label, is_behind, labels_twice}
use Rattle.cg_expand.specs.Parts.Names.{names_twice}
use Rattle.cg_expand.specs.Parts.Sizes.{is_too_large}

-- ---- what automatic registers and counts break

-- a list with too many bits
unfoldable pub bits_faults : Bool → At → List Finding
bits_faults many at = cond many (rules.too_many_interrupt_bits at ∷ []) []

-- the same, and the names of what stands in it where its register is there
unfoldable pub list_faults : Bool → At → Bool → List Named → List Finding
list_faults many at present labels = cond present (bits_faults many at ++ labels_twice labels) (bits_faults many at)

unfoldable pub interrupt_faults : BlockDesc → List Finding
interrupt_faults b = list_faults (nat_lt 32 (interrupt_bits b)) b.intrs_at (has_some b.faces && b.auto_intr) (map interrupt_label b.intrs)

unfoldable pub alert_faults : BlockDesc → List Finding
alert_faults b = list_faults (nat_lt 32 (length b.alerts)) b.alerts_at (has_some b.faces && b.auto_alert) (map alert_label b.alerts)

-- too many rows or fields
unfoldable pub size_faults : BlockDesc → List Finding
size_faults b = cond (is_too_large (items_of_block b)) (rules.too_many b.at ∷ []) []

-- what is found without making an item
unfoldable pub early_faults : BlockDesc → List Finding
early_faults b = interrupt_faults b ++ (alert_faults b ++ size_faults b)

-- ---- what items break

-- the fields of an item
abbrev pub fields_of : Item → List FieldDesc
fields_of (Reg r) = r.fields
fields_of (Window w) = []
fields_of (SkipTo to at) = []
fields_of (Reserved words at) = []

-- what their names break
abbrev pub fields_twice : Item → List Finding
fields_twice item = labels_twice (map field_label (fields_of item))

-- no name is known
abbrev pub none_known : List ℕ → Bool
none_known name = false

abbrev pub face_faults : FaceItems → List Finding
face_faults face = names_twice none_known face.items ++ flat_map fields_twice face.items

-- what the items of a block break, where automatic registers have fields if there is room for them
abbrev pub late_faults : BlockDesc → List Finding
late_faults b = flat_map face_faults (items_of_faces (automatic_with (has_room b) b) b.faces)

-- ---- places

-- the register, and each of its fields, stands behind a place
abbrev pub register_behind : At → RegDesc → Bool
register_behind at r = nat_lt at.byte r.at.byte && list_all (is_behind at) (map field_label r.fields)

abbrev pub entry_behind : At → Written → Bool
entry_behind at (written.Reg r) = register_behind at r
entry_behind at (written.Multi m) = register_behind at m.reg
entry_behind at (written.Window w) = nat_lt at.byte w.at.byte
entry_behind at (written.SkipTo to at') = true
entry_behind at (written.Reserved words at') = true

-- all names of entries stand behind the place of the registers
unfoldable pub all_behind : BlockDesc → Bool
all_behind b = list_all (λ f. list_all (entry_behind b.at) f.entries) b.faces
