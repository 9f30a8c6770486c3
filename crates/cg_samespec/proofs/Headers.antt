-- Headers do not look at places.
use Rattle.std.proofs.Common.{ℕ, ◌≡◌, ◌+◌, ◌*◌, ◌^◌, List, [], ◌∷◌, map, refl, ap}
use Rattle.cg_desc.specs.declared.block.FieldDesc.{FieldDesc}
use Rattle.cg_desc.specs.declared.block.RegDesc.{RegDesc}
use Rattle.cg_desc.specs.declared.block.Item.{Item}
use Rattle.cg_desc.specs.declared.block.Item.TheVariants.{Reg, Window, SkipTo, Reserved}
use Rattle.cg_desc.specs.declared.block.LaidFace.{LaidFace}
use Rattle.cg_hdrspec.specs.BlockHeader.{face_definitions, field_definitions, field_name, in_hexadecimal, item_definitions, mask, offset_of, prefix_of, register_definitions, reset_of, reset_word, row_definitions, row_name, window_definitions}
use Rattle.cg_blkdone.specs.Places.{field_unplaced, register_unplaced}
use Rattle.cg_samespec.proofs.Items.{item_unplaced}
use Rattle.cg_samespec.proofs.Lists.{flat_map_blind}
use Rattle.cg_samespec.proofs.Offsets.{laid_unplaced, row_unplaced}

reset_word_is : (fs : List FieldDesc) → reset_word (map field_unplaced fs) ≡ reset_word fs
unfolding reset_word
reset_word_is [] = refl
reset_word_is (f ∷ fs) = ap (λ word. f.resval * 2 ^ f.lsb + word) (reset_word_is fs)

field_is : (register : List ℕ) (f : FieldDesc) → field_definitions register (field_unplaced f) ≡ field_definitions register f
unfolding field_definitions field_name mask
field_is register f = refl

register_is : (prefix : List ℕ) (first : ℕ) (r : RegDesc) → register_definitions prefix first (register_unplaced r) ≡ register_definitions prefix first r
unfolding register_definitions
register_is prefix first r =
    let fields = flat_map_blind field_unplaced (field_definitions (row_name prefix r.name)) (field_is (row_name prefix r.name)) r.fields in
    λ k. in_hexadecimal (offset_of (row_name prefix r.name)) first ∷ in_hexadecimal (reset_of (row_name prefix r.name)) (reset_word_is r.fields k) ∷ fields k

item_is : (prefix : List ℕ) (first : ℕ) (item : Item) → item_definitions prefix first (item_unplaced item) ≡ item_definitions prefix first item
unfolding item_definitions window_definitions
item_is prefix first (Reg r) = register_is prefix first r
item_is prefix first (Window w) = refl
item_is prefix first (SkipTo to at) = refl
item_is prefix first (Reserved words at) = refl

-- the definitions of an interface but for places are those of the interface
pub face_definitions_are : (block : List ℕ) (face : LaidFace) → face_definitions block (laid_unplaced face) ≡ face_definitions block face
unfolding face_definitions
face_definitions_are block face =
    flat_map_blind row_unplaced (row_definitions (prefix_of block face.name)) (λ row. item_is (prefix_of block face.name) row.first row.item) face.rows
