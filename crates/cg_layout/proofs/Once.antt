-- A block is laid out in one way.
use Rattle.std.proofs.Common.{◌≡◌, ℕ, ◌+◌, List, [], ◌∷◌, Option, max, refl, sym, ap, subst, ◌∙◌}
use Rattle.std.specs.Int.{IsNextPowerOfTwo}
use Rattle.cg_desc.specs.declared.block.FaceDesc.{FaceDesc}
use Rattle.cg_desc.specs.declared.block.FaceItems.{FaceItems}
use Rattle.cg_desc.specs.declared.block.Item.{Item}
use Rattle.cg_desc.specs.declared.block.LaidRow.{LaidRow}
use Rattle.cg_desc.specs.declared.block.LaidFace.{LaidFace}
use Rattle.cg_desc.specs.declared.block.LaidBlock.{LaidBlock}
use Rattle.cg_desc.specs.declared.block.BlockDesc.{BlockDesc}
use Rattle.cg_desc.specs.Items.{items_of_block}
use Rattle.cg_desc.specs.Offsets.{HasRows, IsLaidOut}
use Rattle.cg_layout.specs.Lays.{AreLaidOut, IsLaidBlock}
use Rattle.cg_layout.proofs.Ends.{first_once, power_once, span_once}
use Rattle.cg_layout.proofs.Laying.{row_of}

-- the same rows, which end at the same place
abbrev AreSameRows : (rows others : List LaidRow) (end last : ℕ) → Type 0
AreSameRows rows others end last = (rows ≡ others) × (end ≡ last)

-- with one more in front
same_more : (item : Item) {first other end last : ℕ} {rows others : List LaidRow} → first ≡ other → AreSameRows rows others end last
    → AreSameRows (row_of first item ∷ rows) (row_of other item ∷ others) end last
same_more item e same = (rw (e, same.0) refl, same.1)

-- the rows behind an item that ends at the same place
from_there : {span same first other last : ℕ} {items : List Item} {rows : List LaidRow} → span ≡ same → first ≡ other
    → HasRows (other + same) (other + same) items rows last → HasRows (first + span) (first + span) items rows last
from_there spans firsts has = rw (spans, firsts) has

-- items have their rows in one way
rows_once : {low top end last : ℕ} {items : List Item} {rows others : List LaidRow} → HasRows low top items rows end → HasRows low top items others last
    → AreSameRows rows others end last
rows_once HasRows.none HasRows.none = (refl, refl)
rows_once (HasRows.row {item} s p has) (HasRows.row t q also) =
    let spans = span_once s t in
    let firsts = first_once spans p q in
    same_more item firsts (rows_once has (from_there spans firsts also))
rows_once (HasRows.row s p has) (HasRows.skip also) = elim s [ ]
rows_once (HasRows.row s p has) (HasRows.reserved also) = elim s [ ]
rows_once (HasRows.skip has) (HasRows.row s p also) = elim s [ ]
rows_once (HasRows.skip has) (HasRows.skip also) = rows_once has also
rows_once (HasRows.reserved has) (HasRows.row s p also) = elim s [ ]
rows_once (HasRows.reserved has) (HasRows.reserved also) = rows_once has also

-- an interface by its parts
abbrev face_of : Option (List ℕ) → List LaidRow → ℕ → LaidFace
face_of name rows size = record { name = name; rows = rows; size = size }

-- interfaces are one whose parts are
same_face : (l m : LaidFace) → l.name ≡ m.name → l.rows ≡ m.rows → l.size ≡ m.size → l ≡ m
same_face l m named rows size =
    ap (λ name. face_of name l.rows l.size) named ∙ ap (λ all. face_of m.name all l.size) rows ∙ ap (face_of m.name m.rows) size

-- an interface is laid out in one way
face_once : (items : List Item) (l m : LaidFace) → l.name ≡ m.name → IsLaidOut items l → IsLaidOut items m → l ≡ m
face_once items l m named is also =
    let same = rows_once is.rows also.rows in
    same_face l m named same.0
    (power_once (max also.end 4) l.size m.size (subst (λ n. IsNextPowerOfTwo (max n 4) l.size) same.1 is.size) also.size)

-- so are several
faces_once : (faces : List FaceDesc) (items : List FaceItems) (laid others : List LaidFace) → AreLaidOut faces items laid → AreLaidOut faces items others
    → laid ≡ others
faces_once [] [] [] [] is also = refl
faces_once [] [] [] (m ∷ others) is also = absurd also
faces_once [] [] (l ∷ laid) others is also = absurd is
faces_once [] (i ∷ items) laid others is also = absurd is
faces_once (f ∷ faces) [] laid others is also = absurd is
faces_once (f ∷ faces) (i ∷ items) [] others is also = absurd is
faces_once (f ∷ faces) (i ∷ items) (l ∷ laid) [] is also = absurd also
faces_once (f ∷ faces) (i ∷ items) (l ∷ laid) (m ∷ others) is also =
    rw (face_once i.items l m (is.0 ∙ sym also.0) is.1 also.1, faces_once faces items laid others is.2 also.2) refl

-- a block by its parts
abbrev block_of : BlockDesc → List LaidFace → LaidBlock
block_of desc faces = record { desc = desc; faces = faces }

-- a block is laid out in one way
pub laid_once : (b : BlockDesc) (l m : LaidBlock) → IsLaidBlock b l → IsLaidBlock b m → l ≡ m
laid_once b l m is also =
    let described : l.desc ≡ m.desc = is.description ∙ sym also.description in
    let faces : l.faces ≡ m.faces = faces_once b.faces (items_of_block b) l.faces m.faces is.interfaces also.interfaces in
    ap (λ desc. block_of desc l.faces) described ∙ ap (block_of m.desc) faces
