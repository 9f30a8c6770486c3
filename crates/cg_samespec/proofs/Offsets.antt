-- Offsets do not look at places.
use Rattle.std.proofs.Common.{ℕ, ◌≡◌, ◌+◌, List, [], ◌∷◌, map, refl, ap, ◌∙◌}
use Rattle.cg_desc.specs.declared.block.Item.{Item}
use Rattle.cg_desc.specs.declared.block.Item.TheVariants.{Reg, Window, SkipTo, Reserved}
use Rattle.cg_desc.specs.declared.block.FaceDesc.{FaceDesc}
use Rattle.cg_desc.specs.declared.block.FaceItems.{FaceItems}
use Rattle.cg_desc.specs.declared.block.LaidRow.{LaidRow}
use Rattle.cg_desc.specs.declared.block.LaidFace.{LaidFace}
use Rattle.cg_desc.specs.Offsets.{Ends, HasRows, IsLaidOut, IsSpan}
use Rattle.cg_finding.specs.Finding.{Finding}
use Rattle.cg_layout.specs.Violations.{BreaksOffsets, IsSkipBack}
use Rattle.cg_layout.specs.Lays.{AreLaidOut}
use Rattle.cg_blkdone.specs.Places.{face_unplaced}
use Rattle.cg_samespec.proofs.Items.{item_unplaced, items_unplaced}

-- ---- one item

span_unplaced : {item : Item} {span : ℕ} → IsSpan item span → IsSpan (item_unplaced item) span
span_unplaced IsSpan.register = IsSpan.register
span_unplaced (IsSpan.window least) = IsSpan.window least

span_placed : (item : Item) (span : ℕ) → IsSpan (item_unplaced item) span → IsSpan item span
span_placed (Reg r) span IsSpan.register = IsSpan.register
span_placed (Window w) span (IsSpan.window least) = IsSpan.window least
span_placed (SkipTo to at) span is = elim is [ ]
span_placed (Reserved words at) span is = elim is [ ]

ends_unplaced : {low : ℕ} {item : Item} {end : ℕ} → Ends low item end → Ends low (item_unplaced item) end
ends_unplaced (Ends.row is least) = Ends.row (span_unplaced is) least
ends_unplaced Ends.skip = Ends.skip
ends_unplaced Ends.reserved = Ends.reserved

ends_placed : (low : ℕ) (item : Item) (end : ℕ) → Ends low (item_unplaced item) end → Ends low item end
ends_placed low (Reg r) end (Ends.row {span} is least) = Ends.row (span_placed (Reg r) span is) least
ends_placed low (Window w) end (Ends.row {span} is least) = Ends.row (span_placed (Window w) span is) least
ends_placed low (SkipTo to at) end (Ends.row is least) = elim is [ ]
ends_placed low (SkipTo to at) end Ends.skip = Ends.skip
ends_placed low (Reserved words at) end (Ends.row is least) = elim is [ ]
ends_placed low (Reserved words at) end Ends.reserved = Ends.reserved

skips_unplaced : (low : ℕ) (item : Item) → IsSkipBack low item → IsSkipBack low (item_unplaced item)
skips_unplaced low (Reg r) skips = skips
skips_unplaced low (Window w) skips = skips
skips_unplaced low (SkipTo to at) skips = skips
skips_unplaced low (Reserved words at) skips = skips

skips_placed : (low : ℕ) (item : Item) → IsSkipBack low (item_unplaced item) → IsSkipBack low item
skips_placed low (Reg r) skips = skips
skips_placed low (Window w) skips = skips
skips_placed low (SkipTo to at) skips = skips
skips_placed low (Reserved words at) skips = skips

-- ---- what items break

-- some item skips back or ends past the limit
abbrev pub SomeBreaks : ℕ → List Item → Type 0
SomeBreaks low items = (f : Finding) × BreaksOffsets low items f

pub offsets_unplaced : {low : ℕ} {items : List Item} {f : Finding} → BreaksOffsets low items f → SomeBreaks low (map item_unplaced items)
offsets_unplaced (BreaksOffsets.back {low} {item} skips) = (_, BreaksOffsets.back (skips_unplaced low item skips))
offsets_unplaced (BreaksOffsets.past {low} {item} forth ends over) = (_, BreaksOffsets.past (λ skips. forth (skips_placed low item skips)) (ends_unplaced ends) over)
offsets_unplaced (BreaksOffsets.later {low} {item} forth ends within broken) =
    let found = offsets_unplaced broken in (found.0, BreaksOffsets.later (λ skips. forth (skips_placed low item skips)) (ends_unplaced ends) within found.1)

pub offsets_placed : (low : ℕ) (items : List Item) (f : Finding) → BreaksOffsets low (map item_unplaced items) f → SomeBreaks low items
offsets_placed low [] f broken = elim broken [ ]
offsets_placed low (x ∷ xs) f (BreaksOffsets.back skips) = (_, BreaksOffsets.back (skips_placed low x skips))
offsets_placed low (x ∷ xs) f (BreaksOffsets.past {end} forth ends over) = (_, BreaksOffsets.past (λ skips. forth (skips_unplaced low x skips)) (ends_placed low x end ends) over)
offsets_placed low (x ∷ xs) f (BreaksOffsets.later {end} forth ends within broken) =
    let found = offsets_placed end xs f broken in (found.0, BreaksOffsets.later (λ skips. forth (skips_unplaced low x skips)) (ends_placed low x end ends) within found.1)

-- ---- rows

-- a row but for its places
abbrev pub row_unplaced : LaidRow → LaidRow
row_unplaced row = record { first = row.first; words = row.words; item = item_unplaced row.item }

-- an interface but for its places
abbrev pub laid_unplaced : LaidFace → LaidFace
laid_unplaced face = record { name = face.name; rows = map row_unplaced face.rows; size = face.size }

rows_unplaced : {low top end : ℕ} {items : List Item} {rows : List LaidRow} → HasRows low top items rows end → HasRows low top (map item_unplaced items) (map row_unplaced rows) end
rows_unplaced HasRows.none = HasRows.none
rows_unplaced (HasRows.row IsSpan.register least more) = HasRows.row IsSpan.register least (rows_unplaced more)
rows_unplaced (HasRows.row (IsSpan.window fits) least more) = HasRows.row (IsSpan.window fits) least (rows_unplaced more)
rows_unplaced (HasRows.skip more) = HasRows.skip (rows_unplaced more)
rows_unplaced (HasRows.reserved more) = HasRows.reserved (rows_unplaced more)

-- the items have rows which are these but for their places
record RowsOf (low top : ℕ) (items : List Item) (given : List LaidRow) (end : ℕ) : Type 0 where
  rows : List LaidRow
  has : HasRows low top items rows end
  gives : map row_unplaced rows ≡ given

rows_placed : (low top : ℕ) (items : List Item) (given : List LaidRow) (end : ℕ) → HasRows low top (map item_unplaced items) given end → RowsOf low top items given end
rows_placed low top [] given end HasRows.none = record { rows = []; has = HasRows.none; gives = refl }
rows_placed low top (Reg r ∷ items) given end (HasRows.row {span} {first} {rows} is least more) =
    let found = rows_placed (first + span) (first + span) items rows end more in
    record { rows = record { first = first; words = 1; item = Reg r } ∷ found.rows; has = HasRows.row (span_placed (Reg r) span is) least found.has; gives = λ i. record { first = first; words = 1; item = item_unplaced (Reg r) } ∷ found.gives i }
rows_placed low top (Window w ∷ items) given end (HasRows.row {span} {first} {rows} is least more) =
    let found = rows_placed (first + span) (first + span) items rows end more in
    record { rows = record { first = first; words = w.items; item = Window w } ∷ found.rows; has = HasRows.row (span_placed (Window w) span is) least found.has; gives = λ i. record { first = first; words = w.items; item = item_unplaced (Window w) } ∷ found.gives i }
rows_placed low top (SkipTo to at ∷ items) given end (HasRows.row is least more) = elim is [ ]
rows_placed low top (SkipTo to at ∷ items) given end (HasRows.skip more) =
    let found = rows_placed to top items given end more in record { rows = found.rows; has = HasRows.skip found.has; gives = found.gives }
rows_placed low top (Reserved words at ∷ items) given end (HasRows.row is least more) = elim is [ ]
rows_placed low top (Reserved words at ∷ items) given end (HasRows.reserved more) =
    let found = rows_placed _ top items given end more in record { rows = found.rows; has = HasRows.reserved found.has; gives = found.gives }

-- ---- interfaces

laid_out_unplaced : (items : List Item) (face : LaidFace) → IsLaidOut items face → IsLaidOut (map item_unplaced items) (laid_unplaced face)
laid_out_unplaced items face laid = record { end = laid.end; rows = rows_unplaced laid.rows; size = laid.size }

-- the items are laid out so but for their places
record LaidOf (items : List Item) (given : LaidFace) : Type 0 where
  face : LaidFace
  laid : IsLaidOut items face
  gives : laid_unplaced face ≡ given

laid_out_placed : (items : List Item) (given : LaidFace) → IsLaidOut (map item_unplaced items) given → LaidOf items given
laid_out_placed items given laid =
    let found = rows_placed 0 0 items given.rows laid.end laid.rows in
    record {
      face = record { name = given.name; rows = found.rows; size = given.size };
      laid = record { end = laid.end; rows = found.has; size = laid.size };
      gives = λ i. record { name = given.name; rows = found.gives i; size = given.size };
    }

pub all_laid_unplaced : (faces : List FaceDesc) (items : List FaceItems) (laids : List LaidFace) → AreLaidOut faces items laids
    → AreLaidOut (map face_unplaced faces) (map items_unplaced items) (map laid_unplaced laids)
all_laid_unplaced (face ∷ faces) (items ∷ more) (laid ∷ laids) are = (are.0, laid_out_unplaced items.items laid are.1, all_laid_unplaced faces more laids are.2)
all_laid_unplaced [] [] [] are = tt
all_laid_unplaced [] [] (laid ∷ laids) are = absurd are
all_laid_unplaced [] (items ∷ more) laids are = absurd are
all_laid_unplaced (face ∷ faces) [] laids are = absurd are
all_laid_unplaced (face ∷ faces) (items ∷ more) [] are = absurd are

-- the interfaces are laid out so but for their places
pub record AllLaidOf (faces : List FaceDesc) (items : List FaceItems) (given : List LaidFace) : Type 0 where
  pub laids : List LaidFace
  pub are : AreLaidOut faces items laids
  pub give : map laid_unplaced laids ≡ given

pub all_laid_placed : (faces : List FaceDesc) (items : List FaceItems) (given : List LaidFace) → AreLaidOut (map face_unplaced faces) (map items_unplaced items) given → AllLaidOf faces items given
all_laid_placed (face ∷ faces) (items ∷ more) (laid ∷ laids) are =
    let here = laid_out_placed items.items laid are.1 in
    let later = all_laid_placed faces more laids are.2 in
    record {
      laids = here.face ∷ later.laids;
      are = (ap (λ (f : LaidFace). f.name) here.gives ∙ are.0, here.laid, later.are);
      give = λ i. here.gives i ∷ later.give i;
    }
all_laid_placed [] [] [] are = record { laids = []; are = tt; give = refl }
all_laid_placed [] [] (laid ∷ laids) are = absurd are
all_laid_placed [] (items ∷ more) given are = absurd are
all_laid_placed (face ∷ faces) [] given are = absurd are
all_laid_placed (face ∷ faces) (items ∷ more) [] are = absurd are
