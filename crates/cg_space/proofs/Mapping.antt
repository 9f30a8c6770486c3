-- What rows say of addresses.
use Rattle.std.proofs.Common.{◌≡◌, ℕ, zero, suc, ◌+◌, ◌-◌, ◌/◌, ◌<◌, ◌≤◌, List, [], ◌∷◌, ◌⊎◌, inl, inr, Some, slice_get, refl, sym, ap, subst, arith}
use Rattle.std.proofs.lemmas.Bool.{cases_lt}
use Rattle.cg_svspec.specs.Names.{Among}
use Rattle.cg_svspec.specs.Printable.{AllOf}
use Rattle.cg_desc.specs.AddressMap.{IsPlaceFor, ReachesFace, StandsAt}
use Rattle.cg_desc.specs.Laid.{IsLaid, RowFits, RowsFit}
use Rattle.cg_desc.specs.Merged.{EndAt, FaceAt, IsMerged, IsValidLaidBlock, NodeAt}
use Rattle.cg_desc.specs.Reach.{ConnectsAt, Reaches, outside}
use Rattle.cg_desc.specs.Target.{aligned, row_end}
use Rattle.cg_desc.specs.declared.address.Place.{Place}
use Rattle.cg_desc.specs.declared.address.Place.TheVariants.{Reg as register_at, Word as word_at, Outside as outside_at}
use Rattle.cg_desc.specs.declared.block.Item.TheVariants.{Reg, Window}
use Rattle.cg_desc.specs.declared.block.LaidFace.{LaidFace}
use Rattle.cg_desc.specs.declared.block.LaidRow.{LaidRow}
use Rattle.cg_desc.specs.declared.block.RegDesc.{RegDesc}
use Rattle.cg_desc.specs.declared.block.WindowDesc.{WindowDesc}
use Rattle.cg_desc.specs.declared.crossbar.NodeDesc.{NodeDesc}
use Rattle.cg_desc.specs.declared.crossbar.Range.{Range}
use Rattle.cg_desc.specs.declared.top.MergedTop.{MergedTop}
use Rattle.cg_desc.specs.declared.top.NodeEnd.TheVariants.{Outside}
use Rattle.cg_space.specs.Laws.{RowsAreTheMap}
use Rattle.cg_space.specs.Rows.{IsFound, IsMapHost, IsRow, RowHolds, row_of, with_index}
use Rattle.cg_space.specs.Violations.{NoViolation}
use Rattle.cg_space.specs.Inner.Sound.{IsDeviceAt, IsSound}
use Rattle.cg_space.specs.declared.row.HostId.{HostId}
use Rattle.cg_space.specs.declared.row.Row.{Row}
use Rattle.cg_space.proofs.Looking.{at_among}
use Rattle.cg_space.proofs.Merged.{is_sound}
use Rattle.cg_space.proofs.Shapes.{four_at_least}
use Rattle.cg_space.proofs.Spacing.{device_at, none_bad}
use Rattle.cg_space.proofs.Tabling.{all_at, to_devices}

-- ---- rows have words

fits_at : (all : List LaidRow) (low : ℕ) (rows : List LaidRow) (k : ℕ) (row : LaidRow) → RowsFit all low rows → slice_get rows k ≡ Some row → RowFits all row
fits_at all low [] k row fit at = absurd cc
fits_at all low (x ∷ rows) zero row fit at = let same : x ≡ row = cc in subst (RowFits all) same fit.1
fits_at all low (x ∷ rows) (suc k) row fit at = fits_at all (row_end x) rows k row fit.2 at

pub row_fits : (m : MergedTop) (i f r : ℕ) (face : LaidFace) (row : LaidRow) → IsMerged m → FaceAt m i f face → slice_get face.rows r ≡ Some row → RowFits face.rows row
row_fits m i f r face row is at there =
    let laid = all_at IsLaid at.0.faces f face (all_at IsValidLaidBlock m.blocks at.1.0 at.0 is.blocks at.1.2).laid at.2 in
    fits_at face.rows 0 face.rows r row laid.rows there

merged_of : (m : MergedTop) (x h i f base : ℕ) (face : LaidFace) → IsSound m → ReachesFace m x h i f base face → IsMerged m
merged_of m x h i f base face sound reach = (sound.faces reach.z reach.d i f reach.stands).0

register_words : (m : MergedTop) (x h i f r base : ℕ) (face : LaidFace) (row : LaidRow) (reg : RegDesc) → IsSound m → ReachesFace m x h i f base face
    → slice_get face.rows r ≡ Some row → row.item ≡ Reg reg → 0 < row.words
register_words m x h i f r base face row reg sound reach there item =
    let fits = row_fits m i f r face row (merged_of m x h i f base face sound reach) reach.face_is there in
    let one = rw item at fits in
    omega (arith, one.0)

window_words : (m : MergedTop) (x h i f r base : ℕ) (face : LaidFace) (row : LaidRow) (w : WindowDesc) → IsSound m → ReachesFace m x h i f base face
    → slice_get face.rows r ≡ Some row → row.item ≡ Window w → 0 < row.words
window_words m x h i f r base face row w sound reach there item =
    let fits = row_fits m i f r face row (merged_of m x h i f base face sound reach) reach.face_is there in
    let some = rw item at fits in
    omega (arith, some.0, some.1.some_item)

-- ---- what is reached is a device, and its ranges have addresses

pub among_all : (P : ℕ → Type 0) (xs : List ℕ) (x : ℕ) → AllOf P xs → Among x xs → P x
among_all P [] x all among = absurd among
among_all P (y ∷ ys) x all (inl is) = subst P (sym is) all.0
among_all P (y ∷ ys) x all (inr among) = among_all P ys x all.1 among

pub connected : (m : MergedTop) (x h d : ℕ) → IsSound m → ConnectsAt m x h d → IsDeviceAt m x d
connected m x h d sound c = among_all (IsDeviceAt m x) c.host.to d (to_devices m x h c.host sound c.is c.is_host) c.connects

pub reached_device : (m : MergedTop) (x h z d : ℕ) → IsSound m → Reaches m x h z d → IsDeviceAt m z d
reached_device m x h z d sound (Reaches.straight e connects stands plain) = connected m x h d sound connects
reached_device m x h z d sound (Reaches.nested c y k host connects stands inner on) = reached_device m y k z d sound on

-- a range of a device outside has an address
pub outside_size : (m : MergedTop) (z d : ℕ) (node : NodeDesc) (range : Range) → NoViolation m → IsDeviceAt m z d → NodeAt m z d node → EndAt m z d Outside → Among range node.ranges
    → 0 < range.size
outside_size m z d node range none device at stands among = by (cases_lt 0 range.size) where
  by : (0 < range.size) ⊎ (range.size ≤ 0) → 0 < range.size
  by (inl some) = some
  by (inr empty) =
      absurd (none_bad m z d device.1.crossbar device.0 none (device_at m z d device)
      (node.ranges, outside node at stands, inr (range, among, λ good. omega (arith, empty, four_at_least range good))))

some_size : (m : MergedTop) (x h z d : ℕ) (node : NodeDesc) (range : Range) → IsSound m → NoViolation m → Reaches m x h z d → NodeAt m z d node → EndAt m z d Outside
    → Among range node.ranges → 0 < range.size
some_size m x h z d node range sound none reaches at stands among = outside_size m z d node range none (reached_device m x h z d sound reaches) at stands among

-- ---- from rows to places

for_host : (m : MergedTop) (x h y k a : ℕ) (place : Place) → ◌≡◌ {A = HostId} (record { xbar = y; node = k }) (record { xbar = x; node = h }) → StandsAt m y k a place → StandsAt m x h a place
for_host m x h y k a place same stands =
    let p : y ≡ x = ap (λ (i : HostId). i.xbar) same in
    let q : k ≡ h = ap (λ (i : HostId). i.node) same in
    subst (λ i. StandsAt m i h a place) p (subst (λ i. StandsAt m y i a place) q stands)

stands_of : (m : MergedTop) (x h a : ℕ) (row : Row) → IsSound m → NoViolation m → IsRow m row → RowHolds row (record { xbar = x; node = h }) a
    → StandsAt m x h a (with_index row.place ((aligned a - row.first) / 4))
stands_of m x h a row sound none (IsRow.register y k i f r base face lrow reg host reach at item) holds =
    let words = register_words m y k i f r base face lrow reg sound reach at item in
    for_host m x h y k a (register_at i f r) holds.host_is
    (StandsAt.at_register i f r base face lrow reg reach at item (record { from_start = holds.from_start; before_end = omega (arith, holds.to_last, words) }))
stands_of m x h a row sound none (IsRow.window y k i f r base face lrow w host reach at item) holds =
    let words = window_words m y k i f r base face lrow w sound reach at item in
    for_host m x h y k a (word_at i f r ((aligned a - (base + lrow.first)) / 4)) holds.host_is
    (StandsAt.at_word i f r base face lrow w reach at item (record { from_start = holds.from_start; before_end = omega (arith, holds.to_last, words) }))
stands_of m x h a row sound none (IsRow.outside y k z d node range host reaches at stands among) holds =
    let some = some_size m y k z d node range sound none reaches at stands among in
    for_host m x h y k a (outside_at z d) holds.host_is
    (StandsAt.at_outside z d node range reaches at stands among (holds.from_start, omega (arith, holds.to_last, some)))

-- ---- and back

row_there : (m : MergedTop) (x h a : ℕ) (place : Place) → IsMapHost m x h → StandsAt m x h a place → (row : Row) × IsRow m row × RowHolds row (record { xbar = x; node = h }) a
row_there m x h a place host (StandsAt.at_register i f r base face lrow reg reach at item holds) = (
  row_of x h (base + lrow.first) (base + row_end lrow - 1) (register_at i f r),
  IsRow.register x h i f r base face lrow reg host reach at item,
  record { host_is = refl; from_start = holds.from_start; to_last = omega (arith, holds.before_end) },
)
row_there m x h a place host (StandsAt.at_word i f r base face lrow w reach at item holds) = (
  row_of x h (base + lrow.first) (base + row_end lrow - 1) (word_at i f r 0),
  IsRow.window x h i f r base face lrow w host reach at item,
  record { host_is = refl; from_start = holds.from_start; to_last = omega (arith, holds.before_end) },
)
row_there m x h a place host (StandsAt.at_outside z d node range reaches at stands among holds) = (
  row_of x h range.base (range.base + range.size - 1) (outside_at z d),
  IsRow.outside x h z d node range host reaches at stands among,
  record { host_is = refl; from_start = holds.0; to_last = omega (arith, holds.1) },
)

pub rows_are_the_map : RowsAreTheMap
rows_are_the_map m rows x h a place valid none are host (IsFound.first i row at holds before) =
    IsPlaceFor.there _ (stands_of m x h a row (is_sound m valid) none ((are.members row).0 (at_among rows i row at)) holds)
rows_are_the_map m rows x h a place valid none are host (IsFound.nowhere nothing) =
    IsPlaceFor.nowhere (λ p stands. let r = row_there m x h a p host stands in nothing r.0 ((are.members r.0).1 r.1) r.2)
