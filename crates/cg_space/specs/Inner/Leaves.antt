-- The rows of what a host reaches, device by device.
use Rattle.std.specs.Prelude.{ℕ, ◌≡◌, ◌⊎◌, ◌↔◌, ◌+◌, ◌-◌, ◌<◌, ◌≤◌, ◌^◌, List, slice_get, Some}
use Rattle.cg_svspec.specs.Names.{Among}
use Rattle.cg_svspec.specs.Printable.{AllOf}
use Rattle.cg_desc.specs.Ranges.{IsRange}
use Rattle.cg_desc.specs.Merged.{NodeAt, EndAt, FaceAt, BaseIs}
use Rattle.cg_desc.specs.Reach.{HasRanges, IsInnerHost, IsPlain, Reaches}
use Rattle.cg_desc.specs.Target.{row_end}
use Rattle.cg_desc.specs.declared.address.Place.{Place}
use Rattle.cg_desc.specs.declared.address.Place.TheVariants.{Reg as register_at, Word as word_at, Outside as outside_at, Error}
use Rattle.cg_desc.specs.declared.block.Item.{Item}
use Rattle.cg_desc.specs.declared.block.Item.TheVariants.{Reg, Window, SkipTo, Reserved}
use Rattle.cg_desc.specs.declared.block.LaidFace.{LaidFace}
use Rattle.cg_desc.specs.declared.block.LaidRow.{LaidRow}
use Rattle.cg_desc.specs.declared.crossbar.NodeDesc.{NodeDesc}
use Rattle.cg_desc.specs.declared.crossbar.Range.{Range}
use Rattle.cg_desc.specs.declared.top.MergedTop.{MergedTop}
use Rattle.cg_desc.specs.declared.top.NodeEnd.{NodeEnd}
use Rattle.cg_desc.specs.declared.top.NodeEnd.TheVariants.{Face, Xbar, Outside}
use Rattle.cg_space.specs.Rows.{IsRow, RowBefore}
use Rattle.cg_space.specs.Inner.Sound.{IsDeviceAt}
use Rattle.cg_space.specs.Inner.Tables.{IsFaceRange}
use Rattle.cg_space.specs.declared.row.HostId.{HostId}
use Rattle.cg_space.specs.declared.row.Row.{Row}

-- ---- lists that grow

-- the new list has what the old one has, and what this says
abbrev pub Adds : {X : Type 0} → List X → List X → (X → Type 0) → Type 0
Adds {X} old new P = (x : X) → Among x new ↔ (Among x old ⊎ P x)

-- this is said of it and a number below n
abbrev pub Below : {X : Type 0} → (ℕ → X → Type 0) → ℕ → X → Type 0
Below P n x = (k : ℕ) × (k < n) × P k x

-- this is said of the place k, of the item there, and of y
abbrev pub AtPlace : {X Y : Type 0} → (ℕ → X → Y → Type 0) → List X → ℕ → Y → Type 0
AtPlace {X} P xs k y = (x : X) × (slice_get xs k ≡ Some x) × P k x y

-- so at some place
abbrev pub AtSome : {X Y : Type 0} → (ℕ → X → Y → Type 0) → List X → Y → Type 0
AtSome P xs y = (k : ℕ) × AtPlace P xs k y

-- each row stands before all that are later
abbrev pub RowsRise : List Row → Type 0
RowsRise rows = (i j : ℕ) (a b : Row) → slice_get rows i ≡ Some a → slice_get rows j ≡ Some b → i < j → RowBefore a b

-- ---- the rows of one device

-- what row r of an interface is
abbrev pub row_place : ℕ → ℕ → ℕ → Item → Place
row_place i f r (Reg reg) = register_at i f r
row_place i f r (Window w) = word_at i f r 0
row_place i f r (SkipTo to at) = Error
row_place i f r (Reserved words at) = Error

-- row r of an interface with this base
abbrev pub face_row : HostId → ℕ → ℕ → ℕ → ℕ → LaidRow → Row
face_row host i f base r row =
    record { host = host; first = base + row.first; last = base + row_end row - 1; place = row_place i f r row.item }

-- a range of device d of crossbar z
abbrev pub range_row : HostId → ℕ → ℕ → Range → Row
range_row host z d range = record { host = host; first = range.base; last = range.base + range.size - 1; place = outside_at z d }

-- a row of device interface f of instance i
pub record IsFaceRow (m : MergedTop) (host : HostId) (i f : ℕ) (row : Row) : Type 0 where
  pub face : LaidFace
  pub face_is : FaceAt m i f face
  pub base : ℕ
  pub base_is : BaseIs m i f base
  pub number : ℕ
  pub laid : LaidRow
  pub laid_is : slice_get face.rows number ≡ Some laid
  pub is : row ≡ face_row host i f base number laid

-- a row of one of these ranges of device d of crossbar z
abbrev pub IsRangeRow : HostId → ℕ → ℕ → List Range → Row → Type 0
IsRangeRow host z d ranges row = AtSome (λ k range row. row ≡ range_row host z d range) ranges row

-- a row of device d of crossbar z, which stands for no crossbar
pub data IsLeafRow (m : MergedTop) (host : HostId) (z d : ℕ) (row : Row) : Type 0 where
  of_face : (i f : ℕ) → EndAt m z d (Face i f) → IsFaceRow m host i f row → IsLeafRow m host z d row
  of_outside : (node : NodeDesc) → NodeAt m z d node → EndAt m z d Outside → IsRangeRow host z d node.ranges row → IsLeafRow m host z d row

-- ---- the rows behind devices

-- device e of crossbar z is device d of crossbar x, or is reached from the crossbar that it stands for
pub data ReachesVia (m : MergedTop) (x d : ℕ) : ℕ → ℕ → Type 0 where
  plain : (e : NodeEnd) → EndAt m x d e → IsPlain e → ReachesVia m x d x d
  nested : {z e : ℕ} (y k : ℕ) (host : NodeDesc) → EndAt m x d (Xbar y) → IsInnerHost m x y k host → Reaches m y k z e → ReachesVia m x d z e

-- a row of what is reached over device d of crossbar x
pub record IsRowVia (m : MergedTop) (host : HostId) (x d : ℕ) (row : Row) : Type 0 where
  pub z : ℕ
  pub e : ℕ
  pub via : ReachesVia m x d z e
  pub leaf : IsLeafRow m host z e row

-- a row of what is reached over one of these devices
abbrev pub IsRowBehind : MergedTop → HostId → ℕ → List ℕ → Row → Type 0
IsRowBehind m host x to row = AtSome (λ k d row. IsRowVia m host x d row) to row

-- a row of the map for host h of crossbar x, and for one of the hosts of crossbar x
abbrev pub IsRowFor : MergedTop → ℕ → ℕ → Row → Type 0
IsRowFor m x h row = IsRow m row × (row.host ≡ record { xbar = x; node = h })

abbrev pub IsRowIn : MergedTop → ℕ → Row → Type 0
IsRowIn m x row = IsRow m row × (row.host.xbar ≡ x)

-- each device has ranges, of good shape
abbrev pub HaveAllRanges : MergedTop → Type 0
HaveAllRanges m = (x n : ℕ) → IsDeviceAt m x n → (rs : List Range) × HasRanges m x n rs × AllOf IsRange rs

-- the interface ends within the address space
abbrev pub FaceFits : MergedTop → ℕ → ℕ → Type 0
FaceFits m i f = (range : Range) → IsFaceRange m i f range → range.base + range.size ≤ 2 ^ 32

-- the rows are of hosts before this one, or of crossbars before this one
abbrev pub HostsBefore : List Row → ℕ → ℕ → Type 0
HostsBefore rows x h = (row : Row) → Among row rows → (row.host.xbar < x) ⊎ ((row.host.xbar ≡ x) × (row.host.node < h))

abbrev pub CrossbarsBefore : List Row → ℕ → Type 0
CrossbarsBefore rows x = (row : Row) → Among row rows → row.host.xbar < x

-- rows of one first address are one
abbrev pub FirstsDiffer : List Row → Type 0
FirstsDiffer rows = (a b : Row) → Among a rows → Among b rows → a.first ≡ b.first → a ≡ b

-- one may follow the other in the order of the first addresses
abbrev pub RiseByFirst : List Row → Type 0
RiseByFirst rows = (a b : Row) → Among a rows → Among b rows → a.first < b.first → RowBefore a b

-- each of the first list stands before each of the second
abbrev pub AllRowsBefore : List Row → List Row → Type 0
AllRowsBefore old new = (a b : Row) → Among a old → Among b new → RowBefore a b

-- the row at place n begins behind all before it, or with one before it
abbrev pub BeginsBehind : List Row → ℕ → Type 0
BeginsBehind rows n = (j : ℕ) (a b : Row) → j < n → slice_get rows j ≡ Some a → slice_get rows n ≡ Some b → a.first < b.first

abbrev pub BeginsWithEarlier : List Row → ℕ → Type 0
BeginsWithEarlier rows n = (j : ℕ) × (j < n) × ((a b : Row) → slice_get rows j ≡ Some a → slice_get rows n ≡ Some b → a.first ≡ b.first)
