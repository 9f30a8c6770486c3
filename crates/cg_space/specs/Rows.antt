-- The rows of a top's address map, and what is found in them (OpenTitan Top Generation Tool).
use Rattle.std.specs.Prelude.{◌≡◌, ◌↔◌, ◌⊎◌, ℕ, ◌+◌, ◌-◌, ◌/◌, ◌≤◌, ◌<◌, true, List, slice_get, Some}
use Rattle.cg_svspec.specs.Names.{Among}
use Rattle.cg_desc.specs.AddressMap.{ReachesFace}
use Rattle.cg_desc.specs.Merged.{NodeAt, EndAt}
use Rattle.cg_desc.specs.Reach.{IsPlain, Reaches}
use Rattle.cg_desc.specs.Target.{aligned, row_end}
use Rattle.cg_desc.specs.declared.address.Place.{Place}
use Rattle.cg_desc.specs.declared.address.Place.TheVariants.{Reg as register_at, Word as word_at, Outside as outside_at, Error}
use Rattle.cg_desc.specs.declared.block.Item.TheVariants.{Reg, Window}
use Rattle.cg_desc.specs.declared.block.LaidFace.{LaidFace}
use Rattle.cg_desc.specs.declared.block.LaidRow.{LaidRow}
use Rattle.cg_desc.specs.declared.block.RegDesc.{RegDesc}
use Rattle.cg_desc.specs.declared.block.WindowDesc.{WindowDesc}
use Rattle.cg_desc.specs.declared.crossbar.NodeDesc.{NodeDesc}
use Rattle.cg_desc.specs.declared.crossbar.Range.{Range}
use Rattle.cg_desc.specs.declared.top.MergedTop.{MergedTop}
use Rattle.cg_desc.specs.declared.top.NodeEnd.{NodeEnd}
use Rattle.cg_desc.specs.declared.top.NodeEnd.TheVariants.{Outside}
use Rattle.cg_space.specs.declared.row.HostId.{HostId}
use Rattle.cg_space.specs.declared.row.Row.{Row}

-- ---- rows

-- node h of crossbar x is a host that stands for no crossbar
pub record IsMapHost (m : MergedTop) (x h : ℕ) : Type 0 where
  pub host : NodeDesc
  pub is : NodeAt m x h host
  pub is_host : host.host ≡ true
  pub end : NodeEnd
  pub stands : EndAt m x h end
  pub plain : IsPlain end

-- the addresses from `first` up to and with `last`, which are this for host h of crossbar x
abbrev pub row_of : ℕ → ℕ → ℕ → ℕ → Place → Row
row_of x h first last place = record { host = record { xbar = x; node = h }; first = first; last = last; place = place }

-- A row of the map, for a host: a register of an interface that it reaches, or a window there, of the words that it has, or a range of a
-- device outside that it reaches.
pub data IsRow (m : MergedTop) : Row → Type 0 where
  register : (x h i f r base : ℕ) (face : LaidFace) (row : LaidRow) (reg : RegDesc) → IsMapHost m x h → ReachesFace m x h i f base face
      → slice_get face.rows r ≡ Some row → row.item ≡ Reg reg → IsRow m (row_of x h (base + row.first) (base + row_end row - 1) (register_at i f r))
  window : (x h i f r base : ℕ) (face : LaidFace) (row : LaidRow) (w : WindowDesc) → IsMapHost m x h → ReachesFace m x h i f base face
      → slice_get face.rows r ≡ Some row → row.item ≡ Window w → IsRow m (row_of x h (base + row.first) (base + row_end row - 1) (word_at i f r 0))
  outside : (x h z d : ℕ) (node : NodeDesc) (range : Range) → IsMapHost m x h → Reaches m x h z d → NodeAt m z d node → EndAt m z d Outside
      → Among range node.ranges → IsRow m (row_of x h range.base (range.base + range.size - 1) (outside_at z d))

-- one row stands before another: by the host's crossbar, then its node, then the first address
abbrev pub RowBefore : Row → Row → Type 0
RowBefore a b =
    (a.host.xbar < b.host.xbar) ⊎ ((a.host.xbar ≡ b.host.xbar) × ((a.host.node < b.host.node) ⊎ ((a.host.node ≡ b.host.node) × (a.first < b.first))))

-- just the rows of the map, in their order, so each once
pub record AreRows (m : MergedTop) (rows : List Row) : Type 0 where
  pub members : (row : Row) → Among row rows ↔ IsRow m row
  pub in_order : (i j : ℕ) (a b : Row) → slice_get rows i ≡ Some a → slice_get rows j ≡ Some b → i < j → RowBefore a b

-- ---- what is found in rows

-- the row is this host's, and holds the address, whose low two bits do not count
pub record RowHolds (row : Row) (host : HostId) (address : ℕ) : Type 0 where
  pub host_is : row.host ≡ host
  pub from_start : row.first ≤ aligned address
  pub to_last : aligned address ≤ row.last

-- the place with the word's index
abbrev pub with_index : Place → ℕ → Place
with_index (register_at i f r) index = register_at i f r
with_index (word_at i f r old) index = word_at i f r index
with_index (outside_at z d) index = outside_at z d
with_index Error index = Error

-- the place of the first row that holds the address for the host, and an error where none does
pub data IsFound (rows : List Row) (host : HostId) (address : ℕ) : Place → Type 0 where
  first : (i : ℕ) (row : Row) → slice_get rows i ≡ Some row → RowHolds row host address
      → ((j : ℕ) (other : Row) → j < i → slice_get rows j ≡ Some other → ¬ RowHolds other host address)
      → IsFound rows host address (with_index row.place ((aligned address - row.first) / 4))
  nowhere : ((row : Row) → Among row rows → ¬ RowHolds row host address) → IsFound rows host address Error
