-- What each kind of field can do, and its value after a clock (OpenTitan Register Tool, software and hardware access types).
use Rattle.std.specs.Prelude.{Bool, true, false, not, cond, ◌&&◌, ◌||◌, map, length}
use Rattle.cg_svspec.specs.Bits.{Bits, zipped, zeros, ones}
use Rattle.cg_desc.specs.declared.block.SwAccess.{SwAccess}
use Rattle.cg_desc.specs.declared.block.SwAccess.TheVariants.{Ro, Rc, Rw, R0w1c, Rw1s, Rw1c, Rw0c, Wo, Nothing}
use Rattle.cg_desc.specs.declared.block.HwAccess.{HwAccess}
use Rattle.cg_desc.specs.declared.block.HwAccess.TheVariants as hardware

-- software reads the field; the others read as zero
abbrev pub is_readable : SwAccess → Bool
is_readable Ro = true
is_readable Rc = true
is_readable Rw = true
is_readable R0w1c = false
is_readable Rw1s = true
is_readable Rw1c = true
is_readable Rw0c = true
is_readable Wo = false
is_readable Nothing = false

-- software writes the field
abbrev pub is_writable : SwAccess → Bool
is_writable Ro = false
is_writable Rc = false
is_writable Rw = true
is_writable R0w1c = true
is_writable Rw1s = true
is_writable Rw1c = true
is_writable Rw0c = true
is_writable Wo = true
is_writable Nothing = false

-- hardware writes a stored field
abbrev pub hardware_writes : HwAccess → Bool
hardware_writes hardware.Hro = false
hardware_writes hardware.Hrw = true
hardware_writes hardware.Hwo = true
hardware_writes hardware.Nothing = false

-- hardware sees a stored field
abbrev pub hardware_sees : HwAccess → Bool
hardware_sees hardware.Hro = true
hardware_sees hardware.Hrw = true
hardware_sees hardware.Hwo = false
hardware_sees hardware.Nothing = false

-- What hardware makes of the value q: it writes d where its strobe is 1.
abbrev pub after_hardware : Bool → Bits → Bits → Bits
after_hardware strobe d q = cond strobe d q

-- The access table: the value after a clock of a field that hardware made `h`, where software writes `data_in` if `we` is 1, and
-- reads it if `re` is 1.
abbrev pub next_value : SwAccess → Bool → Bool → Bits → Bits → Bits
next_value Rw we re data_in h = cond we data_in h
next_value Wo we re data_in h = cond we data_in h
next_value Ro we re data_in h = h
next_value Nothing we re data_in h = h
next_value Rw1s we re data_in h = zipped ◌||◌ h (cond we data_in (zeros (length h)))
next_value Rw1c we re data_in h = zipped ◌&&◌ h (cond we (map not data_in) (ones (length h)))
next_value R0w1c we re data_in h = zipped ◌&&◌ h (cond we (map not data_in) (ones (length h)))
next_value Rw0c we re data_in h = zipped ◌&&◌ h (cond we data_in (ones (length h)))
next_value Rc we re data_in h = cond re (zeros (length h)) h

-- what a read shows of the value: a field that cannot be read shows zeros
abbrev pub read_value : SwAccess → Bits → Bits
read_value kind q = cond (is_readable kind) q (zeros (length q))
