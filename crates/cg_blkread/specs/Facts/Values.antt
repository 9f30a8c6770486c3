-- The rules on bits, reset values and counts, as facts on the registers and windows that a block's document has.
use Rattle.std.specs.Prelude.{◌≡◌, ◌<◌, ◌≤◌, ◌^◌, ◌/◌, ◌%◌, ℕ, List, [], ◌∷◌, ◌++◌, Option, Some, None}
use Rattle.cg_svspec.specs.Names.{Among}
use Rattle.cg_hjson.specs.declared.tree.Tree.{Tree}
use Rattle.cg_finding.specs.Finding.{Finding}
use Rattle.cg_finding.specs.Rules.{bad_bits, bad_count, bad_window, fields_overlap, no_fields, reset_too_wide}
use Rattle.cg_keys.specs.Values.{members_of}
use Rattle.cg_blkread.specs.Bits.{width_of}
use Rattle.cg_blkread.specs.Raw.{parameters, raw_multireg, raw_register, raw_window}
use Rattle.cg_blkread.specs.Facts.Parts.{IsMultireg, IsRegister, IsWindow}
use Rattle.cg_blkread.specs.declared.raw.Bits.{Bits}
use Rattle.cg_blkread.specs.declared.raw.RawField.{RawField}
use Rattle.cg_blkread.specs.declared.raw.RawRegister.{RawRegister}
use Rattle.cg_blkread.specs.declared.raw.RawMultireg.{RawMultireg}
use Rattle.cg_blkread.specs.declared.raw.RawWindow.{RawWindow}

-- ---- what is written

-- the block has this register, with the names, kinds and numbers that count, alone or in copies
abbrev pub HasRegister : Tree → RawRegister → Type 0
HasRegister t r = (tree : Tree) × IsRegister t tree × (r ≡ raw_register tree)

-- the block has these copies of a register
abbrev pub HasMultireg : Tree → RawMultireg → Type 0
HasMultireg t m = (tree : Tree) × IsMultireg t tree × (m ≡ raw_multireg (parameters (members_of t)) tree)

-- the block has this window
abbrev pub HasWindow : Tree → RawWindow → Type 0
HasWindow t w = (tree : Tree) × IsWindow t tree × (w ≡ raw_window (parameters (members_of t)) tree)

-- ---- bits

-- bit k lies in bits `m:l`
abbrev pub IsWithin : ℕ → Bits → Type 0
IsWithin k b = (b.lsb ≤ k) × (k ≤ b.msb)

-- a field of good bits has bit k
abbrev pub HasBit : ℕ → RawField → Type 0
HasBit k f = (b : Bits) × (f.bits ≡ Some b) × IsWithin k b

-- bit k of a number is 1
abbrev pub IsOne : ℕ → ℕ → Type 0
IsOne n k = (n / 2 ^ k) % 2 ≡ 1

-- a number of things is there, and is from 1 up to this
abbrev pub IsCountTo : ℕ → Option ℕ → Type 0
IsCountTo most None = ⊥
IsCountTo most (Some n) = (0 < n) × (n ≤ most)

-- ---- the rules

-- what a block breaks of these rules
pub data BreaksValues (t : Tree) : Finding → Type 0 where
  -- 30: the bits of a field are neither a number up to 31 nor `m:l` of such numbers with m at least l
  bad : (r : RawRegister) (f : RawField) → HasRegister t r → Among f r.fields → f.bits ≡ None → BreaksValues t (bad_bits f.bits_at r.name)
  -- 31: a field shares a bit with one that is written earlier in its list
  overlap : (r : RawRegister) (before after : List RawField) (f g : RawField) (k : ℕ) → HasRegister t r → r.fields ≡ before ++ f ∷ after
      → Among g before → HasBit k g → HasBit k f → BreaksValues t (fields_overlap f.bits_at f.name)
  -- 32: the own reset value of a field of good bits does not fit in its bits
  wide : (r : RawRegister) (f : RawField) (b : Bits) (v : ℕ) → HasRegister t r → Among f r.fields → f.bits ≡ Some b → f.resval ≡ Some v
      → 2 ^ width_of b ≤ v → BreaksValues t (reset_too_wide f.resval_at r.name)
  -- 32: the reset value of a register, all of whose fields have good bits, has a bit outside them
  outside : (r : RawRegister) (v k : ℕ) → HasRegister t r → ((f : RawField) → Among f r.fields → ¬ (f.bits ≡ None)) → r.resval ≡ Some v → k < 32 → IsOne v k
      → ((f : RawField) → Among f r.fields → ¬ HasBit k f) → BreaksValues t (reset_too_wide r.resval_at r.name)
  -- 33: a register has no field
  empty : (r : RawRegister) → HasRegister t r → r.fields ≡ [] → BreaksValues t (no_fields r.fields_at r.name)
  -- 37: the number of copies is 0 or above 4,096, or a parameter without a number, or none at all
  count : (m : RawMultireg) → HasMultireg t m → ¬ IsCountTo 4096 m.count → BreaksValues t (bad_count m.count_at m.register.name)
  -- 40: the number of a window's words is 0 or above 2^22, or a parameter without a number, or none at all
  words : (w : RawWindow) → HasWindow t w → ¬ IsCountTo 4194304 w.items → BreaksValues t (bad_window w.items_at w.name)
