-- What the entries of a block break of the rules on bits, reset values and counts, as lists (the rules themselves are facts,
-- in `Facts.Values`).
use Rattle.std.specs.Prelude.{ℕ, ◌^◌, ◌/◌, ◌%◌, Bool, true, false, not, ◌&&◌, ◌==◌, nat_le, nat_lt, cond, is_some, List, [], ◌∷◌, ◌++◌, flat_map, Option, Some, None}
use Rattle.std.specs.List.{list_any, list_all, range_with_len}
use Rattle.std.specs.Option.{option_map_or}
use Rattle.cg_finding.specs.Finding.{Finding, each_after}
use Rattle.cg_finding.specs.Rules as rules
use Rattle.cg_blkread.specs.Bits.{width_of}
use Rattle.cg_blkread.specs.Seen.{have_common_bit}
use Rattle.cg_blkread.specs.declared.raw.Bits.{Bits}
use Rattle.cg_blkread.specs.declared.raw.RawField.{RawField}
use Rattle.cg_blkread.specs.declared.raw.RawRegister.{RawRegister}
use Rattle.cg_blkread.specs.declared.raw.RawMultireg.{RawMultireg}
use Rattle.cg_blkread.specs.declared.raw.RawWindow.{RawWindow}
use Rattle.cg_blkread.specs.declared.raw.RawEntry.{RawEntry}
use Rattle.cg_blkread.specs.declared.raw.RawEntry.TheVariants as entry

-- ---- fields

-- 30: its bits are none
abbrev pub bad_bits : List ℕ → RawField → List Finding
bad_bits register f = cond (is_some f.bits) [] (rules.bad_bits f.bits_at register ∷ [])

-- two fields of good bits have one in common
abbrev pub shares_bit : Option Bits → Option Bits → Bool
shares_bit (Some a) (Some b) = have_common_bit a b
shares_bit (Some a) None = false
shares_bit None b = false

-- 31: it shares a bit with a field that is written earlier
abbrev pub overlap : List RawField → RawField → List Finding
overlap before f = cond (list_any (λ b. shares_bit b.bits f.bits) before) (rules.fields_overlap f.bits_at f.name ∷ []) []

abbrev pub is_too_wide : Option Bits → Option ℕ → Bool
is_too_wide (Some b) (Some v) = nat_le (2 ^ width_of b) v
is_too_wide (Some b) None = false
is_too_wide None v = false

-- 32: its own reset value does not fit its bits
abbrev pub wide_reset : List ℕ → RawField → List Finding
wide_reset register f = cond (is_too_wide f.bits f.resval) (rules.reset_too_wide f.resval_at register ∷ []) []

-- ---- registers

abbrev pub is_empty : List RawField → Bool
is_empty [] = true
is_empty (f ∷ fs) = false

-- 33: it has no field
abbrev pub no_fields : RawRegister → List Finding
no_fields r = cond (is_empty r.fields) (rules.no_fields r.fields_at r.name ∷ []) []

abbrev pub holds_bit : ℕ → Option Bits → Bool
holds_bit k (Some b) = nat_le b.lsb k && nat_le k b.msb
holds_bit k None = false

abbrev pub bit_is_one : ℕ → ℕ → Bool
bit_is_one v k = (v / 2 ^ k) % 2 == 1

-- some bit of the value is in none of the fields
unfoldable pub has_stray_bit : List RawField → ℕ → Bool
has_stray_bit fields value = list_any (λ k. bit_is_one value k && not (list_any (λ f. holds_bit k f.bits) fields)) (range_with_len 0 32)

-- 32: the reset value of a register of good bits has a bit outside its fields
unfoldable pub stray_reset : RawRegister → List Finding
stray_reset r =
    cond (list_all (λ f. is_some f.bits) r.fields && option_map_or (has_stray_bit r.fields) r.resval false) (rules.reset_too_wide r.resval_at r.name ∷ []) []

unfoldable pub register_values : RawRegister → List Finding
register_values r =
    no_fields r
    ++ (flat_map (bad_bits r.name) r.fields
    ++ (each_after overlap [] r.fields
    ++ (flat_map (wide_reset r.name) r.fields
    ++ stray_reset r)))

-- ---- entries

abbrev pub is_count_to : ℕ → Option ℕ → Bool
is_count_to most None = false
is_count_to most (Some n) = nat_lt 0 n && nat_le n most

-- 37: no copy, more than 4,096, or no number
abbrev pub bad_count : RawMultireg → List Finding
bad_count m = cond (is_count_to 4096 m.count) [] (rules.bad_count m.count_at m.register.name ∷ [])

-- 40: no item, more than 2^22, or no number
abbrev pub bad_window : RawWindow → List Finding
bad_window w = cond (is_count_to 4194304 w.items) [] (rules.bad_window w.items_at w.name ∷ [])

unfoldable pub entry_values : RawEntry → List Finding
entry_values (entry.Register r) = register_values r
entry_values (entry.Multireg m) = register_values m.register ++ bad_count m
entry_values (entry.Window w) = bad_window w
entry_values (entry.SkipTo to at) = []
entry_values (entry.Reserved words at) = []
