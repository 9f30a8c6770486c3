-- The bits of a field: a number up to 31, or two of them with a colon between, the higher one first.
use Rattle.std.specs.Prelude.{ℕ, ◌+◌, ◌*◌, ◌-◌, ◌&&◌, ◌==◌, nat_le, if◌then◌else◌, List, [], ◌∷◌, Option, Some, None, option_and_then, position, take, drop}
use Rattle.cg_svspec.specs.Characters.{is_digit}
use Rattle.cg_hjson.specs.declared.tree.Tree.{Tree}
use Rattle.cg_keys.specs.Forms.{number_within}
use Rattle.cg_keys.specs.Values.{text_in}
use Rattle.cg_blkread.specs.declared.raw.Bits.{Bits}

-- the number that decimal digits spell, where it is up to 31; leading zeros are allowed
unfoldable pub up_to_31 : ℕ → List ℕ → Option ℕ
up_to_31 sum [] = Some sum
up_to_31 sum (c ∷ cs) = if is_digit c && nat_le (sum * 10 + (c - 48)) 31 then up_to_31 (sum * 10 + (c - 48)) cs else None

-- at least one digit
unfoldable pub bit_number : List ℕ → Option ℕ
bit_number [] = None
bit_number (c ∷ cs) = up_to_31 0 (c ∷ cs)

abbrev pub in_order : ℕ → ℕ → Option Bits
in_order msb lsb = if nat_le lsb msb then Some (record { msb = msb; lsb = lsb }) else None

abbrev pub parts_at : List ℕ → ℕ → Option Bits
parts_at s colon = option_and_then (λ msb. option_and_then (in_order msb) (bit_number (drop (colon + 1) s))) (bit_number (take colon s))

-- `m:l`
unfoldable pub range_in : List ℕ → Option Bits
range_in s = option_and_then (parts_at s) (position (λ c. c == 58) s)

abbrev pub number_or_range : Option ℕ → Option (List ℕ) → Option Bits
number_or_range (Some n) s = Some (record { msb = n; lsb = n })
number_or_range None s = option_and_then range_in s

-- the bits that a value names, if it names any
unfoldable pub bits_in : Tree → Option Bits
bits_in t = number_or_range (number_within 0 31 t) (text_in t)

abbrev pub width_of : Bits → ℕ
width_of b = b.msb - b.lsb + 1
