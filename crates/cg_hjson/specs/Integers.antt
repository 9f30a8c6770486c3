-- The integers of documents.
use Rattle.std.specs.Prelude.{ℤ, pos, negsuc, ◌^◌, nat_lt, if◌then◌else◌, Option, Some, None}

-- the integer, if it is from -2^63 to 2^64 - 1; `negsuc n` is -(n + 1)
abbrev pub in_range : ℤ → Option ℤ
in_range (pos n) = if nat_lt n (2 ^ 64) then Some (pos n) else None
in_range (negsuc n) = if nat_lt n (2 ^ 63) then Some (negsuc n) else None
