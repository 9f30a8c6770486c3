-- Numbers of lists of bits, the lowest first.
use Rattle.std.specs.Prelude.{ℕ, zero, suc, ◌+◌, ◌*◌, [], ◌∷◌, cond}
use Rattle.cg_svspec.specs.Bits.{Bits}

-- the number of the lowest bits, at most this many
abbrev pub number_of : ℕ → Bits → ℕ
number_of zero xs = 0
number_of (suc k) [] = 0
number_of (suc k) (x ∷ xs) = cond x 1 0 + 2 * number_of k xs
