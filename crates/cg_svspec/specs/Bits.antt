-- Values: lists of bits, the lowest first (IEEE 1800-2017, clauses 6.8 and 11, on two-state unsigned values).
use Rattle.std.specs.Prelude.{ℕ, zero, suc, Bool, true, false, not, cond, ◌&&◌, ◌||◌, List, [], ◌∷◌, ◌/◌, ◌%◌, eqb, replicate}

abbrev pub Bits : Type 0
Bits = List Bool

-- the number's list of this width, which stands for it where it is below 2^width
unfoldable pub bits : ℕ → ℕ → Bits
bits zero n = []
bits (suc w) n = eqb (n % 2) 1 ∷ bits w (n / 2)

-- bit by bit
abbrev pub zipped : (Bool → Bool → Bool) → Bits → Bits → Bits
zipped f [] ys = []
zipped f (x ∷ xs) [] = []
zipped f (x ∷ xs) (y ∷ ys) = f x y ∷ zipped f xs ys

-- some bit is 1
abbrev pub any_bit : Bits → Bool
any_bit [] = false
any_bit (x ∷ xs) = x || any_bit xs

-- every bit is 1
abbrev pub all_bits : Bits → Bool
all_bits [] = true
all_bits (x ∷ xs) = x && all_bits xs

abbrev pub same_bit : Bool → Bool → Bool
same_bit x y = cond x y (not y)

-- the same bits
abbrev pub same_bits : Bits → Bits → Bool
same_bits [] [] = true
same_bits [] (y ∷ ys) = false
same_bits (x ∷ xs) [] = false
same_bits (x ∷ xs) (y ∷ ys) = same_bit x y && same_bits xs ys

-- the first value where the condition's bit is 1, else the second
abbrev pub chosen : Bits → Bits → Bits → Bits
chosen [] x y = y
chosen (b ∷ bs) x y = cond b x y

-- this many zeros, or ones
abbrev pub zeros : ℕ → Bits
zeros w = replicate w false

abbrev pub ones : ℕ → Bits
ones w = replicate w true
