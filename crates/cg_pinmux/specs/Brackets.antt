-- The number in brackets behind a port's name, as it is read: one digit or two, and no leading zero.
use Rattle.std.specs.Prelude.{ℕ, ◌+◌, ◌*◌, ◌-◌, ◌&&◌, eqb, leb, cond, List, [], ◌∷◌, Option, Some, None}

unfoldable pub one_digit : ℕ → ℕ → ℕ → Option ℕ
one_digit first one close = cond (eqb first 91 && (leb 48 one && (leb one 57 && eqb close 93))) (Some (one - 48)) None

unfoldable pub two_digits : ℕ → ℕ → ℕ → ℕ → Option ℕ
two_digits first ten one close =
    cond (eqb first 91 && (leb 49 ten && (leb ten 57 && (leb 48 one && (leb one 57 && eqb close 93))))) (Some ((ten - 48) * 10 + (one - 48))) None

abbrev pub bit_number : List ℕ → Option ℕ
bit_number (first ∷ one ∷ close ∷ []) = one_digit first one close
bit_number (first ∷ ten ∷ one ∷ close ∷ []) = two_digits first ten one close
bit_number _ = None
