-- What reading a header answers. On want of memory it tells nothing of the text.
use Rattle.std.specs.Prelude.{ℕ, ◌≡◌, List, map, Result, Ok, Err}
use Rattle.cg_hdrspec.specs.Header as header
use Rattle.cg_hdrspec.specs.Header.{IsHeader}
use Rattle.cg_hdrspec.specs.HeaderFault.{IsFirstFormless, Answer, constants, formless}
use Rattle.cg_blkhdr.specs.declared.Constant.{Constant}
use Rattle.cg_blkhdr.specs.declared.reading.HdrFault.{HdrFault}
use Rattle.cg_blkhdr.specs.declared.reading.HdrFault.TheVariants.{NotHeader, Memory}

-- the constant for which one of the program stands
abbrev pub constant_of : Constant → header.Constant
constant_of c = header.constant c.name c.value

-- The call tells the truth: the constants of a header, or the first line without a form in its place.
abbrev pub IsRight : List ℕ → Result (List Constant) HdrFault → Type 0
IsRight text (Ok cs) = IsHeader text (map constant_of cs)
IsRight text (Err (NotHeader k)) = IsFirstFormless text k
IsRight text (Err Memory) = Unit {0}

-- The call tells this answer, and no other.
abbrev pub Tells : Answer → Result (List Constant) HdrFault → Type 0
Tells a (Ok cs) = a ≡ constants (map constant_of cs)
Tells a (Err (NotHeader k)) = a ≡ formless k
Tells a (Err Memory) = Unit {0}
