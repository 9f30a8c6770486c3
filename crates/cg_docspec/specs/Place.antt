-- Places in a text: the bytes before them, their line and their column.
use Rattle.std.specs.Prelude.{ℕ, ◌+◌, ◌==◌, if◌then◌else◌, List, [], ◌∷◌}
use Rattle.std.specs.Char.{len_utf8}
use Rattle.cg_docspec.specs.Characters.{line_feed}

-- Lines and columns count from 1. A column counts characters, a byte place counts bytes.
pub record Place : Type 0 where
  pub byte : ℕ
  pub line : ℕ
  pub column : ℕ

-- where a text begins
abbrev pub origin : Place
origin = record { byte = 0; line = 1; column = 1 }

-- the place behind a character; a line feed ends its line
abbrev pub next_place : Place → ℕ → Place
next_place at c =
    if c == line_feed then record { byte = at.byte + 1; line = at.line + 1; column = 1 }
    else record { byte = at.byte + len_utf8 c; line = at.line; column = at.column + 1 }

-- the place behind some characters
abbrev pub place_after : Place → List ℕ → Place
place_after at [] = at
place_after at (c ∷ s) = place_after (next_place at c) s
