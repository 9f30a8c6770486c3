-- Multi-line strings. A line end and quotes are held back until it shows that the string goes on behind them.
use Rattle.std.specs.Prelude.{ℕ, ◌+◌, ◌-◌, Bool, true, false, ◌&&◌, ◌==◌, nat_lt, if◌then◌else◌, List, [], ◌∷◌, ◌++◌, Option, Some, None, encode_utf8}
use Rattle.cg_docspec.specs.Characters.{line_feed, carriage_return, single_quote, is_space, is_control}
use Rattle.cg_docspec.specs.Place.{Place}
use Rattle.cg_docspec.specs.Tree.{string_of}
use Rattle.cg_docspec.specs.Machine.Frame.{Frame}
use Rattle.cg_docspec.specs.Machine.Spot.{Spot}
use Rattle.cg_docspec.specs.Machine.Spot as spot
use Rattle.cg_docspec.specs.Machine.Now as now
use Rattle.cg_docspec.specs.Machine.State.{State, reading}
use Rattle.cg_docspec.specs.Machine.Closing.{delivered}
use Rattle.cg_docspec.specs.Machine.Token.{then_gap}

-- behind two single quotes, where a value stands
unfoldable pub in_two_quotes : Place → List Frame → Place → ℕ → Option State
in_two_quotes here stack at c =
    if c == single_quote then Some (reading stack (now.lines [] false (at.column - 1) spot.opening at))
    else then_gap here c (delivered stack (string_of [] at))

-- the text with the line end that was held back
abbrev pub flushed : List ℕ → Bool → List ℕ
flushed u ended = if ended then u ++ line_feed ∷ [] else u

-- quotes that were held back, two at most
abbrev pub quotes : ℕ → List ℕ
quotes n = if n == 0 then [] else if n == 1 then single_quote ∷ [] else single_quote ∷ single_quote ∷ []

-- the string goes on at this spot
abbrev pub lines_on : List Frame → List ℕ → Bool → ℕ → Spot → Place → Option State
lines_on stack u ended k p at = Some (reading stack (now.lines u ended k p at))

-- a line ends behind n quotes
abbrev pub line_ends : List Frame → List ℕ → Bool → ℕ → ℕ → Place → Option State
line_ends stack u ended k n at = lines_on stack (flushed u ended ++ quotes n) true k (spot.indent k) at

-- A character inside a line, behind n quotes. Three quotes end the string.
unfoldable pub inside_line : List Frame → List ℕ → Bool → ℕ → ℕ → Place → ℕ → Option State
inside_line stack u ended k n at c =
    if c == single_quote then (if nat_lt n 2 then lines_on stack u ended k (spot.quotes (n + 1)) at else delivered stack (string_of u at))
    else if c == line_feed then line_ends stack u ended k n at
    else if c == carriage_return then lines_on stack u ended k (spot.line_return n) at
    else if is_control c then None
    else lines_on stack (flushed u ended ++ quotes n ++ encode_utf8 c) false k spot.inside at

-- in a multi-line string
unfoldable pub in_lines : List Frame → List ℕ → Bool → ℕ → Place → Spot → ℕ → Option State
in_lines stack u ended k at spot.opening c =
    if is_space c then lines_on stack u ended k spot.opening at
    else if c == line_feed then lines_on stack u ended k (spot.indent k) at
    else if c == carriage_return then lines_on stack u ended k spot.opening_return at
    else inside_line stack u ended k 0 at c
in_lines stack u ended k at spot.opening_return c = if c == line_feed then lines_on stack u ended k (spot.indent k) at else None
in_lines stack u ended k at (spot.indent n) c =
    if is_space c && nat_lt 0 n then lines_on stack u ended k (spot.indent (n - 1)) at
    else inside_line stack u ended k 0 at c
in_lines stack u ended k at spot.inside c = inside_line stack u ended k 0 at c
in_lines stack u ended k at (spot.quotes n) c = inside_line stack u ended k n at c
in_lines stack u ended k at (spot.line_return n) c = if c == line_feed then line_ends stack u ended k n at else None
