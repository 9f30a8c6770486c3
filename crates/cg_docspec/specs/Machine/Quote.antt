-- Quoted strings.
use Rattle.std.specs.Prelude.{ℕ, ◌+◌, ◌*◌, Bool, true, ◌&&◌, ◌||◌, ◌==◌, nat_lt, nat_le, not, if◌then◌else◌, cond, List, ◌++◌, Option, Some, None, is_some, encode_utf8}
use lib.Utf8.{scalar}
use Rattle.cg_docspec.specs.Characters.{single_quote, backslash, small_u, is_control}
use Rattle.cg_docspec.specs.Place.{Place}
use Rattle.cg_docspec.specs.Tree.{string_of}
use Rattle.cg_docspec.specs.Quoted.{escaped, hex, is_high, paired}
use Rattle.cg_docspec.specs.Lines.{is_nil}
use Rattle.cg_docspec.specs.Machine.Frame.{Frame}
use Rattle.cg_docspec.specs.Machine.Escape.{Escape}
use Rattle.cg_docspec.specs.Machine.Escape as escape
use Rattle.cg_docspec.specs.Machine.Now as now
use Rattle.cg_docspec.specs.Machine.State.{State, reading}
use Rattle.cg_docspec.specs.Machine.Closing.{delivered, keyed}

-- the string goes on behind one character more, and in an escape
abbrev pub quoted_more : List Frame → Bool → ℕ → List ℕ → Place → ℕ → Option State
quoted_more stack key quote u at c = Some (reading stack (now.quoted key quote (u ++ encode_utf8 c) at escape.none))

-- the string goes on in an escape
abbrev pub quoted_escape : List Frame → Bool → ℕ → List ℕ → Place → Escape → Option State
quoted_escape stack key quote u at e = Some (reading stack (now.quoted key quote u at e))

-- The closing quote. Two single ones of a value may begin a multi-line string.
unfoldable pub quoted_end : List Frame → Bool → ℕ → List ℕ → Place → Option State
quoted_end stack key quote u at =
    if key then keyed stack u at
    else if quote == single_quote && is_nil u then Some (reading stack (now.two_quotes at))
    else delivered stack (string_of u at)

-- in no escape
unfoldable pub outside_escape : List Frame → Bool → ℕ → List ℕ → Place → ℕ → Option State
outside_escape stack key quote u at c =
    if c == quote then quoted_end stack key quote u at
    else if c == backslash then quoted_escape stack key quote u at escape.backslash
    else if is_control c then None
    else quoted_more stack key quote u at c

-- the character of an escape, if there is one
abbrev pub escape_more : List Frame → Bool → ℕ → List ℕ → Place → Option ℕ → Option State
escape_more stack key quote u at None = None
escape_more stack key quote u at (Some c) = quoted_more stack key quote u at c

-- behind a backslash
unfoldable pub behind_backslash : List Frame → Bool → ℕ → List ℕ → Place → ℕ → Option State
behind_backslash stack key quote u at c =
    if c == small_u then quoted_escape stack key quote u at (escape.unit None 0 0) else escape_more stack key quote u at (escaped c)

-- The first digits of a unit that may stand: a low surrogate stands behind a high one, and nothing else does.
abbrev pub may_stand : Bool → ℕ → ℕ → Bool
may_stand behind_high digits v =
    if digits == 1 then not behind_high || v == 13
    else if digits == 2 then cond behind_high (nat_le 220 v) (nat_lt v 220 || nat_lt 223 v)
    else true

-- a character, if the number is one
abbrev pub scalar_or_none : ℕ → Option ℕ
scalar_or_none v = if scalar v then Some v else None

-- a unit of four digits
abbrev pub unit_end : List Frame → Bool → ℕ → List ℕ → Place → Option ℕ → ℕ → Option State
unit_end stack key quote u at None v =
    if is_high v then quoted_escape stack key quote u at (escape.high v) else escape_more stack key quote u at (scalar_or_none v)
unit_end stack key quote u at (Some high) v = escape_more stack key quote u at (scalar_or_none (paired high v))

-- one digit more
abbrev pub unit_digit : List Frame → Bool → ℕ → List ℕ → Place → Option ℕ → ℕ → ℕ → Option State
unit_digit stack key quote u at high digits v =
    if not (may_stand (is_some high) digits v) then None
    else if nat_lt digits 4 then quoted_escape stack key quote u at (escape.unit high digits v)
    else unit_end stack key quote u at high v

-- one digit more, if it is one
abbrev pub unit_with : List Frame → Bool → ℕ → List ℕ → Place → Option ℕ → ℕ → ℕ → Option ℕ → Option State
unit_with stack key quote u at high digits v None = None
unit_with stack key quote u at high digits v (Some d) = unit_digit stack key quote u at high (digits + 1) (v * 16 + d)

-- in the digits of a unit
unfoldable pub in_unit : List Frame → Bool → ℕ → List ℕ → Place → Option ℕ → ℕ → ℕ → ℕ → Option State
in_unit stack key quote u at high digits v c =
    if nat_lt digits 4 && nat_lt v 4096 then unit_with stack key quote u at high digits v (hex c) else None

-- in a quoted string
unfoldable pub in_quoted : List Frame → Bool → ℕ → List ℕ → Place → Escape → ℕ → Option State
in_quoted stack key quote u at escape.none c = outside_escape stack key quote u at c
in_quoted stack key quote u at escape.backslash c = behind_backslash stack key quote u at c
in_quoted stack key quote u at (escape.unit high digits v) c = in_unit stack key quote u at high digits v c
in_quoted stack key quote u at (escape.high high) c = if c == backslash then quoted_escape stack key quote u at (escape.high_backslash high) else None
in_quoted stack key quote u at (escape.high_backslash high) c = if c == small_u then quoted_escape stack key quote u at (escape.unit (Some high) 0 0) else None
