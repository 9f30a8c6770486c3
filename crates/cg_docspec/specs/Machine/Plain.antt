-- Literals and unquoted strings.
use Rattle.std.specs.Prelude.{ℕ, Bool, false, ◌&&◌, ◌||◌, ◌==◌, not, if◌then◌else◌, List, [], ◌∷◌, ◌++◌, Option, Some, None, encode_utf8}
use Rattle.cg_docspec.specs.Characters.{line_feed, carriage_return, star, slash, is_space, is_control}
use Rattle.cg_docspec.specs.Place.{Place}
use Rattle.cg_docspec.specs.Literal.{ends_literal}
use Rattle.cg_docspec.specs.Machine.Awaited.{Awaited}
use Rattle.cg_docspec.specs.Machine.Awaited as awaited
use Rattle.cg_docspec.specs.Machine.Frame.{Frame}
use Rattle.cg_docspec.specs.Machine.Now.{Now}
use Rattle.cg_docspec.specs.Machine.Now as now
use Rattle.cg_docspec.specs.Machine.State.{State, reading}
use Rattle.cg_docspec.specs.Machine.Numeral.{is_literal, plain_tree}
use Rattle.cg_docspec.specs.Machine.Closing.{delivered}
use Rattle.cg_docspec.specs.Machine.Token.{then_gap}

-- one of the characters behind which a literal may end, and which stand in none
abbrev pub is_no_part : ℕ → Bool
is_no_part c = ends_literal c || c == slash

-- In a value without quotes: u was read, then the spaces and tabs in blanks. `hope` is whether it may still be a
-- literal, so that the question whether u is one is asked once. It is one where one of , ] } # comes next, or a comment.
unfoldable pub in_plain : Place → List Frame → List ℕ → List ℕ → Bool → Place → ℕ → Option State
in_plain here stack u blanks hope at c =
    if c == line_feed then delivered stack (plain_tree u at)
    else if c == carriage_return then Some (reading stack (now.plain_return u at))
    else if ends_literal c && (hope && is_literal u) then then_gap here c (delivered stack (plain_tree u at))
    else if c == slash && (hope && is_literal u) then Some (reading stack (now.plain_slash u blanks at))
    else if is_space c then Some (reading stack (now.plain u (blanks ++ encode_utf8 c) hope at))
    else if is_control c then None
    else Some (reading stack (now.plain (u ++ blanks ++ encode_utf8 c) [] (hope && not (is_no_part c)) at))

-- behind a carriage return
unfoldable pub in_plain_return : List Frame → List ℕ → Place → ℕ → Option State
in_plain_return stack u at c = if c == line_feed then delivered stack (plain_tree u at) else None

-- the comment that a second slash or a star begins
abbrev pub begun_comment : ℕ → Awaited → Now
begun_comment c next = if c == slash then now.comment next else now.block next false

-- what may come next behind a gap
abbrev pub awaited_in : Now → Awaited
awaited_in (now.gap next) = next
awaited_in n = awaited.end

-- a literal is closed, and behind it a comment began
abbrev pub then_comment : ℕ → Option State → Option State
then_comment c None = None
then_comment c (Some s) = Some (record { stack = s.stack; now = begun_comment c (awaited_in s.now); found = s.found })

-- behind a literal and a slash
unfoldable pub in_plain_slash : Place → List Frame → List ℕ → List ℕ → Place → ℕ → Option State
in_plain_slash here stack u blanks at c =
    if c == slash || c == star then then_comment c (delivered stack (plain_tree u at))
    else in_plain here stack (u ++ blanks ++ slash ∷ []) [] false at c
