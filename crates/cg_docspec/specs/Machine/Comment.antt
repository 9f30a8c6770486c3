-- Comments.
use Rattle.std.specs.Prelude.{ℕ, Bool, false, ◌&&◌, ◌||◌, ◌==◌, not, if◌then◌else◌, List, Option, Some, None}
use Rattle.cg_docspec.specs.Characters.{line_feed, carriage_return, star, slash, is_control}
use Rattle.cg_docspec.specs.Place.{Place}
use Rattle.cg_docspec.specs.Tree.{Tree}
use Rattle.cg_docspec.specs.Machine.Awaited.{Awaited}
use Rattle.cg_docspec.specs.Machine.Frame.{Frame}
use Rattle.cg_docspec.specs.Machine.Now.{Now}
use Rattle.cg_docspec.specs.Machine.Now as now
use Rattle.cg_docspec.specs.Machine.State.{State}
use Rattle.cg_docspec.specs.Machine.Token.{begin_token, in_key}
use Rattle.cg_docspec.specs.Machine.Plain.{begun_comment, in_plain}

-- in a comment up to the line's end
unfoldable pub in_comment : List Frame → Option Tree → Awaited → ℕ → Option State
in_comment stack found next c =
    if c == line_feed then Some (record { stack = stack; now = now.gap next; found = found })
    else if c == carriage_return then Some (record { stack = stack; now = now.gap_return next; found = found })
    else if is_control c then None
    else Some (record { stack = stack; now = now.comment next; found = found })

-- A slash that began no comment is the first character of a key or of an unquoted value, which goes on.
abbrev pub begun_step : Place → State → Now → ℕ → Option State
begun_step here s (now.key key key_place) c = in_key here s.stack key key_place c
begun_step here s (now.plain u blanks hope at) c = in_plain here s.stack u blanks hope at c
begun_step here s n c = None

-- the same, if the slash may begin one
abbrev pub then_begun : Place → ℕ → Option State → Option State
then_begun here c None = None
then_begun here c (Some s) = begun_step here s s.now c

-- behind a slash in a gap
unfoldable pub in_slash : Place → List Frame → Option Tree → Awaited → Place → ℕ → Option State
in_slash here stack found next at c =
    if c == slash || c == star then Some (record { stack = stack; now = begun_comment c next; found = found })
    else then_begun here c (begin_token at stack next slash)

-- in a comment up to */
unfoldable pub in_block : List Frame → Option Tree → Awaited → Bool → ℕ → Option State
in_block stack found next after_star c =
    if c == slash && after_star then Some (record { stack = stack; now = now.gap next; found = found })
    else if c == carriage_return then Some (record { stack = stack; now = now.block_return next; found = found })
    else if is_control c && not (c == line_feed) then None
    else Some (record { stack = stack; now = now.block next (c == star); found = found })

-- behind a carriage return in such a comment
unfoldable pub in_block_return : List Frame → Option Tree → Awaited → ℕ → Option State
in_block_return stack found next c = if c == line_feed then Some (record { stack = stack; now = now.block next false; found = found }) else None
