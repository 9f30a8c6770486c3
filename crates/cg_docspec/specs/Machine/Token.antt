-- Gaps, and the first characters of what stands behind them.
use Rattle.std.specs.Prelude.{ℕ, true, false, ◌&&◌, ◌||◌, ◌==◌, if◌then◌else◌, List, [], ◌∷◌, ◌++◌, Option, Some, None, encode_utf8}
use Rattle.cg_docspec.specs.Characters.{line_feed, carriage_return, hash, comma, slash, colon, open_bracket, close_bracket, open_brace, close_brace, is_blank, is_control, is_mark, is_key, is_quote}
use Rattle.cg_docspec.specs.Place.{Place}
use Rattle.cg_docspec.specs.Tree.{Tree, list_of, object_of}
use Rattle.cg_docspec.specs.Machine.Awaited.{Awaited}
use Rattle.cg_docspec.specs.Machine.Awaited as awaited
use Rattle.cg_docspec.specs.Machine.Frame.{Frame, in_list, in_object, in_member}
use Rattle.cg_docspec.specs.Machine.Escape as escape
use Rattle.cg_docspec.specs.Machine.Now.{Now}
use Rattle.cg_docspec.specs.Machine.Now as now
use Rattle.cg_docspec.specs.Machine.State.{State, reading}
use Rattle.cg_docspec.specs.Machine.Closing.{delivered, keyed}

-- an object or a list opens
abbrev pub opened_object : Place → List Frame → State
opened_object here stack = reading (in_object here [] ∷ stack) (now.gap (awaited.item false))

-- a list opens
abbrev pub opened_list : Place → List Frame → State
opened_list here stack = reading (in_list here [] ∷ stack) (now.gap (awaited.item false))

-- the first character of a value
unfoldable pub begin_value : Place → List Frame → ℕ → Option State
begin_value here stack c =
    if c == open_brace then Some (opened_object here stack)
    else if c == open_bracket then Some (opened_list here stack)
    else if is_mark c || is_control c then None
    else if is_quote c then Some (reading stack (now.quoted false c [] here escape.none))
    else Some (reading stack (now.plain (encode_utf8 c) [] true here))

-- the first character of a value of a list or a member of an object, or what closes it
unfoldable pub begin_item : Place → List Frame → ℕ → Option State
begin_item here [] c = None
begin_item here (in_list at ts ∷ outer) c = if c == close_bracket then delivered outer (list_of ts at) else begin_value here (in_list at ts ∷ outer) c
begin_item here (in_object at ms ∷ outer) c =
    if c == close_brace then delivered outer (object_of ms at)
    else if is_quote c then Some (reading (in_object at ms ∷ outer) (now.quoted true c [] here escape.none))
    else if is_key c then Some (reading (in_object at ms ∷ outer) (now.key (encode_utf8 c) here))
    else None
begin_item here (in_member at ms key key_place ∷ outer) c = None

-- the first character behind a gap
unfoldable pub begin_token : Place → List Frame → Awaited → ℕ → Option State
begin_token here stack awaited.root c = if c == open_brace then Some (opened_object here stack) else None
begin_token here stack (awaited.item may_comma) c = if may_comma && c == comma then Some (reading stack (now.gap (awaited.item false))) else begin_item here stack c
begin_token here stack awaited.colon c = if c == colon then Some (reading stack (now.gap awaited.value)) else None
begin_token here stack awaited.value c = begin_value here stack c
begin_token here stack awaited.end c = None

-- in a gap
unfoldable pub in_gap : Place → List Frame → Option Tree → Awaited → ℕ → Option State
in_gap here stack found next c =
    if is_blank c then Some (record { stack = stack; now = now.gap next; found = found })
    else if c == carriage_return then Some (record { stack = stack; now = now.gap_return next; found = found })
    else if c == hash then Some (record { stack = stack; now = now.comment next; found = found })
    else if c == slash then Some (record { stack = stack; now = now.slash next here; found = found })
    else begin_token here stack next c

-- behind a carriage return in a gap
unfoldable pub in_gap_return : List Frame → Option Tree → Awaited → ℕ → Option State
in_gap_return stack found next c = if c == line_feed then Some (record { stack = stack; now = now.gap next; found = found }) else None

-- The character behind a value or a key whose end shows by it: it is the first of the gap.
abbrev pub gap_step : Place → State → Now → ℕ → Option State
gap_step here s (now.gap next) c = in_gap here s.stack s.found next c
gap_step here s n c = None

-- the same, if there is a state
abbrev pub then_gap : Place → ℕ → Option State → Option State
then_gap here c None = None
then_gap here c (Some s) = gap_step here s s.now c

-- in a key without quotes
unfoldable pub in_key : Place → List Frame → List ℕ → Place → ℕ → Option State
in_key here stack key key_place c =
    if is_key c then Some (reading stack (now.key (key ++ encode_utf8 c) key_place)) else then_gap here c (keyed stack key key_place)
