-- What the reader's states stand for: states of the machine.
use Rattle.std.specs.Prelude.{ℕ, ◌≡◌, Bool, true, ◌&&◌, not, if◌then◌else◌, List, [], ◌++◌, map, Option, Some, None, option_map, Result, Ok, Err, string_bytes, encode_utf8}
use Rattle.cg_docspec.specs.Characters.{is_key, is_quote}
use Rattle.cg_docspec.specs.Place.{Place}
use Rattle.cg_docspec.specs.Tree as document
use Rattle.cg_docspec.specs.Machine.Plain.{is_no_part}
use Rattle.cg_docspec.specs.Machine.Awaited as awaited
use Rattle.cg_docspec.specs.Machine.Escape as escape
use Rattle.cg_docspec.specs.Machine.Frame as frame
use Rattle.cg_docspec.specs.Machine.Now as now
use Rattle.cg_docspec.specs.Machine.Spot as spot
use Rattle.cg_docspec.specs.Machine.State as state
use Rattle.cg_hjson.specs.Views.{place_of, tree_of, trees_of, members_of}
use Rattle.cg_hjson.specs.declared.tree.Tree.{Tree}
use Rattle.cg_hjson.specs.declared.state.Awaited.{Awaited}
use Rattle.cg_hjson.specs.declared.state.Awaited.TheVariants as awaiting
use Rattle.cg_hjson.specs.declared.state.Escape.{Escape}
use Rattle.cg_hjson.specs.declared.state.Escape.TheVariants as escaping
use Rattle.cg_hjson.specs.declared.state.Frame.{Frame}
use Rattle.cg_hjson.specs.declared.state.Frame.TheVariants as frames
use Rattle.cg_hjson.specs.declared.state.Gap.{Gap}
use Rattle.cg_hjson.specs.declared.state.Now.{Now}
use Rattle.cg_hjson.specs.declared.state.Now.TheVariants as reads
use Rattle.cg_hjson.specs.declared.state.Plain.{Plain}
use Rattle.cg_hjson.specs.declared.state.Spot.{Spot}
use Rattle.cg_hjson.specs.declared.state.Spot.TheVariants as standing
use Rattle.cg_hjson.specs.declared.state.State.{State}
use Rattle.cg_hjson.specs.declared.state.Stop.{Stop}
use Rattle.cg_hjson.specs.declared.state.Stop.TheVariants.{NoDocument, Memory}

-- what may come next
abbrev pub awaited_of : Awaited → awaited.Awaited
awaited_of awaiting.Root = awaited.root
awaited_of (awaiting.Item comma) = awaited.item comma
awaited_of awaiting.Colon = awaited.colon
awaited_of awaiting.Value = awaited.value
awaited_of awaiting.End = awaited.end

-- where in a quoted string
abbrev pub escape_of : Escape → escape.Escape
escape_of escaping.Outside = escape.none
escape_of escaping.Backslash = escape.backslash
escape_of (escaping.Unit high digits v) = escape.unit high digits v
escape_of (escaping.High v) = escape.high v
escape_of (escaping.HighBackslash v) = escape.high_backslash v

-- where in a multi-line string
abbrev pub spot_of : Spot → spot.Spot
spot_of standing.Opening = spot.opening
spot_of standing.OpeningReturn = spot.opening_return
spot_of (standing.Indent n) = spot.indent n
spot_of standing.Inside = spot.inside
spot_of (standing.Quotes n) = spot.quotes n
spot_of (standing.LineReturn n) = spot.line_return n

-- what is open
abbrev pub frame_of : Frame → frame.Frame
frame_of (frames.InList at ts) = frame.in_list (place_of at) (trees_of ts)
frame_of (frames.InObject at ms) = frame.in_object (place_of at) (members_of ms)
frame_of (frames.InMember at ms key key_at) = frame.in_member (place_of at) (members_of ms) key (place_of key_at)

-- all that is open, innermost first
abbrev pub frames_of : List Frame → List frame.Frame
frames_of stack = map frame_of stack

-- what is being read
abbrev pub now_of : Now → now.Now
now_of (reads.Gap next) = now.gap (awaited_of next)
now_of (reads.GapReturn next) = now.gap_return (awaited_of next)
now_of (reads.Comment next) = now.comment (awaited_of next)
now_of (reads.Slash next at) = now.slash (awaited_of next) (place_of at)
now_of (reads.Block next star) = now.block (awaited_of next) star
now_of (reads.BlockReturn next) = now.block_return (awaited_of next)
now_of (reads.Key key at) = now.key (string_bytes key) (place_of at)
now_of (reads.Plain p) = now.plain (string_bytes p.text) (string_bytes p.blanks) p.hope (place_of p.at)
now_of (reads.PlainReturn u at) = now.plain_return (string_bytes u) (place_of at)
now_of (reads.PlainSlash u blanks at) = now.plain_slash (string_bytes u) (string_bytes blanks) (place_of at)
now_of (reads.Quoted q e) = now.quoted q.key q.quote (string_bytes q.text) (place_of q.at) (escape_of e)
now_of (reads.TwoQuotes at) = now.two_quotes (place_of at)
now_of (reads.Lines l p) = now.lines (string_bytes l.text) l.ended l.before (spot_of p) (place_of l.at)

-- a value without quotes that is being read
abbrev pub plain_of : Plain → now.Now
plain_of p = now.plain (string_bytes p.text) (string_bytes p.blanks) p.hope (place_of p.at)

-- the document's tree, once it is closed
abbrev pub found_of : Option Tree → Option document.Tree
found_of found = option_map tree_of found

-- the machine's state
abbrev pub state_of : State → state.State
state_of s = record { stack = frames_of s.stack; now = now_of s.now; found = found_of s.found }

-- the machine's state in a gap
abbrev pub gap_of : Gap → state.State
gap_of g = record { stack = frames_of g.stack; now = now.gap (awaited_of g.next); found = found_of g.found }

-- What was returned stands for what the machine says, unless memory ran out.
abbrev pub Gives : Result State Stop → Option state.State → Type 0
Gives (Ok s) o = o ≡ Some (state_of s)
Gives (Err NoDocument) o = o ≡ None
Gives (Err Memory) o = Unit {0}

-- the same of a gap
abbrev pub GivesGap : Result Gap Stop → Option state.State → Type 0
GivesGap (Ok g) o = o ≡ Some (gap_of g)
GivesGap (Err NoDocument) o = o ≡ None
GivesGap (Err Memory) o = Unit {0}

-- the first character of a key, in an object
abbrev pub begin_key : Place → List frame.Frame → ℕ → Option state.State
begin_key here stack c =
    if is_quote c then Some (state.reading stack (now.quoted true c [] here escape.none))
    else if is_key c then Some (state.reading stack (now.key (encode_utf8 c) here))
    else None

-- a value without quotes goes on: the blanks behind its text were a part of it
abbrev pub plain_more : List frame.Frame → List ℕ → List ℕ → Bool → Place → ℕ → Option state.State
plain_more stack u blanks hope at c = Some (state.reading stack (now.plain (u ++ blanks ++ encode_utf8 c) [] (hope && not (is_no_part c)) at))
