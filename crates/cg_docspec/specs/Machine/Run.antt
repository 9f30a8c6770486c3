-- The machine's steps and runs, and what it answers.
use Rattle.std.specs.Prelude.{ℕ, ◌≡◌, nat_lt, if◌then◌else◌, List, [], ◌∷◌, Option, Some, None, option_and_then, length}
use Rattle.cg_docspec.specs.Place.{Place, origin, next_place}
use Rattle.cg_docspec.specs.Tree.{Tree}
use Rattle.cg_docspec.specs.SyntaxFault.{Answer, read, no_document, too_deep}
use Rattle.cg_docspec.specs.Machine.Awaited.{Awaited}
use Rattle.cg_docspec.specs.Machine.Awaited as awaited
use Rattle.cg_docspec.specs.Machine.Frame.{Frame}
use Rattle.cg_docspec.specs.Machine.Now.{Now}
use Rattle.cg_docspec.specs.Machine.Now as now
use Rattle.cg_docspec.specs.Machine.State.{State, start}
use Rattle.cg_docspec.specs.Machine.Token.{in_gap, in_gap_return, in_key}
use Rattle.cg_docspec.specs.Machine.Plain.{in_plain, in_plain_return, in_plain_slash}
use Rattle.cg_docspec.specs.Machine.Comment.{in_comment, in_slash, in_block, in_block_return}
use Rattle.cg_docspec.specs.Machine.Quote.{in_quoted}
use Rattle.cg_docspec.specs.Machine.MultiLine.{in_two_quotes, in_lines}

-- one character, by what is being read
abbrev pub step_now : Place → List Frame → Option Tree → Now → ℕ → Option State
step_now here stack found (now.gap next) c = in_gap here stack found next c
step_now here stack found (now.gap_return next) c = in_gap_return stack found next c
step_now here stack found (now.comment next) c = in_comment stack found next c
step_now here stack found (now.slash next at) c = in_slash here stack found next at c
step_now here stack found (now.block next after_star) c = in_block stack found next after_star c
step_now here stack found (now.block_return next) c = in_block_return stack found next c
step_now here stack found (now.key key key_place) c = in_key here stack key key_place c
step_now here stack found (now.plain u blanks hope at) c = in_plain here stack u blanks hope at c
step_now here stack found (now.plain_return u at) c = in_plain_return stack u at c
step_now here stack found (now.plain_slash u blanks at) c = in_plain_slash here stack u blanks at c
step_now here stack found (now.quoted key quote u at e) c = in_quoted stack key quote u at e c
step_now here stack found (now.two_quotes at) c = in_two_quotes here stack at c
step_now here stack found (now.lines u ended k p at) c = in_lines stack u ended k at p c

-- One character, which stands at `here`. None: no document goes on so.
unfoldable pub step : Place → State → ℕ → Option State
step here s c = step_now here s.stack s.found s.now c

-- some characters, as far as they go
abbrev pub run : Place → State → List ℕ → Option State
run at s [] = Some s
run at s (c ∷ cs) = option_and_then (λ t. run (next_place at c) t cs) (step at s c)

-- the document's tree, where the text may end
abbrev pub found_at : Option Tree → Awaited → Option Tree
found_at found awaited.end = found
found_at found next = None

-- the same by what is being read
abbrev pub found_in : Option Tree → Now → Option Tree
found_in found (now.gap next) = found_at found next
found_in found (now.comment next) = found_at found next
found_in found n = None

-- the tree of a state in which the text may end
abbrev pub whole : State → Option Tree
whole s = found_in s.found s.now

-- the machine reads these characters to a document's end, and has found its tree
abbrev pub Finds : Place → State → List ℕ → Tree → Type 0
Finds at s cs t = (end : State) × (run at s cs ≡ Some end) × (whole end ≡ Some t)

-- what the machine answers
abbrev pub ended : Place → Option Tree → Answer
ended at None = no_document at
ended at (Some t) = read t

-- the answer behind a step: no document, an opener of depth 65, or the answer of the rest
abbrev pub next_or_fault : Place → (State → Answer) → Option State → Answer
next_or_fault at more None = no_document at
next_or_fault at more (Some t) = if nat_lt 64 (length t.stack) then too_deep at else more t

-- the answer from a place and a state on
abbrev pub answer_from : Place → State → List ℕ → Answer
answer_from at s [] = ended at (whole s)
answer_from at s (c ∷ cs) = next_or_fault at (λ t. answer_from (next_place at c) t cs) (step at s c)

-- the answer to a text
abbrev pub answer : List ℕ → Answer
answer text = answer_from origin start text
