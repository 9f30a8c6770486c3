-- What is left to read in a state of the machine, in the words of the grammar: how the text there completes the
-- document T. In each definition the place and the text come last.
use Rattle.std.proofs.Common.{◌≡◌, ℕ, zero, suc, ◌≤◌, ◌⊎◌, List, [], ◌∷◌, ◌++◌, Option, Some, None, length, true, false, Bool}
use Rattle.std.specs.Prelude.{◌&&◌, ◌==◌}
use lib.Utf8.{encodes}
use Rattle.cg_docspec.specs.Characters.{backslash, close_brace, close_bracket, colon, is_space, line_feed, single_quote, slash, small_u, star}
use Rattle.cg_docspec.specs.Place.{Place, next_place, place_after}
use Rattle.cg_docspec.specs.Tree.{Member, Tree, list_of, object_of, string_of}
use Rattle.cg_docspec.specs.Gap.{Block, Gap, Line, starts}
use Rattle.cg_docspec.specs.Quoted.{IsUnit, Quoted, hex_value, is_high, is_low}
use Rattle.cg_docspec.specs.Lines.{Lines, is_nil, opened, undented, without_last_feed}
use Rattle.cg_docspec.specs.Literal.{may_follow}
use Rattle.cg_docspec.specs.Document.{Comma, KeyRun, MemberRun, Object, Value, ValueRun, trimmed}
use Rattle.cg_docspec.specs.Machine.Awaited.{Awaited}
use Rattle.cg_docspec.specs.Machine.Awaited as awaited
use Rattle.cg_docspec.specs.Machine.Escape.{Escape}
use Rattle.cg_docspec.specs.Machine.Escape as escape
use Rattle.cg_docspec.specs.Machine.Frame.{Frame}
use Rattle.cg_docspec.specs.Machine.Frame as frame
use Rattle.cg_docspec.specs.Machine.MultiLine.{flushed, quotes}
use Rattle.cg_docspec.specs.Machine.Now.{Now}
use Rattle.cg_docspec.specs.Machine.Now as now
use Rattle.cg_docspec.specs.Machine.Numeral.{is_literal, plain_tree}
use Rattle.cg_docspec.specs.Machine.Spot.{Spot}
use Rattle.cg_docspec.specs.Machine.Spot as spot
use Rattle.cg_docspec.specs.Machine.State.{State}

-- a gap, and then P
abbrev pub GapThen : (Place → List ℕ → Type 0) → Place → List ℕ → Type 0
GapThen P at s = (at1 : Place) × (s1 : List ℕ) × Gap at s at1 s1 × P at1 s1

-- optionally a comma and a gap, and then P
abbrev pub CommaThen : (Place → List ℕ → Type 0) → Place → List ℕ → Type 0
CommaThen P at s = (at1 : Place) × (s1 : List ℕ) × Comma at s at1 s1 × P at1 s1

-- the rest of a list with the values ts so far, and then K of it
abbrev pub ListRest : (Tree → Place → List ℕ → Type 0) → Place → List Tree → Place → List ℕ → Type 0
ListRest K list_at ts at s =
    (more : List Tree) × (at1 : Place) × (c : ℕ) × (s1 : List ℕ) × ValueRun at s more at1 (c ∷ s1) × (c ≡ close_bracket) × K (list_of (ts ++ more) list_at) (next_place at1 c) s1

-- the rest of an object with the members ms so far, and then K of it
abbrev pub ObjectRest : (Tree → Place → List ℕ → Type 0) → Place → List Member → Place → List ℕ → Type 0
ObjectRest K object_at ms at s =
    (more : List Member) × (at1 : Place) × (c : ℕ) × (s1 : List ℕ) × MemberRun at s more at1 (c ∷ s1) × (c ≡ close_brace) × K (object_of (ms ++ more) object_at) (next_place at1 c) s1

-- nothing is left, and T was found
abbrev pub EndRest : Option Tree → Tree → Place → List ℕ → Type 0
EndRest found T at s = (s ≡ []) × (found ≡ Some T)

-- a value was just closed
abbrev pub AfterValue : Tree → List Frame → Tree → Place → List ℕ → Type 0
AfterValue T [] t at s = GapThen (EndRest (Some t) T) at s
AfterValue T (frame.in_list list_at ts ∷ outer) t at s = GapThen (CommaThen (ListRest (AfterValue T outer) list_at (ts ++ t ∷ []))) at s
AfterValue T (frame.in_member object_at ms k key_at ∷ outer) t at s =
    GapThen (CommaThen (ObjectRest (AfterValue T outer) object_at (ms ++ record { key = k; key_place = key_at; value = t } ∷ []))) at s
AfterValue T (frame.in_object object_at ms ∷ outer) t at s = ⊥

-- the rest of what is open innermost
abbrev pub ItemRest : Tree → List Frame → Place → List ℕ → Type 0
ItemRest T [] at s = ⊥
ItemRest T (frame.in_list list_at ts ∷ outer) at s = ListRest (AfterValue T outer) list_at ts at s
ItemRest T (frame.in_object object_at ms ∷ outer) at s = ObjectRest (AfterValue T outer) object_at ms at s
ItemRest T (frame.in_member object_at ms k key_at ∷ outer) at s = ⊥

-- a value, and what stands behind it
abbrev pub ValueThen : Tree → List Frame → Place → List ℕ → Type 0
ValueThen T stack at s = (t : Tree) × (at1 : Place) × (s1 : List ℕ) × Value at s t at1 s1 × AfterValue T stack t at1 s1

-- what stands behind a gap
abbrev pub AwaitedThen : Tree → List Frame → Option Tree → Awaited → Place → List ℕ → Type 0
AwaitedThen T stack found awaited.root at s = (t : Tree) × (at1 : Place) × (s1 : List ℕ) × Object at s t at1 s1 × AfterValue T stack t at1 s1
AwaitedThen T stack found (awaited.item true) at s = CommaThen (ItemRest T stack) at s
AwaitedThen T stack found (awaited.item false) at s = ItemRest T stack at s
AwaitedThen T stack found awaited.colon at s = (c : ℕ) × (s1 : List ℕ) × (s ≡ c ∷ s1) × (c ≡ colon) × GapThen (ValueThen T stack) (next_place at c) s1
AwaitedThen T stack found awaited.value at s = ValueThen T stack at s
AwaitedThen T stack found awaited.end at s = EndRest found T at s

-- behind a key
abbrev pub KeyThen : Tree → List Frame → List ℕ → Place → Place → List ℕ → Type 0
KeyThen T [] k key_at at s = ⊥
KeyThen T (frame.in_object object_at ms ∷ outer) k key_at at s = GapThen (AwaitedThen T (frame.in_member object_at ms k key_at ∷ outer) None awaited.colon) at s
KeyThen T (frame.in_list list_at ts ∷ outer) k key_at at s = ⊥
KeyThen T (frame.in_member object_at ms k1 key_at1 ∷ outer) k key_at at s = ⊥

-- a carriage return stands before: a line feed comes
abbrev pub FeedThen : (Place → List ℕ → Type 0) → Place → List ℕ → Type 0
FeedThen P at s = (s1 : List ℕ) × (s ≡ line_feed ∷ s1) × P (next_place at line_feed) s1

-- one character stands before
abbrev pub BehindOne : ℕ → (Place → List ℕ → Type 0) → Place → List ℕ → Type 0
BehindOne c P at s = (at0 : Place) → next_place at0 c ≡ at → P at0 (c ∷ s)

-- the rest of a comment up to */, and then P
abbrev pub BlockThen : (Place → List ℕ → Type 0) → Place → List ℕ → Type 0
BlockThen P at s = (at1 : Place) × (s1 : List ℕ) × Block at s at1 s1 × P at1 s1

-- ---- literals and unquoted strings: the characters uc were read, and the spaces and tabs bc behind them

-- the bytes of u are a literal, which is taken before r
abbrev pub is_taken : List ℕ → List ℕ → Bool
is_taken u r = is_literal (encodes u) && may_follow r

-- a literal is taken that ends in x, and what stands behind it
abbrev pub TakenThen : Tree → List Frame → Place → List ℕ → List ℕ → Type 0
TakenThen T stack at0 uc x =
    (v : List ℕ) × (r : List ℕ) × (x ≡ v ++ r) × (is_taken (uc ++ v) r ≡ true) × AfterValue T stack (plain_tree (encodes (uc ++ v)) at0) (place_after at0 (uc ++ v)) r

-- no literal that ends in x is taken
abbrev pub NoneTaken : List ℕ → List ℕ → Type 0
NoneTaken uc x = (v r : List ℕ) → x ≡ v ++ r → is_taken (uc ++ v) r ≡ false

-- no literal is taken, and the string runs to the line's end
abbrev pub UnquotedThen : Tree → List Frame → Place → List ℕ → List ℕ → Place → List ℕ → Type 0
UnquotedThen T stack at0 uc bc at s =
    NoneTaken uc (bc ++ s) × (w : List ℕ) × (at1 : Place) × (s1 : List ℕ) × Line at s w at1 s1 × AfterValue T stack (string_of (encodes (trimmed (uc ++ (bc ++ w)))) at0) at1 s1

-- spaces and tabs
abbrev pub are_spaces : List ℕ → Bool
are_spaces [] = true
are_spaces (c ∷ s) = is_space c && are_spaces s

-- u and blanks are the bytes of uc and bc, which were read from at0 to at; without hope no literal begins with uc
pub record PlainRead (u blanks : List ℕ) (hope : Bool) (uc bc : List ℕ) (at0 at : Place) : Type 0 where
  pub text : encodes uc ≡ u
  pub behind : encodes bc ≡ blanks
  pub spaces : are_spaces bc ≡ true
  pub solid : trimmed (uc ++ bc) ≡ uc
  pub at_end : place_after at0 (uc ++ bc) ≡ at
  pub hopeless : hope ≡ false → (x : List ℕ) → is_literal (encodes (uc ++ x)) ≡ false

-- a literal, or an unquoted string
abbrev pub PlainThen : Tree → List Frame → List ℕ → List ℕ → Bool → Place → Place → List ℕ → Type 0
PlainThen T stack u blanks hope at0 at s =
    (uc bc : List ℕ) → PlainRead u blanks hope uc bc at0 at → TakenThen T stack at0 uc (bc ++ s) ⊎ UnquotedThen T stack at0 uc bc at s

-- ---- quoted strings

-- the rest of a string that begins with u, and then K of it
abbrev pub QuotedThen : ℕ → List ℕ → (List ℕ → Place → List ℕ → Type 0) → Place → List ℕ → Type 0
QuotedThen q u K at s = (v : List ℕ) × (at1 : Place) × (s1 : List ℕ) × Quoted q at s v at1 s1 × K (u ++ v) at1 s1

-- the digits of a low surrogate, as far as they were read
abbrev pub LowDigits : ℕ → ℕ → Type 0
LowDigits zero v = Unit {0}
LowDigits (suc zero) v = v ≡ 13
LowDigits (suc (suc zero)) v = (220 ≤ v) × (v ≤ 223)
LowDigits (suc (suc (suc zero))) v = (3520 ≤ v) × (v ≤ 3583)
LowDigits (suc (suc (suc (suc n)))) v = is_low v ≡ true

-- the same in an escape, which is read again from its backslash
abbrev pub EscapeThen : ℕ → List ℕ → (List ℕ → Place → List ℕ → Type 0) → Escape → Place → List ℕ → Type 0
EscapeThen q u K escape.none at s = QuotedThen q u K at s
EscapeThen q u K escape.backslash at s = (at0 : Place) → next_place at0 backslash ≡ at → QuotedThen q u K at0 (backslash ∷ s)
EscapeThen q u K (escape.unit None n v) at s =
    (x : List ℕ) (at0 : Place) → length x ≡ n → hex_value (Some 0) x ≡ Some v → place_after at0 (backslash ∷ small_u ∷ x) ≡ at → QuotedThen q u K at0 (backslash ∷ small_u ∷ (x ++ s))
EscapeThen q u K (escape.unit (Some h) n v) at s =
    (x y : List ℕ) (at0 : Place) → IsUnit x h → is_high h ≡ true → length y ≡ n → hex_value (Some 0) y ≡ Some v → LowDigits n v →
    place_after (next_place (next_place (place_after at0 (backslash ∷ small_u ∷ x)) backslash) small_u) y ≡ at → QuotedThen q u K at0 (backslash ∷ small_u ∷ (x ++ (backslash ∷ small_u ∷ (y ++ s))))
EscapeThen q u K (escape.high h) at s =
    (x : List ℕ) (at0 : Place) → IsUnit x h → is_high h ≡ true → place_after at0 (backslash ∷ small_u ∷ x) ≡ at → QuotedThen q u K at0 (backslash ∷ small_u ∷ (x ++ s))
EscapeThen q u K (escape.high_backslash h) at s =
    (x : List ℕ) (at0 : Place) → IsUnit x h → is_high h ≡ true → next_place (place_after at0 (backslash ∷ small_u ∷ x)) backslash ≡ at → QuotedThen q u K at0 (backslash ∷ small_u ∷ (x ++ backslash ∷ s))

-- what stands behind a string
abbrev pub StringThen : Tree → List Frame → Place → List ℕ → Place → List ℕ → Type 0
StringThen T stack at0 u at s = AfterValue T stack (string_of u at0) at s

-- what stands behind a key, or behind a string
abbrev pub KeyOrString : Tree → List Frame → Bool → Place → List ℕ → Place → List ℕ → Type 0
KeyOrString T stack true at0 k at s = KeyThen T stack k at0 at s
KeyOrString T stack false at0 u at s = StringThen T stack at0 u at s

-- a quoted key; a quoted value, or one that two quotes begin
abbrev pub OutsideThen : Tree → List Frame → Bool → ℕ → List ℕ → Place → Place → List ℕ → Type 0
OutsideThen T stack true q u at0 at s = QuotedThen q u (KeyOrString T stack true at0) at s
OutsideThen T stack false q u at0 at s =
    ((is_nil u && (q == single_quote && starts (single_quote ∷ single_quote ∷ []) s) ≡ false) × QuotedThen q u (KeyOrString T stack false at0) at s) ⊎
    ((is_nil u ≡ true) × (next_place at0 q ≡ at → ValueThen T stack at0 (q ∷ s)))

-- the rest of a quoted string
abbrev pub QuotedLeft : Tree → List Frame → Bool → ℕ → List ℕ → Place → Escape → Place → List ℕ → Type 0
QuotedLeft T stack key q u at0 escape.none at s = OutsideThen T stack key q u at0 at s
QuotedLeft T stack key q u at0 e at s = EscapeThen q u (KeyOrString T stack key at0) e at s

-- ---- multi-line strings

-- a line end that was held back
abbrev pub pending : Bool → List ℕ
pending true = line_feed ∷ []
pending false = []

-- the rest of a multi-line string, whose characters become the string by f
abbrev pub LinesThen : Tree → List Frame → List ℕ → Bool → Place → (List ℕ → List ℕ) → Place → List ℕ → Type 0
LinesThen T stack u ended at0 f at s =
    (w : List ℕ) × (at1 : Place) × (s1 : List ℕ) × Lines at s w at1 s1 × StringThen T stack at0 (u ++ encodes (without_last_feed (pending ended ++ f w))) at1 s1

-- the same at each spot
abbrev pub LinesLeft : Tree → List Frame → List ℕ → Bool → ℕ → Spot → Place → Place → List ℕ → Type 0
LinesLeft T stack u ended k spot.opening at0 at s = LinesThen T stack u ended at0 (opened k) at s
LinesLeft T stack u ended k spot.opening_return at0 at s = FeedThen (LinesThen T stack u ended at0 (undented k k)) at s
LinesLeft T stack u ended k (spot.indent n) at0 at s = LinesThen T stack u ended at0 (undented k n) at s
LinesLeft T stack u ended k spot.inside at0 at s = LinesThen T stack u ended at0 (undented k 0) at s
LinesLeft T stack u ended k (spot.quotes n) at0 at s = (at1 : Place) → place_after at1 (quotes n) ≡ at → LinesThen T stack u ended at0 (undented k 0) at1 (quotes n ++ s)
LinesLeft T stack u ended k (spot.line_return n) at0 at s = FeedThen (LinesThen T stack (flushed u ended ++ quotes n) true at0 (undented k k)) at s

-- ---- all states

-- what is left in each state
abbrev pub LeftNow : Tree → List Frame → Option Tree → Now → Place → List ℕ → Type 0
LeftNow T stack found (now.gap p) at s = GapThen (AwaitedThen T stack found p) at s
LeftNow T stack found (now.gap_return p) at s = FeedThen (GapThen (AwaitedThen T stack found p)) at s
LeftNow T stack found (now.comment p) at s = (w : List ℕ) × (at1 : Place) × (s1 : List ℕ) × Line at s w at1 s1 × GapThen (AwaitedThen T stack found p) at1 s1
LeftNow T stack found (now.key k key_at) at s = (u : List ℕ) × (at1 : Place) × (s1 : List ℕ) × KeyRun at s u at1 s1 × KeyThen T stack (k ++ u) key_at at1 s1
LeftNow T stack found (now.plain u blanks hope at0) at s = PlainThen T stack u blanks hope at0 at s
LeftNow T stack found (now.plain_return u at0) at s = FeedThen (AfterValue T stack (plain_tree u at0)) at s
LeftNow T stack found (now.plain_slash u blanks at0) at s = is_literal u ≡ true → BehindOne slash (PlainThen T stack u blanks true at0) at s
LeftNow T stack found (now.slash p at0) at s = next_place at0 slash ≡ at → GapThen (AwaitedThen T stack found p) at0 (slash ∷ s)
LeftNow T stack found (now.block p true) at s = BehindOne star (BlockThen (GapThen (AwaitedThen T stack found p))) at s
LeftNow T stack found (now.block p false) at s = BlockThen (GapThen (AwaitedThen T stack found p)) at s
LeftNow T stack found (now.block_return p) at s = FeedThen (BlockThen (GapThen (AwaitedThen T stack found p))) at s
LeftNow T stack found (now.quoted key q u at0 e) at s = QuotedLeft T stack key q u at0 e at s
LeftNow T stack found (now.two_quotes at0) at s = next_place (next_place at0 single_quote) single_quote ≡ at → ValueThen T stack at0 (single_quote ∷ single_quote ∷ s)
LeftNow T stack found (now.lines u ended k p at0) at s = LinesLeft T stack u ended k p at0 at s

-- the same of a state, if there is one
abbrev pub LeftIn : Tree → Option State → Place → List ℕ → Type 0
LeftIn T None at s = ⊥
LeftIn T (Some σ) at s = LeftNow T σ.stack σ.found σ.now at s

-- the same as a record, from which the terms can be found
pub record Left (T : Tree) (o : Option State) (at : Place) (s : List ℕ) : Type 0 where
  pub left : LeftIn T o at s
