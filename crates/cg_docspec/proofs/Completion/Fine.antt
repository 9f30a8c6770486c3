-- What holds of the states that the machine comes to.
use Rattle.std.proofs.Common.{◌≡◌, ℕ, zero, suc, ◌+◌, ◌<◌, ◌⊎◌, inl, inr, List, [], ◌∷◌, ◌++◌, Option, Some, None, refl, arith, true, false, Bool, subst, sym}
use Rattle.std.specs.Prelude.{◌*◌, cond, ◌&&◌, ◌||◌, ◌==◌, not, nat_lt, option_and_then}
use Rattle.std.proofs.lemmas.Bool.Decides.{nat_tests}
use Rattle.cg_docspec.specs.Characters.{backslash, close_brace, close_bracket, colon, comma, hash, is_blank, is_control, is_key, is_mark, is_quote, line_feed, open_brace, open_bracket, single_quote, slash, small_u, star}
use Rattle.cg_docspec.specs.Place.{Place, next_place}
use Rattle.cg_docspec.specs.Tree.{Tree}
use Rattle.cg_docspec.specs.Quoted.{escaped, hex, is_high}
use Rattle.cg_docspec.specs.Lines.{is_nil}
use Rattle.cg_docspec.specs.Literal.{ends_literal}
use Rattle.cg_docspec.specs.Machine.Awaited.{Awaited}
use Rattle.cg_docspec.specs.Machine.Awaited as awaited
use Rattle.cg_docspec.specs.Machine.Closing.{delivered, keyed}
use Rattle.cg_docspec.specs.Machine.Comment.{begun_step, in_block, in_block_return, in_comment, in_slash, then_begun}
use Rattle.cg_docspec.specs.Machine.Escape.{Escape}
use Rattle.cg_docspec.specs.Machine.Escape as escape
use Rattle.cg_docspec.specs.Machine.Frame.{Frame}
use Rattle.cg_docspec.specs.Machine.Frame as frame
use Rattle.cg_docspec.specs.Machine.MultiLine.{in_lines, in_two_quotes, inside_line}
use Rattle.cg_docspec.specs.Machine.Now.{Now}
use Rattle.cg_docspec.specs.Machine.Now as now
use Rattle.cg_docspec.specs.Machine.Numeral.{is_literal}
use Rattle.cg_docspec.specs.Machine.Plain.{in_plain, in_plain_return, in_plain_slash, then_comment}
use Rattle.cg_docspec.specs.Machine.Quote.{behind_backslash, escape_more, in_quoted, in_unit, may_stand, outside_escape, quoted_end, quoted_more, scalar_or_none, unit_end, unit_with}
use Rattle.cg_docspec.specs.Machine.Run.{run, step}
use Rattle.cg_docspec.specs.Machine.Spot.{Spot}
use Rattle.cg_docspec.specs.Machine.Spot as spot
use Rattle.cg_docspec.specs.Machine.State.{State}
use Rattle.cg_docspec.specs.Machine.Token.{begin_item, begin_token, begin_value, gap_step, in_gap, in_gap_return, in_key, then_gap}
use Rattle.cg_docspec.proofs.Basics.{bool_cases, never, unnot}
use Rattle.cg_docspec.proofs.Units.{hex_small}

-- a value may be closed in it
abbrev pub TakesValue : List Frame → Type 0
TakesValue [] = Unit {0}
TakesValue (frame.in_list list_at ts ∷ outer) = TakesValue outer
TakesValue (frame.in_member object_at ms k key_at ∷ outer) = TakesValue outer
TakesValue (frame.in_object object_at ms ∷ outer) = ⊥

-- a key may be read in it
abbrev pub TakesKey : List Frame → Type 0
TakesKey [] = ⊥
TakesKey (frame.in_list list_at ts ∷ outer) = ⊥
TakesKey (frame.in_member object_at ms k key_at ∷ outer) = ⊥
TakesKey (frame.in_object object_at ms ∷ outer) = TakesValue outer

-- a member or a value may begin in it
abbrev pub TakesItem : List Frame → Type 0
TakesItem [] = ⊥
TakesItem (frame.in_list list_at ts ∷ outer) = TakesValue outer
TakesItem (frame.in_member object_at ms k key_at ∷ outer) = ⊥
TakesItem (frame.in_object object_at ms ∷ outer) = TakesValue outer

-- what may come next fits what is open
abbrev pub FineAwaited : List Frame → Option Tree → Awaited → Type 0
FineAwaited stack found awaited.root = stack ≡ []
FineAwaited stack found (awaited.item b) = TakesItem stack
FineAwaited stack found awaited.colon = TakesValue stack
FineAwaited stack found awaited.value = TakesValue stack
FineAwaited stack found awaited.end = (t : Tree) × (found ≡ Some t)

-- the digits of a unit that no high surrogate stands before
abbrev pub FirstDigits : ℕ → ℕ → Type 0
FirstDigits zero v = v ≡ 0
FirstDigits (suc zero) v = v < 16
FirstDigits (suc (suc zero)) v = (v < 220) ⊎ ((223 < v) × (v < 256))
FirstDigits (suc (suc (suc zero))) v = (v < 3520) ⊎ ((3583 < v) × (v < 4096))
FirstDigits (suc (suc (suc (suc n)))) v = ⊥

-- and of one that a high surrogate stands before
abbrev pub SecondDigits : ℕ → ℕ → Type 0
SecondDigits zero v = v ≡ 0
SecondDigits (suc zero) v = Unit {0}
SecondDigits (suc (suc zero)) v = Unit {0}
SecondDigits (suc (suc (suc zero))) v = Unit {0}
SecondDigits (suc (suc (suc (suc n)))) v = ⊥

-- the digits of a unit that was begun may be completed
abbrev pub FineEscape : Escape → Type 0
FineEscape (escape.unit None n v) = FirstDigits n v
FineEscape (escape.unit (Some h) n v) = SecondDigits n v
FineEscape e = Unit {0}

-- a quoted string is a key where a key may be read
abbrev pub FineQuoted : Bool → List Frame → Type 0
FineQuoted true stack = TakesKey stack
FineQuoted false stack = TakesValue stack

-- what is being read fits what is open
abbrev pub FineNow : List Frame → Option Tree → Now → Type 0
FineNow stack found (now.gap p) = FineAwaited stack found p
FineNow stack found (now.gap_return p) = FineAwaited stack found p
FineNow stack found (now.comment p) = FineAwaited stack found p
FineNow stack found (now.key k key_at) = TakesKey stack
FineNow stack found (now.plain u blanks hope at0) = TakesValue stack
FineNow stack found (now.plain_return u at0) = TakesValue stack
FineNow stack found (now.plain_slash u blanks at0) = TakesValue stack
FineNow stack found (now.slash p at0) = FineAwaited stack found p
FineNow stack found (now.block p after_star) = FineAwaited stack found p
FineNow stack found (now.block_return p) = FineAwaited stack found p
FineNow stack found (now.quoted key q u at0 e) = FineQuoted key stack × FineEscape e
FineNow stack found (now.two_quotes at0) = TakesValue stack
FineNow stack found (now.lines u ended k p at0) = TakesValue stack

-- the same of a state, if there is one
abbrev pub FineIn : Option State → Type 0
FineIn None = Unit {0}
FineIn (Some σ) = FineNow σ.stack σ.found σ.now

-- the same as a record
pub record Fine (o : Option State) : Type 0 where
  pub fine : FineIn o

-- both branches of a choice are fine
choice : (b : Bool) (x y : Option State) → (b ≡ true → Fine x) → (b ≡ false → Fine y) → Fine (cond b x y)
choice true x y f g = f refl
choice false x y f g = g refl

-- no state is fine
none : Fine None
none = record { fine = tt }

-- a value is closed where one may be
fine_delivered : (stack : List Frame) (t : Tree) → TakesValue stack → Fine (delivered stack t)
unfolding delivered
fine_delivered [] t v = record { fine = (t, refl) }
fine_delivered (frame.in_list list_at ts ∷ outer) t v = record { fine = v }
fine_delivered (frame.in_member object_at ms k key_at ∷ outer) t v = record { fine = v }
fine_delivered (frame.in_object object_at ms ∷ outer) t v = none

-- a key is read where one may be
fine_keyed : (stack : List Frame) (k : List ℕ) (key_at : Place) → TakesKey stack → Fine (keyed stack k key_at)
unfolding keyed
fine_keyed [] k key_at v = none
fine_keyed (frame.in_list list_at ts ∷ outer) k key_at v = none
fine_keyed (frame.in_member object_at ms k1 key_at1 ∷ outer) k key_at v = none
fine_keyed (frame.in_object object_at ms ∷ outer) k key_at v = record { fine = v }

-- a value begins
fine_value : (here : Place) (stack : List Frame) (c : ℕ) → TakesValue stack → Fine (begin_value here stack c)
unfolding begin_value
fine_value here stack c v =
    choice (c == open_brace) _ _ (λ _. record { fine = v })
    (λ _. choice (c == open_bracket) _ _ (λ _. record { fine = v })
    (λ _. choice (is_mark c || is_control c) _ _ (λ _. none)
    (λ _. choice (is_quote c) _ _ (λ _. record { fine = (v, tt) }) (λ _. record { fine = v }))))

-- an item begins
fine_item : (here : Place) (stack : List Frame) (c : ℕ) → TakesItem stack → Fine (begin_item here stack c)
unfolding begin_item
fine_item here [] c v = none
fine_item here (frame.in_list list_at ts ∷ outer) c v = choice (c == close_bracket) _ _ (λ _. fine_delivered outer _ v) (λ _. fine_value here (frame.in_list list_at ts ∷ outer) c v)
fine_item here (frame.in_object object_at ms ∷ outer) c v =
    choice (c == close_brace) _ _ (λ _. fine_delivered outer _ v)
    (λ _. choice (is_quote c) _ _ (λ _. record { fine = (v, tt) }) (λ _. choice (is_key c) _ _ (λ _. record { fine = v }) (λ _. none)))
fine_item here (frame.in_member object_at ms k key_at ∷ outer) c v = none

-- what stands behind a gap begins
fine_token : (here : Place) (stack : List Frame) (found : Option Tree) (p : Awaited) (c : ℕ) → FineAwaited stack found p →
    Fine (begin_token here stack p c)
unfolding begin_token
fine_token here stack found awaited.root c v = choice (c == open_brace) _ _ (λ _. record { fine = subst TakesValue (sym v) tt }) (λ _. none)
fine_token here stack found (awaited.item b) c v = choice (b && c == comma) _ _ (λ _. record { fine = v }) (λ _. fine_item here stack c v)
fine_token here stack found awaited.colon c v = choice (c == colon) _ _ (λ _. record { fine = v }) (λ _. none)
fine_token here stack found awaited.value c v = fine_value here stack c v
fine_token here stack found awaited.end c v = none

-- in a gap
fine_gap : (here : Place) (stack : List Frame) (found : Option Tree) (p : Awaited) (c : ℕ) → FineAwaited stack found p →
    Fine (in_gap here stack found p c)
unfolding in_gap
fine_gap here stack found p c v =
    choice (is_blank c) _ _ (λ _. record { fine = v })
    (λ _. choice (c == 13) _ _ (λ _. record { fine = v })
    (λ _. choice (c == hash) _ _ (λ _. record { fine = v })
    (λ _. choice (c == slash) _ _ (λ _. record { fine = v }) (λ _. fine_token here stack found p c v))))

-- behind what ends by the next character
fine_then_gap : (here : Place) (o : Option State) (c : ℕ) → Fine o → Fine (then_gap here c o)
fine_then_gap here None c f = none
fine_then_gap here (Some σ) c f = go σ.now f.fine
  where
    go : (n : Now) → FineNow σ.stack σ.found n → Fine (gap_step here σ n c)
    go (now.gap p) f = fine_gap here σ.stack σ.found p c f
    go n f = none

-- in a key
fine_key : (here : Place) (stack : List Frame) (k : List ℕ) (key_at : Place) (c : ℕ) → TakesKey stack → Fine (in_key here stack k key_at c)
unfolding in_key
fine_key here stack k key_at c v = choice (is_key c) _ _ (λ _. record { fine = v }) (λ _. fine_then_gap here (keyed stack k key_at) c (fine_keyed stack k key_at v))

-- in a literal or an unquoted string
fine_plain : (here : Place) (stack : List Frame) (u blanks : List ℕ) (hope : Bool) (at0 : Place) (c : ℕ) → TakesValue stack →
    Fine (in_plain here stack u blanks hope at0 c)
unfolding in_plain
fine_plain here stack u blanks hope at0 c v =
    choice (c == line_feed) _ _ (λ _. fine_delivered stack _ v)
    (λ _. choice (c == 13) _ _ (λ _. record { fine = v })
    (λ _. choice (ends_literal c && (hope && is_literal u)) _ _ (λ _. fine_then_gap here (delivered stack _) c (fine_delivered stack _ v))
    (λ _. choice (c == slash && (hope && is_literal u)) _ _ (λ _. record { fine = v })
    (λ _. choice (c == 32 || c == 9) _ _ (λ _. record { fine = v })
    (λ _. choice (is_control c) _ _ (λ _. none) (λ _. record { fine = v }))))))

-- a comment begins
comment_fine : (stack : List Frame) (found : Option Tree) (p : Awaited) (b : Bool) → FineAwaited stack found p →
    FineNow stack found (cond b (now.comment p) (now.block p false))
comment_fine stack found p true v = v
comment_fine stack found p false v = v

-- a comment begins behind a literal
fine_commented : (stack : List Frame) (t : Tree) (c : ℕ) → TakesValue stack → Fine (then_comment c (delivered stack t))
unfolding delivered
fine_commented [] t c v = record { fine = comment_fine [] (Some t) awaited.end (c == slash) (t, refl) }
fine_commented (frame.in_list list_at ts ∷ outer) t c v = record { fine = comment_fine (frame.in_list list_at (ts ++ t ∷ []) ∷ outer) None (awaited.item true) (c == slash) v }
fine_commented (frame.in_member object_at ms k key_at ∷ outer) t c v = record { fine = comment_fine (frame.in_object object_at (ms ++ record { key = k; key_place = key_at; value = t } ∷ []) ∷ outer) None (awaited.item true) (c == slash) v }
fine_commented (frame.in_object object_at ms ∷ outer) t c v = none

-- behind a literal and a slash
fine_plain_slash : (here : Place) (stack : List Frame) (u blanks : List ℕ) (at0 : Place) (c : ℕ) → TakesValue stack →
    Fine (in_plain_slash here stack u blanks at0 c)
unfolding in_plain_slash
fine_plain_slash here stack u blanks at0 c v = choice (c == slash || c == star) _ _ (λ _. fine_commented stack _ c v) (λ _. fine_plain here stack _ _ false at0 c v)

-- behind a slash that began a key or a value
fine_begun : (here : Place) (o : Option State) (c : ℕ) → Fine o → Fine (then_begun here c o)
fine_begun here None c f = none
fine_begun here (Some σ) c f = go σ.now f.fine
  where
    go : (n : Now) → FineNow σ.stack σ.found n → Fine (begun_step here σ n c)
    go (now.key k key_at) f = fine_key here σ.stack k key_at c f
    go (now.plain u blanks hope at0) f = fine_plain here σ.stack u blanks hope at0 c f
    go n f = none

-- behind a slash in a gap
fine_slash : (here : Place) (stack : List Frame) (found : Option Tree) (p : Awaited) (at0 : Place) (c : ℕ) → FineAwaited stack found p →
    Fine (in_slash here stack found p at0 c)
unfolding in_slash
fine_slash here stack found p at0 c v = choice (c == slash || c == star) _ _ (λ _. record { fine = comment_fine stack found p (c == slash) v }) (λ _. fine_begun here (begin_token at0 stack p slash) c (fine_token at0 stack found p slash v))

-- ---- quoted strings

module _ (stack : List Frame) (key : Bool) (q : ℕ) (at0 : Place) (v : FineQuoted key stack) where
  -- the string goes on
  fine_more : (u : List ℕ) (c : ℕ) → Fine (quoted_more stack key q u at0 c)
  fine_more u c = record { fine = (v, tt) }

  -- behind an escape
  fine_escape_more : (u : List ℕ) (o : Option ℕ) → Fine (escape_more stack key q u at0 o)
  fine_escape_more u None = none
  fine_escape_more u (Some c) = fine_more u c

  -- the next digit of a first unit
  first_next : (n w d : ℕ) → FirstDigits n w → d < 16 → may_stand false (n + 1) (w * 16 + d) ≡ true → nat_lt (n + 1) 4 ≡ true →
      FirstDigits (n + 1) (w * 16 + d)
  first_next zero w d f l m g = omega (arith, f)
  first_next (suc zero) w d f l m g =
      elim (bool_cases (nat_lt (w * 16 + d) 220)) as (λ _. (w * 16 + d < 220) ⊎ ((223 < w * 16 + d) × (w * 16 + d < 256))) [
        | inl e ↦ inl (grind (arith, nat_tests))
        | inr e ↦ inr (let h : nat_lt 223 (w * 16 + d) ≡ true = rw e at m in grind (arith, nat_tests), omega (arith, f))
      ]
  first_next (suc (suc zero)) w d (inl f) l m g = inl (omega arith)
  first_next (suc (suc zero)) w d (inr f) l m g = inr (omega (arith, f.0), omega (arith, f.1))
  first_next (suc (suc (suc zero))) w d f l m g = never g
  first_next (suc (suc (suc (suc n)))) w d f l m g = absurd f

  -- the next digit of a second unit
  second_next : (n w x : ℕ) → SecondDigits n w → nat_lt (n + 1) 4 ≡ true → SecondDigits (n + 1) x
  second_next zero w x f g = tt
  second_next (suc zero) w x f g = tt
  second_next (suc (suc zero)) w x f g = tt
  second_next (suc (suc (suc zero))) w x f g = never g
  second_next (suc (suc (suc (suc n)))) w x f g = absurd f

  -- behind four digits
  fine_unit_end : (u : List ℕ) (high : Option ℕ) (w : ℕ) → Fine (unit_end stack key q u at0 high w)
  fine_unit_end u None w = choice (is_high w) _ _ (λ _. record { fine = (v, tt) }) (λ _. fine_escape_more u (scalar_or_none w))
  fine_unit_end u (Some h) w = fine_escape_more u _

  -- fewer than four digits were read
  small_first : (n w : ℕ) → FirstDigits n w → n < 4
  small_first zero w f = omega arith
  small_first (suc zero) w f = omega arith
  small_first (suc (suc zero)) w f = omega arith
  small_first (suc (suc (suc zero))) w f = omega arith
  small_first (suc (suc (suc (suc n)))) w f = absurd f

  -- in the digits of a unit
  fine_unit : (u : List ℕ) (high : Option ℕ) (n w c : ℕ) → FineEscape (escape.unit high n w) → Fine (in_unit stack key q u at0 high n w c)
  unfolding in_unit
  fine_unit u high n w c f = choice (nat_lt n 4 && nat_lt w 4096) _ _ (λ _. go high (hex c) refl f) (λ _. none)
    where
      go : (high o : Option ℕ) → hex c ≡ o → FineEscape (escape.unit high n w) → Fine (unit_with stack key q u at0 high n w o)
      go high None e f = none
      go None (Some d) e f =
          choice (not (may_stand false (n + 1) (w * 16 + d))) _ _ (λ _. none)
          (λ m. choice (nat_lt (n + 1) 4) _ _ (λ g. record { fine = (v, first_next n w d f (hex_small c d e) (unnot (may_stand false (n + 1) (w * 16 + d)) m) g) }) (λ _. fine_unit_end u None (w * 16 + d)))
      go (Some h) (Some d) e f =
          choice (not (may_stand true (n + 1) (w * 16 + d))) _ _ (λ _. none)
          (λ m. choice (nat_lt (n + 1) 4) _ _ (λ g. record { fine = (v, second_next n w (w * 16 + d) f g) }) (λ _. fine_unit_end u (Some h) (w * 16 + d)))

-- behind the closing quote
fine_quoted_end : (stack : List Frame) (key : Bool) (q : ℕ) (u : List ℕ) (at0 : Place) → FineQuoted key stack → Fine (quoted_end stack key q u at0)
unfolding quoted_end
fine_quoted_end stack true q u at0 v = fine_keyed stack u at0 v
fine_quoted_end stack false q u at0 v = choice (q == single_quote && is_nil u) _ _ (λ _. record { fine = v }) (λ _. fine_delivered stack _ v)

-- in a quoted string
fine_quoted : (stack : List Frame) (key : Bool) (q : ℕ) (u : List ℕ) (at0 : Place) (e : Escape) (c : ℕ) → FineQuoted key stack → FineEscape e →
    Fine (in_quoted stack key q u at0 e c)
unfolding in_quoted outside_escape behind_backslash
fine_quoted stack key q u at0 escape.none c v f =
    choice (c == q) _ _ (λ _. fine_quoted_end stack key q u at0 v)
    (λ _. choice (c == backslash) _ _ (λ _. record { fine = (v, tt) }) (λ _. choice (is_control c) _ _ (λ _. none) (λ _. fine_more stack key q at0 v u c)))
fine_quoted stack key q u at0 escape.backslash c v f = choice (c == small_u) _ _ (λ _. record { fine = (v, refl) }) (λ _. fine_escape_more stack key q at0 v u (escaped c))
fine_quoted stack key q u at0 (escape.unit high n w) c v f = fine_unit stack key q at0 v u high n w c f
fine_quoted stack key q u at0 (escape.high h) c v f = choice (c == backslash) _ _ (λ _. record { fine = (v, tt) }) (λ _. none)
fine_quoted stack key q u at0 (escape.high_backslash h) c v f = choice (c == small_u) _ _ (λ _. record { fine = (v, refl) }) (λ _. none)

-- ---- multi-line strings

module _ (stack : List Frame) (k : ℕ) (at0 : Place) (v : TakesValue stack) where
  -- a character inside a line
  fine_inside : (u : List ℕ) (ended : Bool) (n c : ℕ) → Fine (inside_line stack u ended k n at0 c)
  unfolding inside_line
  fine_inside u ended n c =
      choice (c == single_quote) _ _ (λ _. choice (nat_lt n 2) _ _ (λ _. record { fine = v }) (λ _. fine_delivered stack _ v))
      (λ _. choice (c == line_feed) _ _ (λ _. record { fine = v }) (λ _. choice (c == 13) _ _ (λ _. record { fine = v }) (λ _. choice (is_control c) _ _ (λ _. none) (λ _. record { fine = v }))))

  -- at each spot of a multi-line string
  fine_lines : (u : List ℕ) (ended : Bool) (p : Spot) (c : ℕ) → Fine (in_lines stack u ended k at0 p c)
  unfolding in_lines
  fine_lines u ended spot.opening c =
      choice (c == 32 || c == 9) _ _ (λ _. record { fine = v })
      (λ _. choice (c == line_feed) _ _ (λ _. record { fine = v }) (λ _. choice (c == 13) _ _ (λ _. record { fine = v }) (λ _. fine_inside u ended 0 c)))
  fine_lines u ended spot.opening_return c = choice (c == line_feed) _ _ (λ _. record { fine = v }) (λ _. none)
  fine_lines u ended (spot.indent n) c = choice ((c == 32 || c == 9) && nat_lt 0 n) _ _ (λ _. record { fine = v }) (λ _. fine_inside u ended 0 c)
  fine_lines u ended spot.inside c = fine_inside u ended 0 c
  fine_lines u ended (spot.quotes n) c = fine_inside u ended n c
  fine_lines u ended (spot.line_return n) c = choice (c == line_feed) _ _ (λ _. record { fine = v }) (λ _. none)

-- ---- all states

-- one step
fine_step : (stack : List Frame) (found : Option Tree) (n : Now) (here : Place) (c : ℕ) → FineNow stack found n →
    Fine (step here (record { stack = stack; now = n; found = found }) c)
unfolding step in_gap_return in_comment in_block in_block_return in_plain_return in_two_quotes
fine_step stack found (now.gap p) here c f = fine_gap here stack found p c f
fine_step stack found (now.gap_return p) here c f = choice (c == line_feed) _ _ (λ _. record { fine = f }) (λ _. none)
fine_step stack found (now.comment p) here c f =
    choice (c == line_feed) _ _ (λ _. record { fine = f }) (λ _. choice (c == 13) _ _ (λ _. record { fine = f }) (λ _. choice (is_control c) _ _ (λ _. none) (λ _. record { fine = f })))
fine_step stack found (now.key k key_at) here c f = fine_key here stack k key_at c f
fine_step stack found (now.plain u blanks hope at0) here c f = fine_plain here stack u blanks hope at0 c f
fine_step stack found (now.plain_return u at0) here c f = choice (c == line_feed) _ _ (λ _. fine_delivered stack _ f) (λ _. none)
fine_step stack found (now.plain_slash u blanks at0) here c f = fine_plain_slash here stack u blanks at0 c f
fine_step stack found (now.slash p at0) here c f = fine_slash here stack found p at0 c f
fine_step stack found (now.block p after_star) here c f =
    choice (c == slash && after_star) _ _ (λ _. record { fine = f }) (λ _. choice (c == 13) _ _ (λ _. record { fine = f }) (λ _. choice (is_control c && not (c == line_feed)) _ _ (λ _. none) (λ _. record { fine = f })))
fine_step stack found (now.block_return p) here c f = choice (c == line_feed) _ _ (λ _. record { fine = f }) (λ _. none)
fine_step stack found (now.quoted key q u at0 e) here c f = fine_quoted stack key q u at0 e c f.0 f.1
fine_step stack found (now.two_quotes at0) here c f = choice (c == single_quote) _ _ (λ _. record { fine = f }) (λ _. fine_then_gap here (delivered stack _) c (fine_delivered stack _ f))
fine_step stack found (now.lines u ended k p at0) here c f = fine_lines stack k at0 f u ended p c

-- each state that the machine comes to is fine
pub fine_run : (at : Place) (σ σ2 : State) (s : List ℕ) → FineNow σ.stack σ.found σ.now → run at σ s ≡ Some σ2 → FineNow σ2.stack σ2.found σ2.now
fine_run at σ σ2 [] f e = let g : σ ≡ σ2 = cc in subst (λ (x : State). FineNow x.stack x.found x.now) g f
fine_run at σ σ2 (c ∷ s) f e = go (step at σ c) (fine_step σ.stack σ.found σ.now at c f) e (λ t g e. fine_run (next_place at c) t σ2 s g e)
  where
    go : (o : Option State) → Fine o → option_and_then (λ t. run (next_place at c) t s) o ≡ Some σ2 →
        ((t : State) → FineNow t.stack t.found t.now → run (next_place at c) t s ≡ Some σ2 → FineNow σ2.stack σ2.found σ2.now) →
        FineNow σ2.stack σ2.found σ2.now
    go None f e more = let g : None ≡ Some σ2 = e in cc
    go (Some t) f e more = more t f.fine e
