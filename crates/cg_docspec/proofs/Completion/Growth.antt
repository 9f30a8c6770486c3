-- A step keeps a state in which 64 levels suffice, or it reads an opener of depth 65.
use Rattle.std.proofs.Common.{◌≡◌, ℕ, zero, suc, ◌+◌, ◌⊎◌, inl, inr, List, [], ◌∷◌, ◌++◌, Option, Some, None, refl, true, false, Bool, subst}
use Rattle.std.specs.Prelude.{◌*◌, cond, ◌&&◌, ◌||◌, ◌==◌, not, nat_lt, is_some}
use lib.Utf8.{next}
use Rattle.cg_docspec.specs.Characters.{backslash, carriage_return, close_brace, close_bracket, colon, comma, hash, is_blank, is_control, is_key, is_mark, is_quote, is_space, line_feed, open_brace, open_bracket, single_quote, slash, small_u, star}
use Rattle.cg_docspec.specs.Place.{Place}
use Rattle.cg_docspec.specs.Tree.{Member, Tree, list_of, object_of, string_of}
use Rattle.cg_docspec.specs.Quoted.{escaped, hex, is_high, paired}
use Rattle.cg_docspec.specs.Lines.{is_nil}
use Rattle.cg_docspec.specs.Literal.{ends_literal}
use Rattle.cg_docspec.specs.Machine.Awaited.{Awaited}
use Rattle.cg_docspec.specs.Machine.Awaited as awaited
use Rattle.cg_docspec.specs.Machine.Closing.{delivered, keyed}
use Rattle.cg_docspec.specs.Machine.Comment.{begun_step, in_block, in_block_return, in_comment, in_slash, then_begun}
use Rattle.cg_docspec.specs.Machine.Escape.{Escape}
use Rattle.cg_docspec.specs.Machine.Escape as escape
use Rattle.cg_docspec.specs.Machine.Frame.{Frame}
use Rattle.cg_docspec.specs.Machine.Frame as frame
use Rattle.cg_docspec.specs.Machine.MultiLine.{in_lines, in_two_quotes, inside_line}
use Rattle.cg_docspec.specs.Machine.Now.{Now}
use Rattle.cg_docspec.specs.Machine.Now as now
use Rattle.cg_docspec.specs.Machine.Numeral.{is_literal, plain_tree}
use Rattle.cg_docspec.specs.Machine.Plain.{in_plain, in_plain_return, in_plain_slash, then_comment}
use Rattle.cg_docspec.specs.Machine.Quote.{behind_backslash, escape_more, in_quoted, in_unit, may_stand, outside_escape, quoted_end, scalar_or_none, unit_end, unit_with}
use Rattle.cg_docspec.specs.Machine.Run.{step}
use Rattle.cg_docspec.specs.Machine.Spot.{Spot}
use Rattle.cg_docspec.specs.Machine.Spot as spot
use Rattle.cg_docspec.specs.Machine.State.{State}
use Rattle.cg_docspec.specs.Machine.Token.{begin_item, begin_token, begin_value, in_gap, in_gap_return, in_key, opened_list, opened_object, then_gap}
use Rattle.cg_docspec.proofs.Completion.Room.{Held, Kept, Low, low_members, low_trees, plain_low}

-- just behind an opener at `here` for which there was no room
abbrev pub IsOver : Place → List Frame → Now → Type 0
IsOver here (frame.in_object at ms ∷ outer) (now.gap (awaited.item false)) = (at ≡ here) × Held 0 outer
IsOver here (frame.in_list at ts ∷ outer) (now.gap (awaited.item false)) = (at ≡ here) × Held 0 outer
IsOver here stack n = ⊥

-- 64 levels suffice, or an opener of depth 65 was read
abbrev pub GrownIn : Place → Option State → Type 0
GrownIn here None = Unit {0}
GrownIn here (Some σ) = Kept σ.stack σ.found ⊎ IsOver here σ.stack σ.now

-- the same as a record
pub record Grown (here : Place) (o : Option State) : Type 0 where
  pub grown : GrownIn here o

-- neither a key nor a value without quotes stands just behind an opener
no_key : (here : Place) (stack : List Frame) (k : List ℕ) (key_at : Place) → IsOver here stack (now.key k key_at) → ⊥
no_key here [] k key_at w = w
no_key here (frame.in_list at ts ∷ outer) k key_at w = w
no_key here (frame.in_object at ms ∷ outer) k key_at w = w
no_key here (frame.in_member at ms k2 key_at2 ∷ outer) k key_at w = w

-- nor a value without quotes
no_plain : (here : Place) (stack : List Frame) (u b : List ℕ) (hope : Bool) (at0 : Place) → IsOver here stack (now.plain u b hope at0) → ⊥
no_plain here [] u b hope at0 w = w
no_plain here (frame.in_list at ts ∷ outer) u b hope at0 w = w
no_plain here (frame.in_object at ms ∷ outer) u b hope at0 w = w
no_plain here (frame.in_member at ms k2 key_at2 ∷ outer) u b hope at0 w = w

-- the same while no tree was found
pub unfound : (stack : List Frame) (found : Option Tree) → Kept stack found → Kept stack None
unfound stack found k = record { room = k.room; held = k.held; low = tt }

module _ (here : Place) where
  -- both branches of a choice
  choice : (b : Bool) (x y : Option State) → Grown here x → Grown here y → Grown here (cond b x y)
  choice true x y f g = f
  choice false x y f g = g

  -- no state
  none : Grown here None
  none = record { grown = tt }

  -- what is open stays
  kept : (stack : List Frame) (n : Now) (found : Option Tree) → Kept stack found →
      Grown here (Some (record { stack = stack; now = n; found = found }))
  kept stack n found k = record { grown = inl k }

  -- ---- what opens and closes

  -- an object opens
  opens_object : (stack : List Frame) → Kept stack None → Grown here (Some (opened_object here stack))
  opens_object stack k = go k.room k.held
    where
      go : (room : ℕ) → Held room stack → Grown here (Some (opened_object here stack))
      go zero h = record { grown = inr (refl, h) }
      go (suc room) h = record { grown = inl (record { room = room; held = (tt, h); low = tt }) }

  -- a list opens
  opens_list : (stack : List Frame) → Kept stack None → Grown here (Some (opened_list here stack))
  opens_list stack k = go k.room k.held
    where
      go : (room : ℕ) → Held room stack → Grown here (Some (opened_list here stack))
      go zero h = record { grown = inr (refl, h) }
      go (suc room) h = record { grown = inl (record { room = room; held = (tt, h); low = tt }) }

  -- a value is closed
  keeps_delivered : (stack : List Frame) (t : Tree) (room : ℕ) → Held room stack → Low room t → Grown here (delivered stack t)
  unfolding delivered
  keeps_delivered [] t room h l = record { grown = inl (record { room = room; held = h; low = subst (λ (n : ℕ). Low n t) h l }) }
  keeps_delivered (frame.in_list at ts ∷ outer) t room h l = record { grown = inl (record { room = room; held = (low_trees room ts (t ∷ []) h.0 (l, tt), h.1); low = tt }) }
  keeps_delivered (frame.in_member at ms k key_at ∷ outer) t room h l =
      record { grown = inl (record { room = room; held = (low_members room ms (record { key = k; key_place = key_at; value = t } ∷ []) h.0 (l, tt), h.1); low = tt }) }
  keeps_delivered (frame.in_object at ms ∷ outer) t room h l = none

  -- a key is read
  keeps_keyed : (stack : List Frame) (k : List ℕ) (key_at : Place) → Kept stack None → Grown here (keyed stack k key_at)
  unfolding keyed
  keeps_keyed [] k key_at l = none
  keeps_keyed (frame.in_list at ts ∷ outer) k key_at l = none
  keeps_keyed (frame.in_member at ms k1 key_at1 ∷ outer) k key_at l = none
  keeps_keyed (frame.in_object at ms ∷ outer) k key_at l = record { grown = inl (record { room = l.room; held = l.held; low = tt }) }

  -- ---- tokens and gaps

  -- a value begins
  keeps_value : (stack : List Frame) (c : ℕ) → Kept stack None → Grown here (begin_value here stack c)
  unfolding begin_value
  keeps_value stack c k =
      choice (c == open_brace) _ _ (opens_object stack k)
      (choice (c == open_bracket) _ _ (opens_list stack k)
      (choice (is_mark c || is_control c) _ _ none
      (choice (is_quote c) _ _ (kept stack _ None k) (kept stack _ None k))))

  -- an item begins, or what is open is closed
  keeps_item : (stack : List Frame) (c : ℕ) → Kept stack None → Grown here (begin_item here stack c)
  unfolding begin_item
  keeps_item [] c k = none
  keeps_item (frame.in_list at ts ∷ outer) c k = choice (c == close_bracket) _ _ (keeps_delivered outer (list_of ts at) (suc k.room) k.held.1 k.held.0) (keeps_value (frame.in_list at ts ∷ outer) c k)
  keeps_item (frame.in_object at ms ∷ outer) c k =
      choice (c == close_brace) _ _ (keeps_delivered outer (object_of ms at) (suc k.room) k.held.1 k.held.0)
      (choice (is_quote c) _ _ (kept _ _ None k) (choice (is_key c) _ _ (kept _ _ None k) none))
  keeps_item (frame.in_member at ms key key_at ∷ outer) c k = none

  -- what stands behind a gap begins
  keeps_token : (stack : List Frame) (next : Awaited) (c : ℕ) → Kept stack None → Grown here (begin_token here stack next c)
  unfolding begin_token
  keeps_token stack awaited.root c k = choice (c == open_brace) _ _ (opens_object stack k) none
  keeps_token stack (awaited.item b) c k = choice (b && c == comma) _ _ (kept stack _ None k) (keeps_item stack c k)
  keeps_token stack awaited.colon c k = choice (c == colon) _ _ (kept stack _ None k) none
  keeps_token stack awaited.value c k = keeps_value stack c k
  keeps_token stack awaited.end c k = none

  -- in a gap
  keeps_gap : (stack : List Frame) (found : Option Tree) (next : Awaited) (c : ℕ) → Kept stack found → Grown here (in_gap here stack found next c)
  unfolding in_gap
  keeps_gap stack found next c k =
      choice (is_blank c) _ _ (kept stack _ found k)
      (choice (c == carriage_return) _ _ (kept stack _ found k)
      (choice (c == hash) _ _ (kept stack _ found k) (choice (c == slash) _ _ (kept stack _ found k) (keeps_token stack next c (unfound stack found k)))))

  -- a value is closed, and the character behind it is the first of a gap
  keeps_after : (stack : List Frame) (t : Tree) (c : ℕ) (room : ℕ) → Held room stack → Low room t → Grown here (then_gap here c (delivered stack t))
  unfolding delivered
  keeps_after [] t c room h l = keeps_gap [] (Some t) awaited.end c (record { room = room; held = h; low = subst (λ (n : ℕ). Low n t) h l })
  keeps_after (frame.in_list at ts ∷ outer) t c room h l =
      keeps_gap (frame.in_list at (ts ++ t ∷ []) ∷ outer) None (awaited.item true) c (record { room = room; held = (low_trees room ts (t ∷ []) h.0 (l, tt), h.1); low = tt })
  keeps_after (frame.in_member at ms k key_at ∷ outer) t c room h l =
      let m : Member = record { key = k; key_place = key_at; value = t } in
      keeps_gap (frame.in_object at (ms ++ m ∷ []) ∷ outer) None (awaited.item true) c (record { room = room; held = (low_members room ms (m ∷ []) h.0 (l, tt), h.1); low = tt })
  keeps_after (frame.in_object at ms ∷ outer) t c room h l = none

  -- in a key
  keeps_key : (stack : List Frame) (key : List ℕ) (key_at : Place) (c : ℕ) → Kept stack None → Grown here (in_key here stack key key_at c)
  unfolding in_key keyed
  keeps_key [] key key_at c k = choice (is_key c) _ _ (kept [] _ None k) none
  keeps_key (frame.in_list at ts ∷ outer) key key_at c k = choice (is_key c) _ _ (kept _ _ None k) none
  keeps_key (frame.in_member at ms key1 key_at1 ∷ outer) key key_at c k = choice (is_key c) _ _ (kept _ _ None k) none
  keeps_key (frame.in_object at ms ∷ outer) key key_at c k =
      choice (is_key c) _ _ (kept _ _ None k) (keeps_gap (frame.in_member at ms key key_at ∷ outer) None awaited.colon c (record { room = k.room; held = k.held; low = tt }))

  -- ---- literals, unquoted strings and comments

  -- in a literal or an unquoted string
  keeps_plain : (stack : List Frame) (u blanks : List ℕ) (hope : Bool) (at0 : Place) (c : ℕ) → Kept stack None →
      Grown here (in_plain here stack u blanks hope at0 c)
  unfolding in_plain
  keeps_plain stack u blanks hope at0 c k =
      choice (c == line_feed) _ _ (keeps_delivered stack (plain_tree u at0) k.room k.held (plain_low k.room u at0))
      (choice (c == carriage_return) _ _ (kept stack _ None k)
      (choice (ends_literal c && (hope && is_literal u)) _ _ (keeps_after stack (plain_tree u at0) c k.room k.held (plain_low k.room u at0))
      (choice (c == slash && (hope && is_literal u)) _ _ (kept stack _ None k)
      (choice (is_space c) _ _ (kept stack _ None k) (choice (is_control c) _ _ none (kept stack _ None k))))))

  -- a comment begins behind a literal
  keeps_commented : (stack : List Frame) (t : Tree) (c : ℕ) (room : ℕ) → Held room stack → Low room t →
      Grown here (then_comment c (delivered stack t))
  unfolding delivered
  keeps_commented [] t c room h l = record { grown = inl (record { room = room; held = h; low = subst (λ (n : ℕ). Low n t) h l }) }
  keeps_commented (frame.in_list at ts ∷ outer) t c room h l = record { grown = inl (record { room = room; held = (low_trees room ts (t ∷ []) h.0 (l, tt), h.1); low = tt }) }
  keeps_commented (frame.in_member at ms k key_at ∷ outer) t c room h l =
      record { grown = inl (record { room = room; held = (low_members room ms (record { key = k; key_place = key_at; value = t } ∷ []) h.0 (l, tt), h.1); low = tt }) }
  keeps_commented (frame.in_object at ms ∷ outer) t c room h l = none

  -- ---- quoted strings

  -- behind an escape
  keeps_escape : (stack : List Frame) (key : Bool) (q : ℕ) (u : List ℕ) (at0 : Place) (o : Option ℕ) → Kept stack None →
      Grown here (escape_more stack key q u at0 o)
  keeps_escape stack key q u at0 None k = none
  keeps_escape stack key q u at0 (Some c) k = kept stack _ None k

  -- behind four digits
  keeps_unit_end : (stack : List Frame) (key : Bool) (q : ℕ) (u : List ℕ) (at0 : Place) (high : Option ℕ) (w : ℕ) → Kept stack None →
      Grown here (unit_end stack key q u at0 high w)
  keeps_unit_end stack key q u at0 None w k = choice (is_high w) _ _ (kept stack _ None k) (keeps_escape stack key q u at0 (scalar_or_none w) k)
  keeps_unit_end stack key q u at0 (Some h) w k = keeps_escape stack key q u at0 (scalar_or_none (paired h w)) k

  -- one digit more
  keeps_unit : (stack : List Frame) (key : Bool) (q : ℕ) (u : List ℕ) (at0 : Place) (high : Option ℕ) (m w : ℕ) (o : Option ℕ) → Kept stack None →
      Grown here (unit_with stack key q u at0 high m w o)
  keeps_unit stack key q u at0 high m w None k = none
  keeps_unit stack key q u at0 high m w (Some d) k =
      choice (not (may_stand (is_some high) (m + 1) (w * 16 + d))) _ _ none (choice (nat_lt (m + 1) 4) _ _ (kept stack _ None k) (keeps_unit_end stack key q u at0 high (w * 16 + d) k))

  -- in a quoted string
  keeps_quoted : (stack : List Frame) (key : Bool) (q : ℕ) (u : List ℕ) (at0 : Place) (e : Escape) (c : ℕ) → Kept stack None →
      Grown here (in_quoted stack key q u at0 e c)
  unfolding in_quoted outside_escape behind_backslash in_unit quoted_end
  keeps_quoted stack true q u at0 escape.none c k =
      choice (c == q) _ _ (keeps_keyed stack u at0 k) (choice (c == backslash) _ _ (kept stack _ None k) (choice (is_control c) _ _ none (kept stack _ None k)))
  keeps_quoted stack false q u at0 escape.none c k =
      choice (c == q) _ _ (choice (q == single_quote && is_nil u) _ _ (kept stack _ None k) (keeps_delivered stack (string_of u at0) k.room k.held tt))
      (choice (c == backslash) _ _ (kept stack _ None k) (choice (is_control c) _ _ none (kept stack _ None k)))
  keeps_quoted stack key q u at0 escape.backslash c k = choice (c == small_u) _ _ (kept stack _ None k) (keeps_escape stack key q u at0 (escaped c) k)
  keeps_quoted stack key q u at0 (escape.unit high m w) c k = choice (nat_lt m 4 && nat_lt w 4096) _ _ (keeps_unit stack key q u at0 high m w (hex c) k) none
  keeps_quoted stack key q u at0 (escape.high h) c k = choice (c == backslash) _ _ (kept stack _ None k) none
  keeps_quoted stack key q u at0 (escape.high_backslash h) c k = choice (c == small_u) _ _ (kept stack _ None k) none

  -- ---- multi-line strings

  -- a character inside a line
  keeps_inside : (stack : List Frame) (u : List ℕ) (ended : Bool) (i m : ℕ) (at0 : Place) (c : ℕ) → Kept stack None →
      Grown here (inside_line stack u ended i m at0 c)
  unfolding inside_line
  keeps_inside stack u ended i m at0 c k =
      choice (c == single_quote) _ _ (choice (nat_lt m 2) _ _ (kept stack _ None k) (keeps_delivered stack (string_of u at0) k.room k.held tt))
      (choice (c == line_feed) _ _ (kept stack _ None k) (choice (c == carriage_return) _ _ (kept stack _ None k) (choice (is_control c) _ _ none (kept stack _ None k))))

  -- at each spot of a multi-line string
  keeps_lines : (stack : List Frame) (u : List ℕ) (ended : Bool) (i : ℕ) (at0 : Place) (p : Spot) (c : ℕ) → Kept stack None →
      Grown here (in_lines stack u ended i at0 p c)
  unfolding in_lines
  keeps_lines stack u ended i at0 spot.opening c k =
      choice (is_space c) _ _ (kept stack _ None k)
      (choice (c == line_feed) _ _ (kept stack _ None k) (choice (c == carriage_return) _ _ (kept stack _ None k) (keeps_inside stack u ended i 0 at0 c k)))
  keeps_lines stack u ended i at0 spot.opening_return c k = choice (c == line_feed) _ _ (kept stack _ None k) none
  keeps_lines stack u ended i at0 (spot.indent m) c k = choice (is_space c && nat_lt 0 m) _ _ (kept stack _ None k) (keeps_inside stack u ended i 0 at0 c k)
  keeps_lines stack u ended i at0 spot.inside c k = keeps_inside stack u ended i 0 at0 c k
  keeps_lines stack u ended i at0 (spot.quotes m) c k = keeps_inside stack u ended i m at0 c k
  keeps_lines stack u ended i at0 (spot.line_return m) c k = choice (c == line_feed) _ _ (kept stack _ None k) none

-- a slash that began a key or a value, and the character behind it
keeps_begun : (here at0 : Place) (o : Option State) (c : ℕ) → Grown at0 o → Grown here (then_begun here c o)
keeps_begun here at0 None c g = none here
keeps_begun here at0 (Some σ) c g = go σ.now g.grown
  where
    go : (n : Now) → Kept σ.stack σ.found ⊎ IsOver at0 σ.stack n → Grown here (begun_step here σ n c)
    go (now.key key key_at) (inl k) = keeps_key here σ.stack key key_at c (unfound σ.stack σ.found k)
    go (now.plain u blanks hope at1) (inl k) = keeps_plain here σ.stack u blanks hope at1 c (unfound σ.stack σ.found k)
    go (now.key key key_at) (inr w) = absurd (no_key at0 σ.stack key key_at w)
    go (now.plain u blanks hope at1) (inr w) = absurd (no_plain at0 σ.stack u blanks hope at1 w)
    go n w = none here

-- one step
pub keeps_step : (here : Place) (stack : List Frame) (found : Option Tree) (n : Now) (c : ℕ) → Kept stack found →
    Grown here (step here (record { stack = stack; now = n; found = found }) c)
unfolding step in_gap_return in_comment in_block in_block_return in_plain_return in_plain_slash in_slash in_two_quotes
keeps_step here stack found (now.gap next) c k = keeps_gap here stack found next c k
keeps_step here stack found (now.gap_return next) c k = choice here (c == line_feed) _ _ (kept here stack _ found k) (none here)
keeps_step here stack found (now.comment next) c k =
    choice here (c == line_feed) _ _ (kept here stack _ found k) (choice here (c == carriage_return) _ _ (kept here stack _ found k) (choice here (is_control c) _ _ (none here) (kept here stack _ found k)))
keeps_step here stack found (now.slash next at0) c k =
    choice here (c == slash || c == star) _ _ (kept here stack _ found k) (keeps_begun here at0 (begin_token at0 stack next slash) c (keeps_token at0 stack next slash (unfound stack found k)))
keeps_step here stack found (now.block next after_star) c k =
    choice here (c == slash && after_star) _ _ (kept here stack _ found k) (choice here (c == carriage_return) _ _ (kept here stack _ found k) (choice here (is_control c && not (c == line_feed)) _ _ (none here) (kept here stack _ found k)))
keeps_step here stack found (now.block_return next) c k = choice here (c == line_feed) _ _ (kept here stack _ found k) (none here)
keeps_step here stack found (now.key key key_at) c k = keeps_key here stack key key_at c (unfound stack found k)
keeps_step here stack found (now.plain u blanks hope at0) c k = keeps_plain here stack u blanks hope at0 c (unfound stack found k)
keeps_step here stack found (now.plain_return u at0) c k = choice here (c == line_feed) _ _ (keeps_delivered here stack (plain_tree u at0) k.room k.held (plain_low k.room u at0)) (none here)
keeps_step here stack found (now.plain_slash u blanks at0) c k =
    choice here (c == slash || c == star) _ _ (keeps_commented here stack (plain_tree u at0) c k.room k.held (plain_low k.room u at0)) (keeps_plain here stack _ _ false at0 c (unfound stack found k))
keeps_step here stack found (now.quoted key q u at0 e) c k = keeps_quoted here stack key q u at0 e c (unfound stack found k)
keeps_step here stack found (now.two_quotes at0) c k = choice here (c == single_quote) _ _ (kept here stack _ None (unfound stack found k)) (keeps_after here stack (string_of [] at0) c k.room k.held tt)
keeps_step here stack found (now.lines u ended i p at0) c k = keeps_lines here stack u ended i at0 p c (unfound stack found k)
