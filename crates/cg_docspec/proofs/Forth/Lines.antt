-- What the grammar derives, the machine reads. Multi-line strings.
use Rattle.std.proofs.Common.{◌≡◌, ℕ, ◌+◌, ◌⊎◌, inl, inr, List, [], ◌∷◌, ◌++◌, Some, refl, arith, true, false, Bool, ap, subst, ◌∙◌, sym, append_assoc}
use Rattle.std.specs.Prelude.{◌-◌, ◌&&◌, ◌==◌, nat_lt, encode_utf8}
use Rattle.std.proofs.lemmas.Bool.Decides.{nat_tests}
use Rattle.std.proofs.lemmas.List.{append-nil}
use lib.Utf8.{encodes}
use Rattle.cg_docspec.specs.Characters.{carriage_return, is_control, is_space, line_feed, single_quote}
use Rattle.cg_docspec.specs.Place.{Place, next_place}
use Rattle.cg_docspec.specs.Tree.{string_of}
use Rattle.cg_docspec.specs.Gap.{starts}
use Rattle.cg_docspec.specs.Lines.{Lines, lines_crlf, lines_end, lines_more, opened, undented, without_last_feed}
use Rattle.cg_docspec.specs.Machine.Closing.{delivered}
use Rattle.cg_docspec.specs.Machine.Frame.{Frame}
use Rattle.cg_docspec.specs.Machine.MultiLine.{flushed, in_lines, inside_line, quotes}
use Rattle.cg_docspec.specs.Machine.Now as now
use Rattle.cg_docspec.specs.Machine.Run.{Finds, step}
use Rattle.cg_docspec.specs.Machine.Spot.{Spot}
use Rattle.cg_docspec.specs.Machine.Spot as spot
use Rattle.cg_docspec.specs.Machine.State.{State, reading}
use Rattle.cg_docspec.proofs.Basics.{bool_cases, never, same_character}
use Rattle.cg_docspec.proofs.Forth.Gaps.{Goes, goes_step}
use Rattle.cg_docspec.proofs.Left.{pending}
use Rattle.cg_docspec.proofs.LineTexts.{no_more, solid_more, solid_text, text_more, undented_quotes}

module _ (stack : List Frame) (k : ℕ) (at0 : Place) where
  -- in a multi-line string
  abbrev pub lines_state : List ℕ → Bool → Spot → State
  lines_state u ended p = reading stack (now.lines u ended k p at0)

  -- how the characters left become the string
  abbrev pub way : Spot → List ℕ → List ℕ
  way spot.opening w = opened k w
  way (spot.indent n) w = undented k n w
  way spot.inside w = undented k 0 w
  way (spot.quotes n) w = undented k 0 (quotes n ++ w)
  way spot.opening_return w = w
  way (spot.line_return n) w = w

  -- the whole string
  abbrev pub string : List ℕ → Bool → Spot → List ℕ → List ℕ
  string u ended p w = u ++ encodes (without_last_feed (pending ended ++ way p w))

  -- the quotes before are no part of three
  abbrev pub May : Spot → List ℕ → Type 0
  May spot.opening s = Unit {0}
  May (spot.indent n) s = Unit {0}
  May spot.inside s = Unit {0}
  May (spot.quotes n) s = ((n ≡ 1) × (starts (single_quote ∷ single_quote ∷ []) s ≡ false)) ⊎ ((n ≡ 2) × (starts (single_quote ∷ []) s ≡ false))
  May spot.opening_return s = ⊥
  May (spot.line_return n) s = ⊥

  -- the quotes read before
  abbrev count : Spot → ℕ
  count (spot.quotes n) = n
  count p = 0

  -- one quote more
  quote_step : (at : Place) (u : List ℕ) (ended : Bool) (p : Spot) (c : ℕ) (s : List ℕ) → May p s → c ≡ single_quote → nat_lt (count p) 2 ≡ true →
      step at (lines_state u ended p) c ≡ Some (lines_state u ended (spot.quotes (count p + 1)))
  unfolding step in_lines inside_line
  quote_step at u ended spot.opening c s m e l = rw e refl
  quote_step at u ended (spot.indent n) c s m e l = rw e refl
  quote_step at u ended spot.inside c s m e l = rw e refl
  quote_step at u ended (spot.quotes n) c s m e l = rw (e, l) refl
  quote_step at u ended spot.opening_return c s m e l = absurd m
  quote_step at u ended (spot.line_return n) c s m e l = absurd m

  -- the third quote ends the string
  last_step : (at : Place) (u : List ℕ) (ended : Bool) (c : ℕ) → c ≡ single_quote →
      step at (lines_state u ended (spot.quotes 2)) c ≡ delivered stack (string_of u at0)
  unfolding step in_lines inside_line
  last_step at u ended c e = rw e refl

  -- a line ends behind what is no opening
  feed_step : (at : Place) (u : List ℕ) (ended : Bool) (p : Spot) (c : ℕ) (s : List ℕ) → May p s → (p ≡ spot.opening → ⊥) → c ≡ line_feed →
      step at (lines_state u ended p) c ≡ Some (lines_state (flushed u ended ++ quotes (count p)) true (spot.indent k))
  unfolding step in_lines inside_line
  feed_step at u ended spot.opening c s m o e = absurd (o refl)
  feed_step at u ended (spot.indent n) c s m o e = rw e refl
  feed_step at u ended spot.inside c s m o e = rw e refl
  feed_step at u ended (spot.quotes n) c s m o e = rw e refl
  feed_step at u ended spot.opening_return c s m o e = absurd m
  feed_step at u ended (spot.line_return n) c s m o e = absurd m

  -- a line feed behind the opening
  opening_feed : (at : Place) (u : List ℕ) (ended : Bool) (c : ℕ) → c ≡ line_feed →
      step at (lines_state u ended spot.opening) c ≡ Some (lines_state u ended (spot.indent k))
  unfolding step in_lines
  opening_feed at u ended c e = rw e refl

  -- a carriage return behind the opening
  opening_return : (at : Place) (u : List ℕ) (ended : Bool) (c : ℕ) → c ≡ carriage_return →
      step at (lines_state u ended spot.opening) c ≡ Some (lines_state u ended spot.opening_return)
  unfolding step in_lines
  opening_return at u ended c e = rw e refl

  -- and its line feed
  opening_return_feed : (at : Place) (u : List ℕ) (ended : Bool) (c : ℕ) → c ≡ line_feed →
      step at (lines_state u ended spot.opening_return) c ≡ Some (lines_state u ended (spot.indent k))
  unfolding step in_lines
  opening_return_feed at u ended c e = rw e refl

  -- a carriage return behind what is no opening
  return_step : (at : Place) (u : List ℕ) (ended : Bool) (p : Spot) (c : ℕ) (s : List ℕ) → May p s → (p ≡ spot.opening → ⊥) → c ≡ carriage_return →
      step at (lines_state u ended p) c ≡ Some (lines_state u ended (spot.line_return (count p)))
  unfolding step in_lines inside_line
  return_step at u ended spot.opening c s m o e = absurd (o refl)
  return_step at u ended (spot.indent n) c s m o e = rw e refl
  return_step at u ended spot.inside c s m o e = rw e refl
  return_step at u ended (spot.quotes n) c s m o e = rw e refl
  return_step at u ended spot.opening_return c s m o e = absurd m
  return_step at u ended (spot.line_return n) c s m o e = absurd m

  -- and its line feed
  return_feed : (at : Place) (u : List ℕ) (ended : Bool) (n c : ℕ) → c ≡ line_feed →
      step at (lines_state u ended (spot.line_return n)) c ≡ Some (lines_state (flushed u ended ++ quotes n) true (spot.indent k))
  unfolding step in_lines
  return_feed at u ended n c e = rw e refl

  -- a character inside, where no space is dropped
  abbrev Drops : Spot → ℕ → Bool
  Drops spot.opening c = is_space c
  Drops (spot.indent n) c = is_space c && nat_lt 0 n
  Drops p c = false

  -- the spot behind a space that is dropped
  abbrev dropped : Spot → Spot
  dropped spot.opening = spot.opening
  dropped (spot.indent n) = spot.indent (n - 1)
  dropped p = p

  -- a space or a tab is dropped
  drop_step : (at : Place) (u : List ℕ) (ended : Bool) (p : Spot) (c : ℕ) → Drops p c ≡ true →
      step at (lines_state u ended p) c ≡ Some (lines_state u ended (dropped p))
  unfolding step in_lines
  drop_step at u ended spot.opening c e = rw e refl
  drop_step at u ended (spot.indent n) c e = rw e refl
  drop_step at u ended spot.inside c e = never e
  drop_step at u ended (spot.quotes n) c e = never e
  drop_step at u ended spot.opening_return c e = never e
  drop_step at u ended (spot.line_return n) c e = never e

  -- any other character inside a line
  solid_step : (at : Place) (u : List ℕ) (ended : Bool) (p : Spot) (c : ℕ) (s : List ℕ) → May p s → Drops p c ≡ false → (c == single_quote) ≡ false →
      (c == line_feed) ≡ false → is_control c ≡ false →
      step at (lines_state u ended p) c ≡ Some (lines_state (flushed u ended ++ quotes (count p) ++ encode_utf8 c) false spot.inside)
  unfolding step in_lines inside_line
  solid_step at u ended spot.opening c s m d e39 e10 ct = let e13 : (c == carriage_return) ≡ false = grind (arith, nat_tests) in rw (d, e39, e10, e13, ct) refl
  solid_step at u ended (spot.indent n) c s m d e39 e10 ct = let e13 : (c == carriage_return) ≡ false = grind (arith, nat_tests) in rw (d, e39, e10, e13, ct) refl
  solid_step at u ended spot.inside c s m d e39 e10 ct = let e13 : (c == carriage_return) ≡ false = grind (arith, nat_tests) in rw (e39, e10, e13, ct) refl
  solid_step at u ended (spot.quotes n) c s m d e39 e10 ct = let e13 : (c == carriage_return) ≡ false = grind (arith, nat_tests) in rw (e39, e10, e13, ct) refl
  solid_step at u ended spot.opening_return c s m d e39 e10 ct = absurd m
  solid_step at u ended (spot.line_return n) c s m d e39 e10 ct = absurd m

  -- ---- the string

  -- the string behind a line end
  fed : (u : List ℕ) (ended : Bool) (p : Spot) (w s : List ℕ) → May p s → (p ≡ spot.opening → ⊥) →
      string u ended p (line_feed ∷ w) ≡ string (flushed u ended ++ quotes (count p)) true (spot.indent k) w
  fed u ended spot.opening w s m o = absurd (o refl)
  fed u ended (spot.indent n) w s m o = text_more u ended 0 line_feed (undented k k w)
  fed u ended spot.inside w s m o = text_more u ended 0 line_feed (undented k k w)
  fed u ended (spot.quotes n) w s m o = rw (undented_quotes k n line_feed w) (text_more u ended n line_feed (undented k k w))
  fed u ended spot.opening_return w s m o = absurd m
  fed u ended (spot.line_return n) w s m o = absurd m

  -- such a character stays
  solid_way : (p : Spot) (c : ℕ) (w s : List ℕ) → May p s → Drops p c ≡ false → (c == line_feed) ≡ false →
      way p (c ∷ w) ≡ quotes (count p) ++ c ∷ undented k 0 w
  solid_way spot.opening c w s m d e = rw (d, e) refl
  solid_way (spot.indent n) c w s m d e = rw (d, e) refl
  solid_way spot.inside c w s m d e = solid_more k c w e
  solid_way (spot.quotes n) c w s m d e = undented_quotes k n c w ∙ ap (λ (y : List ℕ). quotes n ++ y) (solid_more k c w e)
  solid_way spot.opening_return c w s m d e = absurd m
  solid_way (spot.line_return n) c w s m d e = absurd m

  -- the string behind such a character
  solid_string : (u : List ℕ) (ended : Bool) (p : Spot) (c : ℕ) (w s : List ℕ) → May p s → Drops p c ≡ false → (c == line_feed) ≡ false →
      string u ended p (c ∷ w) ≡ string (flushed u ended ++ quotes (count p) ++ encode_utf8 c) false spot.inside w
  solid_string u ended p c w s m d e =
      ap (λ (x : List ℕ). u ++ encodes (without_last_feed (pending ended ++ x))) (solid_way p c w s m d e) ∙ text_more u ended (count p) c (undented k 0 w) ∙
      ap (λ (y : List ℕ). flushed u ended ++ quotes (count p) ++ y) (solid_text c (undented k 0 w) e) ∙ sym (append_assoc (flushed u ended ++ quotes (count p)) (encode_utf8 c) (encodes (without_last_feed (undented k 0 w))))

  -- a space that is dropped is none of the string's
  drop_way : (p : Spot) (c : ℕ) (w : List ℕ) → Drops p c ≡ true → way p (c ∷ w) ≡ way (dropped p) w
  drop_way spot.opening c w e = rw e refl
  drop_way (spot.indent n) c w e = rw e refl
  drop_way spot.inside c w e = never e
  drop_way (spot.quotes n) c w e = never e
  drop_way spot.opening_return c w e = never e
  drop_way (spot.line_return n) c w e = never e

  -- and changes nothing for quotes
  drop_may : (p : Spot) (c : ℕ) (s s1 : List ℕ) → Drops p c ≡ true → May p s → May (dropped p) s1
  drop_may spot.opening c s s1 e m = tt
  drop_may (spot.indent n) c s s1 e m = tt
  drop_may spot.inside c s s1 e m = tt
  drop_may (spot.quotes n) c s s1 e m = never e
  drop_may spot.opening_return c s s1 e m = absurd m
  drop_may (spot.line_return n) c s s1 e m = absurd m

  -- one quote more
  record Quote (u : List ℕ) (ended : Bool) (p : Spot) (c : ℕ) (s w : List ℕ) : Type 0 where
    few : nat_lt (count p) 2 ≡ true
    may : May (spot.quotes (count p + 1)) s
    text : string u ended p (c ∷ w) ≡ string u ended (spot.quotes (count p + 1)) w

  -- the string behind one quote more
  quote : (u : List ℕ) (ended : Bool) (p : Spot) (c : ℕ) (s w : List ℕ) → May p (c ∷ s) →
      starts (single_quote ∷ single_quote ∷ single_quote ∷ []) (c ∷ s) ≡ false → c ≡ single_quote → Quote u ended p c s w
  quote u ended spot.opening c s w m st e = record { few = refl; may = inl (refl, subst (λ (x : ℕ). starts (single_quote ∷ single_quote ∷ single_quote ∷ []) (x ∷ s) ≡ false) e st); text = rw e refl }
  quote u ended (spot.indent n) c s w m st e = record { few = refl; may = inl (refl, subst (λ (x : ℕ). starts (single_quote ∷ single_quote ∷ single_quote ∷ []) (x ∷ s) ≡ false) e st); text = rw e refl }
  quote u ended spot.inside c s w m st e = record { few = refl; may = inl (refl, subst (λ (x : ℕ). starts (single_quote ∷ single_quote ∷ single_quote ∷ []) (x ∷ s) ≡ false) e st); text = rw e refl }
  quote u ended (spot.quotes n) c s w (inl m) st e =
      record { few = rw m.0 refl; may = inr (rw m.0 refl, subst (λ (x : ℕ). starts (single_quote ∷ single_quote ∷ []) (x ∷ s) ≡ false) e m.1); text = rw (m.0, e) refl }
  quote u ended (spot.quotes n) c s w (inr m) st e = never (sym (subst (λ (x : ℕ). starts (single_quote ∷ []) (x ∷ s) ≡ false) e m.1))
  quote u ended spot.opening_return c s w m st e = absurd m
  quote u ended (spot.line_return n) c s w m st e = absurd m

  -- at the opening, or not
  opening_or : (p : Spot) → (p ≡ spot.opening) ⊎ (p ≡ spot.opening → ⊥)
  opening_or spot.opening = inl refl
  opening_or spot.opening_return = inr (λ e. cc)
  opening_or (spot.indent n) = inr (λ e. cc)
  opening_or spot.inside = inr (λ e. cc)
  opening_or (spot.quotes n) = inr (λ e. cc)
  opening_or (spot.line_return n) = inr (λ e. cc)

  -- at the closing quotes no quote stands before
  none_before : (p : Spot) (c d e : ℕ) (s : List ℕ) → c ≡ single_quote → d ≡ single_quote → e ≡ single_quote → May p (c ∷ d ∷ e ∷ s) →
      (count p ≡ 0) × (way p [] ≡ [])
  none_before spot.opening c d e s f g h m = (refl, refl)
  none_before (spot.indent n) c d e s f g h m = (refl, refl)
  none_before spot.inside c d e s f g h m = (refl, refl)
  none_before (spot.quotes n) c d e s f g h (inl m) = never (sym (let x : starts (single_quote ∷ single_quote ∷ []) (c ∷ d ∷ e ∷ s) ≡ true = rw (f, g) refl in sym x ∙ m.1))
  none_before (spot.quotes n) c d e s f g h (inr m) = never (sym (let x : starts (single_quote ∷ []) (c ∷ d ∷ e ∷ s) ≡ true = rw f refl in sym x ∙ m.1))
  none_before spot.opening_return c d e s f g h m = absurd m
  none_before (spot.line_return n) c d e s f g h m = absurd m

  -- what is left goes on to the end
  abbrev More : Place → List ℕ → List ℕ → Place → List ℕ → State → Type 0
  More at s w at' r end = (u : List ℕ) (ended : Bool) (p : Spot) → May p s → delivered stack (string_of (string u ended p w) at0) ≡ Some end → Goes at (lines_state u ended p) s at' end r

  -- equal strings are closed alike
  out_as : (x y : List ℕ) (end : State) → x ≡ y → delivered stack (string_of x at0) ≡ Some end → delivered stack (string_of y at0) ≡ Some end
  out_as x y end e h = subst (λ (z : List ℕ). delivered stack (string_of z at0) ≡ Some end) e h

  module _ (w r : List ℕ) (at at' : Place) (end : State) (u : List ℕ) (ended : Bool) where
    -- a carriage return with a line feed
    crlf_more : (c d : ℕ) (s : List ℕ) → More (next_place (next_place at c) d) s w at' r end → (p : Spot) → May p (c ∷ d ∷ s) → c ≡ carriage_return →
        d ≡ line_feed → delivered stack (string_of (string u ended p (line_feed ∷ w)) at0) ≡ Some end → (p ≡ spot.opening) ⊎ (p ≡ spot.opening → ⊥) →
        Goes at (lines_state u ended p) (c ∷ d ∷ s) at' end r
    crlf_more c d s more p m f g out (inl o) t doc =
        let out2 : delivered stack (string_of (string u ended spot.opening (line_feed ∷ w)) at0) ≡ Some end = out_as (string u ended p (line_feed ∷ w)) (string u ended spot.opening (line_feed ∷ w)) end (ap (λ (x : Spot). string u ended x (line_feed ∷ w)) o) out in
        subst (λ (x : Spot). Finds at (lines_state u ended x) (c ∷ d ∷ s) t) (sym o)
        (goes_step at (lines_state u ended spot.opening) (lines_state u ended spot.opening_return) c (d ∷ s) (opening_return at u ended c f) t
        (goes_step (next_place at c) (lines_state u ended spot.opening_return) (lines_state u ended (spot.indent k)) d s (opening_return_feed (next_place at c) u ended d g) t
        (more u ended (spot.indent k) tt out2 t doc)))
    crlf_more c d s more p m f g out (inr o) t doc =
        let u2 : List ℕ = flushed u ended ++ quotes (count p) in
        goes_step at (lines_state u ended p) (lines_state u ended (spot.line_return (count p))) c (d ∷ s) (return_step at u ended p c (c ∷ d ∷ s) m o f) t
        (goes_step (next_place at c) (lines_state u ended (spot.line_return (count p))) (lines_state u2 true (spot.indent k)) d s (return_feed (next_place at c) u ended (count p) d g) t
        (more u2 true (spot.indent k) tt (out_as (string u ended p (line_feed ∷ w)) (string u2 true (spot.indent k) w) end (fed u ended p w (c ∷ d ∷ s) m o) out) t doc))

    -- a line feed
    feed_more : (c : ℕ) (s : List ℕ) → More (next_place at c) s w at' r end → (p : Spot) → May p (c ∷ s) → c ≡ line_feed →
        delivered stack (string_of (string u ended p (c ∷ w)) at0) ≡ Some end → (p ≡ spot.opening) ⊎ (p ≡ spot.opening → ⊥) →
        Goes at (lines_state u ended p) (c ∷ s) at' end r
    feed_more c s more p m f out (inl o) t doc =
        let e : string u ended p (c ∷ w) ≡ string u ended spot.opening (line_feed ∷ w) = ap (λ (x : Spot). string u ended x (c ∷ w)) o ∙ ap (λ (x : ℕ). string u ended spot.opening (x ∷ w)) f in
        subst (λ (x : Spot). Finds at (lines_state u ended x) (c ∷ s) t) (sym o)
        (goes_step at (lines_state u ended spot.opening) (lines_state u ended (spot.indent k)) c s (opening_feed at u ended c f) t
        (more u ended (spot.indent k) tt (out_as (string u ended p (c ∷ w)) (string u ended spot.opening (line_feed ∷ w)) end e out) t doc))
    feed_more c s more p m f out (inr o) t doc =
        let u2 : List ℕ = flushed u ended ++ quotes (count p) in
        let e : string u ended p (c ∷ w) ≡ string u2 true (spot.indent k) w = ap (λ (x : ℕ). string u ended p (x ∷ w)) f ∙ fed u ended p w (c ∷ s) m o in
        goes_step at (lines_state u ended p) (lines_state u2 true (spot.indent k)) c s (feed_step at u ended p c (c ∷ s) m o f) t
        (more u2 true (spot.indent k) tt (out_as (string u ended p (c ∷ w)) (string u2 true (spot.indent k) w) end e out) t doc)

    -- any other character
    char_more : (c : ℕ) (s : List ℕ) → More (next_place at c) s w at' r end → (p : Spot) → May p (c ∷ s) →
        starts (single_quote ∷ single_quote ∷ single_quote ∷ []) (c ∷ s) ≡ false → (is_control c ≡ false) ⊎ (c ≡ line_feed) →
        delivered stack (string_of (string u ended p (c ∷ w)) at0) ≡ Some end → Goes at (lines_state u ended p) (c ∷ s) at' end r
    char_more c s more p m st (inr f) out t doc = feed_more c s more p m f out (opening_or p) t doc
    char_more c s more p m st (inl ct) out t doc =
        elim (bool_cases (c == single_quote)) as (λ _. Finds at (lines_state u ended p) (c ∷ s) t) [
          | inl e ↦
              let q = quote u ended p c s w m st (same_character c single_quote e) in
              goes_step at (lines_state u ended p) (lines_state u ended (spot.quotes (count p + 1))) c s (quote_step at u ended p c (c ∷ s) m (same_character c single_quote e) q.few) t
              (more u ended (spot.quotes (count p + 1)) q.may (out_as (string u ended p (c ∷ w)) (string u ended (spot.quotes (count p + 1)) w) end q.text out) t doc)
          | inr e39 ↦ elim (bool_cases (Drops p c)) as (λ _. Finds at (lines_state u ended p) (c ∷ s) t) [
            | inl e ↦
                goes_step at (lines_state u ended p) (lines_state u ended (dropped p)) c s (drop_step at u ended p c e) t
                (more u ended (dropped p) (drop_may p c (c ∷ s) s e m) (out_as (string u ended p (c ∷ w)) (string u ended (dropped p) w) end (ap (λ (x : List ℕ). u ++ encodes (without_last_feed (pending ended ++ x))) (drop_way p c w e)) out) t doc)
            | inr d ↦
                let e10 : (c == line_feed) ≡ false = grind (arith, nat_tests) in
                let u2 : List ℕ = flushed u ended ++ quotes (count p) ++ encode_utf8 c in
                goes_step at (lines_state u ended p) (lines_state u2 false spot.inside) c s (solid_step at u ended p c (c ∷ s) m d e39 e10 ct) t
                (more u2 false spot.inside tt (out_as (string u ended p (c ∷ w)) (string u2 false spot.inside w) end (solid_string u ended p c w (c ∷ s) m d e10) out) t doc)
          ]
        ]

  -- a multi-line string
  pub lines_goes : {at at' : Place} {s w r : List ℕ} (u : List ℕ) (ended : Bool) (p : Spot) (end : State) → Lines at s w at' r → May p s →
      delivered stack (string_of (string u ended p w) at0) ≡ Some end → Goes at (lines_state u ended p) s at' end r
  lines_goes u ended p end (lines_end {at} {c} {d} {e} {s} f g h) m out t doc =
      let n = none_before p c d e s f g h m in
      let two : spot.quotes (count p + 1) ≡ spot.quotes 1 = ap (λ (x : ℕ). spot.quotes (x + 1)) n.0 in
      let first : step at (lines_state u ended p) c ≡ Some (lines_state u ended (spot.quotes 1)) = quote_step at u ended p c (c ∷ d ∷ e ∷ s) m f (rw n.0 refl) ∙ ap (λ (x : Spot). Some (lines_state u ended x)) two in
      let text : string u ended p [] ≡ u = ap (λ (x : List ℕ). u ++ encodes (without_last_feed (pending ended ++ x))) n.1 ∙ ap (λ (x : List ℕ). u ++ x) (no_more k ended) ∙ append-nil u in
      goes_step at (lines_state u ended p) (lines_state u ended (spot.quotes 1)) c (d ∷ e ∷ s) first t
      (goes_step (next_place at c) (lines_state u ended (spot.quotes 1)) (lines_state u ended (spot.quotes 2)) d (e ∷ s) (quote_step (next_place at c) u ended (spot.quotes 1) d [] (inl (refl, refl)) g refl) t
      (goes_step (next_place (next_place at c) d) (lines_state u ended (spot.quotes 2)) end e s (last_step (next_place (next_place at c) d) u ended e h ∙ ap (λ (x : List ℕ). delivered stack (string_of x at0)) (sym text) ∙ out) t doc))
  lines_goes u ended p end (lines_crlf {at} {at'} {c} {d} {s} {w} {r} f g l) m out t doc =
      crlf_more w r at at' end u ended c d s (λ u2 ended2 p2 m2 out2 t2 doc2. lines_goes u2 ended2 p2 end l m2 out2 t2 doc2) p m f g out (opening_or p) t doc
  lines_goes u ended p end (lines_more {at} {at'} {c} {s} {w} {r} st ct l) m out t doc =
      char_more w r at at' end u ended c s (λ u2 ended2 p2 m2 out2 t2 doc2. lines_goes u2 ended2 p2 end l m2 out2 t2 doc2) p m st ct out t doc
