-- One character back, in a multi-line string.
use Rattle.std.proofs.Common.{◌≡◌, ℕ, ◌+◌, ◌⊎◌, inl, inr, List, [], ◌∷◌, ◌++◌, refl, arith, true, false, Bool, ap, subst, ◌∙◌, sym, append_assoc}
use Rattle.std.specs.Prelude.{◌-◌, ◌&&◌, ◌==◌, nat_lt, encode_utf8}
use Rattle.std.proofs.lemmas.Bool.{and_parts}
use Rattle.std.proofs.lemmas.Bool.Decides.{nat_tests}
use Rattle.std.proofs.lemmas.List.{append-nil}
use lib.Utf8.{encodes}
use Rattle.cg_docspec.specs.Characters.{carriage_return, is_control, is_space, line_feed, single_quote}
use Rattle.cg_docspec.specs.Place.{Place, next_place, place_after}
use Rattle.cg_docspec.specs.Tree.{Tree, string_of}
use Rattle.cg_docspec.specs.Lines.{Lines, lines_crlf, lines_end, lines_more, opened, undented, without_last_feed}
use Rattle.cg_docspec.specs.Machine.Frame.{Frame}
use Rattle.cg_docspec.specs.Machine.MultiLine.{flushed, in_lines, inside_line, quotes}
use Rattle.cg_docspec.specs.Machine.Spot.{Spot}
use Rattle.cg_docspec.specs.Machine.Spot as spot
use Rattle.cg_docspec.proofs.Back.Comments.{by_cases, stuck}
use Rattle.cg_docspec.proofs.Back.Tokens.{after_delivered}
use Rattle.cg_docspec.proofs.Basics.{and_false, never, same_character}
use Rattle.cg_docspec.proofs.Left.{FeedThen, Left, LinesLeft, LinesThen, StringThen, pending}
use Rattle.cg_docspec.proofs.LineTexts.{few_quotes, no_more, no_three, quote_lines, quotes_two, solid_more, solid_text, text_more, undented_quotes}
use Rattle.cg_docspec.proofs.Spaces.{space_uncontrolled}

module _ (T : Tree) (stack : List Frame) (k : ℕ) (at0 : Place) where
  -- one quote more
  quote_more : (u : List ℕ) (ended : Bool) (n c : ℕ) (s : List ℕ) (at1 here : Place) → place_after at1 (quotes n) ≡ here → c ≡ single_quote →
      (n ≡ 0) ⊎ (n ≡ 1) → LinesLeft T stack u ended k (spot.quotes (n + 1)) at0 (next_place here c) s →
      LinesThen T stack u ended at0 (undented k 0) at1 (quotes n ++ c ∷ s)
  quote_more u ended n c s at1 here a e (inl f) h =
      subst (λ (m : ℕ). place_after at1 (quotes m) ≡ here → LinesLeft T stack u ended k (spot.quotes (m + 1)) at0 (next_place here c) s → LinesThen T stack u ended at0 (undented k 0) at1 (quotes m ++ c ∷ s)) (sym f)
      (λ a h. subst (λ (x : ℕ). LinesThen T stack u ended at0 (undented k 0) at1 (x ∷ s)) (sym e) (h at1 (ap (λ (x : Place). next_place x single_quote) a ∙ ap (next_place here) (sym e))))
      a h
  quote_more u ended n c s at1 here a e (inr f) h =
      subst (λ (m : ℕ). place_after at1 (quotes m) ≡ here → LinesLeft T stack u ended k (spot.quotes (m + 1)) at0 (next_place here c) s → LinesThen T stack u ended at0 (undented k 0) at1 (quotes m ++ c ∷ s)) (sym f)
      (λ a h. subst (λ (x : ℕ). LinesThen T stack u ended at0 (undented k 0) at1 (single_quote ∷ x ∷ s)) (sym e) (h at1 (ap (λ (x : Place). next_place x single_quote) a ∙ ap (next_place here) (sym e))))
      a h

  -- three quotes end the string
  three : (u : List ℕ) (ended : Bool) (n c : ℕ) (s : List ℕ) (at1 here : Place) → place_after at1 (quotes n) ≡ here → c ≡ single_quote →
      nat_lt n 2 ≡ false → StringThen T stack at0 u (next_place here c) s → LinesThen T stack u ended at0 (undented k 0) at1 (quotes n ++ c ∷ s)
  three u ended n c s at1 here a e f h =
      subst (λ (q : List ℕ). place_after at1 q ≡ here → LinesThen T stack u ended at0 (undented k 0) at1 (q ++ c ∷ s)) (sym (quotes_two n f))
      (λ a.
      let there : StringThen T stack at0 u (place_after at1 (single_quote ∷ single_quote ∷ c ∷ [])) s = subst (λ (x : Place). StringThen T stack at0 u (next_place x c) s) (sym a) h in
      ([], place_after at1 (single_quote ∷ single_quote ∷ c ∷ []), s, lines_end refl refl e, rw (no_more k ended, append-nil) there))
      a

  module _ (u : List ℕ) (ended : Bool) (n : ℕ) (at1 here : Place) (a : place_after at1 (quotes n) ≡ here) where
    -- a line ends behind the quotes
    line_ends : (c : ℕ) (s w : List ℕ) (at2 : Place) (s2 : List ℕ) → (c == single_quote) ≡ false → Lines here (c ∷ s) (line_feed ∷ w) at2 s2 →
        StringThen T stack at0 (flushed u ended ++ quotes n ++ encodes (without_last_feed (line_feed ∷ undented k k w))) at2 s2 →
        LinesThen T stack u ended at0 (undented k 0) at1 (quotes n ++ c ∷ s)
    line_ends c s w at2 s2 e l h = (
      quotes n ++ line_feed ∷ w,
      at2,
      s2,
      quote_lines n c s at1 here e a l,
      rw (undented_quotes k n line_feed w, text_more u ended n line_feed (undented k k w)) h,
    )

    -- any other character
    solid_inside : (c : ℕ) (s : List ℕ) → (c == single_quote) ≡ false → (c == line_feed) ≡ false → is_control c ≡ false →
        LinesThen T stack (flushed u ended ++ quotes n ++ encode_utf8 c) false at0 (undented k 0) (next_place here c) s →
        LinesThen T stack u ended at0 (undented k 0) at1 (quotes n ++ c ∷ s)
    solid_inside c s e39 e10 ct h =
        let w = h.0 in
        let text : u ++ encodes (without_last_feed (pending ended ++ undented k 0 (quotes n ++ c ∷ w))) ≡ flushed u ended ++ quotes n ++ encode_utf8 c ++ encodes (without_last_feed (undented k 0 w)) =
        rw (undented_quotes k n c w, solid_more k c w e10) (text_more u ended n c (undented k 0 w) ∙ ap (λ (y : List ℕ). flushed u ended ++ quotes n ++ y) (solid_text c (undented k 0 w) e10) ∙ sym (append_assoc (flushed u ended ++ quotes n) (encode_utf8 c) (encodes (without_last_feed (undented k 0 w))))) in (
          quotes n ++ c ∷ w,
          h.1,
          h.2,
          quote_lines n c s at1 here e39 a (lines_more (no_three c s e39) (inl ct) h.3),
          subst (λ (x : List ℕ). StringThen T stack at0 x h.1 h.2) (sym text) h.4,
        )

    -- a character inside a line
    pub back_inside : (c : ℕ) (s : List ℕ) → Left T (inside_line stack u ended k n at0 c) (next_place here c) s →
        LinesThen T stack u ended at0 (undented k 0) at1 (quotes n ++ c ∷ s)
    unfolding inside_line
    back_inside c s =
        by_cases (c == single_quote) _ _
        (λ e. by_cases (nat_lt n 2) _ _ (λ f h. quote_more u ended n c s at1 here a (same_character c single_quote e) (few_quotes n f) h.left) (λ f h. three u ended n c s at1 here a (same_character c single_quote e) f (after_delivered T stack (string_of u at0) (next_place here c) s h)))
        (λ e39. by_cases (c == line_feed) _ _
        (λ e h. line_ends c s h.left.0 h.left.1 h.left.2 e39 (subst (λ (x : ℕ). Lines here (c ∷ s) (x ∷ h.left.0) h.left.1 h.left.2) (same_character c line_feed e) (lines_more (no_three c s e39) (inr (same_character c line_feed e)) h.left.3)) h.left.4)
        (λ e10. by_cases (c == carriage_return) _ _
        (λ e h. let x = h.left.2 in line_ends c s x.0 x.1 x.2 e39 (subst (λ (y : List ℕ). Lines here (c ∷ y) (line_feed ∷ x.0) x.1 x.2) (sym h.left.1) (lines_crlf (same_character c carriage_return e) refl x.3)) x.4)
        (λ e13. by_cases (is_control c) _ _ (λ e. stuck)
        (λ ct h. solid_inside c s e39 e10 ct h.left))))

  -- the first of the characters
  heads : {at at2 : Place} {s1 w s2 : List ℕ} (c : ℕ) (s : List ℕ) → s1 ≡ c ∷ s → Lines at s1 w at2 s2 →
      (w ≡ []) ⊎ ((d : ℕ) × (w1 : List ℕ) × (w ≡ d ∷ w1) × ((d ≡ c) ⊎ ((c ≡ carriage_return) × (d ≡ line_feed))))
  heads c s is (lines_end e f g) = inl refl
  heads c s is (lines_more {c = d} {w = w1} e f l) = inr (d, w1, refl, inl cc)
  heads c s is (lines_crlf {c = d} {w = w1} e f l) = inr (line_feed, w1, refl, inr (cc, refl))

  -- the same characters, another way to the string
  other : (u : List ℕ) (ended : Bool) (f g : List ℕ → List ℕ) (at : Place) (c : ℕ) (s : List ℕ) → f [] ≡ g [] →
      ((w : List ℕ) (d : ℕ) → (d ≡ c) ⊎ ((c ≡ carriage_return) × (d ≡ line_feed)) → f (d ∷ w) ≡ g (d ∷ w)) →
      LinesThen T stack u ended at0 f at (c ∷ s) → LinesThen T stack u ended at0 g at (c ∷ s)
  other u ended f g at c s e0 e1 h = (h.0, h.1, h.2, h.3, subst (λ (x : List ℕ). StringThen T stack at0 (u ++ encodes (without_last_feed (pending ended ++ x))) h.1 h.2) (go (heads c s refl h.3)) h.4)
    where
      go : (h.0 ≡ []) ⊎ ((d : ℕ) × (w1 : List ℕ) × (h.0 ≡ d ∷ w1) × ((d ≡ c) ⊎ ((c ≡ carriage_return) × (d ≡ line_feed)))) → f h.0 ≡ g h.0
      go (inl e) = rw e e0
      go (inr x) = rw x.2 (e1 x.1 x.0 x.3)

  -- a space or a tab that is dropped
  space_dropped : (u : List ℕ) (ended : Bool) (f g : List ℕ → List ℕ) (at : Place) (c : ℕ) (s : List ℕ) → is_space c ≡ true →
      ((w : List ℕ) → f w ≡ g (c ∷ w)) → LinesThen T stack u ended at0 f (next_place at c) s → LinesThen T stack u ended at0 g at (c ∷ s)
  space_dropped u ended f g at c s e eq h = (
    c ∷ h.0,
    h.1,
    h.2,
    lines_more (no_three c s (grind (arith, nat_tests))) (inl (space_uncontrolled c e)) h.3,
    subst (λ (x : List ℕ). StringThen T stack at0 (u ++ encodes (without_last_feed (pending ended ++ x))) h.1 h.2) (eq h.0) h.4,
  )

  -- at each spot
  pub back_lines : (u : List ℕ) (ended : Bool) (p : Spot) (here : Place) (c : ℕ) (s : List ℕ) →
      Left T (in_lines stack u ended k at0 p c) (next_place here c) s → LinesLeft T stack u ended k p at0 here (c ∷ s)
  unfolding in_lines
  back_lines u ended spot.opening here c s =
      by_cases (is_space c) _ _
      (λ e h. space_dropped u ended (opened k) (opened k) here c s e (λ w. rw e refl) h.left)
      (λ sp. by_cases (c == line_feed) _ _
      (λ e h. feed_dropped c s (same_character c line_feed e) h.left)
      (λ e10. by_cases (c == carriage_return) _ _
      (λ e h. crlf_dropped c s (same_character c carriage_return e) h.left)
      (λ e13 h. other u ended (undented k 0) (opened k) here c s refl (λ w d x. open_solid w d c sp e10 e13 x) (back_inside u ended 0 here here refl c s h))))
    where
      feed_dropped : (c : ℕ) (s : List ℕ) → c ≡ line_feed → LinesThen T stack u ended at0 (undented k k) (next_place here c) s →
          LinesThen T stack u ended at0 (opened k) here (c ∷ s)
      feed_dropped c s e h = (c ∷ h.0, h.1, h.2, lines_more (rw e refl) (inr e) h.3, subst (λ (x : ℕ). StringThen T stack at0 (u ++ encodes (without_last_feed (pending ended ++ opened k (x ∷ h.0)))) h.1 h.2) (sym e) h.4)

      crlf_dropped : (c : ℕ) (s : List ℕ) → c ≡ carriage_return → FeedThen (LinesThen T stack u ended at0 (undented k k)) (next_place here c) s →
          LinesThen T stack u ended at0 (opened k) here (c ∷ s)
      crlf_dropped c s e h =
          let x = h.2 in
          (line_feed ∷ x.0, x.1, x.2, subst (λ (y : List ℕ). Lines here (c ∷ y) (line_feed ∷ x.0) x.1 x.2) (sym h.1) (lines_crlf e refl x.3), x.4)

      open_solid : (w : List ℕ) (d c : ℕ) → is_space c ≡ false → (c == line_feed) ≡ false → (c == carriage_return) ≡ false →
          (d ≡ c) ⊎ ((c ≡ carriage_return) × (d ≡ line_feed)) → undented k 0 (d ∷ w) ≡ opened k (d ∷ w)
      open_solid w d c sp e f (inl x) = rw (x, sp, e) refl
      open_solid w d c sp e f (inr x) = never (sym f ∙ rw x.0 refl)
  back_lines u ended spot.opening_return here c s =
      by_cases (c == line_feed) _ _
      (λ e h. let f : c ≡ line_feed = same_character c line_feed e in (s, ap (λ (x : ℕ). x ∷ s) f, subst (λ (x : ℕ). LinesThen T stack u ended at0 (undented k k) (next_place here x) s) f h.left))
      (λ e. stuck)
  back_lines u ended (spot.indent n) here c s =
      by_cases (is_space c && nat_lt 0 n) _ _
      (λ e h. space_dropped u ended (undented k (n - 1)) (undented k n) here c s (and_parts (is_space c) (nat_lt 0 n) e).0 (λ w. rw e refl) h.left)
      (λ e h. other u ended (undented k 0) (undented k n) here c s refl (λ w d x. dent_solid w d c e x) (back_inside u ended 0 here here refl c s h))
    where
      dent_solid : (w : List ℕ) (d c : ℕ) → (is_space c && nat_lt 0 n) ≡ false → (d ≡ c) ⊎ ((c ≡ carriage_return) × (d ≡ line_feed)) →
          undented k 0 (d ∷ w) ≡ undented k n (d ∷ w)
      dent_solid w d c e (inl x) = rw (x, e, and_false (is_space c)) refl
      dent_solid w d c e (inr x) = rw x.1 refl
  back_lines u ended spot.inside here c s = λ h. back_inside u ended 0 here here refl c s h
  back_lines u ended (spot.quotes n) here c s = λ h at1 a. back_inside u ended n at1 here a c s h
  back_lines u ended (spot.line_return n) here c s =
      by_cases (c == line_feed) _ _
      (λ e h. let f : c ≡ line_feed = same_character c line_feed e in (s, ap (λ (x : ℕ). x ∷ s) f, subst (λ (x : ℕ). LinesThen T stack (flushed u ended ++ quotes n) true at0 (undented k k) (next_place here x) s) f h.left))
      (λ e. stuck)
