-- One character back, in a quoted string.
use Rattle.std.proofs.Common.{◌≡◌, ℕ, zero, suc, ◌+◌, ◌<◌, ◌≤◌, inl, inr, List, [], ◌∷◌, ◌++◌, Option, Some, None, refl, arith, length, true, false, Bool, ap, subst, ◌∙◌, sym, append_assoc}
use Rattle.std.specs.Prelude.{◌-◌, ◌*◌, cond, ◌&&◌, ◌==◌, not, nat_lt, encode_utf8}
use Rattle.std.proofs.lemmas.Bool.{and_parts}
use Rattle.std.proofs.lemmas.Bool.Decides.{nat_tests}
use Rattle.std.proofs.lemmas.List.{append-nil}
use lib.Utf8.{scalar}
use Rattle.cg_docspec.specs.Characters.{backslash, is_control, single_quote, small_u}
use Rattle.cg_docspec.specs.Place.{Place, next_place, place_after}
use Rattle.cg_docspec.specs.Tree.{Tree, string_of}
use Rattle.cg_docspec.specs.Gap.{starts}
use Rattle.cg_docspec.specs.Quoted.{IsUnit, Quoted, as_is, closes, escape, escaped, hex, hex_value, is_high, is_low, pair, paired, unit}
use Rattle.cg_docspec.specs.Lines.{Lines, is_nil, lines_text}
use Rattle.cg_docspec.specs.Document.{leaf_value, lines, quoted}
use Rattle.cg_docspec.specs.Machine.Escape.{Escape}
use Rattle.cg_docspec.specs.Machine.Escape as escape
use Rattle.cg_docspec.specs.Machine.Frame.{Frame}
use Rattle.cg_docspec.specs.Machine.MultiLine.{in_two_quotes}
use Rattle.cg_docspec.specs.Machine.Now as now
use Rattle.cg_docspec.specs.Machine.Quote.{behind_backslash, escape_more, in_quoted, in_unit, may_stand, outside_escape, quoted_end, quoted_more, scalar_or_none, unit_end, unit_with}
use Rattle.cg_docspec.proofs.Back.Comments.{by_cases, stuck}
use Rattle.cg_docspec.proofs.Back.Gaps.{after_then_gap}
use Rattle.cg_docspec.proofs.Back.Tokens.{after_delivered, after_key}
use Rattle.cg_docspec.proofs.Basics.{and_false, never, same_character, unnot}
use Rattle.cg_docspec.proofs.Left.{AfterValue, EscapeThen, KeyOrString, Left, LeftNow, LowDigits, OutsideThen, QuotedLeft, QuotedThen, ValueThen}
use Rattle.cg_docspec.proofs.Spaces.{place_append_one}
use Rattle.cg_docspec.proofs.Units.{char_not_nil, digits_append, hex_small, length_one}

module _ (T : Tree) (stack : List Frame) (q : ℕ) (at0 : Place) where
  -- a string goes on behind a part
  pub add : (key : Bool) (u x : List ℕ) (at at1 : Place) (s s1 : List ℕ) →
      ((v : List ℕ) (at2 : Place) (s2 : List ℕ) → Quoted q at1 s1 v at2 s2 → Quoted q at s (x ++ v) at2 s2) →
      QuotedThen q (u ++ x) (KeyOrString T stack key at0) at1 s1 → QuotedThen q u (KeyOrString T stack key at0) at s
  add key u x at at1 s s1 f h = (x ++ h.0, h.1, h.2, f h.0 h.1 h.2 h.3, subst (λ (y : List ℕ). KeyOrString T stack key at0 y h.1 h.2) (append_assoc u x h.0) h.4)

  -- the string goes on behind one character more
  after_more : (key : Bool) (u : List ℕ) (c : ℕ) (at : Place) (s : List ℕ) → Left T (quoted_more stack key q u at0 c) at s →
      QuotedThen q (u ++ encode_utf8 c) (KeyOrString T stack key at0) at s
  after_more true u c at s h = h.left
  after_more false u c at s h = elim h.left as (λ _. QuotedThen q (u ++ encode_utf8 c) (KeyOrString T stack false at0) at s) [ inl x ↦ x.1 | inr x ↦ never (sym (char_not_nil u c) ∙ x.0) ]

  -- the closing quote
  pub close : (key : Bool) (u : List ℕ) (c : ℕ) (here : Place) (s : List ℕ) → (c == q) ≡ true → KeyOrString T stack key at0 u (next_place here c) s →
      QuotedThen q u (KeyOrString T stack key at0) here (c ∷ s)
  close key u c here s e h = ([], next_place here c, s, closes e, subst (λ (y : List ℕ). KeyOrString T stack key at0 y (next_place here c) s) (sym (append-nil u)) h)

  -- no two quotes, or some characters before
  pub lone : (key : Bool) (u : List ℕ) (here : Place) (s : List ℕ) →
      (is_nil u && (q == single_quote && starts (single_quote ∷ single_quote ∷ []) s)) ≡ false → QuotedThen q u (KeyOrString T stack key at0) here s →
      OutsideThen T stack key q u at0 here s
  lone true u here s e h = h
  lone false u here s e h = inl (e, h)

  -- no two quotes come
  not_two : (u : List ℕ) (c : ℕ) (s : List ℕ) → (c == q) ≡ false →
      (is_nil u && (q == single_quote && starts (single_quote ∷ single_quote ∷ []) (c ∷ s))) ≡ false
  not_two u c s e = go (q == single_quote) refl
    where
      go : (b : Bool) → (q == single_quote) ≡ b → (is_nil u && (b && starts (single_quote ∷ single_quote ∷ []) (c ∷ s))) ≡ false
      go true f = let g : (c == single_quote) ≡ false = subst (λ (x : ℕ). (c == x) ≡ false) (same_character q single_quote f) e in rw g (and_false (is_nil u))
      go false f = and_false (is_nil u)

  -- behind the closing quote
  back_end : (key : Bool) (u : List ℕ) (here : Place) (c : ℕ) (s : List ℕ) → (c == q) ≡ true →
      Left T (quoted_end stack key q u at0) (next_place here c) s → OutsideThen T stack key q u at0 here (c ∷ s)
  unfolding quoted_end
  back_end true u here c s e = λ h. close true u c here s e (after_key T stack u at0 (next_place here c) s h)
  back_end false u here c s e =
      by_cases (q == single_quote && is_nil u) _ _
      (λ f h.
      let p = and_parts (q == single_quote) (is_nil u) f in
      let q39 : q ≡ single_quote = same_character q single_quote p.0 in
      let c39 : c ≡ single_quote = same_character c q e ∙ q39 in
      inr (p.1, λ a. subst (λ (x : ℕ). ValueThen T stack at0 (x ∷ c ∷ s)) (sym q39) (subst (λ (x : ℕ). ValueThen T stack at0 (single_quote ∷ x ∷ s)) (sym c39) (h.left (ap (λ (x : ℕ). next_place (next_place at0 x) single_quote) (sym q39) ∙ ap (λ (x : Place). next_place x single_quote) a ∙ ap (next_place here) (sym c39))))))
      (λ f h. inl (one_only (is_nil u) (q == single_quote) (starts (single_quote ∷ single_quote ∷ []) (c ∷ s)) f, close false u c here s e (after_delivered T stack _ _ s h)))
    where
      one_only : (x y z : Bool) → (y && x) ≡ false → (x && (y && z)) ≡ false
      one_only true true z e = never (sym e)
      one_only true false z e = refl
      one_only false y z e = refl

  -- in no escape
  back_outside : (key : Bool) (u : List ℕ) (here : Place) (c : ℕ) (s : List ℕ) → Left T (outside_escape stack key q u at0 c) (next_place here c) s →
      OutsideThen T stack key q u at0 here (c ∷ s)
  unfolding outside_escape
  back_outside key u here c s =
      by_cases (c == q) _ _
      (λ e h. back_end key u here c s e h)
      (λ e. by_cases (c == backslash) _ _
      (λ e92 h. lone key u here (c ∷ s) (not_two u c s e) (subst (λ (x : ℕ). QuotedThen q u (KeyOrString T stack key at0) here (x ∷ s)) (sym (same_character c backslash e92)) (h.left here (ap (next_place here) (sym (same_character c backslash e92))))))
      (λ e92. by_cases (is_control c) _ _ (λ e. stuck)
      (λ ct h. lone key u here (c ∷ s) (not_two u c s e) (add key u (encode_utf8 c) here (next_place here c) (c ∷ s) s (λ v at2 s2 l. as_is e e92 ct l) (after_more key u c (next_place here c) s h)))))

  -- behind a backslash
  back_backslash : (key : Bool) (u : List ℕ) (here : Place) (c : ℕ) (s : List ℕ) →
      Left T (behind_backslash stack key q u at0 c) (next_place here c) s → EscapeThen q u (KeyOrString T stack key at0) escape.backslash here (c ∷ s)
  unfolding behind_backslash
  back_backslash key u here c s =
      by_cases (c == small_u) _ _
      (λ e h. λ atb a. subst (λ (x : ℕ). QuotedThen q u (KeyOrString T stack key at0) atb (backslash ∷ x ∷ s)) (sym (same_character c small_u e)) (h.left [] atb refl refl (ap (λ (x : Place). next_place x small_u) a ∙ ap (next_place here) (sym (same_character c small_u e)))))
      (λ e h. λ atb a. go (escaped c) refl h atb a)
    where
      go : (o : Option ℕ) → escaped c ≡ o → Left T (escape_more stack key q u at0 o) (next_place here c) s → (atb : Place) →
          next_place atb backslash ≡ here → QuotedThen q u (KeyOrString T stack key at0) atb (backslash ∷ c ∷ s)
      go None e h atb a = stuck h
      go (Some v) e h atb a =
          let g = after_more key u v (next_place here c) s h in
          add key u (encode_utf8 v) atb (next_place (next_place atb backslash) c) (backslash ∷ c ∷ s) s (λ v2 at2 s2 l. escape refl e l) (subst (λ (x : Place). QuotedThen q (u ++ encode_utf8 v) (KeyOrString T stack key at0) (next_place x c) s) (sym a) g)

  -- the next digit of a low surrogate
  low_next : (n v d : ℕ) → nat_lt n 4 ≡ true → d < 16 → LowDigits n v → may_stand true (n + 1) (v * 16 + d) ≡ true → LowDigits (n + 1) (v * 16 + d)
  low_next zero v d f l h m = same_character (v * 16 + d) 13 m
  low_next (suc zero) v d f l h m = let k : 220 ≤ v * 16 + d = grind (arith, nat_tests) in (k, omega (arith, h))
  low_next (suc (suc zero)) v d f l h m = (omega (arith, h.0), omega (arith, h.1))
  low_next (suc (suc (suc zero))) v d f l h m = let a : 56320 ≤ v * 16 + d = omega (arith, h.0) in let b : v * 16 + d < 57344 = omega (arith, h.1) in grind (arith, nat_tests)
  low_next (suc (suc (suc (suc n)))) v d f l h m = let g : suc (suc (suc (suc n))) < 4 = grind (arith, nat_tests) in absurd (omega (arith, g))

  -- a character, and the rest of the string
  scalar_then : (key : Bool) (u : List ℕ) (w : ℕ) (at : Place) (s : List ℕ) → Left T (escape_more stack key q u at0 (scalar_or_none w)) at s →
      (scalar w ≡ true) × QuotedThen q (u ++ encode_utf8 w) (KeyOrString T stack key at0) at s
  scalar_then key u w at s = go (scalar w) refl
    where
      go : (b : Bool) → scalar w ≡ b → Left T (escape_more stack key q u at0 (cond b (Some w) None)) at s →
          (scalar w ≡ true) × QuotedThen q (u ++ encode_utf8 w) (KeyOrString T stack key at0) at s
      go true e h = (e, after_more key u w at s h)
      go false e h = stuck h

  -- four digits are a unit
  unit_of : (x : List ℕ) (c n w : ℕ) → nat_lt n 4 ≡ true → nat_lt (n + 1) 4 ≡ false → length (x ++ c ∷ []) ≡ n + 1 →
      hex_value (Some 0) (x ++ c ∷ []) ≡ Some w → IsUnit (x ++ c ∷ []) w
  unit_of x c n w f g l d = let k : n + 1 ≡ 4 = grind (arith, nat_tests) in (l ∙ k, d)

  -- behind the digits of a unit
  back_first : (key : Bool) (u : List ℕ) (n v : ℕ) (here : Place) (c : ℕ) (s : List ℕ) →
      Left T (in_unit stack key q u at0 None n v c) (next_place here c) s →
      EscapeThen q u (KeyOrString T stack key at0) (escape.unit None n v) here (c ∷ s)
  unfolding in_unit
  back_first key u n v here c s =
      by_cases (nat_lt n 4 && nat_lt v 4096) _ _
      (λ e h. λ x atb lx dx a. go (and_parts (nat_lt n 4) (nat_lt v 4096) e).0 (hex c) refl h x atb lx dx a)
      (λ e. stuck)
    where
      ended : (w : ℕ) (x : List ℕ) (atb : Place) → IsUnit (x ++ c ∷ []) w →
          place_after atb (backslash ∷ small_u ∷ (x ++ c ∷ [])) ≡ next_place here c →
          Left T (unit_end stack key q u at0 None w) (next_place here c) s →
          QuotedThen q u (KeyOrString T stack key at0) atb (backslash ∷ small_u ∷ (x ++ c ∷ [] ++ s))
      ended w x atb iu a =
          by_cases (is_high w) _ _
          (λ f h. h.left (x ++ c ∷ []) atb iu f a)
          (λ f h.
          let g = scalar_then key u w (next_place here c) s h in
          add key u (encode_utf8 w) atb (place_after (next_place (next_place atb backslash) small_u) (x ++ c ∷ [])) (backslash ∷ small_u ∷ (x ++ c ∷ [] ++ s)) s (λ v at2 s2 l. unit (x ++ c ∷ []) refl refl iu g.0 l)
          (subst (λ (y : Place). QuotedThen q (u ++ encode_utf8 w) (KeyOrString T stack key at0) y s) (sym a) g.1))

      go : nat_lt n 4 ≡ true → (o : Option ℕ) → hex c ≡ o → Left T (unit_with stack key q u at0 None n v o) (next_place here c) s →
          (x : List ℕ) (atb : Place) → length x ≡ n → hex_value (Some 0) x ≡ Some v → place_after atb (backslash ∷ small_u ∷ x) ≡ here →
          QuotedThen q u (KeyOrString T stack key at0) atb (backslash ∷ small_u ∷ (x ++ c ∷ s))
      go small None e h x atb lx dx a = stuck h
      go small (Some d) e h x atb lx dx a =
          let l2 : length (x ++ c ∷ []) ≡ n + 1 = length_one x c n lx in
          let d2 : hex_value (Some 0) (x ++ c ∷ []) ≡ Some (v * 16 + d) = digits_append (Some 0) x v c d dx e in
          let a2 : place_after atb (backslash ∷ small_u ∷ (x ++ c ∷ [])) ≡ next_place here c = place_append_one (next_place (next_place atb backslash) small_u) x c ∙ ap (λ (y : Place). next_place y c) a in
          subst (λ (y : List ℕ). QuotedThen q u (KeyOrString T stack key at0) atb (backslash ∷ small_u ∷ y)) (append_assoc x (c ∷ []) s)
          (by_cases (not (may_stand false (n + 1) (v * 16 + d))) _ _ (λ f. stuck)
          (λ f. by_cases (nat_lt (n + 1) 4) _ _
          (λ g h. h.left (x ++ c ∷ []) atb l2 d2 a2)
          (λ g h. ended (v * 16 + d) x atb (unit_of x c n (v * 16 + d) small g l2 d2) a2 h)) h)

  -- behind the digits of a unit that stands behind a high surrogate
  back_second : (key : Bool) (u : List ℕ) (high n v : ℕ) (here : Place) (c : ℕ) (s : List ℕ) →
      Left T (in_unit stack key q u at0 (Some high) n v c) (next_place here c) s →
      EscapeThen q u (KeyOrString T stack key at0) (escape.unit (Some high) n v) here (c ∷ s)
  unfolding in_unit
  back_second key u high n v here c s =
      by_cases (nat_lt n 4 && nat_lt v 4096) _ _
      (λ e h. λ x y atb iu hi ly dy low a. go (and_parts (nat_lt n 4) (nat_lt v 4096) e).0 (hex c) refl h x y atb iu hi ly dy low a)
      (λ e. stuck)
    where
      ended : (w : ℕ) (x y : List ℕ) (atb : Place) → IsUnit x high → is_high high ≡ true → IsUnit y w → is_low w ≡ true →
          place_after (next_place (next_place (place_after atb (backslash ∷ small_u ∷ x)) backslash) small_u) y ≡ next_place here c →
          Left T (unit_end stack key q u at0 (Some high) w) (next_place here c) s →
          QuotedThen q u (KeyOrString T stack key at0) atb (backslash ∷ small_u ∷ (x ++ (backslash ∷ small_u ∷ (y ++ s))))
      ended w x y atb iu hi iy low a h =
          let g = scalar_then key u (paired high w) (next_place here c) s h in
          add key u (encode_utf8 (paired high w)) atb (place_after (next_place (next_place (place_after atb (backslash ∷ small_u ∷ x)) backslash) small_u) y) (backslash ∷ small_u ∷ (x ++ (backslash ∷ small_u ∷ (y ++ s)))) s (λ v at2 s2 l. pair x y refl refl iu hi refl refl iy low l)
          (subst (λ (z : Place). QuotedThen q (u ++ encode_utf8 (paired high w)) (KeyOrString T stack key at0) z s) (sym a) g.1)

      go : nat_lt n 4 ≡ true → (o : Option ℕ) → hex c ≡ o → Left T (unit_with stack key q u at0 (Some high) n v o) (next_place here c) s →
          (x y : List ℕ) (atb : Place) → IsUnit x high → is_high high ≡ true → length y ≡ n → hex_value (Some 0) y ≡ Some v → LowDigits n v →
          place_after (next_place (next_place (place_after atb (backslash ∷ small_u ∷ x)) backslash) small_u) y ≡ here → QuotedThen q u (KeyOrString T stack key at0) atb (backslash ∷ small_u ∷ (x ++ (backslash ∷ small_u ∷ (y ++ c ∷ s))))
      go small None e h x y atb iu hi ly dy low a = stuck h
      go small (Some d) e h x y atb iu hi ly dy low a =
          let w : ℕ = v * 16 + d in
          let y2 : List ℕ = y ++ c ∷ [] in
          let l2 : length y2 ≡ n + 1 = length_one y c n ly in
          let d2 : hex_value (Some 0) y2 ≡ Some w = digits_append (Some 0) y v c d dy e in
          let a2 : place_after (next_place (next_place (place_after atb (backslash ∷ small_u ∷ x)) backslash) small_u) y2 ≡ next_place here c = place_append_one (next_place (next_place (place_after atb (backslash ∷ small_u ∷ x)) backslash) small_u) y c ∙ ap (λ (z : Place). next_place z c) a in
          subst (λ (z : List ℕ). QuotedThen q u (KeyOrString T stack key at0) atb (backslash ∷ small_u ∷ (x ++ (backslash ∷ small_u ∷ z)))) (append_assoc y (c ∷ []) s)
          (by_cases (not (may_stand true (n + 1) w)) _ _ (λ f. stuck)
          (λ f.
          let low2 : LowDigits (n + 1) w = low_next n v d small (hex_small c d e) low (unnot (may_stand true (n + 1) w) f) in
          by_cases (nat_lt (n + 1) 4) _ _
          (λ g h. h.left x y2 atb iu hi l2 d2 low2 a2)
          (λ g h.
          let iy : IsUnit y2 w = unit_of y c n w small g l2 d2 in
          let four : n + 1 ≡ 4 = sym l2 ∙ iy.0 in
          ended w x y2 atb iu hi iy (subst (λ (m : ℕ). LowDigits m w) four low2) a2 h)) h)

  -- behind a high surrogate
  back_high : (key : Bool) (u : List ℕ) (high : ℕ) (here : Place) (c : ℕ) (s : List ℕ) →
      Left T (in_quoted stack key q u at0 (escape.high high) c) (next_place here c) s →
      EscapeThen q u (KeyOrString T stack key at0) (escape.high high) here (c ∷ s)
  unfolding in_quoted
  back_high key u high here c s =
      by_cases (c == backslash) _ _
      (λ e h. λ x atb iu hi a. subst (λ (y : ℕ). QuotedThen q u (KeyOrString T stack key at0) atb (backslash ∷ small_u ∷ (x ++ y ∷ s))) (sym (same_character c backslash e)) (h.left x atb iu hi (ap (λ (y : Place). next_place y backslash) a ∙ ap (next_place here) (sym (same_character c backslash e)))))
      (λ e. stuck)

  -- and a backslash
  back_high_backslash : (key : Bool) (u : List ℕ) (high : ℕ) (here : Place) (c : ℕ) (s : List ℕ) →
      Left T (in_quoted stack key q u at0 (escape.high_backslash high) c) (next_place here c) s →
      EscapeThen q u (KeyOrString T stack key at0) (escape.high_backslash high) here (c ∷ s)
  unfolding in_quoted
  back_high_backslash key u high here c s =
      by_cases (c == small_u) _ _
      (λ e h. λ x atb iu hi a. subst (λ (y : ℕ). QuotedThen q u (KeyOrString T stack key at0) atb (backslash ∷ small_u ∷ (x ++ (backslash ∷ y ∷ s)))) (sym (same_character c small_u e)) (h.left x [] atb iu hi refl refl tt (ap (λ (y : Place). next_place y small_u) a ∙ ap (next_place here) (sym (same_character c small_u e)))))
      (λ e. stuck)

  -- in a quoted string
  pub back_quoted : (key : Bool) (u : List ℕ) (e : Escape) (here : Place) (c : ℕ) (s : List ℕ) →
      Left T (in_quoted stack key q u at0 e c) (next_place here c) s → QuotedLeft T stack key q u at0 e here (c ∷ s)
  unfolding in_quoted
  back_quoted key u escape.none here c s h = back_outside key u here c s h
  back_quoted key u escape.backslash here c s h = back_backslash key u here c s h
  back_quoted key u (escape.unit None n v) here c s h = back_first key u n v here c s h
  back_quoted key u (escape.unit (Some high) n v) here c s h = back_second key u high n v here c s h
  back_quoted key u (escape.high high) here c s h = back_high key u high here c s h
  back_quoted key u (escape.high_backslash high) here c s h = back_high_backslash key u high here c s h

-- behind two single quotes
pub back_two_quotes : (T : Tree) (stack : List Frame) (at0 here : Place) (c : ℕ) (s : List ℕ) →
    Left T (in_two_quotes here stack at0 c) (next_place here c) s → LeftNow T stack None (now.two_quotes at0) here (c ∷ s)
unfolding in_two_quotes
back_two_quotes T stack at0 here c s =
    by_cases (c == single_quote) _ _
    (λ e h. λ a.
    let x = h.left in
    let l : Lines (place_after at0 (single_quote ∷ single_quote ∷ c ∷ [])) s x.0 x.1 x.2 = subst (λ (y : Place). Lines (next_place y c) s x.0 x.1 x.2) (sym a) x.3 in
    (string_of (lines_text (at0.column - 1) x.0) at0, x.1, x.2, leaf_value (lines refl refl (same_character c single_quote e) l), x.4))
    (λ e h. λ a.
    let f : AfterValue T stack (string_of [] at0) (next_place (next_place at0 single_quote) single_quote) (c ∷ s) = subst (λ (y : Place). AfterValue T stack (string_of [] at0) y (c ∷ s)) (sym a) (after_then_gap T stack (string_of [] at0) here c s h) in
    (string_of [] at0, next_place (next_place at0 single_quote) single_quote, c ∷ s, leaf_value (quoted refl (rw e refl) (closes refl)), f))
