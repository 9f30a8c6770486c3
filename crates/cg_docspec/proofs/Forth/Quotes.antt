-- What the grammar derives, the machine reads. Quoted strings.
use Rattle.std.proofs.Common.{◌≡◌, ℕ, ◌+◌, ◌<◌, inl, inr, List, [], ◌∷◌, ◌++◌, Option, Some, None, refl, arith, true, false, Bool, ap, subst, ◌∙◌, sym, append_assoc}
use Rattle.std.specs.Prelude.{◌*◌, ◌==◌, nat_lt, is_some, encode_utf8}
use Rattle.std.proofs.lemmas.Bool.Decides.{nat_tests}
use Rattle.std.proofs.lemmas.List.{append-nil}
use lib.Utf8.{scalar}
use Rattle.cg_docspec.specs.Characters.{backslash, is_control, small_u}
use Rattle.cg_docspec.specs.Place.{Place, next_place, place_after}
use Rattle.cg_docspec.specs.Quoted.{IsUnit, Quoted, as_is, closes, escape, escaped, hex, hex_value, is_high, is_low, pair, paired, unit, with_digit}
use Rattle.cg_docspec.specs.Machine.Escape.{Escape}
use Rattle.cg_docspec.specs.Machine.Escape as escape
use Rattle.cg_docspec.specs.Machine.Frame.{Frame}
use Rattle.cg_docspec.specs.Machine.Now as now
use Rattle.cg_docspec.specs.Machine.Quote.{behind_backslash, escape_more, in_quoted, in_unit, may_stand, outside_escape, unit_end, unit_with}
use Rattle.cg_docspec.specs.Machine.Run.{Finds, step}
use Rattle.cg_docspec.specs.Machine.State.{State, reading}
use Rattle.cg_docspec.proofs.Back.Quotes.{close}
use Rattle.cg_docspec.proofs.Basics.{bool_cases, same_character}
use Rattle.cg_docspec.proofs.Forth.Gaps.{Goes, goes_step}
use Rattle.cg_docspec.proofs.Units.{hex_small}

-- four digits and their value
record Four (x : List ℕ) (w : ℕ) : Type 0 where
  a : ℕ
  b : ℕ
  e : ℕ
  f : ℕ
  da : ℕ
  db : ℕ
  de : ℕ
  df : ℕ
  is : x ≡ a ∷ b ∷ e ∷ f ∷ []
  ha : hex a ≡ Some da
  hb : hex b ≡ Some db
  he : hex e ≡ Some de
  hf : hex f ≡ Some df
  value : (((0 * 16 + da) * 16 + db) * 16 + de) * 16 + df ≡ w

-- a digit more
digit_of : (v c w : ℕ) (s : List ℕ) → hex_value (with_digit v (hex c)) s ≡ Some w →
    (d : ℕ) × (hex c ≡ Some d) × (hex_value (Some (v * 16 + d)) s ≡ Some w)
digit_of v c w s = go (hex c) refl
  where
    no_digits : (s : List ℕ) → hex_value None s ≡ Some w → ⊥
    no_digits [] e = cc
    no_digits (x ∷ s) e = cc

    go : (o : Option ℕ) → hex c ≡ o → hex_value (with_digit v o) s ≡ Some w → (d : ℕ) × (hex c ≡ Some d) × (hex_value (Some (v * 16 + d)) s ≡ Some w)
    go None e f = absurd (no_digits s f)
    go (Some d) e f = (d, e, f)

-- a unit has four digits
four : (x : List ℕ) (w : ℕ) → IsUnit x w → Four x w
four [] w u = absurd (omega (arith, u.0))
four (a ∷ []) w u = absurd (omega (arith, u.0))
four (a ∷ b ∷ []) w u = absurd (omega (arith, u.0))
four (a ∷ b ∷ e ∷ []) w u = absurd (omega (arith, u.0))
four (a ∷ b ∷ e ∷ f ∷ g ∷ x) w u = absurd (omega (arith, u.0))
four (a ∷ b ∷ e ∷ f ∷ []) w u =
    let p = digit_of 0 a w (b ∷ e ∷ f ∷ []) u.1 in
    let q = digit_of (0 * 16 + p.0) b w (e ∷ f ∷ []) p.2 in
    let r = digit_of ((0 * 16 + p.0) * 16 + q.0) e w (f ∷ []) q.2 in
    let t = digit_of (((0 * 16 + p.0) * 16 + q.0) * 16 + r.0) f w [] r.2 in
    let last : Some ((((0 * 16 + p.0) * 16 + q.0) * 16 + r.0) * 16 + t.0) ≡ Some w = t.2 in
    record { a = a; b = b; e = e; f = f; da = p.0; db = q.0; de = r.0; df = t.0; is = refl; ha = p.1; hb = q.1; he = r.1; hf = t.1; value = cc }

module _ (stack : List Frame) (key : Bool) (q : ℕ) (at0 : Place) where
  -- in a quoted string
  abbrev pub string_state : List ℕ → Escape → State
  string_state u e = reading stack (now.quoted key q u at0 e)

  -- a character that stands for itself
  step_as_is : (at : Place) (u : List ℕ) (c : ℕ) → (c == q) ≡ false → (c == backslash) ≡ false → is_control c ≡ false →
      step at (string_state u escape.none) c ≡ Some (string_state (u ++ encode_utf8 c) escape.none)
  unfolding step in_quoted outside_escape
  step_as_is at u c e f g = rw (e, f, g) refl

  -- a backslash, which is no quote
  step_escape : (at : Place) (u : List ℕ) (c : ℕ) → c ≡ backslash → (backslash == q) ≡ false →
      step at (string_state u escape.none) c ≡ Some (string_state u escape.backslash)
  unfolding step in_quoted outside_escape
  step_escape at u c e f = rw (e, f) refl

  -- the character of an escape
  step_escaped : (at : Place) (u : List ℕ) (d v : ℕ) → escaped d ≡ Some v →
      step at (string_state u escape.backslash) d ≡ Some (string_state (u ++ encode_utf8 v) escape.none)
  unfolding step in_quoted behind_backslash
  step_escaped at u d v e = elim (bool_cases (d == small_u)) as (λ _. step at (string_state u escape.backslash) d ≡ Some (string_state (u ++ encode_utf8 v) escape.none)) [
    | inl f ↦ let g : escaped small_u ≡ Some v = subst (λ (x : ℕ). escaped x ≡ Some v) (same_character d small_u f) e in let h : None ≡ Some v = g in cc
    | inr f ↦ rw f (ap (λ (o : Option ℕ). escape_more stack key q u at0 o) e)
  ]

  -- the u of a unit
  step_u : (at : Place) (u : List ℕ) (d : ℕ) → d ≡ small_u →
      step at (string_state u escape.backslash) d ≡ Some (string_state u (escape.unit None 0 0))
  unfolding step in_quoted behind_backslash
  step_u at u d e = rw e refl

  -- a digit of a unit
  step_digit : (at : Place) (u : List ℕ) (high : Option ℕ) (n v c d : ℕ) → hex c ≡ Some d → nat_lt n 4 ≡ true → nat_lt v 4096 ≡ true →
      may_stand (is_some high) (n + 1) (v * 16 + d) ≡ true → nat_lt (n + 1) 4 ≡ true →
      step at (string_state u (escape.unit high n v)) c ≡ Some (string_state u (escape.unit high (n + 1) (v * 16 + d)))
  unfolding step in_quoted in_unit
  step_digit at u high n v c d e f g m k = rw (f, g) (ap (λ (o : Option ℕ). unit_with stack key q u at0 high n v o) e ∙ rw (m, k) refl)

  -- its last digit
  step_last : (at : Place) (u : List ℕ) (high : Option ℕ) (v c d : ℕ) → hex c ≡ Some d → nat_lt v 4096 ≡ true →
      step at (string_state u (escape.unit high 3 v)) c ≡ unit_end stack key q u at0 high (v * 16 + d)
  unfolding step in_quoted in_unit
  step_last at u high v c d e g = rw g (ap (λ (o : Option ℕ). unit_with stack key q u at0 high 3 v o) e)

  -- a unit that is a character
  ends_scalar : (u : List ℕ) (w : ℕ) → scalar w ≡ true → is_high w ≡ false →
      unit_end stack key q u at0 None w ≡ Some (string_state (u ++ encode_utf8 w) escape.none)
  ends_scalar u w e f = rw (f, e) refl

  -- a high surrogate
  ends_high : (u : List ℕ) (w : ℕ) → is_high w ≡ true → unit_end stack key q u at0 None w ≡ Some (string_state u (escape.high w))
  ends_high u w e = rw e refl

  -- a low surrogate behind a high one
  ends_pair : (u : List ℕ) (h w : ℕ) → scalar (paired h w) ≡ true →
      unit_end stack key q u at0 (Some h) w ≡ Some (string_state (u ++ encode_utf8 (paired h w)) escape.none)
  ends_pair u h w e = rw e refl

  -- four digits
  digits_goes : (high : Option ℕ) (u x : List ℕ) (w : ℕ) (at : Place) (s : List ℕ) (end : State) → (four : Four x w) →
      may_stand (is_some high) 1 (0 * 16 + four.da) ≡ true → may_stand (is_some high) 2 ((0 * 16 + four.da) * 16 + four.db) ≡ true →
      unit_end stack key q u at0 high w ≡ Some end → Goes at (string_state u (escape.unit high 0 0)) (x ++ s) (place_after at x) end s
  digits_goes high u x w at s end n m1 m2 e t doc =
      let ka = hex_small n.a n.da n.ha in
      let kb = hex_small n.b n.db n.hb in
      let ke = hex_small n.e n.de n.he in
      let v1 : ℕ = 0 * 16 + n.da in
      let v2 : ℕ = v1 * 16 + n.db in
      let v3 : ℕ = v2 * 16 + n.de in
      let b1 : v1 < 4096 = omega arith in
      let b2 : v2 < 4096 = omega arith in
      let b3 : v3 < 4096 = omega arith in
      let l1 : nat_lt v1 4096 ≡ true = grind (arith, nat_tests) in
      let l2 : nat_lt v2 4096 ≡ true = grind (arith, nat_tests) in
      let l3 : nat_lt v3 4096 ≡ true = grind (arith, nat_tests) in
      let at1 : Place = next_place at n.a in
      let at2 : Place = next_place at1 n.b in
      let at3 : Place = next_place at2 n.e in
      let end_doc : Finds (next_place at3 n.f) end s t = subst (λ (y : List ℕ). Finds (place_after at y) end s t) n.is doc in
      let r : Finds at (string_state u (escape.unit high 0 0)) (n.a ∷ n.b ∷ n.e ∷ n.f ∷ s) t =
      goes_step at (string_state u (escape.unit high 0 0)) (string_state u (escape.unit high 1 v1)) n.a (n.b ∷ n.e ∷ n.f ∷ s) (step_digit at u high 0 0 n.a n.da n.ha refl refl m1 refl) t
      (goes_step at1 (string_state u (escape.unit high 1 v1)) (string_state u (escape.unit high 2 v2)) n.b (n.e ∷ n.f ∷ s) (step_digit at1 u high 1 v1 n.b n.db n.hb refl l1 m2 refl) t
      (goes_step at2 (string_state u (escape.unit high 2 v2)) (string_state u (escape.unit high 3 v3)) n.e (n.f ∷ s) (step_digit at2 u high 2 v2 n.e n.de n.he refl l2 refl refl) t
      (goes_step at3 (string_state u (escape.unit high 3 v3)) end n.f s (step_last at3 u high v3 n.f n.df n.hf l3 ∙ ap (unit_end stack key q u at0 high) n.value ∙ e) t end_doc))) in
      subst (λ (y : List ℕ). Finds at (string_state u (escape.unit high 0 0)) (y ++ s) t) (sym n.is) r

  -- a backslash behind a high surrogate
  step_high : (at : Place) (u : List ℕ) (h c : ℕ) → c ≡ backslash →
      step at (string_state u (escape.high h)) c ≡ Some (string_state u (escape.high_backslash h))
  unfolding step in_quoted
  step_high at u h c e = rw e refl

  -- and the u of the second unit
  step_high_u : (at : Place) (u : List ℕ) (h c : ℕ) → c ≡ small_u →
      step at (string_state u (escape.high_backslash h)) c ≡ Some (string_state u (escape.unit (Some h) 0 0))
  unfolding step in_quoted
  step_high_u at u h c e = rw e refl

  -- the closing quote leads to the end
  abbrev pub Closing : List ℕ → List ℕ → State → Type 0
  Closing u r end = (at : Place) (c : ℕ) → (c == q) ≡ true → Goes at (string_state u escape.none) (c ∷ r) (next_place at c) end r

  -- a quoted string
  pub quoted_goes : {at at' : Place} {s v r : List ℕ} (u : List ℕ) (end : State) → (backslash == q) ≡ false → Quoted q at s v at' r →
      Closing (u ++ v) r end → Goes at (string_state u escape.none) s at' end r
  quoted_goes u end nq (closes {at} {c} {s} e) f t doc = subst (λ (y : List ℕ). Closing y s end) (append-nil u) f at c e t doc
  quoted_goes u end nq (as_is {at} {at'} {c} {s} {u = v} {r} e g h l) f t doc =
      goes_step at (string_state u escape.none) (string_state (u ++ encode_utf8 c) escape.none) c s (step_as_is at u c e g h) t
      (quoted_goes (u ++ encode_utf8 c) end nq l (subst (λ (y : List ℕ). Closing y r end) (sym (append_assoc u (encode_utf8 c) v)) f) t doc)
  quoted_goes u end nq (escape {at} {at'} {c} {d} {v = w} {s} {u = v} {r} e g l) f t doc =
      goes_step at (string_state u escape.none) (string_state u escape.backslash) c (d ∷ s) (step_escape at u c e nq) t
      (goes_step (next_place at c) (string_state u escape.backslash) (string_state (u ++ encode_utf8 w) escape.none) d s (step_escaped (next_place at c) u d w g) t
      (quoted_goes (u ++ encode_utf8 w) end nq l (subst (λ (y : List ℕ). Closing y r end) (sym (append_assoc u (encode_utf8 w) v)) f) t doc))
  quoted_goes u end nq (unit {at} {at'} {c} {d} {v = w} {s} {u = v} {r} x e g iu sc l) f t doc =
      let n = four x w iu in
      let p = alone (n.da) (n.db) (n.de) (n.df) w (hex_small n.e n.de n.he) (hex_small n.f n.df n.hf) n.value sc in
      goes_step at (string_state u escape.none) (string_state u escape.backslash) c (d ∷ (x ++ s)) (step_escape at u c e nq) t
      (goes_step (next_place at c) (string_state u escape.backslash) (string_state u (escape.unit None 0 0)) d (x ++ s) (step_u (next_place at c) u d g) t
      (digits_goes None u x w (next_place (next_place at c) d) s (string_state (u ++ encode_utf8 w) escape.none) n refl p.0 (ends_scalar u w sc p.1) t
      (quoted_goes (u ++ encode_utf8 w) end nq l (subst (λ (y : List ℕ). Closing y r end) (sym (append_assoc u (encode_utf8 w) v)) f) t doc)))
    where
      alone : (a b e f w : ℕ) → e < 16 → f < 16 → ((((0 * 16 + a) * 16 + b) * 16 + e) * 16 + f ≡ w) → scalar w ≡ true →
          (may_stand false 2 ((0 * 16 + a) * 16 + b) ≡ true) × (is_high w ≡ false)
      alone a b e f w le lf v sc = (grind (arith, nat_tests), grind (arith, nat_tests))
  quoted_goes u end nq (pair {at} {at'} {c} {d} {e} {f} {v = h} {w} {s} {u = v} {r} x y ec ed iu hi ee ef iy low l) close t doc =
      let n = four x h iu in
      let m = four y w iy in
      let p = front (n.da) (n.db) (n.de) (n.df) h (hex_small n.e n.de n.he) (hex_small n.f n.df n.hf) n.value hi in
      let b = behind (m.da) (m.db) (m.de) (m.df) w (hex_small m.b m.db m.hb) (hex_small m.e m.de m.he) (hex_small m.f m.df m.hf) m.value low in
      let at2 : Place = next_place (next_place at c) d in
      let at3 : Place = place_after at2 x in
      let rest : List ℕ = e ∷ f ∷ (y ++ s) in
      goes_step at (string_state u escape.none) (string_state u escape.backslash) c (d ∷ (x ++ rest)) (step_escape at u c ec nq) t
      (goes_step (next_place at c) (string_state u escape.backslash) (string_state u (escape.unit None 0 0)) d (x ++ rest) (step_u (next_place at c) u d ed) t
      (digits_goes None u x h at2 rest (string_state u (escape.high h)) n refl p (ends_high u h hi) t
      (goes_step at3 (string_state u (escape.high h)) (string_state u (escape.high_backslash h)) e (f ∷ (y ++ s)) (step_high at3 u h e ee) t
      (goes_step (next_place at3 e) (string_state u (escape.high_backslash h)) (string_state u (escape.unit (Some h) 0 0)) f (y ++ s) (step_high_u (next_place at3 e) u h f ef) t
      (digits_goes (Some h) u y w (next_place (next_place at3 e) f) s (string_state (u ++ encode_utf8 (paired h w)) escape.none) m b.0 b.1 (ends_pair u h w (joined_scalar h w)) t
      (quoted_goes (u ++ encode_utf8 (paired h w)) end nq l (subst (λ (y : List ℕ). Closing y r end) (sym (append_assoc u (encode_utf8 (paired h w)) v)) close) t doc))))))
    where
      front : (a b e f w : ℕ) → e < 16 → f < 16 → ((((0 * 16 + a) * 16 + b) * 16 + e) * 16 + f ≡ w) → is_high w ≡ true →
          may_stand false 2 ((0 * 16 + a) * 16 + b) ≡ true
      front a b e f w le lf v hi = grind (arith, nat_tests)

      behind : (a b e f w : ℕ) → b < 16 → e < 16 → f < 16 → ((((0 * 16 + a) * 16 + b) * 16 + e) * 16 + f ≡ w) → is_low w ≡ true →
          (may_stand true 1 (0 * 16 + a) ≡ true) × (may_stand true 2 ((0 * 16 + a) * 16 + b) ≡ true)
      behind a b e f w lb le lf v low = (grind (arith, nat_tests), grind (arith, nat_tests))

      joined_scalar : (h w : ℕ) → scalar (paired h w) ≡ true
      joined_scalar h w = grind (arith, nat_tests)
