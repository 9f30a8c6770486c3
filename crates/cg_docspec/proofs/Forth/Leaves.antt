-- What the grammar derives, the machine reads. Values and documents.
use Rattle.std.proofs.Common.{◌≡◌, ℕ, inl, inr, List, [], ◌∷◌, ◌++◌, Some, None, refl, arith, length, true, false, Bool, ap, subst, ◌∙◌, sym}
use Rattle.std.specs.Prelude.{◌-◌, ◌&&◌, ◌||◌, ◌==◌, not, encode_utf8}
use Rattle.std.specs.Char.{len_utf8}
use Rattle.std.proofs.lemmas.Bool.{and_parts}
use Rattle.std.proofs.lemmas.Bool.Decides.{nat_tests}
use Rattle.std.proofs.lemmas.List.{append-nil}
use Rattle.std.proofs.lemmas.Str.{length-encode, len_utf8_bounds}
use lib.Utf8.{encodes}
use Rattle.cg_docspec.specs.Characters.{backslash, carriage_return, close_bracket, comma, hash, is_blank, is_control, is_key, is_mark, is_quote, is_space, line_feed, open_brace, open_bracket, single_quote, slash, star}
use Rattle.cg_docspec.specs.Place.{Place, next_place, place_after}
use Rattle.cg_docspec.specs.Tree.{Kind, Tree, string_of, tree}
use Rattle.cg_docspec.specs.Gap.{Line, at_comment, at_line_end, line_end, line_more, starts}
use Rattle.cg_docspec.specs.Quoted.{Quoted, as_is, closes, escape, pair, paired, unit}
use Rattle.cg_docspec.specs.Lines.{is_nil}
use Rattle.cg_docspec.specs.Literal.{NoLiteral, may_follow}
use Rattle.cg_docspec.specs.Document.{Leaf, lines, literal, quoted, trimmed, unquoted}
use Rattle.cg_docspec.specs.Machine.Awaited.{Awaited}
use Rattle.cg_docspec.specs.Machine.Awaited as awaited
use Rattle.cg_docspec.specs.Machine.Closing.{delivered, keyed}
use Rattle.cg_docspec.specs.Machine.Comment.{in_slash, then_begun}
use Rattle.cg_docspec.specs.Machine.Escape as escape
use Rattle.cg_docspec.specs.Machine.Frame.{Frame}
use Rattle.cg_docspec.specs.Machine.Frame as frame
use Rattle.cg_docspec.specs.Machine.MultiLine.{in_two_quotes}
use Rattle.cg_docspec.specs.Machine.Now as now
use Rattle.cg_docspec.specs.Machine.Numeral.{is_literal, plain_kind, plain_tree}
use Rattle.cg_docspec.specs.Machine.Quote.{in_quoted, outside_escape, quoted_end}
use Rattle.cg_docspec.specs.Machine.Run.{Finds, step}
use Rattle.cg_docspec.specs.Machine.Spot as spot
use Rattle.cg_docspec.specs.Machine.State.{State, reading}
use Rattle.cg_docspec.specs.Machine.Token.{begin_item, begin_token, begin_value, in_gap, then_gap}
use Rattle.cg_docspec.proofs.Back.Tokens.{empty_taken}
use Rattle.cg_docspec.proofs.Basics.{bool_cases, both, never, same_character}
use Rattle.cg_docspec.proofs.Forth.Gaps.{Goes, gap_state, goes_step, same_steps, slash_state, step_slash, unfinished}
use Rattle.cg_docspec.proofs.Forth.Lines.{lines_goes, lines_state}
use Rattle.cg_docspec.proofs.Forth.Plain.{literal_goes, no_second, plain_state, unquoted_goes}
use Rattle.cg_docspec.proofs.Forth.Quotes.{Closing, quoted_goes, string_state}
use Rattle.cg_docspec.proofs.Left.{is_taken}
use Rattle.cg_docspec.proofs.Literals.{are_wordy, encodes_wordy, is_wordy, literal_is, literal_of, literal_says, literal_wordy}

-- ---- where a value is read

-- no blank, carriage return, #, /, comma or ]
abbrev pub first_of_value : ℕ → Bool
first_of_value c = not (is_blank c || c == carriage_return || c == hash || c == slash || c == comma || c == close_bracket)

-- a value may begin in this gap
pub record Takes (stack : List Frame) (place_after : Awaited) : Type 0 where
  pub direct : (at : Place) (c : ℕ) → first_of_value c ≡ true → step at (gap_state stack None place_after) c ≡ begin_value at stack c
  pub behind : (at : Place) → begin_token at stack place_after slash ≡ begin_value at stack slash

-- such a character is none of these
apart : (c : ℕ) → first_of_value c ≡ true →
    (is_blank c ≡ false) × ((c == carriage_return) ≡ false) × ((c == hash) ≡ false) × ((c == slash) ≡ false) × ((c == comma) ≡ false) × ((c == close_bracket) ≡ false)
apart c e = (grind (arith, nat_tests), grind (arith, nat_tests), grind (arith, nat_tests), grind (arith, nat_tests), grind (arith, nat_tests), grind (arith, nat_tests))

-- a value may begin in a list
pub takes_list : (list_at : Place) (ts : List Tree) (stack : List Frame) (b : Bool) → Takes (frame.in_list list_at ts ∷ stack) (awaited.item b)
unfolding step in_gap begin_token begin_item
takes_list list_at ts stack true = record {
  direct = λ at c e. let p = apart c e in rw (p.0, p.1, p.2, p.3, p.4, p.5) refl;
  behind = λ at. refl;
}
takes_list list_at ts stack false = record {
  direct = λ at c e. let p = apart c e in rw (p.0, p.1, p.2, p.3, p.5) refl;
  behind = λ at. refl;
}

-- a value may begin behind a colon
pub takes_value : (stack : List Frame) → Takes stack awaited.value
unfolding step in_gap begin_token
takes_value stack = record { direct = λ at c e. let p = apart c e in rw (p.0, p.1, p.2, p.3) refl; behind = λ at. refl }

-- ---- the first character of a value

-- a quoted string begins
begin_quote : (at : Place) (stack : List Frame) (c : ℕ) → is_quote c ≡ true →
    begin_value at stack c ≡ Some (string_state stack false c at [] escape.none)
unfolding begin_value
begin_quote at stack c e =
    let a : (c == open_brace) ≡ false = grind (arith, nat_tests) in
    let b : (c == open_bracket) ≡ false = grind (arith, nat_tests) in
    let m : (is_mark c || is_control c) ≡ false = grind (arith, nat_tests) in
    rw (m, a, b, e) refl

-- a literal or an unquoted string begins
begin_plain : (at : Place) (stack inner : List Frame) (c : ℕ) → is_key c ≡ true → is_quote c ≡ false →
    begin_value at stack c ≡ Some (plain_state stack inner at (encode_utf8 c) [] true)
unfolding begin_value
begin_plain at stack inner c k e =
    let a : (c == open_brace) ≡ false = grind (arith, nat_tests) in
    let b : (c == open_bracket) ≡ false = grind (arith, nat_tests) in
    let m : (is_mark c || is_control c) ≡ false = grind (arith, nat_tests) in
    rw (m, a, b, e) refl

-- an object begins
pub begin_object : (at : Place) (stack : List Frame) (c : ℕ) → c ≡ open_brace →
    begin_value at stack c ≡ Some (gap_state (frame.in_object at [] ∷ stack) None (awaited.item false))
unfolding begin_value
begin_object at stack c h = rw h refl

-- a list begins
pub begin_list : (at : Place) (stack : List Frame) (c : ℕ) → c ≡ open_bracket →
    begin_value at stack c ≡ Some (gap_state (frame.in_list at [] ∷ stack) None (awaited.item false))
unfolding begin_value
begin_list at stack c h = rw h refl

-- what begins no comment is no #
pub no_hash : (c : ℕ) (s : List ℕ) → at_comment (c ∷ s) ≡ false → (c == hash) ≡ false
no_hash c s e = elim (bool_cases (c == hash)) as (λ _. (c == hash) ≡ false) [ inl f ↦ never (sym e ∙ (let x : at_comment (c ∷ s) ≡ true = rw f refl in x)) | inr f ↦ f ]

-- ---- closing quotes

-- the closing quote
pub quote_end : (at : Place) (stack : List Frame) (key : Bool) (q : ℕ) (at0 : Place) (u : List ℕ) (c : ℕ) → (c == q) ≡ true →
    step at (string_state stack key q at0 u escape.none) c ≡ quoted_end stack key q u at0
unfolding step in_quoted outside_escape
quote_end at stack key q at0 u c e = rw e refl

-- of a key
pub end_key : (stack : List Frame) (q : ℕ) (at0 : Place) (u : List ℕ) → quoted_end stack true q u at0 ≡ keyed stack u at0
unfolding quoted_end
end_key stack q at0 u = refl

-- of a value
end_value : (stack : List Frame) (q : ℕ) (at0 : Place) (u : List ℕ) → (q == single_quote && is_nil u) ≡ false →
    quoted_end stack false q u at0 ≡ delivered stack (string_of u at0)
unfolding quoted_end
end_value stack q at0 u e = rw e refl

-- behind two single quotes
two_quotes_state : List Frame → Place → State
two_quotes_state stack at0 = reading stack (now.two_quotes at0)

-- of a value, where a third quote may follow
end_empty : (stack : List Frame) (q : ℕ) (at0 : Place) → (q == single_quote) ≡ true →
    quoted_end stack false q [] at0 ≡ Some (two_quotes_state stack at0)
unfolding quoted_end two_quotes_state
end_empty stack q at0 e = rw e refl

-- no third quote follows
step_empty : (at : Place) (stack : List Frame) (at0 : Place) (d : ℕ) → (d == single_quote) ≡ false →
    step at (two_quotes_state stack at0) d ≡ then_gap at d (delivered stack (string_of [] at0))
unfolding step in_two_quotes two_quotes_state
step_empty at stack at0 d e = rw e refl

-- a third quote follows
step_third : (at : Place) (stack : List Frame) (at0 : Place) (d : ℕ) → d ≡ single_quote →
    step at (two_quotes_state stack at0) d ≡ Some (lines_state stack (at0.column - 1) at0 [] false spot.opening)
unfolding step in_two_quotes two_quotes_state
step_third at stack at0 d e = rw e refl

-- an empty string of single quotes
empty_goes : (at : Place) (stack inner : List Frame) (at0 : Place) (r : List ℕ) → starts (single_quote ∷ []) r ≡ false →
    delivered stack (string_of [] at0) ≡ Some (gap_state inner None (awaited.item true)) →
    Goes at (two_quotes_state stack at0) r at (gap_state inner None (awaited.item true)) r
unfolding step
empty_goes at stack inner at0 [] e out t doc = unfinished at (gap_state inner None (awaited.item true)) t refl doc
empty_goes at stack inner at0 (d ∷ r) e out t doc =
    let f : (d == single_quote) ≡ false = go (d == single_quote) e in
    same_steps at (two_quotes_state stack at0) (gap_state inner None (awaited.item true)) d r (step_empty at stack at0 d f ∙ ap (then_gap at d) out) t doc
  where
    go : (b : Bool) → (b && true) ≡ false → b ≡ false
    go true e = e
    go false e = refl

-- a text with a character is not empty
front_not_nil : {G : Type 0} (c : ℕ) (u : List ℕ) → is_nil (encode_utf8 c ++ u) ≡ true → G
front_not_nil {G = G} c u n = go (encode_utf8 c) (length-encode c) n
  where
    go : (x : List ℕ) → length x ≡ len_utf8 c → is_nil (x ++ u) ≡ true → G
    go (d ∷ x) e n = never n
    go [] e n = absurd (omega (arith, e, len_utf8_bounds c))

-- an empty string is closed at once
nil_closes : {at at' : Place} {s v r : List ℕ} (q : ℕ) → Quoted q at s v at' r → is_nil v ≡ true → (c : ℕ) × (s ≡ c ∷ r) × ((c == q) ≡ true)
nil_closes q (closes {at} {c} {s} e) n = (c, refl, e)
nil_closes q (as_is {c = c} {u = u} e f g l) n = front_not_nil c u n
nil_closes q (escape {v = v} {u = u} e f l) n = front_not_nil v u n
nil_closes q (unit {v = v} {u = u} x e f g h l) n = front_not_nil v u n
nil_closes q (pair {v = v} {w = w} {u = u} x y e f g h i j k m l) n = front_not_nil (paired v w) u n

-- the first character of a line
line_head : {at at' : Place} {s0 w r : List ℕ} (c : ℕ) (s : List ℕ) → s0 ≡ c ∷ s → is_key c ≡ true → Line at s0 w at' r →
    (w1 : List ℕ) × (w ≡ c ∷ w1) × (is_control c ≡ false) × Line (next_place at c) s w1 at' r
line_head c s is k (line_end {at} {s = s1} e) = never (sym (let x : at_line_end s1 ≡ false = rw is (go (c == line_feed) (c == carriage_return) refl refl) in x) ∙ e)
  where
    go : (x y : Bool) → (c == line_feed) ≡ x → (c == carriage_return) ≡ y → at_line_end (c ∷ s) ≡ false
    go true y f g = let h = same_character c line_feed f in never (let x : is_key c ≡ false = rw h refl in sym x ∙ k)
    go false true f g = let h = same_character c carriage_return g in never (let x : is_key c ≡ false = rw h refl in sym x ∙ k)
    go false false f g = rw (f, g) refl
line_head c s is k (line_more {at} {at'} {c = d} {s = s1} {w = w1} {r} ct l) =
    let a : d ≡ c = cc in
    let b : s1 ≡ s = cc in (
      w1,
      ap (λ (x : ℕ). x ∷ w1) a,
      subst (λ (x : ℕ). is_control x ≡ false) a ct,
      subst (λ (x : List ℕ). Line (next_place at c) x w1 at' r) b (subst (λ (x : ℕ). Line (next_place at x) s1 w1 at' r) a l),
    )

-- what is no literal is not taken
none_taken : (s : List ℕ) → NoLiteral s → (u r : List ℕ) → s ≡ u ++ r → is_taken u r ≡ false
none_taken s n u r e = elim (bool_cases (is_taken u r)) as (λ _. is_taken u r ≡ false) [
  | inl f ↦ let p = and_parts (is_literal (encodes u)) (may_follow r) f in absurd (n u r (plain_kind (encodes u)) e (literal_of u p.0) p.1)
  | inr f ↦ f
]

module _ (stack inner : List Frame) (p : Awaited) (takes : Takes stack p) where
  -- where the value begins
  abbrev before : State
  before = gap_state stack None p

  -- where it has ended
  abbrev after : State
  after = gap_state inner None (awaited.item true)

  -- a quoted value's closing quote
  close_quote : (q : ℕ) (at at1 : Place) (u r : List ℕ) → ((is_nil u ≡ true) → (q == single_quote) ≡ true → starts (single_quote ∷ []) r ≡ false) →
      delivered stack (string_of u at) ≡ Some after → Closing stack false q at u r after
  close_quote q at at1 (x ∷ u) r alone out atc c e t doc =
      goes_step atc (string_state stack false q at (x ∷ u) escape.none) after c r (quote_end atc stack false q at (x ∷ u) c e ∙ end_value stack q at (x ∷ u) (and_false (q == single_quote)) ∙ out) t doc
    where
      and_false : (b : Bool) → (b && false) ≡ false
      and_false true = refl
      and_false false = refl
  close_quote q at at1 [] r alone out atc c e t doc =
      elim (bool_cases (q == single_quote)) as (λ _. Finds atc (string_state stack false q at [] escape.none) (c ∷ r) t) [
        | inl f ↦ goes_step atc (string_state stack false q at [] escape.none) (two_quotes_state stack at) c r (quote_end atc stack false q at [] c e ∙ end_empty stack q at f) t (empty_goes (next_place atc c) stack inner at r (alone refl f) out t doc)
        | inr f ↦ goes_step atc (string_state stack false q at [] escape.none) after c r (quote_end atc stack false q at [] c e ∙ end_value stack q at [] (rw f refl) ∙ out) t doc
      ]

  -- a literal
  literal_leaf : (at : Place) (u r : List ℕ) → is_literal (encodes u) ≡ true → may_follow r ≡ true →
      delivered stack (plain_tree (encodes u) at) ≡ Some after → Goes at before (u ++ r) (place_after at u) after r
  literal_leaf at [] r l m out t doc = never (sym (empty_taken r) ∙ both _ _ l m)
  literal_leaf at (c ∷ y) r l m out t doc =
      let words : are_wordy (c ∷ y) ≡ true = encodes_wordy (c ∷ y) (literal_wordy (encodes (c ∷ y)) l) in
      let p2 = and_parts (is_wordy c) (are_wordy y) words in
      let w = p2.0 in
      let f : first_of_value c ≡ true = grind (arith, nat_tests) in
      let k : is_key c ≡ true = grind (arith, nat_tests) in
      let q : is_quote c ≡ false = grind (arith, nat_tests) in
      goes_step at before (plain_state stack inner at (encodes (c ∷ [])) [] true) c (y ++ r) (takes.direct at c f ∙ begin_plain at stack inner c k q ∙ ap (λ (x : List ℕ). Some (plain_state stack inner at x [] true)) (sym (append-nil (encode_utf8 c)))) t
      (literal_goes stack inner at (next_place at c) y (c ∷ []) r p2.1 (both _ _ l m) out t doc)

  -- a value that begins with a slash
  step_slashed : (at at1 : Place) (d : ℕ) → (d == slash || d == star) ≡ false →
      step at1 (slash_state stack None p at) d ≡ step at1 (plain_state stack inner at (encode_utf8 slash) [] true) d
  unfolding step in_slash
  step_slashed at at1 d e = rw e (ap (then_begun at1 d) (takes.behind at ∙ begin_plain at stack inner slash refl refl))

  -- the same for the rest of the text
  slashed : (at at1 : Place) (s : List ℕ) → at_comment (slash ∷ s) ≡ false →
      Goes at1 (slash_state stack None p at) s at1 (plain_state stack inner at (encode_utf8 slash) [] true) s
  slashed at at1 [] e t doc = unfinished at1 (plain_state stack inner at (encode_utf8 slash) [] true) t refl doc
  slashed at at1 (d ∷ s) e t doc = same_steps at1 (slash_state stack None p at) (plain_state stack inner at (encode_utf8 slash) [] true) d s (step_slashed at at1 d (no_second d s e)) t doc

  -- an unquoted string
  unquoted_leaf : (at at' : Place) (c : ℕ) (s w r : List ℕ) → NoLiteral (c ∷ s) → is_key c ≡ true → is_quote c ≡ false → at_comment (c ∷ s) ≡ false →
      Line at (c ∷ s) w at' r → delivered stack (string_of (encodes (trimmed w)) at) ≡ Some after → Goes at before (c ∷ s) at' after r
  unquoted_leaf at at' c s w r n k q nc l out t doc =
      let h = line_head c s refl k l in
      let sp : is_space c ≡ false = grind (arith, nat_tests) in
      let one : encode_utf8 c ≡ encodes (c ∷ []) = sym (append-nil (encode_utf8 c)) in
      let d : Finds (next_place at c) (plain_state stack inner at (encode_utf8 c) [] true) s t =
      subst (λ (x : List ℕ). Finds (next_place at c) (plain_state stack inner at x [] true) s t) (sym one)
      (unquoted_goes stack inner at (c ∷ []) [] true h.3 refl (rw sp refl) (λ v x e. none_taken (c ∷ s) n (c ∷ v) x (ap (λ (y : List ℕ). c ∷ y) e)) (subst (λ (x : List ℕ). delivered stack (string_of (encodes (trimmed x)) at) ≡ Some after) h.1 out) t doc) in
      elim (bool_cases (c == slash)) as (λ _. Finds at before (c ∷ s) t) [
        | inl f ↦
            let c47 = same_character c slash f in
            goes_step at before (slash_state stack None p at) c s (step_slash stack None p at c c47) t
            (slashed at (next_place at c) s (subst (λ (x : ℕ). at_comment (x ∷ s) ≡ false) c47 nc) t (subst (λ (x : ℕ). Finds (next_place at c) (plain_state stack inner at (encode_utf8 x) [] true) s t) c47 d))
        | inr f ↦
            let m : is_mark c ≡ false = grind (arith, nat_tests) in
            let e35 : (c == hash) ≡ false = no_hash c s nc in
            let fst : first_of_value c ≡ true = grind (arith, nat_tests) in
            goes_step at before (plain_state stack inner at (encode_utf8 c) [] true) c s (takes.direct at c fst ∙ begin_plain at stack inner c k q) t d
      ]

  -- a value without parts
  pub leaf_goes : {at at' : Place} {s r : List ℕ} {k : Kind} → Leaf at s k at' r → delivered stack (tree k at) ≡ Some after →
      Goes at before s at' after r
  leaf_goes (quoted {at} {at'} {c} {s} {u} {r} e st l) out t doc =
      let f : first_of_value c ≡ true = grind (arith, nat_tests) in
      let nq : (backslash == c) ≡ false = grind (arith, nat_tests) in
      goes_step at before (string_state stack false c at [] escape.none) c s (takes.direct at c f ∙ begin_quote at stack c e) t
      (quoted_goes stack false c at [] after nq l
      (close_quote c at at u r (λ n q. let z = nil_closes c l n in third c s r z.0 q z.1 z.2 st) out) t doc)
    where
      third : (c : ℕ) (s r : List ℕ) (d : ℕ) → (c == single_quote) ≡ true → s ≡ d ∷ r → (d == c) ≡ true →
          starts (single_quote ∷ single_quote ∷ single_quote ∷ []) (c ∷ s) ≡ false → starts (single_quote ∷ []) r ≡ false
      third c s r d q is e st =
          let c39 = same_character c single_quote q in
          let d39 : d ≡ single_quote = same_character d c e ∙ c39 in
          let x : starts (single_quote ∷ single_quote ∷ single_quote ∷ []) (c ∷ s) ≡ starts (single_quote ∷ []) r = rw (is, c39, d39) refl in
          sym x ∙ st
  leaf_goes (lines {at} {at'} {c} {d} {e} {s} {w} {r} f g h l) out t doc =
      let q : is_quote c ≡ true = rw f refl in
      let fst : first_of_value c ≡ true = rw f refl in
      let dc : (d == c) ≡ true = rw (f, g) refl in
      goes_step at before (string_state stack false c at [] escape.none) c (d ∷ e ∷ s) (takes.direct at c fst ∙ begin_quote at stack c q) t
      (goes_step (next_place at c) (string_state stack false c at [] escape.none) (two_quotes_state stack at) d (e ∷ s) (quote_end (next_place at c) stack false c at [] d dc ∙ end_empty stack c at (rw f refl)) t
      (goes_step (next_place (next_place at c) d) (two_quotes_state stack at) (lines_state stack (at.column - 1) at [] false spot.opening) e s (step_third (next_place (next_place at c) d) stack at e h) t
      (lines_goes stack (at.column - 1) at [] false spot.opening after l tt out t doc)))
  leaf_goes (literal {at} u r l m) out t doc =
      literal_leaf at u r (literal_is l) m (ap (λ (k : Kind). delivered stack (tree k at)) (literal_says l) ∙ out) t doc
  leaf_goes (unquoted {at} {at'} {c} {s} {w} {r} n k q nc l) out t doc = unquoted_leaf at at' c s w r n k q nc l out t doc
