-- What the grammar derives, the machine reads. Literals and unquoted strings.
use Rattle.std.proofs.Common.{◌≡◌, ℕ, inl, inr, List, [], ◌∷◌, ◌++◌, Some, None, refl, arith, true, false, Bool, ap, subst, ◌∙◌, sym, append_assoc}
use Rattle.std.specs.Prelude.{◌&&◌, ◌||◌, ◌==◌, not, encode_utf8}
use Rattle.std.proofs.lemmas.Bool.{and_parts}
use Rattle.std.proofs.lemmas.Bool.Decides.{nat_tests}
use Rattle.std.proofs.lemmas.List.{append-nil}
use Rattle.std.proofs.lemmas.Str.{encodes-append, encode_ascii}
use lib.Utf8.{encodes}
use Rattle.cg_docspec.specs.Characters.{carriage_return, hash, is_control, is_space, line_feed, slash, star}
use Rattle.cg_docspec.specs.Place.{Place, next_place, place_after}
use Rattle.cg_docspec.specs.Tree.{Kind, string, string_of, tree}
use Rattle.cg_docspec.specs.Gap.{Line, at_comment, at_line_end, line_end, line_more}
use Rattle.cg_docspec.specs.Literal.{ends_literal, may_follow}
use Rattle.cg_docspec.specs.Document.{trimmed}
use Rattle.cg_docspec.specs.Machine.Awaited as awaited
use Rattle.cg_docspec.specs.Machine.Closing.{delivered}
use Rattle.cg_docspec.specs.Machine.Comment.{in_slash}
use Rattle.cg_docspec.specs.Machine.Frame.{Frame}
use Rattle.cg_docspec.specs.Machine.Now as now
use Rattle.cg_docspec.specs.Machine.Numeral.{is_literal, plain_kind, plain_tree}
use Rattle.cg_docspec.specs.Machine.Plain.{begun_comment, in_plain, in_plain_return, in_plain_slash, is_no_part, then_comment}
use Rattle.cg_docspec.specs.Machine.Run.{Finds, step}
use Rattle.cg_docspec.specs.Machine.State.{State, reading}
use Rattle.cg_docspec.specs.Machine.Token.{in_gap, then_gap}
use Rattle.cg_docspec.proofs.Basics.{and_false, bool_cases, never, or_true, same_character}
use Rattle.cg_docspec.proofs.Forth.Gaps.{Goes, gap_state, goes_step, off_step, return_state, same_steps, slash_state, step_blank, step_feed, step_return, step_slash, unfinished}
use Rattle.cg_docspec.proofs.Left.{NoneTaken, are_spaces, is_taken}
use Rattle.cg_docspec.proofs.Literals.{are_wordy, is_wordy, plain_string}
use Rattle.cg_docspec.proofs.Spaces.{encodes_one, ender_follows, follow_spaces, space_blank, space_cases, spaces_append, trimmed_solid, trimmed_space}

-- a line end may follow a literal
line_follows : (c : ℕ) (s : List ℕ) → at_line_end (c ∷ s) ≡ true → may_follow (c ∷ s) ≡ true
line_follows c s e =
    elim (bool_cases (is_space c)) as (λ _. may_follow (c ∷ s) ≡ true) [
      | inl f ↦ elim (space_cases c f) as (λ _. may_follow (c ∷ s) ≡ true) [
        | inl g ↦ never (let x : at_line_end (c ∷ s) ≡ false = rw g refl in sym x ∙ e)
        | inr g ↦ never (let x : at_line_end (c ∷ s) ≡ false = rw g refl in sym x ∙ e)
      ]
      | inr f ↦ rw (f, e) (or_true (ends_literal c || at_comment (c ∷ s)))
    ]

-- so may the text's end
end_follows : (s : List ℕ) → at_line_end s ≡ true → may_follow s ≡ true
end_follows [] e = refl
end_follows (c ∷ s) e = line_follows c s e

-- a second character of a comment with a slash
second : (d : ℕ) (s : List ℕ) → at_comment (slash ∷ d ∷ s) ≡ true → (d == slash || d == star) ≡ true
second d s e = go (d == slash) (d == star) refl refl
  where
    go : (x y : Bool) → (d == slash) ≡ x → (d == star) ≡ y → (d == slash || d == star) ≡ true
    go true y f g = rw f refl
    go false true f g = rw (f, g) refl
    go false false f g = never (let n : at_comment (slash ∷ d ∷ s) ≡ false = rw (f, g) refl in sym n ∙ e)

-- no slash or star follows a slash that begins no comment
pub no_second : (d : ℕ) (s : List ℕ) → at_comment (slash ∷ d ∷ s) ≡ false → (d == slash || d == star) ≡ false
no_second d s e = go (d == slash) (d == star) refl refl
  where
    go : (x y : Bool) → (d == slash) ≡ x → (d == star) ≡ y → (d == slash || d == star) ≡ false
    go true y f g = never (let n : at_comment (slash ∷ d ∷ s) ≡ true = rw f refl in sym e ∙ n)
    go false true f g = never (let n : at_comment (slash ∷ d ∷ s) ≡ true = rw (f, g) refl in sym e ∙ n)
    go false false f g = rw (f, g) refl

module _ (stack inner : List Frame) (at0 : Place) where
  -- in a literal or an unquoted string
  abbrev pub plain_state : List ℕ → List ℕ → Bool → State
  plain_state u b h = reading stack (now.plain u b h at0)

  -- behind it
  abbrev pub closed_state : State
  closed_state = gap_state inner None (awaited.item true)

  -- behind its carriage return
  abbrev plain_return_state : List ℕ → State
  plain_return_state u = reading stack (now.plain_return u at0)

  -- behind its slash
  abbrev plain_slash_state : List ℕ → List ℕ → State
  plain_slash_state u b = reading stack (now.plain_slash u b at0)

  -- a character of it that is neither a space nor a tab
  step_solid : (at : Place) (u b : List ℕ) (h : Bool) (c : ℕ) → (c == line_feed) ≡ false → (c == carriage_return) ≡ false →
      (ends_literal c && (h && is_literal u)) ≡ false → (c == slash && (h && is_literal u)) ≡ false → is_space c ≡ false → is_control c ≡ false →
      step at (plain_state u b h) c ≡ Some (plain_state (u ++ b ++ encode_utf8 c) [] (h && not (is_no_part c)))
  unfolding step in_plain
  step_solid at u b h c feed return el sl sp ct = rw (feed, return, el, sl, sp, ct) refl

  -- a space or a tab
  step_space : (at : Place) (u b : List ℕ) (h : Bool) (c : ℕ) → is_space c ≡ true →
      step at (plain_state u b h) c ≡ Some (plain_state u (b ++ encode_utf8 c) h)
  unfolding step in_plain
  step_space at u b h c e = elim (space_cases c e) as (λ _. step at (plain_state u b h) c ≡ Some (plain_state u (b ++ encode_utf8 c) h)) [ inl f ↦ rw f refl | inr f ↦ rw f refl ]

  -- a line feed ends it
  step_line : (at : Place) (u b : List ℕ) (h : Bool) (c : ℕ) → c ≡ line_feed → step at (plain_state u b h) c ≡ delivered stack (plain_tree u at0)
  unfolding step in_plain
  step_line at u b h c e = rw e refl

  -- a carriage return
  step_line_back : (at : Place) (u b : List ℕ) (h : Bool) (c : ℕ) → c ≡ carriage_return → step at (plain_state u b h) c ≡ Some (plain_return_state u)
  unfolding step in_plain
  step_line_back at u b h c e = rw e refl

  -- and its line feed ends it
  step_line_feed : (at : Place) (u : List ℕ) (c : ℕ) → c ≡ line_feed → step at (plain_return_state u) c ≡ delivered stack (plain_tree u at0)
  unfolding step in_plain_return
  step_line_feed at u c e = rw e refl

  -- a literal ends before such a character
  step_ender : (at : Place) (u b : List ℕ) (c : ℕ) → (c == line_feed) ≡ false → (c == carriage_return) ≡ false → ends_literal c ≡ true →
      is_literal u ≡ true → step at (plain_state u b true) c ≡ then_gap at c (delivered stack (plain_tree u at0))
  unfolding step in_plain
  step_ender at u b c e10 e13 e l = rw (e10, e13, e, l) refl

  -- a slash behind a literal
  step_words_slash : (at : Place) (u b : List ℕ) (h : Bool) (c : ℕ) → c ≡ slash → (h && is_literal u) ≡ true →
      step at (plain_state u b h) c ≡ Some (plain_slash_state u b)
  unfolding step in_plain
  step_words_slash at u b h c e l = rw (e, l) refl

  -- and a comment
  step_comment : (at : Place) (u b : List ℕ) (d : ℕ) → (d == slash || d == star) ≡ true →
      step at (plain_slash_state u b) d ≡ then_comment d (delivered stack (plain_tree u at0))
  unfolding step in_plain_slash
  step_comment at u b d e = rw e refl

  -- and no comment
  step_slash_on : (at : Place) (u b : List ℕ) (d : ℕ) → (d == slash || d == star) ≡ false →
      step at (plain_slash_state u b) d ≡ step at (plain_state (u ++ b ++ slash ∷ []) [] false) d
  unfolding step in_plain_slash
  step_slash_on at u b d e = rw e refl

  -- the same comment in a gap
  step_gap_comment : (at at1 : Place) (d : ℕ) → (d == slash || d == star) ≡ true →
      step at (slash_state inner None (awaited.item true) at1) d ≡ Some (reading inner (begun_comment d (awaited.item true)))
  unfolding step in_slash
  step_gap_comment at at1 d e = rw e refl

  -- what comes behind a value is a gap
  step_gap : (at : Place) (c : ℕ) → step at closed_state c ≡ in_gap at inner None (awaited.item true) c
  unfolding step
  step_gap at c = refl

  -- the value ends at the line's end
  line_close : (at : Place) (u b : List ℕ) (h : Bool) (s : List ℕ) → at_line_end s ≡ true → delivered stack (plain_tree u at0) ≡ Some closed_state →
      Goes at (plain_state u b h) s at closed_state s
  line_close at u b h [] e out t doc = unfinished at closed_state t refl doc
  line_close at u b h (c ∷ s) e out t doc = go s (c == line_feed) (c == carriage_return) refl refl e doc
    where
      go : (s : List ℕ) (x y : Bool) → (c == line_feed) ≡ x → (c == carriage_return) ≡ y → at_line_end (c ∷ s) ≡ true →
          Finds at closed_state (c ∷ s) t → Finds at (plain_state u b h) (c ∷ s) t
      go s true y f g e doc = let k = same_character c line_feed f in same_steps at (plain_state u b h) closed_state c s (step_line at u b h c k ∙ out ∙ sym (step_blank inner None (awaited.item true) at c (rw k refl))) t doc
      go s false false f g e doc = never (let n : at_line_end (c ∷ s) ≡ false = rw (f, g) refl in sym n ∙ e)
      go [] false true f g e doc = never (let n : at_line_end (c ∷ []) ≡ false = rw (f, g) refl in sym n ∙ e)
      go (d ∷ s) false true f g e doc =
          let k = same_character c carriage_return g in
          let d10 : d ≡ line_feed = same_character d line_feed (let n : at_line_end (c ∷ d ∷ s) ≡ (d == line_feed && true) = rw (f, g) refl in (and_parts (d == line_feed) true (sym n ∙ e)).0) in
          let off = off_step (next_place at c) (return_state inner None (awaited.item true)) closed_state d s (step_feed inner None (awaited.item true) (next_place at c) d d10) t (off_step at closed_state (return_state inner None (awaited.item true)) c (d ∷ s) (step_return inner None (awaited.item true) at c k) t doc) in
          goes_step at (plain_state u b h) (plain_return_state u) c (d ∷ s) (step_line_back at u b h c k) t (goes_step (next_place at c) (plain_return_state u) closed_state d s (step_line_feed (next_place at c) u d d10 ∙ out) t off)

  -- a literal ends
  literal_close : (u : List ℕ) → is_literal u ≡ true → delivered stack (plain_tree u at0) ≡ Some closed_state →
      (s : List ℕ) (at : Place) (b : List ℕ) → may_follow s ≡ true → Goes at (plain_state u b true) s at closed_state s
  literal_close u l out [] at b e t doc = unfinished at closed_state t refl doc
  literal_close u l out (c ∷ s) at b e t doc =
      elim (bool_cases (is_space c)) as (λ _. Finds at (plain_state u b true) (c ∷ s) t) [
        | inl sp ↦
            goes_step at (plain_state u b true) (plain_state u (b ++ encode_utf8 c) true) c s (step_space at u b true c sp) t
            (literal_close u l out s (next_place at c) (b ++ encode_utf8 c) (let x : may_follow (c ∷ s) ≡ may_follow s = rw sp refl in sym x ∙ e) t (off_step at closed_state closed_state c s (step_blank inner None (awaited.item true) at c (space_blank c sp)) t doc))
        | inr sp ↦ go s (at_line_end (c ∷ s)) (ends_literal c) refl refl (let x : may_follow (c ∷ s) ≡ (ends_literal c || at_comment (c ∷ s) || at_line_end (c ∷ s)) = rw sp refl in sym x ∙ e) doc
      ]
    where
      go : (s : List ℕ) (x y : Bool) → at_line_end (c ∷ s) ≡ x → ends_literal c ≡ y →
          (ends_literal c || at_comment (c ∷ s) || at_line_end (c ∷ s)) ≡ true → Finds at closed_state (c ∷ s) t →
          Finds at (plain_state u b true) (c ∷ s) t
      go s true y f g e doc = line_close at u b true (c ∷ s) f out t doc
      go s false true f g e doc =
          let e10 : (c == line_feed) ≡ false = grind (arith, nat_tests) in
          let e13 : (c == carriage_return) ≡ false = grind (arith, nat_tests) in
          same_steps at (plain_state u b true) closed_state c s (step_ender at u b c e10 e13 g l ∙ ap (then_gap at c) out ∙ sym (step_gap at c)) t doc
      go s false false f g e doc =
          let cm : at_comment (c ∷ s) ≡ true = let x : (ends_literal c || at_comment (c ∷ s) || at_line_end (c ∷ s)) ≡ (at_comment (c ∷ s) || false) = rw (f, g) refl in or_false (at_comment (c ∷ s)) (sym x ∙ e) in
          let c47 : c ≡ slash = slash_of c s g cm in
          slashed s c47 (subst (λ (z : ℕ). at_comment (z ∷ s) ≡ true) c47 cm) doc
        where
          or_false : (b : Bool) → (b || false) ≡ true → b ≡ true
          or_false true e = refl
          or_false false e = e

          slash_of : (c : ℕ) (s : List ℕ) → ends_literal c ≡ false → at_comment (c ∷ s) ≡ true → c ≡ slash
          slash_of c s g cm = elim (bool_cases (c == slash)) as (λ _. c ≡ slash) [
            | inl h ↦ same_character c slash h
            | inr h ↦ let e35 : (c == hash) ≡ false = grind (arith, nat_tests) in never (let n : at_comment (c ∷ s) ≡ false = rw (e35, h) refl in sym n ∙ cm)
          ]

          slashed : (s : List ℕ) → c ≡ slash → at_comment (slash ∷ s) ≡ true → Finds at closed_state (c ∷ s) t →
              Finds at (plain_state u b true) (c ∷ s) t
          slashed [] c47 cm doc = never cm
          slashed (d ∷ s) c47 cm doc =
              let x = second d s cm in
              let here = next_place at c in
              let into : State = reading inner (begun_comment d (awaited.item true)) in
              let off = off_step here (slash_state inner None (awaited.item true) at) into d s (step_gap_comment here at d x) t (off_step at closed_state (slash_state inner None (awaited.item true) at) c (d ∷ s) (step_slash inner None (awaited.item true) at c c47) t doc) in
              goes_step at (plain_state u b true) (plain_slash_state u b) c (d ∷ s) (step_words_slash at u b true c c47 l) t (goes_step here (plain_slash_state u b) into d s (step_comment here u b d x ∙ ap (then_comment d) out) t off)

  -- the characters of a literal
  word_goes : (y x r : List ℕ) (at : Place) → are_wordy y ≡ true →
      Goes at (plain_state (encodes x) [] true) (y ++ r) (place_after at y) (plain_state (encodes (x ++ y)) [] true) r
  word_goes [] x r at e t doc = subst (λ (z : List ℕ). Finds at (plain_state (encodes z) [] true) r t) (append-nil x) doc
  word_goes (c ∷ y) x r at e t doc =
      let p = and_parts (is_wordy c) (are_wordy y) e in
      let w = p.0 in
      let e10 : (c == line_feed) ≡ false = grind (arith, nat_tests) in
      let e13 : (c == carriage_return) ≡ false = grind (arith, nat_tests) in
      let el : ends_literal c ≡ false = grind (arith, nat_tests) in
      let e47 : (c == slash) ≡ false = grind (arith, nat_tests) in
      let sp : is_space c ≡ false = grind (arith, nat_tests) in
      let ct : is_control c ≡ false = grind (arith, nat_tests) in
      let np : is_no_part c ≡ false = grind (arith, nat_tests) in
      let next : encodes x ++ [] ++ encode_utf8 c ≡ encodes (x ++ c ∷ []) = ap (λ (z : List ℕ). z ++ encode_utf8 c) (append-nil (encodes x)) ∙ sym (encodes_one x c) in
      let st : step at (plain_state (encodes x) [] true) c ≡ Some (plain_state (encodes (x ++ c ∷ [])) [] true) = step_solid at (encodes x) [] true c e10 e13 (rw el refl) (rw e47 refl) sp ct ∙ rw np (ap (λ (z : List ℕ). Some (plain_state z [] true)) next) in
      goes_step at (plain_state (encodes x) [] true) (plain_state (encodes (x ++ c ∷ [])) [] true) c (y ++ r) st t
      (word_goes y (x ++ c ∷ []) r (next_place at c) p.1 t (subst (λ (z : List ℕ). Finds (place_after (next_place at c) y) (plain_state (encodes z) [] true) r t) (sym (append_assoc x (c ∷ []) y)) doc))

  -- a slash that begins no comment is a character like any other
  slash_on : (at : Place) (u b s : List ℕ) → at_comment (slash ∷ s) ≡ false →
      Goes at (plain_slash_state u b) s at (plain_state (u ++ b ++ slash ∷ []) [] false) s
  slash_on at u b [] e t doc = unfinished at (plain_state (u ++ b ++ slash ∷ []) [] false) t refl doc
  slash_on at u b (d ∷ s) e t doc = same_steps at (plain_slash_state u b) (plain_state (u ++ b ++ slash ∷ []) [] false) d s (step_slash_on at u b d (no_second d s e)) t doc

  -- a character that is neither a space nor a tab, where no literal is taken
  solid_goes : (at : Place) (u b : List ℕ) (h : Bool) (c : ℕ) (s : List ℕ) → is_space c ≡ false → is_control c ≡ false →
      ((h && is_literal u) && may_follow (c ∷ s)) ≡ false →
      Goes at (plain_state u b h) (c ∷ s) (next_place at c) (plain_state (u ++ b ++ encode_utf8 c) [] (h && not (is_no_part c))) s
  solid_goes at u b h c s sp ct n t doc =
      let feed : (c == line_feed) ≡ false = grind (arith, nat_tests) in
      let return : (c == carriage_return) ≡ false = grind (arith, nat_tests) in
      let after : State = plain_state (u ++ b ++ encode_utf8 c) [] (h && not (is_no_part c)) in
      elim (bool_cases (h && is_literal u)) as (λ _. Finds at (plain_state u b h) (c ∷ s) t) [
        | inr l ↦ goes_step at (plain_state u b h) after c s (step_solid at u b h c feed return (rw l (and_false (ends_literal c))) (rw l (and_false (c == slash))) sp ct) t doc
        | inl l ↦
            let nf : may_follow (c ∷ s) ≡ false = rw l at n in
            let el : ends_literal c ≡ false = elim (bool_cases (ends_literal c)) as (λ _. ends_literal c ≡ false) [ inl f ↦ never (sym nf ∙ ender_follows c s f) | inr f ↦ f ] in
            elim (bool_cases (c == slash)) as (λ _. Finds at (plain_state u b h) (c ∷ s) t) [
              | inr f ↦ goes_step at (plain_state u b h) after c s (step_solid at u b h c feed return (rw el refl) (rw f refl) sp ct) t doc
              | inl f ↦
                  let is : c ≡ slash = same_character c slash f in
                  let nc : at_comment (slash ∷ s) ≡ false = not_comment s (subst (λ (x : ℕ). may_follow (x ∷ s) ≡ false) is nf) in
                  let en : encode_utf8 c ≡ slash ∷ [] = ap encode_utf8 is ∙ encode_ascii slash (omega arith) in
                  let lost : (h && not (is_no_part c)) ≡ false = rw is (and_false h) in
                  goes_step at (plain_state u b h) (plain_slash_state u b) c s (step_words_slash at u b h c is l) t
                  (slash_on (next_place at c) u b s nc t (subst (λ (y : Bool). Finds (next_place at c) (plain_state (u ++ b ++ slash ∷ []) [] y) s t) lost (subst (λ (x : List ℕ). Finds (next_place at c) (plain_state (u ++ b ++ x) [] (h && not (is_no_part c))) s t) en doc)))
            ]
      ]
    where
      not_comment : (s : List ℕ) → may_follow (slash ∷ s) ≡ false → at_comment (slash ∷ s) ≡ false
      not_comment s e = elim (bool_cases (at_comment (slash ∷ s))) as (λ _. at_comment (slash ∷ s) ≡ false) [
        | inl f ↦ never (sym e ∙ (let x : may_follow (slash ∷ s) ≡ true = rw f refl in x))
        | inr f ↦ f
      ]

  -- with less hope, no literal is taken either
  unasked : (h x y : Bool) → (x && y) ≡ false → ((h && x) && y) ≡ false
  unasked true x y e = e
  unasked false x y e = refl

  -- the literal so far is not taken
  untaken : (uc bc s : List ℕ) → NoneTaken uc (bc ++ s) → are_spaces bc ≡ true → (is_literal (encodes uc) && may_follow s) ≡ false
  untaken uc bc s n sp =
      let x : is_taken (uc ++ []) (bc ++ s) ≡ false = n [] (bc ++ s) refl in
      let y : is_taken uc (bc ++ s) ≡ false = subst (λ (z : List ℕ). is_taken z (bc ++ s) ≡ false) (append-nil uc) x in
      subst (λ (z : Bool). (is_literal (encodes uc) && z) ≡ false) (follow_spaces bc s sp) y

  -- at a line's end it is none
  untaken_end : (uc bc s : List ℕ) → NoneTaken uc (bc ++ s) → are_spaces bc ≡ true → at_line_end s ≡ true → is_literal (encodes uc) ≡ false
  untaken_end uc bc s n sp e = go (is_literal (encodes uc)) (let x = untaken uc bc s n sp in rw (end_follows s e) at x)
    where
      go : (b : Bool) → (b && true) ≡ false → b ≡ false
      go true e = e
      go false e = refl

  -- an unquoted string
  pub unquoted_goes : {at at' : Place} {s w r : List ℕ} (uc bc : List ℕ) (h : Bool) → Line at s w at' r → are_spaces bc ≡ true →
      trimmed (uc ++ bc) ≡ uc → NoneTaken uc (bc ++ s) → delivered stack (string_of (encodes (trimmed (uc ++ (bc ++ w)))) at0) ≡ Some closed_state →
      Goes at (plain_state (encodes uc) (encodes bc) h) s at' closed_state r
  unquoted_goes uc bc h (line_end {at} {s} e) sp tr n out t doc =
      let l : is_literal (encodes uc) ≡ false = untaken_end uc bc s n sp e in
      let text : string (encodes (trimmed (uc ++ (bc ++ [])))) ≡ plain_kind (encodes uc) = ap (λ (x : List ℕ). string (encodes x)) (ap (λ (x : List ℕ). trimmed (uc ++ x)) (append-nil bc) ∙ tr) ∙ sym (plain_string (encodes uc) l) in
      line_close at (encodes uc) (encodes bc) h s e (subst (λ (k : Kind). delivered stack (tree k at0) ≡ Some closed_state) text out) t doc
  unquoted_goes uc bc h (line_more {at} {at'} {c} {s} {w} {r} ct l) sp tr n out t doc =
      elim (bool_cases (is_space c)) as (λ _. Finds at (plain_state (encodes uc) (encodes bc) h) (c ∷ s) t) [
        | inl f ↦
            let bc2 : List ℕ = bc ++ c ∷ [] in
            let text : encodes bc ++ encode_utf8 c ≡ encodes bc2 = sym (encodes_one bc c) in
            let tr2 : trimmed (uc ++ bc2) ≡ uc = ap trimmed (sym (append_assoc uc bc (c ∷ []))) ∙ trimmed_space (uc ++ bc) c f ∙ tr in
            goes_step at (plain_state (encodes uc) (encodes bc) h) (plain_state (encodes uc) (encodes bc2) h) c s (step_space at (encodes uc) (encodes bc) h c f ∙ ap (λ (x : List ℕ). Some (plain_state (encodes uc) x h)) text) t
            (unquoted_goes uc bc2 h l (spaces_append bc c sp f) tr2
            (subst (λ (x : List ℕ). NoneTaken uc x) (sym (append_assoc bc (c ∷ []) s)) n)
            (subst (λ (x : List ℕ). delivered stack (string_of (encodes (trimmed (uc ++ x))) at0) ≡ Some closed_state) (sym (append_assoc bc (c ∷ []) w)) out) t doc)
        | inr f ↦
            let uc2 : List ℕ = uc ++ bc ++ c ∷ [] in
            let text : encodes uc ++ encodes bc ++ encode_utf8 c ≡ encodes uc2 = ap (λ (x : List ℕ). x ++ encode_utf8 c) (sym (encodes-append uc bc)) ∙ sym (encodes_one (uc ++ bc) c) in
            let tr2 : trimmed (uc2 ++ []) ≡ uc2 = ap trimmed (append-nil uc2) ∙ trimmed_solid (uc ++ bc) c f in
            let move : (x : List ℕ) → uc ++ (bc ++ c ∷ x) ≡ uc2 ++ x = λ x. sym (append_assoc (uc ++ bc) (c ∷ []) x ∙ append_assoc uc bc (c ∷ x)) in
            solid_goes at (encodes uc) (encodes bc) h c s f ct (unasked h (is_literal (encodes uc)) (may_follow (c ∷ s)) (untaken uc bc (c ∷ s) n sp)) t
            (subst (λ (x : List ℕ). Finds (next_place at c) (plain_state x [] (h && not (is_no_part c))) s t) (sym text)
            (unquoted_goes uc2 [] (h && not (is_no_part c)) l refl tr2
            (λ v x e. subst (λ (y : List ℕ). is_taken y x ≡ false) (move v) (n (bc ++ c ∷ v) x (ap (λ (y : List ℕ). bc ++ c ∷ y) e ∙ sym (append_assoc bc (c ∷ v) x))))
            (subst (λ (x : List ℕ). delivered stack (string_of (encodes (trimmed x)) at0) ≡ Some closed_state) (move w) out) t doc))
      ]

  -- a literal
  pub literal_goes : (at : Place) (y x r : List ℕ) → are_wordy y ≡ true → is_taken (x ++ y) r ≡ true →
      delivered stack (plain_tree (encodes (x ++ y)) at0) ≡ Some closed_state →
      Goes at (plain_state (encodes x) [] true) (y ++ r) (place_after at y) closed_state r
  literal_goes at y x r so tk out t doc =
      let p = and_parts (is_literal (encodes (x ++ y))) (may_follow r) tk in
      word_goes y x r at so t (literal_close (encodes (x ++ y)) p.0 out r (place_after at y) [] p.1 t doc)
