-- One character back, in a literal or an unquoted string.
use Rattle.std.proofs.Common.{◌≡◌, ℕ, ◌⊎◌, inl, inr, List, [], ◌∷◌, ◌++◌, refl, arith, true, false, Bool, ap, subst, ◌∙◌, sym, append_assoc}
use Rattle.std.specs.Prelude.{◌&&◌, ◌||◌, ◌==◌, not, encode_utf8}
use Rattle.std.proofs.lemmas.Bool.{and_parts}
use Rattle.std.proofs.lemmas.Bool.Decides.{nat_tests}
use Rattle.std.proofs.lemmas.List.{append-nil}
use Rattle.std.proofs.lemmas.Str.{encodes-append}
use lib.Utf8.{encodes, next}
use Rattle.cg_docspec.specs.Characters.{carriage_return, hash, is_blank, is_control, is_space, line_feed, slash}
use Rattle.cg_docspec.specs.Place.{Place, next_place, place_after}
use Rattle.cg_docspec.specs.Tree.{Kind, Tree, string, string_of, tree}
use Rattle.cg_docspec.specs.Gap.{at_comment, at_line_end, line_end, line_more}
use Rattle.cg_docspec.specs.Literal.{ends_literal, may_follow}
use Rattle.cg_docspec.specs.Document.{trimmed}
use Rattle.cg_docspec.specs.Machine.Frame.{Frame}
use Rattle.cg_docspec.specs.Machine.Frame as frame
use Rattle.cg_docspec.specs.Machine.Numeral.{is_literal, plain_tree}
use Rattle.cg_docspec.specs.Machine.Plain.{in_plain, in_plain_return, is_no_part}
use Rattle.cg_docspec.proofs.Back.Comments.{by_cases, crlf_ends, feed_ends, gap_blank, gap_crlf, stuck}
use Rattle.cg_docspec.proofs.Back.Gaps.{after_then_gap}
use Rattle.cg_docspec.proofs.Back.Tokens.{after_delivered}
use Rattle.cg_docspec.proofs.Basics.{bool_cases, never, or_true, same_character}
use Rattle.cg_docspec.proofs.Left.{AfterValue, FeedThen, Left, NoneTaken, PlainRead, PlainThen, TakenThen, UnquotedThen, are_spaces, is_taken}
use Rattle.cg_docspec.proofs.Literals.{is_wordy, none_in_literal, plain_string}
use Rattle.cg_docspec.proofs.Spaces.{encodes_one, ender_follows, follow_spaces, place_append, space_blank, space_no_word, space_uncontrolled, spaces_append, trimmed_solid, trimmed_space}

module _ (T : Tree) where
  -- a blank, a line end, and spaces and tabs more behind a value
  pub after_blank : (stack : List Frame) (t : Tree) (at : Place) (c : ℕ) (s : List ℕ) → is_blank c ≡ true → AfterValue T stack t (next_place at c) s →
      AfterValue T stack t at (c ∷ s)
  after_blank [] t at c s e h = gap_blank _ at c s e h
  after_blank (frame.in_list list_at ts ∷ outer) t at c s e h = gap_blank _ at c s e h
  after_blank (frame.in_member object_at ms k key_at ∷ outer) t at c s e h = gap_blank _ at c s e h
  after_blank (frame.in_object object_at ms ∷ outer) t at c s e h = h

  -- a line end more
  after_crlf : (stack : List Frame) (t : Tree) (at : Place) (c : ℕ) (s : List ℕ) → c ≡ carriage_return →
      FeedThen (AfterValue T stack t) (next_place at c) s → AfterValue T stack t at (c ∷ s)
  after_crlf [] t at c s e h = gap_crlf _ at c s e h
  after_crlf (frame.in_list list_at ts ∷ outer) t at c s e h = gap_crlf _ at c s e h
  after_crlf (frame.in_member object_at ms k key_at ∷ outer) t at c s e h = gap_crlf _ at c s e h
  after_crlf (frame.in_object object_at ms ∷ outer) t at c s e h = h.2

  -- spaces and tabs more
  after_spaces : (stack : List Frame) (t : Tree) (b : List ℕ) (at : Place) (s : List ℕ) → are_spaces b ≡ true →
      AfterValue T stack t (place_after at b) s → AfterValue T stack t at (b ++ s)
  after_spaces stack t [] at s e h = h
  after_spaces stack t (c ∷ b) at s e h =
      let p = and_parts (is_space c) (are_spaces b) e in
      after_blank stack t at c (b ++ s) (space_blank c p.0) (after_spaces stack t b (next_place at c) s p.1 h)

  module _ (stack : List Frame) (u blanks : List ℕ) (hope : Bool) (at0 : Place) where
    -- whether u is a literal, asked only with hope
    abbrev is_asked : Bool
    is_asked = hope && is_literal u

    -- without hope the answer is known
    asked : (uc bc : List ℕ) (at : Place) → PlainRead u blanks hope uc bc at0 at → is_asked ≡ is_literal u
    asked uc bc at r = go hope refl
      where
        go : (b : Bool) → hope ≡ b → (b && is_literal u) ≡ is_literal u
        go true e = refl
        go false e = sym (subst (λ (x : List ℕ). is_literal x ≡ false) (ap encodes (append-nil uc) ∙ r.text) (r.hopeless e []))

    -- no comment, or no literal
    slash_or : (c : ℕ) (s : List ℕ) → (ends_literal c && is_asked) ≡ false → (c == slash && is_asked) ≡ false →
        (is_asked ≡ false) ⊎ (at_comment (c ∷ s) ≡ false)
    slash_or c s e f = go is_asked (c == hash) (c == slash) refl refl refl
      where
        go : (x y z : Bool) → is_asked ≡ x → (c == hash) ≡ y → (c == slash) ≡ z → (x ≡ false) ⊎ (at_comment (c ∷ s) ≡ false)
        go false y z a b d = inl refl
        go true true z a b d = let x : (ends_literal c && is_asked) ≡ true = rw (a, same_character c hash b) refl in never (sym e ∙ x)
        go true false true a b d = let x : (c == slash && is_asked) ≡ true = rw (a, d) refl in never (sym f ∙ x)
        go true false false a b d = inr (rw (b, d) refl)

    -- the literal ends here
    pub taken_here : (uc bc : List ℕ) (at : Place) (s : List ℕ) → PlainRead u blanks hope uc bc at0 at → is_literal u ≡ true → may_follow s ≡ true →
        AfterValue T stack (plain_tree u at0) at s → TakenThen T stack at0 uc (bc ++ s)
    taken_here uc bc at s r l f h =
        let e : encodes (uc ++ []) ≡ u = ap encodes (append-nil uc) ∙ r.text in
        let g : AfterValue T stack (plain_tree u at0) (place_after (place_after at0 uc) bc) s = subst (λ (x : Place). AfterValue T stack (plain_tree u at0) x s) (sym r.at_end ∙ place_append at0 uc bc) h in
        let a : AfterValue T stack (plain_tree u at0) (place_after at0 uc) (bc ++ s) = after_spaces stack (plain_tree u at0) bc (place_after at0 uc) s r.spaces g in (
          [],
          bc ++ s,
          refl,
          rw (e, l, follow_spaces bc s r.spaces, f) refl,
          subst (λ (x : List ℕ). AfterValue T stack (plain_tree (encodes (uc ++ [])) at0) (place_after at0 x) (bc ++ s)) (sym (append-nil uc)) (subst (λ (x : List ℕ). AfterValue T stack (plain_tree x at0) (place_after at0 uc) (bc ++ s)) (sym e) a),
        )

    -- no literal goes on behind such a character
    none_behind : (uc : List ℕ) (d : ℕ) (v r : List ℕ) → is_wordy d ≡ false → is_taken (uc ++ d ∷ v) r ≡ false
    none_behind uc d v r h = rw (none_in_literal uc v d h) refl

    -- none is taken here
    none_empty : (uc x : List ℕ) → encodes uc ≡ u → (is_literal u && may_follow x) ≡ false → is_taken (uc ++ []) x ≡ false
    none_empty uc x e f = rw (append-nil, e) f

    -- none is taken, if not here and not behind the next solid character
    none_spaces : (uc bc : List ℕ) (c : ℕ) (s : List ℕ) → encodes uc ≡ u → are_spaces bc ≡ true → (is_literal u && may_follow (c ∷ s)) ≡ false →
        ((v r : List ℕ) → s ≡ v ++ r → is_taken (uc ++ bc ++ c ∷ v) r ≡ false) → NoneTaken uc (bc ++ c ∷ s)
    none_spaces uc bc c s e sp n more [] r is =
        rw (← is) (none_empty uc (bc ++ c ∷ s) e (rw (follow_spaces bc (c ∷ s) sp) n))
    none_spaces uc [] c s e sp n more (d ∷ v) r is =
        let a : c ≡ d = cc in let b : s ≡ v ++ r = cc in rw (← a) (subst (λ (y : List ℕ). is_taken (y ++ c ∷ v) r ≡ false) (append-nil uc) (more v r b))
    none_spaces uc (b ∷ bc) c s e sp n more (d ∷ v) r is =
        let a : b ≡ d = cc in
        let p = and_parts (is_space b) (are_spaces bc) sp in
        rw (← a) (none_behind uc b v r (space_no_word b p.0))

    -- a character that is neither a space nor a tab goes on, with hope `next` behind it
    pub extend : (next : Bool) (c : ℕ) (here : Place) (s : List ℕ) → is_space c ≡ false → is_control c ≡ false →
        (is_asked && may_follow (c ∷ s)) ≡ false → (next ≡ false → (hope ≡ false) ⊎ (is_wordy c ≡ false)) →
        PlainThen T stack (u ++ blanks ++ encode_utf8 c) [] next at0 (next_place here c) s → PlainThen T stack u blanks hope at0 here (c ∷ s)
    extend next c here s sp ct untaken fades h uc bc r =
        let uc2 : List ℕ = uc ++ bc ++ c ∷ [] in
        let text : encodes uc2 ≡ u ++ blanks ++ encode_utf8 c =
        encodes_one (uc ++ bc) c ∙ ap (λ (x : List ℕ). x ++ encode_utf8 c) (encodes-append uc bc ∙ rw (r.text, r.behind) refl) in
        let here2 : place_after at0 (uc2 ++ []) ≡ next_place here c =
        ap (place_after at0) (append-nil uc2) ∙ place_append at0 (uc ++ bc) (c ∷ []) ∙ ap (λ (x : Place). next_place x c) r.at_end in
        let solid : trimmed (uc2 ++ []) ≡ uc2 = ap trimmed (append-nil uc2) ∙ trimmed_solid (uc ++ bc) c sp in
        let r2 : PlainRead (u ++ blanks ++ encode_utf8 c) [] next uc2 [] at0 (next_place here c) = record { text = text; behind = refl; spaces = refl; solid = solid; at_end = here2; hopeless = λ e x. faded uc bc x r (fades e) } in
        go uc bc r (subst (λ (b : Bool). (b && may_follow (c ∷ s)) ≡ false) (asked uc bc here r) untaken) (h uc2 [] r2)
      where
        step : (uc bc v : List ℕ) → uc ++ bc ++ c ∷ [] ++ v ≡ uc ++ (bc ++ c ∷ v)
        step uc bc v = append_assoc (uc ++ bc) (c ∷ []) v ∙ append_assoc uc bc (c ∷ v)

        faded : (uc bc x : List ℕ) → PlainRead u blanks hope uc bc at0 here → (hope ≡ false) ⊎ (is_wordy c ≡ false) →
            is_literal (encodes (uc ++ bc ++ c ∷ [] ++ x)) ≡ false
        faded uc bc x r (inl e) = rw (step uc bc x) (r.hopeless e (bc ++ c ∷ x))
        faded uc bc x r (inr e) = subst (λ (y : List ℕ). is_literal (encodes y) ≡ false) (sym (append_assoc (uc ++ bc) (c ∷ []) x)) (none_in_literal (uc ++ bc) x c e)

        go : (uc bc : List ℕ) → PlainRead u blanks hope uc bc at0 here → (is_literal u && may_follow (c ∷ s)) ≡ false →
            TakenThen T stack at0 (uc ++ bc ++ c ∷ []) s ⊎ UnquotedThen T stack at0 (uc ++ bc ++ c ∷ []) [] (next_place here c) s →
            TakenThen T stack at0 uc (bc ++ c ∷ s) ⊎ UnquotedThen T stack at0 uc bc here (c ∷ s)
        go uc bc r n (inl h) =
            inl (
              bc ++ c ∷ h.0,
              h.1,
              ap (λ (x : List ℕ). bc ++ c ∷ x) h.2 ∙ sym (append_assoc bc (c ∷ h.0) h.1),
              subst (λ (x : List ℕ). is_taken x h.1 ≡ true) (step uc bc h.0) h.3,
              subst (λ (x : List ℕ). AfterValue T stack (plain_tree (encodes x) at0) (place_after at0 x) h.1) (step uc bc h.0) h.4,
            )
        go uc bc r n (inr h) =
            inr (
              none_spaces uc bc c s r.text r.spaces n (λ v x e. subst (λ (y : List ℕ). is_taken y x ≡ false) (append_assoc (uc ++ bc) (c ∷ []) v) (h.0 v x e)),
              c ∷ h.1,
              h.2,
              h.3,
              line_more ct h.4,
              subst (λ (x : List ℕ). AfterValue T stack (string_of (encodes (trimmed x)) at0) h.2 h.3) (step uc bc h.1) h.5,
            )

    -- a space goes on
    extend_space : (c : ℕ) (here : Place) (s : List ℕ) → is_space c ≡ true →
        PlainThen T stack u (blanks ++ encode_utf8 c) hope at0 (next_place here c) s → PlainThen T stack u blanks hope at0 here (c ∷ s)
    extend_space c here s sp h uc bc r =
        let bc2 : List ℕ = bc ++ c ∷ [] in
        let r2 : PlainRead u (blanks ++ encode_utf8 c) hope uc bc2 at0 (next_place here c) = record {
          text = r.text;
          behind = encodes_one bc c ∙ ap (λ (x : List ℕ). x ++ encode_utf8 c) r.behind;
          spaces = spaces_append bc c r.spaces sp;
          solid = ap trimmed (sym (append_assoc uc bc (c ∷ []))) ∙ trimmed_space (uc ++ bc) c sp ∙ r.solid;
          at_end = ap (place_after at0) (sym (append_assoc uc bc (c ∷ []))) ∙ place_append at0 (uc ++ bc) (c ∷ []) ∙ ap (λ (x : Place). next_place x c) r.at_end;
          hopeless = r.hopeless;
        } in
        go uc bc (h uc bc2 r2)
      where
        go : (uc bc : List ℕ) → TakenThen T stack at0 uc (bc ++ c ∷ [] ++ s) ⊎ UnquotedThen T stack at0 uc (bc ++ c ∷ []) (next_place here c) s →
            TakenThen T stack at0 uc (bc ++ c ∷ s) ⊎ UnquotedThen T stack at0 uc bc here (c ∷ s)
        go uc bc (inl h) = inl (subst (λ (x : List ℕ). TakenThen T stack at0 uc x) (append_assoc bc (c ∷ []) s) h)
        go uc bc (inr h) =
            inr (
              subst (λ (x : List ℕ). NoneTaken uc x) (append_assoc bc (c ∷ []) s) h.0,
              c ∷ h.1,
              h.2,
              h.3,
              line_more (space_uncontrolled c sp) h.4,
              subst (λ (x : List ℕ). AfterValue T stack (string_of (encodes (trimmed (uc ++ x))) at0) h.2 h.3) (append_assoc bc (c ∷ []) h.1) h.5,
            )

    -- none is taken before a character that stands in no literal
    low_none : (uc bc : List ℕ) (c : ℕ) (s : List ℕ) → encodes uc ≡ u → are_spaces bc ≡ true → is_wordy c ≡ false → is_literal u ≡ false →
        NoneTaken uc (bc ++ c ∷ s)
    low_none uc bc c s e sp low l = none_spaces uc bc c s e sp (rw l refl) (λ v r x. none_behind (uc ++ bc) c v r low)

    -- the line ends here
    pub line_here : (c : ℕ) (here : Place) (s : List ℕ) → is_wordy c ≡ false → is_space c ≡ false → at_line_end (c ∷ s) ≡ true →
        AfterValue T stack (plain_tree u at0) here (c ∷ s) → PlainThen T stack u blanks hope at0 here (c ∷ s)
    line_here c here s low sp e h uc bc r =
        let w : trimmed (uc ++ (bc ++ [])) ≡ uc = ap (λ (x : List ℕ). trimmed (uc ++ x)) (append-nil bc) ∙ r.solid in
        elim (bool_cases (is_literal u)) as (λ _. TakenThen T stack at0 uc (bc ++ c ∷ s) ⊎ UnquotedThen T stack at0 uc bc here (c ∷ s)) [
          | inl l ↦ inl (taken_here uc bc here (c ∷ s) r l (rw (sp, e) (or_true (ends_literal c || at_comment (c ∷ s)))) h)
          | inr l ↦ inr (
            low_none uc bc c s r.text r.spaces low l,
            [],
            here,
            c ∷ s,
            line_end e,
            subst (λ (k : Kind). AfterValue T stack (tree k at0) here (c ∷ s)) (plain_string u l ∙ ap string (sym (ap encodes w ∙ r.text))) h,
          )
        ]

    -- no literal is taken before this character
    not_followed : (c : ℕ) (s : List ℕ) → (c == line_feed) ≡ false → (c == carriage_return) ≡ false → is_space c ≡ false →
        (ends_literal c && is_asked) ≡ false → (is_asked ≡ false) ⊎ (at_comment (c ∷ s) ≡ false) → (is_asked && may_follow (c ∷ s)) ≡ false
    not_followed c s feed return sp el (inl l) = rw l refl
    not_followed c s feed return sp el (inr nc) = rw (sp, nc, feed, return) (go is_asked (ends_literal c) el)
      where
        go : (x y : Bool) → (y && x) ≡ false → (x && (y || false || false)) ≡ false
        go true true e = e
        go true false e = refl
        go false y e = refl

    -- hope is lost by a character that stands in no literal
    hope_lost : (c : ℕ) → (hope && not (is_no_part c)) ≡ false → (hope ≡ false) ⊎ (is_wordy c ≡ false)
    hope_lost c e = go hope (is_no_part c) refl refl e
      where
        go : (x y : Bool) → hope ≡ x → is_no_part c ≡ y → (x && not y) ≡ false → (hope ≡ false) ⊎ (is_wordy c ≡ false)
        go false y a b e = inl a
        go true true a b e = inr (grind (arith, nat_tests))
        go true false a b e = never (sym e)

    -- in a literal or an unquoted string
    pub back_plain : (here : Place) (c : ℕ) (s : List ℕ) → Left T (in_plain here stack u blanks hope at0 c) (next_place here c) s →
        PlainThen T stack u blanks hope at0 here (c ∷ s)
    unfolding in_plain
    back_plain here c s =
        by_cases (c == line_feed) _ _
        (λ e h. let f = same_character c line_feed e in line_here c here s (rw f refl) (rw f refl) (feed_ends c s f) (after_blank stack _ here c s (rw f refl) (after_delivered T stack _ _ s h)))
        (λ feed. by_cases (c == carriage_return) _ _
        (λ e h. let f = same_character c carriage_return e in line_here c here s (rw f refl) (rw f refl) (crlf_ends c s h.left.0 f h.left.1) (after_crlf stack _ here c s f h.left))
        (λ return. by_cases (ends_literal c && is_asked) _ _
        (λ e h. λ uc bc r.
        let p = and_parts (ends_literal c) is_asked e in
        inl (taken_here uc bc here (c ∷ s) r (and_parts hope (is_literal u) p.1).1 (ender_follows c s p.0) (after_then_gap T stack _ here c s h)))
        (λ el. by_cases (c == slash && is_asked) _ _
        (λ e h.
        let p = and_parts (c == slash) is_asked e in
        let q = and_parts hope (is_literal u) p.1 in
        subst (λ (b : Bool). PlainThen T stack u blanks b at0 here (c ∷ s)) (sym q.0)
        (subst (λ (x : ℕ). PlainThen T stack u blanks true at0 here (x ∷ s)) (sym (same_character c slash p.0)) (h.left q.1 here (ap (next_place here) (sym (same_character c slash p.0))))))
        (λ sl. by_cases (is_space c) _ _
        (λ e h. extend_space c here s e h.left)
        (λ sp. by_cases (is_control c) _ _ (λ e. stuck)
        (λ ct h. extend (hope && not (is_no_part c)) c here s sp ct (not_followed c s feed return sp el (slash_or c s el sl)) (hope_lost c) h.left))))))

  -- behind a carriage return
  pub back_plain_return : (stack : List Frame) (u : List ℕ) (at0 here : Place) (c : ℕ) (s : List ℕ) →
      Left T (in_plain_return stack u at0 c) (next_place here c) s → FeedThen (AfterValue T stack (plain_tree u at0)) here (c ∷ s)
  unfolding in_plain_return
  back_plain_return stack u at0 here c s =
      by_cases (c == line_feed) _ _
      (λ e h. let f = same_character c line_feed e in (s, ap (λ (x : ℕ). x ∷ s) f, subst (λ (x : ℕ). AfterValue T stack (plain_tree u at0) (next_place here x) s) f (after_delivered T stack _ _ s h)))
      (λ e. stuck)
