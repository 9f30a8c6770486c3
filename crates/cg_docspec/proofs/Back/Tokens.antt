-- One character back, where a token begins.
use Rattle.std.proofs.Common.{◌≡◌, ℕ, ◌⊎◌, inl, inr, List, [], ◌∷◌, ◌++◌, Option, refl, arith, true, false, subst, ◌∙◌, sym, append_assoc}
use Rattle.std.specs.Prelude.{◌||◌, ◌==◌, encode_utf8}
use Rattle.std.proofs.lemmas.Bool.{and_parts, or_parts}
use Rattle.std.proofs.lemmas.Bool.Decides.{nat_tests}
use Rattle.std.proofs.lemmas.List.{append-nil}
use lib.Utf8.{encodes}
use Rattle.cg_docspec.specs.Characters.{close_brace, close_bracket, colon, comma, is_blank, is_control, is_key, is_mark, is_quote, is_space, open_brace, open_bracket}
use Rattle.cg_docspec.specs.Place.{Place, next_place, place_after}
use Rattle.cg_docspec.specs.Tree.{Kind, Member, Tree, list_of, object_of, string_of}
use Rattle.cg_docspec.specs.Gap.{Gap, at_comment, line_more}
use Rattle.cg_docspec.specs.Literal.{Literal, NoLiteral, may_follow}
use Rattle.cg_docspec.specs.Document.{Key, Object, leaf_value, list_value, literal, no_comma, no_member, no_value, object, object_value, one_comma, one_member, one_value, quoted, quoted_key, run_key, trimmed, unquoted}
use Rattle.cg_docspec.specs.Machine.Awaited.{Awaited}
use Rattle.cg_docspec.specs.Machine.Awaited as awaited
use Rattle.cg_docspec.specs.Machine.Closing.{delivered, keyed}
use Rattle.cg_docspec.specs.Machine.Frame.{Frame}
use Rattle.cg_docspec.specs.Machine.Frame as frame
use Rattle.cg_docspec.specs.Machine.Numeral.{is_literal, plain_tree}
use Rattle.cg_docspec.specs.Machine.Token.{begin_item, begin_token, begin_value}
use Rattle.cg_docspec.proofs.Back.Comments.{by_cases, stuck}
use Rattle.cg_docspec.proofs.Basics.{both, never, same_character}
use Rattle.cg_docspec.proofs.Left.{AfterValue, AwaitedThen, GapThen, ItemRest, KeyThen, Left, ListRest, NoneTaken, ObjectRest, PlainRead, TakenThen, UnquotedThen, ValueThen, is_taken}
use Rattle.cg_docspec.proofs.Literals.{literal_is, literal_of}

-- a literal of the grammar is taken by its bytes
pub taken_of : {u : List ℕ} {k : Kind} (r : List ℕ) → Literal u k → may_follow r ≡ true → is_taken u r ≡ true
taken_of r l m = both _ _ (literal_is l) m

-- nothing is no literal
pub empty_taken : (r : List ℕ) → is_taken [] r ≡ false
unfolding is_literal
empty_taken r = refl

module _ (T : Tree) where
  -- what is left behind a value that was closed, and behind a key
  pub after_delivered : (stack : List Frame) (t : Tree) (at : Place) (s : List ℕ) → Left T (delivered stack t) at s → AfterValue T stack t at s
  unfolding delivered
  after_delivered [] t at s h = h.left
  after_delivered (frame.in_list list_at ts ∷ outer) t at s h = h.left
  after_delivered (frame.in_member object_at ms k key_at ∷ outer) t at s h = h.left
  after_delivered (frame.in_object object_at ms ∷ outer) t at s h = h.left

  -- and behind a key
  pub after_key : (stack : List Frame) (k : List ℕ) (key_at at : Place) (s : List ℕ) → Left T (keyed stack k key_at) at s →
      KeyThen T stack k key_at at s
  unfolding keyed
  after_key [] k key_at at s h = h.left
  after_key (frame.in_list list_at ts ∷ outer) k key_at at s h = h.left
  after_key (frame.in_member object_at ms k1 key_at1 ∷ outer) k key_at at s h = h.left
  after_key (frame.in_object object_at ms ∷ outer) k key_at at s h = h.left

  -- an object, and a list, that opens here
  object_then : (stack : List Frame) (here : Place) (c : ℕ) (s : List ℕ) → c ≡ open_brace →
      GapThen (ObjectRest (AfterValue T stack) here []) (next_place here c) s →
      (t : Tree) × (at1 : Place) × (s1 : List ℕ) × Object here (c ∷ s) t at1 s1 × AfterValue T stack t at1 s1
  object_then stack here c s e h =
      (object_of h.3.0 here, next_place h.3.1 h.3.2, h.3.3, object e h.2 h.3.4 h.3.5, h.3.6)

  -- a list that opens here
  list_then : (stack : List Frame) (here : Place) (c : ℕ) (s : List ℕ) → c ≡ open_bracket →
      GapThen (ListRest (AfterValue T stack) here []) (next_place here c) s → ValueThen T stack here (c ∷ s)
  list_then stack here c s e h =
      (list_of h.3.0 here, next_place h.3.1 h.3.2, h.3.3, list_value e h.2 h.3.4 h.3.5, h.3.6)

  -- what is not taken by its bytes is no literal of the grammar
  none_at_all : (c : ℕ) (s : List ℕ) → NoneTaken (c ∷ []) s → NoLiteral (c ∷ s)
  none_at_all c s f [] r k e l m = never (sym (empty_taken r) ∙ taken_of r l m)
  none_at_all c s f (d ∷ u) r k e l m =
      let a : d ≡ c = cc in
      let b : s ≡ u ++ r = cc in
      never (sym (f u r b) ∙ subst (λ (x : ℕ). is_taken (x ∷ u) r ≡ true) a (taken_of r l m))

  -- the first character of a literal or an unquoted string
  is_key_of : (c : ℕ) → is_blank c ≡ false → (is_mark c || is_control c) ≡ false → is_key c ≡ true
  is_key_of c a b = grind (arith, nat_tests)

  -- a literal or an unquoted string that begins here
  plain_then : (stack : List Frame) (here : Place) (c : ℕ) (s : List ℕ) → is_key c ≡ true → is_control c ≡ false → is_space c ≡ false →
      is_quote c ≡ false → at_comment (c ∷ s) ≡ false →
      TakenThen T stack here (c ∷ []) s ⊎ UnquotedThen T stack here (c ∷ []) [] (next_place here c) s → ValueThen T stack here (c ∷ s)
  plain_then stack here c s k n sp q nc (inl h) =
      subst (λ (x : List ℕ). ValueThen T stack here (c ∷ x)) (sym h.2) (
        plain_tree (encodes (c ∷ h.0)) here,
        place_after here (c ∷ h.0),
        h.1,
        let p = and_parts (is_literal (encodes (c ∷ h.0))) (may_follow h.1) h.3 in leaf_value (literal (c ∷ h.0) h.1 (literal_of (c ∷ h.0) p.0) p.1),
        h.4,
      )
  plain_then stack here c s k n sp q nc (inr h) =
      (string_of (encodes (trimmed (c ∷ h.1))) here, h.2, h.3, leaf_value (unquoted (none_at_all c s h.0) k q nc (line_more n h.4)), h.5)

  -- its first character is read
  first_read : (here : Place) (c : ℕ) → is_space c ≡ false → PlainRead (encode_utf8 c) [] true (c ∷ []) [] here (next_place here c)
  first_read here c e = record { text = append-nil (encode_utf8 c); behind = refl; spaces = refl; solid = rw e refl; at_end = refl; hopeless = λ e. never (sym e) }

  -- no blank is no space
  not_space : (c : ℕ) → is_blank c ≡ false → is_space c ≡ false
  not_space c e = grind (arith, nat_tests)

  -- a value begins
  pub back_value : (stack : List Frame) (here : Place) (c : ℕ) (s : List ℕ) → is_blank c ≡ false → at_comment (c ∷ s) ≡ false →
      Left T (begin_value here stack c) (next_place here c) s → ValueThen T stack here (c ∷ s)
  unfolding begin_value
  back_value stack here c s nb nc =
      by_cases (c == open_brace) _ _
      (λ e h. let o = object_then stack here c s (same_character c open_brace e) h.left in (o.0, o.1, o.2, object_value o.3, o.4))
      (λ e. by_cases (c == open_bracket) _ _
      (λ e h. list_then stack here c s (same_character c open_bracket e) h.left)
      (λ e. by_cases (is_mark c || is_control c) _ _ (λ e. stuck)
      (λ e4. by_cases (is_quote c) _ _
      (λ e h. elim h.left as (λ _. ValueThen T stack here (c ∷ s)) [
        | inl x ↦ (string_of x.1.0 here, x.1.1, x.1.2, leaf_value (quoted e x.0 x.1.3), x.1.4)
        | inr x ↦ x.1 refl
      ])
      (λ e h. plain_then stack here c s (is_key_of c nb e4) (or_parts _ _ e4).1 (not_space c nb) e nc (h.left (c ∷ []) [] (first_read here c (not_space c nb)))))))

  -- a member that begins here
  key_then : (object_at : Place) (ms : List Member) (outer : List Frame) (here at1 : Place) (k s s1 : List ℕ) → Key here s k at1 s1 →
      KeyThen T (frame.in_object object_at ms ∷ outer) k here at1 s1 → ObjectRest (AfterValue T outer) object_at ms here s
  key_then object_at ms outer here at1 k s s1 key h =
      let g : Gap at1 s1 h.0 (h.3.0 ∷ h.3.1) = subst (λ (x : List ℕ). Gap at1 s1 h.0 x) h.3.2 h.2 in
      let g2 = h.3.4 in
      let v = g2.3 in
      let a = v.4 in
      let co = a.3 in
      let m = co.3 in (
        record { key = k; key_place = here; value = v.0 } ∷ m.0,
        m.1,
        m.2,
        m.3,
        one_member key g h.3.3 g2.2 v.3 a.2 co.2 m.4,
        m.5,
        rw append_assoc at m.6,
      )

  -- an item begins, or what is open is closed
  pub back_item : (stack : List Frame) (here : Place) (c : ℕ) (s : List ℕ) → is_blank c ≡ false → at_comment (c ∷ s) ≡ false →
      Left T (begin_item here stack c) (next_place here c) s → ItemRest T stack here (c ∷ s)
  unfolding begin_item
  back_item [] here c s nb nc = λ h. h.left
  back_item (frame.in_list list_at ts ∷ outer) here c s nb nc =
      by_cases (c == close_bracket) _ _
      (λ e h. ([], here, c, s, no_value, same_character c close_bracket e, rw append-nil (after_delivered outer _ _ s h)))
      (λ e h.
      let v = back_value (frame.in_list list_at ts ∷ outer) here c s nb nc h in
      let a = v.4 in
      let co = a.3 in
      let m = co.3 in
      (v.0 ∷ m.0, m.1, m.2, m.3, one_value v.3 a.2 co.2 m.4, m.5, rw append_assoc at m.6))
  back_item (frame.in_object object_at ms ∷ outer) here c s nb nc =
      by_cases (c == close_brace) _ _
      (λ e h. ([], here, c, s, no_member, same_character c close_brace e, rw append-nil (after_delivered outer _ _ s h)))
      (λ e. by_cases (is_quote c) _ _
      (λ e h. key_then object_at ms outer here h.left.1 h.left.0 (c ∷ s) h.left.2 (quoted_key e h.left.3) h.left.4)
      (λ e2. by_cases (is_key c) _ _
      (λ e3 h. key_then object_at ms outer here h.left.1 (encode_utf8 c ++ h.left.0) (c ∷ s) h.left.2 (run_key e3 e2 nc h.left.3) h.left.4)
      (λ e. stuck)))
  back_item (frame.in_member object_at ms k key_at ∷ outer) here c s nb nc = λ h. h.left

  -- what stands behind a gap begins
  pub back_token : (stack : List Frame) (found : Option Tree) (here : Place) (p : Awaited) (c : ℕ) (s : List ℕ) → is_blank c ≡ false →
      at_comment (c ∷ s) ≡ false → Left T (begin_token here stack p c) (next_place here c) s → AwaitedThen T stack found p here (c ∷ s)
  unfolding begin_token
  back_token stack found here awaited.root c s nb nc = by_cases (c == open_brace) _ _ (λ e h. object_then stack here c s (same_character c open_brace e) h.left) (λ e. stuck)
  back_token stack found here (awaited.item true) c s nb nc =
      by_cases (c == comma) _ _
      (λ e h. (h.left.0, h.left.1, one_comma (same_character c comma e) h.left.2, h.left.3))
      (λ e h. (here, c ∷ s, no_comma, back_item stack here c s nb nc h))
  back_token stack found here (awaited.item false) c s nb nc = λ h. back_item stack here c s nb nc h
  back_token stack found here awaited.colon c s nb nc = by_cases (c == colon) _ _ (λ e h. (c, s, refl, same_character c colon e, h.left)) (λ e. stuck)
  back_token stack found here awaited.value c s nb nc = λ h. back_value stack here c s nb nc h
  back_token stack found here awaited.end c s nb nc = λ h. stuck h
