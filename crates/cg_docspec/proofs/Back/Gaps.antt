-- One character back, in a gap and in a key.
use Rattle.std.proofs.Common.{◌≡◌, ℕ, List, [], ◌∷◌, ◌++◌, Option, Some, None, refl, true, false, Bool, ap, subst, sym, append_assoc}
use Rattle.std.specs.Prelude.{cond, ◌||◌, ◌==◌, encode_utf8}
use Rattle.std.proofs.lemmas.Bool.{or_parts}
use Rattle.std.proofs.lemmas.List.{append-nil}
use Rattle.cg_docspec.specs.Characters.{carriage_return, hash, is_blank, is_key, slash, star}
use Rattle.cg_docspec.specs.Place.{Place, next_place}
use Rattle.cg_docspec.specs.Tree.{Tree}
use Rattle.cg_docspec.specs.Gap.{at_comment}
use Rattle.cg_docspec.specs.Document.{run_end, run_more}
use Rattle.cg_docspec.specs.Machine.Awaited.{Awaited}
use Rattle.cg_docspec.specs.Machine.Awaited as awaited
use Rattle.cg_docspec.specs.Machine.Closing.{delivered, keyed}
use Rattle.cg_docspec.specs.Machine.Frame.{Frame}
use Rattle.cg_docspec.specs.Machine.Frame as frame
use Rattle.cg_docspec.specs.Machine.Now as now
use Rattle.cg_docspec.specs.Machine.Plain.{begun_comment, then_comment}
use Rattle.cg_docspec.specs.Machine.Token.{begin_token, in_gap, in_key, then_gap}
use Rattle.cg_docspec.proofs.Back.Comments.{by_cases, gap_blank, gap_block, gap_crlf, gap_hash, gap_none, gap_slashes, stuck}
use Rattle.cg_docspec.proofs.Back.Tokens.{back_token}
use Rattle.cg_docspec.proofs.Basics.{same_character}
use Rattle.cg_docspec.proofs.Left.{AfterValue, AwaitedThen, GapThen, KeyThen, Left, LeftNow}

-- neither # nor a slash begins a comment
no_comment : (c : ℕ) (s : List ℕ) → (c == hash) ≡ false → (c == slash) ≡ false → at_comment (c ∷ s) ≡ false
no_comment c s e f = rw (e, f) refl

module _ (T : Tree) where
  -- in a gap
  pub back_gap : (stack : List Frame) (found : Option Tree) (here : Place) (p : Awaited) (c : ℕ) (s : List ℕ) →
      Left T (in_gap here stack found p c) (next_place here c) s → GapThen (AwaitedThen T stack found p) here (c ∷ s)
  unfolding in_gap
  back_gap stack found here p c s =
      by_cases (is_blank c) _ _
      (λ e h. gap_blank (AwaitedThen T stack found p) here c s e h.left)
      (λ nb. by_cases (c == carriage_return) _ _
      (λ e h. gap_crlf (AwaitedThen T stack found p) here c s (same_character c carriage_return e) h.left)
      (λ _. by_cases (c == hash) _ _
      (λ e h. gap_hash (AwaitedThen T stack found p) here c s (same_character c hash e) h.left.3 h.left.4)
      (λ e35. by_cases (c == slash) _ _
      (λ e h. subst (λ (x : ℕ). GapThen (AwaitedThen T stack found p) here (x ∷ s)) (sym (same_character c slash e)) (h.left (ap (next_place here) (sym (same_character c slash e)))))
      (λ e47 h. gap_none (AwaitedThen T stack found p) here (c ∷ s) (back_token T stack found here p c s nb (no_comment c s e35 e47) h)))))

  -- behind a value whose end shows by the next character
  pub after_then_gap : (stack : List Frame) (t : Tree) (here : Place) (c : ℕ) (s : List ℕ) →
      Left T (then_gap here c (delivered stack t)) (next_place here c) s → AfterValue T stack t here (c ∷ s)
  unfolding delivered
  after_then_gap [] t here c s h = back_gap [] (Some t) here awaited.end c s h
  after_then_gap (frame.in_list list_at ts ∷ outer) t here c s h = back_gap (frame.in_list list_at (ts ++ t ∷ []) ∷ outer) None here (awaited.item true) c s h
  after_then_gap (frame.in_member object_at ms k key_at ∷ outer) t here c s h = back_gap (frame.in_object object_at (ms ++ record { key = k; key_place = key_at; value = t } ∷ []) ∷ outer) None here (awaited.item true) c s h
  after_then_gap (frame.in_object object_at ms ∷ outer) t here c s h = stuck h

  -- behind a key whose end shows by the next character
  key_then_gap : (stack : List Frame) (k : List ℕ) (key_at here : Place) (c : ℕ) (s : List ℕ) →
      Left T (then_gap here c (keyed stack k key_at)) (next_place here c) s → KeyThen T stack k key_at here (c ∷ s)
  unfolding keyed
  key_then_gap [] k key_at here c s h = stuck h
  key_then_gap (frame.in_list list_at ts ∷ outer) k key_at here c s h = stuck h
  key_then_gap (frame.in_member object_at ms k1 key_at1 ∷ outer) k key_at here c s h = stuck h
  key_then_gap (frame.in_object object_at ms ∷ outer) k key_at here c s h = back_gap (frame.in_member object_at ms k key_at ∷ outer) None here awaited.colon c s h

  -- in a key without quotes
  pub back_key : (stack : List Frame) (k : List ℕ) (key_at here : Place) (c : ℕ) (s : List ℕ) →
      Left T (in_key here stack k key_at c) (next_place here c) s → LeftNow T stack None (now.key k key_at) here (c ∷ s)
  unfolding in_key
  back_key stack k key_at here c s =
      by_cases (is_key c) _ _
      (λ e h. (encode_utf8 c ++ h.left.0, h.left.1, h.left.2, run_more e h.left.3, subst (λ (x : List ℕ). KeyThen T stack x key_at h.left.1 h.left.2) (append_assoc k (encode_utf8 c) h.left.0) h.left.4))
      (λ e h. ([], here, c ∷ s, run_end (rw e refl), subst (λ (x : List ℕ). KeyThen T stack x key_at here (c ∷ s)) (sym (append-nil k)) (key_then_gap stack k key_at here c s h)))

  -- a comment with a slash goes on behind its second character
  comment_then : (stack : List Frame) (found : Option Tree) (p : Awaited) (at0 here : Place) (c : ℕ) (s : List ℕ) → (c == slash || c == star) ≡ true →
      next_place at0 slash ≡ here → LeftNow T stack found (begun_comment c p) (next_place here c) s →
      GapThen (AwaitedThen T stack found p) at0 (slash ∷ c ∷ s)
  comment_then stack found p at0 here c s e a = go (c == slash) refl
    where
      go : (b : Bool) → (c == slash) ≡ b → LeftNow T stack found (cond b (now.comment p) (now.block p false)) (next_place here c) s →
          GapThen (AwaitedThen T stack found p) at0 (slash ∷ c ∷ s)
      go true f h =
          let g : LeftNow T stack found (now.comment p) (next_place (next_place at0 slash) c) s = subst (λ (x : Place). LeftNow T stack found (now.comment p) (next_place x c) s) (sym a) h in
          gap_slashes (AwaitedThen T stack found p) at0 slash c s refl (same_character c slash f) g.3 g.4
      go false f h =
          let g : LeftNow T stack found (now.block p false) (next_place (next_place at0 slash) c) s = subst (λ (x : Place). LeftNow T stack found (now.block p false) (next_place x c) s) (sym a) h in
          gap_block (AwaitedThen T stack found p) at0 slash c s refl (same_character c star (rw f at e)) g.2 g.3

  -- a literal was before a comment with a slash
  pub after_comment : (stack : List Frame) (t : Tree) (at0 here : Place) (c : ℕ) (s : List ℕ) → (c == slash || c == star) ≡ true →
      next_place at0 slash ≡ here → Left T (then_comment c (delivered stack t)) (next_place here c) s → AfterValue T stack t at0 (slash ∷ c ∷ s)
  unfolding delivered
  after_comment [] t at0 here c s e a h = comment_then [] (Some t) awaited.end at0 here c s e a h.left
  after_comment (frame.in_list list_at ts ∷ outer) t at0 here c s e a h = comment_then (frame.in_list list_at (ts ++ t ∷ []) ∷ outer) None (awaited.item true) at0 here c s e a h.left
  after_comment (frame.in_member object_at ms k key_at ∷ outer) t at0 here c s e a h =
      comment_then (frame.in_object object_at (ms ++ record { key = k; key_place = key_at; value = t } ∷ []) ∷ outer) None (awaited.item true) at0 here c s e a h.left
  after_comment (frame.in_object object_at ms ∷ outer) t at0 here c s e a h = stuck h

  -- a comment begins in a gap
  pub begin_comment : (stack : List Frame) (found : Option Tree) (p : Awaited) (at0 here : Place) (c : ℕ) (s : List ℕ) →
      (c == slash || c == star) ≡ true → next_place at0 slash ≡ here → LeftNow T stack found (begun_comment c p) (next_place here c) s →
      GapThen (AwaitedThen T stack found p) at0 (slash ∷ c ∷ s)
  begin_comment = comment_then

  -- a token whose first character is a slash
  pub slash_token : (stack : List Frame) (found : Option Tree) (p : Awaited) (at0 here : Place) (c : ℕ) (s : List ℕ) →
      (c == slash || c == star) ≡ false → next_place at0 slash ≡ here → Left T (begin_token at0 stack p slash) here (c ∷ s) →
      GapThen (AwaitedThen T stack found p) at0 (slash ∷ c ∷ s)
  slash_token stack found p at0 here c s e a h =
      let f = or_parts (c == slash) (c == star) e in
      gap_none (AwaitedThen T stack found p) at0 (slash ∷ c ∷ s) (back_token T stack found at0 p slash (c ∷ s) refl (rw (f.0, f.1) refl) (subst (λ (x : Place). Left T (begin_token at0 stack p slash) x (c ∷ s)) (sym a) h))
