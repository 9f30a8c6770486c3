-- What the grammar derives, the machine reads. Keys.
use Rattle.std.proofs.Common.{◌≡◌, ℕ, inl, inr, List, [], ◌∷◌, Some, None, refl, arith, true, false, Bool, subst, ◌∙◌}
use Rattle.std.specs.Prelude.{◌||◌, ◌==◌, encode_utf8}
use Rattle.std.proofs.lemmas.Bool.Decides.{nat_tests}
use Rattle.cg_docspec.specs.Characters.{backslash, carriage_return, close_brace, comma, double_quote, hash, is_key, is_quote, line_feed, single_quote, slash, space, star, tab}
use Rattle.cg_docspec.specs.Place.{Place, next_place}
use Rattle.cg_docspec.specs.Tree.{Member}
use Rattle.cg_docspec.specs.Gap.{at_comment}
use Rattle.cg_docspec.specs.Document.{Key, quoted_key, run_key}
use Rattle.cg_docspec.specs.Machine.Awaited as awaited
use Rattle.cg_docspec.specs.Machine.Closing.{keyed}
use Rattle.cg_docspec.specs.Machine.Comment.{in_slash}
use Rattle.cg_docspec.specs.Machine.Escape as escape
use Rattle.cg_docspec.specs.Machine.Frame.{Frame}
use Rattle.cg_docspec.specs.Machine.Frame as frame
use Rattle.cg_docspec.specs.Machine.Run.{Finds, step}
use Rattle.cg_docspec.specs.Machine.State.{State}
use Rattle.cg_docspec.specs.Machine.Token.{begin_item, begin_token, in_gap}
use Rattle.cg_docspec.proofs.Basics.{bool_cases, same_character}
use Rattle.cg_docspec.proofs.Forth.Gaps.{Goes, colon_state, gap_state, goes_step, key_state, run_goes, same_steps, slash_state, step_slash, unfinished}
use Rattle.cg_docspec.proofs.Forth.Leaves.{end_key, no_hash, quote_end}
use Rattle.cg_docspec.proofs.Forth.Plain.{no_second}
use Rattle.cg_docspec.proofs.Forth.Quotes.{quoted_goes, string_state}

-- ---- keys

-- the first character of a key is no blank, comma or brace
key_first : (c : ℕ) → is_key c ≡ true →
    ((c == space) ≡ false) × ((c == tab) ≡ false) × ((c == line_feed) ≡ false) × ((c == carriage_return) ≡ false) × ((c == comma) ≡ false) × ((c == close_brace) ≡ false)
key_first c h = (grind (arith, nat_tests), grind (arith, nat_tests), grind (arith, nat_tests), grind (arith, nat_tests), grind (arith, nat_tests), grind (arith, nat_tests))

module _ (object_at : Place) (ms : List Member) (o : List Frame) where
  -- in an object, at an item
  abbrev members : Bool → State
  members b = gap_state (frame.in_object object_at ms ∷ o) None (awaited.item b)

  -- a key without quotes begins
  begin_key : (at : Place) (b : Bool) (c : ℕ) → is_key c ≡ true → is_quote c ≡ false → (c == hash) ≡ false → (c == slash) ≡ false →
      step at (members b) c ≡ Some (key_state object_at ms o at (encode_utf8 c))
  unfolding step in_gap begin_token begin_item
  begin_key at true c h q e35 e47 = let p = key_first c h in rw (h, p.0, p.1, p.2, p.3, e35, e47, p.4, p.5, q) refl
  begin_key at false c h q e35 e47 = let p = key_first c h in rw (h, p.0, p.1, p.2, p.3, e35, e47, p.5, q) refl

  -- a quoted key begins
  begin_quoted_key : (at : Place) (b : Bool) (c : ℕ) → is_quote c ≡ true →
      step at (members b) c ≡ Some (string_state (frame.in_object object_at ms ∷ o) true c at [] escape.none)
  unfolding step in_gap begin_token begin_item
  begin_quoted_key at b c q = elim (bool_cases (c == double_quote)) as (λ _. step at (members b) c ≡ Some (string_state (frame.in_object object_at ms ∷ o) true c at [] escape.none)) [
    | inl e ↦ with_quote b c (same_character c double_quote e) refl
    | inr e ↦ with_single b c (same_character c single_quote (rw e at q))
  ]
    where
      with_quote : (b : Bool) (c : ℕ) → c ≡ double_quote → c ≡ c →
          step at (members b) c ≡ Some (string_state (frame.in_object object_at ms ∷ o) true c at [] escape.none)
      with_quote true c e f = rw e refl
      with_quote false c e f = rw e refl

      with_single : (b : Bool) (c : ℕ) → c ≡ single_quote →
          step at (members b) c ≡ Some (string_state (frame.in_object object_at ms ∷ o) true c at [] escape.none)
      with_single true c e = rw e refl
      with_single false c e = rw e refl

  -- behind a slash, a key goes on as behind its first character
  step_slashed_key : (at at1 : Place) (b : Bool) (d : ℕ) → (d == slash || d == star) ≡ false →
      step at1 (slash_state (frame.in_object object_at ms ∷ o) None (awaited.item b) at) d ≡ step at1 (key_state object_at ms o at (encode_utf8 slash)) d
  unfolding step in_slash begin_token begin_item
  step_slashed_key at at1 true d e = rw e refl
  step_slashed_key at at1 false d e = rw e refl

  -- a key that begins with a slash
  slashed_key : (at at1 : Place) (b : Bool) (s : List ℕ) → at_comment (slash ∷ s) ≡ false →
      Goes at1 (slash_state (frame.in_object object_at ms ∷ o) None (awaited.item b) at) s at1 (key_state object_at ms o at (encode_utf8 slash)) s
  slashed_key at at1 b [] e t doc = unfinished at1 (key_state object_at ms o at (encode_utf8 slash)) t refl doc
  slashed_key at at1 b (d ∷ s) e t doc = same_steps at1 (slash_state (frame.in_object object_at ms ∷ o) None (awaited.item b) at) (key_state object_at ms o at (encode_utf8 slash)) d s (step_slashed_key at at1 b d (no_second d s e)) t doc

  -- its colon comes next
  key_read : (at : Place) (k : List ℕ) → keyed (frame.in_object object_at ms ∷ o) k at ≡ Some (colon_state object_at ms o at k)
  unfolding keyed
  key_read at k = refl

  -- a key
  pub key_goes : {at at' : Place} {s k r : List ℕ} (b : Bool) → Key at s k at' r → Goes at (members b) s at' (colon_state object_at ms o at k) r
  key_goes b (quoted_key {at} {at'} {c} {s} {u} {r} e l) t doc =
      let nq : (backslash == c) ≡ false = grind (arith, nat_tests) in
      goes_step at (members b) (string_state (frame.in_object object_at ms ∷ o) true c at [] escape.none) c s (begin_quoted_key at b c e) t
      (quoted_goes (frame.in_object object_at ms ∷ o) true c at [] (colon_state object_at ms o at u) nq l
      (λ atc d f t doc. goes_step atc (string_state (frame.in_object object_at ms ∷ o) true c at u escape.none) (colon_state object_at ms o at u) d r (quote_end atc (frame.in_object object_at ms ∷ o) true c at u d f ∙ end_key (frame.in_object object_at ms ∷ o) c at u ∙ key_read at u) t doc) t doc)
  key_goes b (run_key {at} {at'} {c} {s} {u} {r} k q nc l) t doc =
      let rest : Finds (next_place at c) (key_state object_at ms o at (encode_utf8 c)) s t = run_goes object_at ms o at (encode_utf8 c) l t doc in
      elim (bool_cases (c == slash)) as (λ _. Finds at (members b) (c ∷ s) t) [
        | inl f ↦
            let c47 = same_character c slash f in
            goes_step at (members b) (slash_state (frame.in_object object_at ms ∷ o) None (awaited.item b) at) c s (step_slash (frame.in_object object_at ms ∷ o) None (awaited.item b) at c c47) t
            (slashed_key at (next_place at c) b s (subst (λ (x : ℕ). at_comment (x ∷ s) ≡ false) c47 nc) t (subst (λ (x : ℕ). Finds (next_place at c) (key_state object_at ms o at (encode_utf8 x)) s t) c47 rest))
        | inr f ↦ goes_step at (members b) (key_state object_at ms o at (encode_utf8 c)) c s (begin_key at b c k q (no_hash c s nc) f) t rest
      ]
