-- What the grammar derives, the machine reads. Steps, gaps and keys.
use Rattle.std.proofs.Common.{◌≡◌, ℕ, ◌⊎◌, inl, inr, List, [], ◌∷◌, ◌++◌, Option, Some, None, refl, arith, true, false, Bool, ap, subst, ◌∙◌, sym, append_assoc}
use Rattle.std.specs.Prelude.{◌&&◌, ◌==◌, not, encode_utf8, option_and_then}
use Rattle.std.proofs.lemmas.Bool.Decides.{nat_tests}
use Rattle.std.proofs.lemmas.List.{append-nil}
use Rattle.cg_docspec.specs.Characters.{carriage_return, hash, is_blank, is_control, is_key, line_feed, slash, star}
use Rattle.cg_docspec.specs.Place.{Place, next_place}
use Rattle.cg_docspec.specs.Tree.{Member, Tree}
use Rattle.cg_docspec.specs.Gap.{Block, Gap, Line, at_line_end, blank, block_comment, block_crlf, block_end, block_more, crlf, hash_comment, line_end, line_more, no_gap, slash_comment, starts}
use Rattle.cg_docspec.specs.Document.{KeyRun, ends_key, run_end, run_more}
use Rattle.cg_docspec.specs.Machine.Awaited.{Awaited}
use Rattle.cg_docspec.specs.Machine.Awaited as awaited
use Rattle.cg_docspec.specs.Machine.Closing.{keyed}
use Rattle.cg_docspec.specs.Machine.Comment.{in_block, in_block_return, in_comment, in_slash}
use Rattle.cg_docspec.specs.Machine.Frame.{Frame}
use Rattle.cg_docspec.specs.Machine.Frame as frame
use Rattle.cg_docspec.specs.Machine.Now as now
use Rattle.cg_docspec.specs.Machine.Run.{Finds, run, step, whole}
use Rattle.cg_docspec.specs.Machine.State.{State, reading}
use Rattle.cg_docspec.specs.Machine.Token.{in_gap, in_gap_return, in_key}
use Rattle.cg_docspec.proofs.Basics.{never, same_character}

-- a run behind a step
pub run_step : (at : Place) (s t : State) (c : ℕ) (xs : List ℕ) → step at s c ≡ Some t → run at s (c ∷ xs) ≡ run (next_place at c) t xs
run_step at s t c xs h = ap (option_and_then (λ t. run (next_place at c) t xs)) h

-- what is a document from the second state on is one from the first on
abbrev pub Goes : Place → State → List ℕ → Place → State → List ℕ → Type 0
Goes at s cs at' s' cs' = (t : Tree) → Finds at' s' cs' t → Finds at s cs t

-- a step to be made
pub goes_step : (at : Place) (s t : State) (c : ℕ) (cs : List ℕ) → step at s c ≡ Some t → Goes at s (c ∷ cs) (next_place at c) t cs
goes_step at s t c cs h T d = (d.0, run_step at s t c cs h ∙ d.1, d.2)

-- a step that was made
pub off_step : (at : Place) (s t : State) (c : ℕ) (cs : List ℕ) → step at s c ≡ Some t → (T : Tree) → Finds at s (c ∷ cs) T →
    Finds (next_place at c) t cs T
off_step at s t c cs h T d = (d.0, sym (run_step at s t c cs h) ∙ d.1, d.2)

-- two states that take the next character alike
pub same_steps : (at : Place) (s s' : State) (c : ℕ) (cs : List ℕ) → step at s c ≡ step at s' c → Goes at s (c ∷ cs) at s' (c ∷ cs)
same_steps at s s' c cs h T d = (d.0, ap (option_and_then (λ t. run (next_place at c) t cs)) h ∙ d.1, d.2)

-- no document ends in a state without a tree
pub unfinished : {G : Type 0} (at : Place) (s : State) (t : Tree) → whole s ≡ None → Finds at s [] t → G
unfinished at s t e d = let alike : s ≡ d.0 = cc in let no_tree : None ≡ Some t = sym e ∙ ap whole alike ∙ d.2 in cc

module _ (stack : List Frame) (found : Option Tree) (next : Awaited) where
  -- in this gap
  abbrev pub gap_state : State
  gap_state = record { stack = stack; now = now.gap next; found = found }

  -- in a comment up to the line's end
  abbrev pub comment_state : State
  comment_state = record { stack = stack; now = now.comment next; found = found }

  -- behind a carriage return
  abbrev pub return_state : State
  return_state = record { stack = stack; now = now.gap_return next; found = found }

  -- behind a slash
  abbrev pub slash_state : Place → State
  slash_state at = record { stack = stack; now = now.slash next at; found = found }

  -- in a comment up to */
  abbrev pub block_state : Bool → State
  block_state after_star = record { stack = stack; now = now.block next after_star; found = found }

  -- and behind a carriage return in it
  abbrev block_return_state : State
  block_return_state = record { stack = stack; now = now.block_return next; found = found }

  -- a blank
  pub step_blank : (at : Place) (c : ℕ) → is_blank c ≡ true → step at gap_state c ≡ Some gap_state
  unfolding step in_gap
  step_blank at c h = rw h refl

  -- # begins a comment
  step_hash : (at : Place) (c : ℕ) → c ≡ hash → step at gap_state c ≡ Some comment_state
  unfolding step in_gap
  step_hash at c h = rw h refl

  -- a carriage return
  pub step_return : (at : Place) (c : ℕ) → c ≡ carriage_return → step at gap_state c ≡ Some return_state
  unfolding step in_gap
  step_return at c h = rw h refl

  -- and its line feed
  pub step_feed : (at : Place) (c : ℕ) → c ≡ line_feed → step at return_state c ≡ Some gap_state
  unfolding step in_gap_return
  step_feed at c h = rw h refl

  -- a slash
  pub step_slash : (at : Place) (c : ℕ) → c ≡ slash → step at gap_state c ≡ Some (slash_state at)
  unfolding step in_gap
  step_slash at c h = rw h refl

  -- the second slash begins a comment
  step_slashes : (at at0 : Place) (c : ℕ) → c ≡ slash → step at (slash_state at0) c ≡ Some comment_state
  unfolding step in_slash
  step_slashes at at0 c h = rw h refl

  -- a star begins a comment
  step_open : (at at0 : Place) (c : ℕ) → c ≡ star → step at (slash_state at0) c ≡ Some (block_state false)
  unfolding step in_slash
  step_open at at0 c h = rw h refl

  -- a character of a comment
  step_note : (at : Place) (c : ℕ) → is_control c ≡ false → step at comment_state c ≡ Some comment_state
  unfolding step in_comment
  step_note at c h =
      let a : (c == line_feed) ≡ false = grind (arith, nat_tests) in
      let b : (c == carriage_return) ≡ false = grind (arith, nat_tests) in
      rw (a, b, h) refl

  -- a line feed ends it
  step_note_feed : (at : Place) (c : ℕ) → c ≡ line_feed → step at comment_state c ≡ Some gap_state
  unfolding step in_comment
  step_note_feed at c h = rw h refl

  -- a carriage return ends it
  step_note_return : (at : Place) (c : ℕ) → c ≡ carriage_return → step at comment_state c ≡ Some return_state
  unfolding step in_comment
  step_note_return at c h = rw h refl

  -- the rest of a line
  line_goes : {at at' : Place} {s w r : List ℕ} → Line at s w at' r → Goes at comment_state s at' comment_state r
  line_goes (line_end e) t d = d
  line_goes (line_more {at} {at'} {c} {s} {w} {r} h l) t d = goes_step at comment_state comment_state c s (step_note at c h) t (line_goes l t d)

  -- the line ends there
  line_ends : {at at' : Place} {s w r : List ℕ} → Line at s w at' r → at_line_end r ≡ true
  line_ends (line_end e) = e
  line_ends (line_more h l) = line_ends l

  -- the text may end in a comment where it may end in its gap
  whole_note : whole gap_state ≡ whole comment_state
  whole_note = elim next as (λ p. whole (record { stack = stack; now = now.gap p; found = found }) ≡ whole (record { stack = stack; now = now.comment p; found = found })) [ awaited.root ↦ refl | awaited.item b ↦ refl | awaited.colon ↦ refl | awaited.value ↦ refl | awaited.end ↦ refl ]

  -- a comment has ended
  note_goes : (at : Place) (s : List ℕ) → at_line_end s ≡ true → Goes at comment_state s at gap_state s
  note_goes at [] e t d = let alike : gap_state ≡ d.0 = cc in (comment_state, refl, sym whole_note ∙ ap whole alike ∙ d.2)
  note_goes at (c ∷ s) e t d = same_steps at comment_state gap_state c s (go (c == line_feed) (c == carriage_return) refl refl) t d
    where
      go : (x y : Bool) → (c == line_feed) ≡ x → (c == carriage_return) ≡ y → step at comment_state c ≡ step at gap_state c
      go true y f g = let h = same_character c line_feed f in step_note_feed at c h ∙ sym (step_blank at c (rw h refl))
      go false true f g = let h = same_character c carriage_return g in step_note_return at c h ∙ sym (step_return at c h)
      go false false f g = never (let n : at_line_end (c ∷ s) ≡ false = rw (f, g) refl in sym n ∙ e)

  -- */ ends a comment
  step_block_end : (at : Place) (c : ℕ) → c ≡ slash → step at (block_state true) c ≡ Some gap_state
  unfolding step in_block
  step_block_end at c h = rw h refl

  -- any other character goes on
  step_block : (at : Place) (c : ℕ) (after_star : Bool) → (after_star && (c == slash && true)) ≡ false → (is_control c ≡ false) ⊎ (c ≡ line_feed) →
      step at (block_state after_star) c ≡ Some (block_state (c == star))
  unfolding step in_block
  step_block at c after_star e (inr h) = rw h refl
  step_block at c after_star e (inl h) =
      let f : (c == slash && after_star) ≡ false = go after_star (c == slash) e in
      let b : (c == carriage_return) ≡ false = grind (arith, nat_tests) in
      rw (f, b, h) refl
    where
      go : (x y : Bool) → (x && (y && true)) ≡ false → (y && x) ≡ false
      go true true e = e
      go true false e = refl
      go false true e = refl
      go false false e = refl

  -- a carriage return in it
  step_block_return : (at : Place) (c : ℕ) (after_star : Bool) → c ≡ carriage_return → step at (block_state after_star) c ≡ Some block_return_state
  unfolding step in_block
  step_block_return at c after_star h = rw h refl

  -- and its line feed
  step_block_feed : (at : Place) (c : ℕ) → c ≡ line_feed → step at block_return_state c ≡ Some (block_state false)
  unfolding step in_block_return
  step_block_feed at c h = rw h refl

  -- the rest of a comment up to */
  block_goes : {at at' : Place} {s r : List ℕ} (after_star : Bool) → (after_star && starts (slash ∷ []) s) ≡ false → Block at s at' r →
      Goes at (block_state after_star) s at' gap_state r
  block_goes after_star e (block_end {at} {c} {d} {s} f g) t doc =
      goes_step at (block_state after_star) (block_state (c == star)) c (d ∷ s) (step_block at c after_star (rw f (go after_star)) (inl (rw f refl))) t
      (goes_step (next_place at c) (block_state (c == star)) gap_state d s (subst (λ (b : Bool). step (next_place at c) (block_state b) d ≡ Some gap_state) (sym (let x : (c == star) ≡ true = rw f refl in x)) (step_block_end (next_place at c) d g)) t doc)
    where
      go : (b : Bool) → (b && false) ≡ false
      go true = refl
      go false = refl
  block_goes after_star e (block_more {at} {at'} {c} {s} {r} f m b) t doc =
      goes_step at (block_state after_star) (block_state (c == star)) c s (step_block at c after_star e m) t (block_goes (c == star) f b t doc)
  block_goes after_star e (block_crlf {at} {at'} {c} {d} {s} {r} f g b) t doc =
      goes_step at (block_state after_star) block_return_state c (d ∷ s) (step_block_return at c after_star f) t (goes_step (next_place at c) block_return_state (block_state false) d s (step_block_feed (next_place at c) d g) t (block_goes false refl b t doc))

  -- a gap
  pub gap_goes : {at at' : Place} {s r : List ℕ} → Gap at s at' r → Goes at gap_state s at' gap_state r
  gap_goes no_gap t d = d
  gap_goes (blank {at} {at'} {c} {s} {r} h g) t d = goes_step at gap_state gap_state c s (step_blank at c h) t (gap_goes g t d)
  gap_goes (crlf {at} {at'} {c} {d} {s} {r} h k g) t doc =
      goes_step at gap_state return_state c (d ∷ s) (step_return at c h) t (goes_step (next_place at c) return_state gap_state d s (step_feed (next_place at c) d k) t (gap_goes g t doc))
  gap_goes (hash_comment {at} {at1} {at'} {c} {s} {w} {s1} {r} h l g) t d =
      goes_step at gap_state comment_state c s (step_hash at c h) t (line_goes l t (note_goes at1 s1 (line_ends l) t (gap_goes g t d)))
  gap_goes (slash_comment {at} {at1} {at'} {c} {d} {s} {w} {s1} {r} h k l g) t doc =
      goes_step at gap_state (slash_state at) c (d ∷ s) (step_slash at c h) t
      (goes_step (next_place at c) (slash_state at) comment_state d s (step_slashes (next_place at c) at d k) t (line_goes l t (note_goes at1 s1 (line_ends l) t (gap_goes g t doc))))
  gap_goes (block_comment {at} {at1} {at'} {c} {d} {s} {s1} {r} h k b g) t doc =
      goes_step at gap_state (slash_state at) c (d ∷ s) (step_slash at c h) t
      (goes_step (next_place at c) (slash_state at) (block_state false) d s (step_open (next_place at c) at d k) t (block_goes false refl b t (gap_goes g t doc)))

-- ---- keys

module _ (object_at : Place) (ms : List Member) (o : List Frame) (key_at : Place) where
  -- in a key
  abbrev pub key_state : List ℕ → State
  key_state k = reading (frame.in_object object_at ms ∷ o) (now.key k key_at)

  -- behind a key
  abbrev pub colon_state : List ℕ → State
  colon_state k = reading (frame.in_member object_at ms k key_at ∷ o) (now.gap awaited.colon)

  -- a character of a key
  step_key : (at : Place) (k : List ℕ) (c : ℕ) → is_key c ≡ true → step at (key_state k) c ≡ Some (key_state (k ++ encode_utf8 c))
  unfolding step in_key
  step_key at k c h = rw h refl

  -- any other character is the first of a gap
  step_key_end : (at : Place) (k : List ℕ) (c : ℕ) → is_key c ≡ false → step at (key_state k) c ≡ step at (colon_state k) c
  unfolding step in_key keyed
  step_key_end at k c h = rw h refl

  -- a key has ended
  ends : (at : Place) (s k : List ℕ) → ends_key s ≡ true → Goes at (key_state k) s at (colon_state k) s
  ends at [] k e t d = unfinished at (colon_state k) t refl d
  ends at (c ∷ s) k e t d = same_steps at (key_state k) (colon_state k) c s (step_key_end at k c (go (is_key c) e)) t d
    where
      go : (b : Bool) → not b ≡ true → b ≡ false
      go true e = sym e
      go false e = refl

  -- the rest of a key
  pub run_goes : {at at' : Place} {s r u : List ℕ} (k : List ℕ) → KeyRun at s u at' r → Goes at (key_state k) s at' (colon_state (k ++ u)) r
  run_goes {at} {at'} {s} k (run_end e) t d = ends at s k e t (rw append-nil at d)
  run_goes front (run_more {at} {at'} {c} {s} {u} {r} h l) t d =
      goes_step at (key_state front) (key_state (front ++ encode_utf8 c)) c s (step_key at front c h) t (run_goes (front ++ encode_utf8 c) l t (rw append_assoc d))
