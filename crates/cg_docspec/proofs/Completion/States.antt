-- A completing text for each state.
use Rattle.std.proofs.Common.{◌≡◌, ℕ, inr, List, [], ◌∷◌, ◌++◌, Option, Some, None, refl, true, false, Bool, subst, sym}
use Rattle.std.specs.Prelude.{◌==◌, encode_utf8}
use Rattle.cg_docspec.specs.Characters.{backslash, line_feed, single_quote, slash, star}
use Rattle.cg_docspec.specs.Place.{Place, next_place, origin, place_after}
use Rattle.cg_docspec.specs.Tree.{Tree, string_of}
use Rattle.cg_docspec.specs.Gap.{block_end, line_end}
use Rattle.cg_docspec.specs.Quoted.{closes}
use Rattle.cg_docspec.specs.Lines.{is_nil}
use Rattle.cg_docspec.specs.Document.{Document, leaf_value, quoted, run_end}
use Rattle.cg_docspec.specs.Machine.Awaited.{Awaited}
use Rattle.cg_docspec.specs.Machine.Escape.{Escape}
use Rattle.cg_docspec.specs.Machine.Escape as escape
use Rattle.cg_docspec.specs.Machine.Frame.{Frame}
use Rattle.cg_docspec.specs.Machine.Now.{Now}
use Rattle.cg_docspec.specs.Machine.Now as now
use Rattle.cg_docspec.specs.Machine.Numeral.{is_literal, plain_tree}
use Rattle.cg_docspec.specs.Machine.Run.{run}
use Rattle.cg_docspec.specs.Machine.State.{State, start}
use Rattle.cg_docspec.proofs.Back.Comments.{gap_blank, gap_none, gap_slashes}
use Rattle.cg_docspec.proofs.Back.Plain.{after_blank, extend, line_here}
use Rattle.cg_docspec.proofs.Back.Quotes.{lone}
use Rattle.cg_docspec.proofs.Back.Slashes.{none_follows}
use Rattle.cg_docspec.proofs.Back.States.{back_all, from_left}
use Rattle.cg_docspec.proofs.Basics.{and_false}
use Rattle.cg_docspec.proofs.Completion.Closing.{Completing, close_awaited, close_key, close_spot, close_value, closing, key_closing, key_ends}
use Rattle.cg_docspec.proofs.Completion.ClosingQuotes.{close_escape, close_none, letter_n, tail}
use Rattle.cg_docspec.proofs.Completion.Fine.{FineAwaited, FineEscape, FineNow, FineQuoted, fine_run}
use Rattle.cg_docspec.proofs.Completion.Growth.{unfound}
use Rattle.cg_docspec.proofs.Completion.Room.{Kept, Low, plain_low}
use Rattle.cg_docspec.proofs.Left.{AfterValue, AwaitedThen, GapThen, LeftNow, PlainThen, QuotedLeft}

module _ (stack : List Frame) (found : Option Tree) where
  -- the gap goes on
  abbrev gone_on : Tree → Awaited → Place → List ℕ → Type 0
  gone_on T p at m = GapThen (AwaitedThen T stack found p) at m

  -- in a gap
  close_gap : (p : Awaited) → FineAwaited stack found p → (at : Place) → Completing stack found (λ T m. gone_on T p at m)
  close_gap p f at = let x = close_awaited stack found p f at in (x.0, x.1, gap_none (AwaitedThen x.1 stack found p) at x.0 x.2, x.3)

  -- in a quoted string
  close_quoted : (key : Bool) (q : ℕ) (u : List ℕ) (at0 : Place) (e : Escape) (at : Place) → FineQuoted key stack → FineEscape e →
      Completing stack None (λ T m. QuotedLeft T stack key q u at0 e at m)
  close_quoted key q u at0 escape.none at v f =
      let x = close_none stack key v q at0 u at in
      let m : List ℕ = backslash ∷ letter_n ∷ q ∷ tail stack key v q at0 key in
      (m, x.0, lone x.0 stack q at0 key u at m (rw (and_false (q == single_quote)) (and_false (is_nil u))) x.1, x.2)
  close_quoted key q u at0 escape.backslash at v f = close_escape stack key v q at0 u escape.backslash at f
  close_quoted key q u at0 (escape.unit high n w) at v f = close_escape stack key v q at0 u (escape.unit high n w) at f
  close_quoted key q u at0 (escape.high h) at v f = close_escape stack key v q at0 u (escape.high h) at f
  close_quoted key q u at0 (escape.high_backslash h) at v f = close_escape stack key v q at0 u (escape.high_backslash h) at f

  -- in each state
  close_now : (n : Now) (at : Place) → FineNow stack found n → Completing stack found (λ T m. LeftNow T stack found n at m)
  close_now (now.gap p) at f = close_gap p f at
  close_now (now.gap_return p) at f = let x = close_gap p f (next_place at line_feed) in (line_feed ∷ x.0, x.1, (x.0, refl, x.2), x.3)
  close_now (now.comment p) at f =
      let x = close_gap p f (next_place at line_feed) in (line_feed ∷ x.0, x.1, ([], at, line_feed ∷ x.0, line_end refl, gap_blank (AwaitedThen x.1 stack found p) at line_feed x.0 refl x.2), x.3)
  close_now (now.key k key_at) at f =
      let x = close_key stack f (k ++ []) key_at at in (key_closing stack, x.0, ([], at, key_closing stack, run_end (key_ends stack f), x.1), λ h. x.2 (unfound stack found h))
  close_now (now.plain u blanks hope at0) at f =
      let t : Tree = plain_tree u at0 in
      let x = close_value stack f t (next_place at line_feed) in
      (line_feed ∷ closing stack, x.0, line_here x.0 stack u blanks hope at0 line_feed at (closing stack) refl refl refl (after_blank x.0 stack t at line_feed (closing stack) refl x.1), λ h. x.2 h.room h.held (plain_low h.room u at0))
  close_now (now.plain_return u at0) at f =
      let x = close_value stack f (plain_tree u at0) (next_place at line_feed) in (line_feed ∷ closing stack, x.0, (closing stack, refl, x.1), λ h. x.2 h.room h.held (plain_low h.room u at0))
  close_now (now.plain_slash u blanks at0) at f =
      let u2 : List ℕ = u ++ blanks ++ encode_utf8 slash in
      let t : Tree = plain_tree u2 at0 in
      let x = close_value stack f t (next_place at line_feed) in (
        line_feed ∷ closing stack,
        x.0,
        λ lit at1 a. extend x.0 stack u blanks true at0 false slash at1 (line_feed ∷ closing stack) refl refl (none_follows line_feed (closing stack) (is_literal u) refl) (λ e. inr refl)
            (subst (λ (y : Place). PlainThen x.0 stack u2 [] false at0 y (line_feed ∷ closing stack)) (sym a) (line_here x.0 stack u2 [] false at0 line_feed at (closing stack) refl refl refl (after_blank x.0 stack t at line_feed (closing stack) refl x.1))),
        λ h. x.2 h.room h.held (plain_low h.room u2 at0),
      )
  close_now (now.slash p at0) at f =
      let x = close_gap p f (next_place (next_place at slash) line_feed) in (
        slash ∷ line_feed ∷ x.0,
        x.1,
        λ a. gap_slashes (AwaitedThen x.1 stack found p) at0 slash slash (line_feed ∷ x.0) refl refl (line_end refl)
            (gap_blank (AwaitedThen x.1 stack found p) (next_place (next_place at0 slash) slash) line_feed x.0 refl (subst (λ (y : Place). gone_on x.1 p (next_place (next_place y slash) line_feed) x.0) (sym a) x.2)),
        x.3,
      )
  close_now (now.block p false) at f =
      let x = close_gap p f (next_place (next_place at star) slash) in (star ∷ slash ∷ x.0, x.1, (next_place (next_place at star) slash, x.0, block_end refl refl, x.2), x.3)
  close_now (now.block p true) at f =
      let x = close_gap p f (next_place at slash) in
      (slash ∷ x.0, x.1, λ at1 a. (next_place (next_place at1 star) slash, x.0, block_end refl refl, subst (λ (y : Place). gone_on x.1 p (next_place y slash) x.0) (sym a) x.2), x.3)
  close_now (now.block_return p) at f =
      let there : Place = next_place (next_place (next_place at line_feed) star) slash in
      let x = close_gap p f there in (line_feed ∷ star ∷ slash ∷ x.0, x.1, (star ∷ slash ∷ x.0, refl, (there, x.0, block_end refl refl, x.2)), x.3)
  close_now (now.quoted key q u at0 e) at f = let x = close_quoted key q u at0 e at f.0 f.1 in (x.0, x.1, x.2, λ h. x.3 (unfound stack found h))
  close_now (now.two_quotes at0) at f =
      let t : Tree = string_of [] at0 in
      let x = close_value stack f t (next_place at line_feed) in (
        line_feed ∷ closing stack,
        x.0,
        λ a. (t, next_place (next_place at0 single_quote) single_quote, line_feed ∷ closing stack, leaf_value (quoted refl refl (closes refl)), subst (λ (y : Place). AfterValue x.0 stack t y (line_feed ∷ closing stack)) (sym a) (after_blank x.0 stack t at line_feed (closing stack) refl x.1)),
        λ h. x.2 h.room h.held tt,
      )
  close_now (now.lines u ended k p at0) at f = let x = close_spot stack f u ended k p at0 at in (x.0, x.1, x.2, λ h. x.3 (unfound stack found h))

-- each prefix that the machine reads is completed by some text, to a tree of 64 levels where they suffice so far
pub completed : (s : List ℕ) (σ : State) → run origin start s ≡ Some σ →
    (more : List ℕ) × (T : Tree) × Document (s ++ more) T × (Kept σ.stack σ.found → Low 64 T)
completed s σ e =
    let f = fine_run origin start σ s refl e in
    let x = close_now σ.stack σ.found σ.now (place_after origin s) f in
    (x.0, x.1, from_left (s ++ x.0) x.1 (back_all x.1 origin start σ s x.0 e x.2), x.3)
