-- One character back, in comments and behind carriage returns.
use Rattle.std.proofs.Common.{◌≡◌, ℕ, ◌⊎◌, inl, inr, List, [], ◌∷◌, Option, Some, None, refl, true, false, Bool, ap, subst, sym}
use Rattle.std.specs.Prelude.{cond, ◌&&◌, ◌==◌, not}
use Rattle.std.proofs.lemmas.Bool.{and_parts}
use Rattle.cg_docspec.specs.Characters.{carriage_return, hash, is_blank, is_control, line_feed, slash, star}
use Rattle.cg_docspec.specs.Place.{Place, next_place}
use Rattle.cg_docspec.specs.Tree.{Tree}
use Rattle.cg_docspec.specs.Gap.{Block, Line, at_line_end, blank, block_comment, block_crlf, block_end, block_more, crlf, hash_comment, line_end, line_more, no_gap, slash_comment, starts}
use Rattle.cg_docspec.specs.Machine.Awaited.{Awaited}
use Rattle.cg_docspec.specs.Machine.Comment.{in_block, in_block_return, in_comment}
use Rattle.cg_docspec.specs.Machine.Frame.{Frame}
use Rattle.cg_docspec.specs.Machine.Now.{Now}
use Rattle.cg_docspec.specs.Machine.Now as now
use Rattle.cg_docspec.specs.Machine.State.{State}
use Rattle.cg_docspec.specs.Machine.Token.{in_gap_return}
use Rattle.cg_docspec.proofs.Basics.{never, same_character}
use Rattle.cg_docspec.proofs.Left.{AwaitedThen, BlockThen, FeedThen, GapThen, Left, LeftNow}

-- what is left behind a choice
pub by_cases : {T : Tree} {at : Place} {s : List ℕ} {G : Type 0} (b : Bool) (x y : Option State) → (b ≡ true → Left T x at s → G) →
    (b ≡ false → Left T y at s → G) → Left T (cond b x y) at s → G
by_cases true x y f g h = f refl h
by_cases false x y f g h = g refl h

-- nothing is left behind no state
pub stuck : {T : Tree} {at : Place} {s : List ℕ} {G : Type 0} → Left T None at s → G
stuck h = absurd h.left

-- ---- a gap, with a blank or a comment more in front

module _ (P : Place → List ℕ → Type 0) where
  -- a blank
  pub gap_blank : (at : Place) (c : ℕ) (s : List ℕ) → is_blank c ≡ true → GapThen P (next_place at c) s → GapThen P at (c ∷ s)
  gap_blank at c s e g = (g.0, g.1, blank e g.2, g.3)

  -- a carriage return and a line feed
  pub gap_return : (at : Place) (c d : ℕ) (s : List ℕ) → c ≡ carriage_return → d ≡ line_feed → GapThen P (next_place (next_place at c) d) s →
      GapThen P at (c ∷ d ∷ s)
  gap_return at c d s e f g = (g.0, g.1, crlf e f g.2, g.3)

  -- a comment with #
  pub gap_hash : {w s1 : List ℕ} {at1 : Place} (at : Place) (c : ℕ) (s : List ℕ) → c ≡ hash → Line (next_place at c) s w at1 s1 → GapThen P at1 s1 →
      GapThen P at (c ∷ s)
  gap_hash at c s e l g = (g.0, g.1, hash_comment e l g.2, g.3)

  -- a comment with two slashes
  pub gap_slashes : {w s1 : List ℕ} {at1 : Place} (at : Place) (c d : ℕ) (s : List ℕ) → c ≡ slash → d ≡ slash →
      Line (next_place (next_place at c) d) s w at1 s1 → GapThen P at1 s1 → GapThen P at (c ∷ d ∷ s)
  gap_slashes at c d s e f l g = (g.0, g.1, slash_comment e f l g.2, g.3)

  -- a comment up to */
  pub gap_block : {s1 : List ℕ} {at1 : Place} (at : Place) (c d : ℕ) (s : List ℕ) → c ≡ slash → d ≡ star →
      Block (next_place (next_place at c) d) s at1 s1 → GapThen P at1 s1 → GapThen P at (c ∷ d ∷ s)
  gap_block at c d s e f l g = (g.0, g.1, block_comment e f l g.2, g.3)

  -- nothing
  pub gap_none : (at : Place) (s : List ℕ) → P at s → GapThen P at s
  gap_none at s p = (at, s, no_gap, p)

-- a line feed is a blank, and a line ends at it
feed_blank : (c : ℕ) → c ≡ line_feed → is_blank c ≡ true
feed_blank c e = rw e refl

-- a line ends at a line feed
pub feed_ends : (c : ℕ) (s : List ℕ) → c ≡ line_feed → at_line_end (c ∷ s) ≡ true
feed_ends c s e = rw e refl

-- a line ends at a carriage return with a line feed
pub crlf_ends : (c : ℕ) (s s1 : List ℕ) → c ≡ carriage_return → s ≡ line_feed ∷ s1 → at_line_end (c ∷ s) ≡ true
crlf_ends c s s1 e f = rw (e, f) refl

-- a carriage return and a line feed, where c is the first
pub gap_crlf : (P : Place → List ℕ → Type 0) (at : Place) (c : ℕ) (s : List ℕ) → c ≡ carriage_return → FeedThen (GapThen P) (next_place at c) s →
    GapThen P at (c ∷ s)
gap_crlf P at c s e h = subst (λ (x : List ℕ). GapThen P at (c ∷ x)) (sym h.1) (gap_return P at c line_feed h.0 e refl h.2)

-- one of two tests fails
nand : (x y : Bool) → (x && not y) ≡ false → (x ≡ false) ⊎ (y ≡ true)
nand true true e = inr refl
nand true false e = inl e
nand false y e = inl refl

-- a character that may stand in a comment up to */
may_stand : (c : ℕ) → (is_control c && not (c == line_feed)) ≡ false → (is_control c ≡ false) ⊎ (c ≡ line_feed)
may_stand c f = elim (nand (is_control c) (c == line_feed) f) as (λ _. (is_control c ≡ false) ⊎ (c ≡ line_feed)) [ inl e ↦ inl e | inr e ↦ inr (same_character c line_feed e) ]

module _ (T : Tree) (stack : List Frame) (found : Option Tree) (p : Awaited) where
  -- the state with this being read
  abbrev now_at : Now → Option State
  now_at n = Some (record { stack = stack; now = n; found = found })

  -- the gap goes on
  abbrev gone_on : Place → List ℕ → Type 0
  gone_on at s = GapThen (AwaitedThen T stack found p) at s

  -- behind a carriage return
  pub back_return : (here : Place) (c : ℕ) (s : List ℕ) → Left T (in_gap_return stack found p c) (next_place here c) s →
      LeftNow T stack found (now.gap_return p) here (c ∷ s)
  unfolding in_gap_return
  back_return here c s =
      by_cases (c == line_feed) _ _
      (λ e h. let f : c ≡ line_feed = same_character c line_feed e in (s, ap (λ (x : ℕ). x ∷ s) f, subst (λ (x : ℕ). gone_on (next_place here x) s) f h.left))
      (λ e. stuck)

  -- in a comment up to the line's end
  pub back_comment : (here : Place) (c : ℕ) (s : List ℕ) → Left T (in_comment stack found p c) (next_place here c) s →
      LeftNow T stack found (now.comment p) here (c ∷ s)
  unfolding in_comment
  back_comment here c s =
      by_cases (c == line_feed) _ _
      (λ e h. let f = same_character c line_feed e in ([], here, c ∷ s, line_end (feed_ends c s f), gap_blank (AwaitedThen T stack found p) here c s (feed_blank c f) h.left))
      (λ e. by_cases (c == carriage_return) _ _
      (λ e h. let f = same_character c carriage_return e in ([], here, c ∷ s, line_end (crlf_ends c s h.left.0 f h.left.1), gap_crlf (AwaitedThen T stack found p) here c s f h.left))
      (λ e. by_cases (is_control c) _ _ (λ e. stuck)
      (λ e h. (c ∷ h.left.0, h.left.1, h.left.2, line_more e h.left.3, h.left.4))))

  -- a comment up to */ with a character more, or with a line end more, in front
  more_block : (here : Place) (c : ℕ) (s : List ℕ) → starts (star ∷ slash ∷ []) (c ∷ s) ≡ false → (is_control c ≡ false) ⊎ (c ≡ line_feed) →
      BlockThen gone_on (next_place here c) s → BlockThen gone_on here (c ∷ s)
  more_block here c s e f h = (h.0, h.1, block_more e f h.2, h.3)

  -- the same comment with a line end more in front
  crlf_block : (here : Place) (c : ℕ) (s : List ℕ) → c ≡ carriage_return → FeedThen (BlockThen gone_on) (next_place here c) s →
      BlockThen gone_on here (c ∷ s)
  crlf_block here c s e h = subst (λ (x : List ℕ). BlockThen gone_on here (c ∷ x)) (sym h.1) (h.2.0, h.2.1, block_crlf e refl h.2.2, h.2.3)

  -- a character of a block that is not the first of its end
  plain_block : (here : Place) (c : ℕ) (s : List ℕ) (after_star : Bool) → after_star ≡ (c == star) → (is_control c && not (c == line_feed)) ≡ false →
      LeftNow T stack found (now.block p after_star) (next_place here c) s → BlockThen gone_on here (c ∷ s)
  plain_block here c s true e f h = subst (λ (x : ℕ). BlockThen gone_on here (x ∷ s)) (sym (same_character c star (sym e))) (h here (ap (next_place here) (sym (same_character c star (sym e)))))
  plain_block here c s false e f h = more_block here c s (rw (← e) refl) (may_stand c f) h

  -- in a comment up to */
  pub back_block : (here : Place) (c : ℕ) (s : List ℕ) (after_star : Bool) → Left T (in_block stack found p after_star c) (next_place here c) s →
      LeftNow T stack found (now.block p after_star) here (c ∷ s)
  unfolding in_block
  back_block here c s true =
      by_cases (c == slash && true) _ _
      (λ e h. λ at0 a. (next_place (next_place at0 star) c, s, block_end refl (same_character c slash (and_parts _ _ e).0), subst (λ (x : Place). gone_on (next_place x c) s) (sym a) h.left))
      (λ e. by_cases (c == carriage_return) _ _
      (λ e2 h. λ at0 a. more_block at0 star (c ∷ s) e (inl refl) (rw a (crlf_block here c s (same_character c carriage_return e2) h.left)))
      (λ e2. by_cases (is_control c && not (c == line_feed)) _ _ (λ e. stuck)
      (λ e3 h. λ at0 a. more_block at0 star (c ∷ s) e (inl refl) (rw a (plain_block here c s (c == star) refl e3 h.left)))))
  back_block here c s false =
      by_cases (c == slash && false) _ _
      (λ e h. never (and_parts (c == slash) false e).1)
      (λ e. by_cases (c == carriage_return) _ _
      (λ e2 h. crlf_block here c s (same_character c carriage_return e2) h.left)
      (λ e2. by_cases (is_control c && not (c == line_feed)) _ _ (λ e. stuck)
      (λ e3 h. plain_block here c s (c == star) refl e3 h.left)))

  -- behind a carriage return in it
  pub back_block_return : (here : Place) (c : ℕ) (s : List ℕ) → Left T (in_block_return stack found p c) (next_place here c) s →
      LeftNow T stack found (now.block_return p) here (c ∷ s)
  unfolding in_block_return
  back_block_return here c s =
      by_cases (c == line_feed) _ _
      (λ e h. let f : c ≡ line_feed = same_character c line_feed e in (s, ap (λ (x : ℕ). x ∷ s) f, subst (λ (x : ℕ). BlockThen gone_on (next_place here x) s) f h.left))
      (λ e. stuck)
