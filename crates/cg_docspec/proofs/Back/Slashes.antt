-- One character back, behind a slash.
use Rattle.std.proofs.Common.{◌≡◌, ℕ, inl, inr, List, [], ◌∷◌, ◌++◌, Option, Some, None, refl, arith, true, false, Bool, subst, sym}
use Rattle.std.specs.Prelude.{◌&&◌, ◌||◌, ◌==◌, encode_utf8}
use Rattle.std.proofs.lemmas.Bool.{or_parts}
use Rattle.std.proofs.lemmas.Str.{encode_ascii}
use Rattle.cg_docspec.specs.Characters.{slash, star}
use Rattle.cg_docspec.specs.Place.{Place, next_place}
use Rattle.cg_docspec.specs.Tree.{Tree}
use Rattle.cg_docspec.specs.Literal.{may_follow}
use Rattle.cg_docspec.specs.Machine.Awaited.{Awaited}
use Rattle.cg_docspec.specs.Machine.Comment.{begun_step, in_slash, then_begun}
use Rattle.cg_docspec.specs.Machine.Frame.{Frame}
use Rattle.cg_docspec.specs.Machine.Now.{Now}
use Rattle.cg_docspec.specs.Machine.Now as now
use Rattle.cg_docspec.specs.Machine.Numeral.{is_literal}
use Rattle.cg_docspec.specs.Machine.Plain.{in_plain_slash}
use Rattle.cg_docspec.specs.Machine.State.{State}
use Rattle.cg_docspec.specs.Machine.Token.{begin_token}
use Rattle.cg_docspec.proofs.Back.Comments.{by_cases, stuck}
use Rattle.cg_docspec.proofs.Back.Gaps.{after_comment, back_key, begin_comment, slash_token}
use Rattle.cg_docspec.proofs.Back.Plain.{back_plain, extend, taken_here}
use Rattle.cg_docspec.proofs.Basics.{and_false}
use Rattle.cg_docspec.proofs.Left.{Left, LeftNow, PlainThen}

-- a comment with a slash may follow a literal
pub comment_follows : (c : ℕ) (s : List ℕ) → (c == slash || c == star) ≡ true → may_follow (slash ∷ c ∷ s) ≡ true
comment_follows c s e = go (c == slash) (c == star) refl refl e
  where
    go : (x y : Bool) → (c == slash) ≡ x → (c == star) ≡ y → (x || y) ≡ true → may_follow (slash ∷ c ∷ s) ≡ true
    go true y f g h = rw f refl
    go false true f g h = rw (f, g) refl
    go false false f g h = cc

-- any other slash may not
pub none_follows : (c : ℕ) (s : List ℕ) (b : Bool) → (c == slash || c == star) ≡ false → (b && may_follow (slash ∷ c ∷ s)) ≡ false
none_follows c s b e = let f = or_parts (c == slash) (c == star) e in rw (f.0, f.1) (and_false b)

module _ (T : Tree) (stack : List Frame) where
  -- behind a literal and a slash
  pub back_plain_slash : (u blanks : List ℕ) (at0 here : Place) (c : ℕ) (s : List ℕ) →
      Left T (in_plain_slash here stack u blanks at0 c) (next_place here c) s → LeftNow T stack None (now.plain_slash u blanks at0) here (c ∷ s)
  unfolding in_plain_slash
  back_plain_slash u blanks at0 here c s =
      by_cases (c == slash || c == star) _ _
      (λ e h. λ lit at1 a uc bc r. inl (taken_here T stack u blanks true at0 uc bc at1 (slash ∷ c ∷ s) r lit (comment_follows c s e) (after_comment T stack _ at1 here c s e a h)))
      (λ e h. λ lit at1 a.
      let x = back_plain T stack (u ++ blanks ++ slash ∷ []) [] false at0 here c s h in
      let y : PlainThen T stack (u ++ blanks ++ encode_utf8 slash) [] false at0 (next_place at1 slash) (c ∷ s) =
      subst (λ (z : List ℕ). PlainThen T stack (u ++ blanks ++ z) [] false at0 (next_place at1 slash) (c ∷ s)) (sym (encode_ascii slash (omega arith)))
      (subst (λ (z : Place). PlainThen T stack (u ++ blanks ++ slash ∷ []) [] false at0 z (c ∷ s)) (sym a) x) in
      extend T stack u blanks true at0 false slash at1 (c ∷ s) refl refl (none_follows c s (is_literal u) e) (λ f. inr refl) y)

  -- a key or an unquoted value that a slash began
  begun_now : (σ : State) (n : Now) (here : Place) (c : ℕ) (s : List ℕ) → Left T (begun_step here σ n c) (next_place here c) s →
      LeftNow T σ.stack σ.found n here (c ∷ s)
  begun_now σ (now.key k key_at) here c s h = back_key T σ.stack k key_at here c s h
  begun_now σ (now.plain u blanks hope at0) here c s h = back_plain T σ.stack u blanks hope at0 here c s h
  begun_now σ n here c s h = stuck h

  -- the same, if there is a state
  begun : (o : Option State) (here : Place) (c : ℕ) (s : List ℕ) → Left T (then_begun here c o) (next_place here c) s → Left T o here (c ∷ s)
  begun None here c s h = stuck h
  begun (Some σ) here c s h = record { left = begun_now σ σ.now here c s h }

  -- behind a slash in a gap
  pub back_slash : (found : Option Tree) (p : Awaited) (at0 here : Place) (c : ℕ) (s : List ℕ) →
      Left T (in_slash here stack found p at0 c) (next_place here c) s → LeftNow T stack found (now.slash p at0) here (c ∷ s)
  unfolding in_slash
  back_slash found p at0 here c s =
      by_cases (c == slash || c == star) _ _
      (λ e h. λ a. begin_comment T stack found p at0 here c s e a h.left)
      (λ e h. λ a. slash_token T stack found p at0 here c s e a (begun (begin_token at0 stack p slash) here c s h))
