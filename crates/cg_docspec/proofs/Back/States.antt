-- What the machine reads, the grammar derives.
use Rattle.std.proofs.Common.{◌≡◌, ℕ, List, [], ◌∷◌, ◌++◌, Option, Some, None, refl, ap, subst, ◌∙◌}
use Rattle.std.specs.Prelude.{option_and_then}
use Rattle.cg_docspec.specs.Place.{Place, next_place, origin, place_after}
use Rattle.cg_docspec.specs.Tree.{Tree}
use Rattle.cg_docspec.specs.Gap.{Gap, line_end}
use Rattle.cg_docspec.specs.Document.{Document, document}
use Rattle.cg_docspec.specs.Machine.Awaited as awaited
use Rattle.cg_docspec.specs.Machine.Frame.{Frame}
use Rattle.cg_docspec.specs.Machine.Now.{Now}
use Rattle.cg_docspec.specs.Machine.Now as now
use Rattle.cg_docspec.specs.Machine.Run.{Finds, found_in, run, step, whole}
use Rattle.cg_docspec.specs.Machine.State.{State, start}
use Rattle.cg_docspec.proofs.Back.Comments.{back_block, back_block_return, back_comment, back_return, gap_none}
use Rattle.cg_docspec.proofs.Back.Gaps.{back_gap, back_key}
use Rattle.cg_docspec.proofs.Back.Lines.{back_lines}
use Rattle.cg_docspec.proofs.Back.Plain.{back_plain, back_plain_return}
use Rattle.cg_docspec.proofs.Back.Quotes.{back_quoted, back_two_quotes}
use Rattle.cg_docspec.proofs.Back.Slashes.{back_plain_slash, back_slash}
use Rattle.cg_docspec.proofs.Left.{AwaitedThen, Left, LeftNow}

module _ (T : Tree) where
  -- one character back in each state
  back_now : (stack : List Frame) (found : Option Tree) (n : Now) (here : Place) (c : ℕ) (s : List ℕ) →
      Left T (step here (record { stack = stack; now = n; found = found }) c) (next_place here c) s → LeftNow T stack found n here (c ∷ s)
  unfolding step
  back_now stack found (now.gap p) here c s h = back_gap T stack found here p c s h
  back_now stack found (now.gap_return p) here c s h = back_return T stack found p here c s h
  back_now stack found (now.comment p) here c s h = back_comment T stack found p here c s h
  back_now stack found (now.key k key_at) here c s h = back_key T stack k key_at here c s h
  back_now stack found (now.plain u blanks hope at0) here c s h = back_plain T stack u blanks hope at0 here c s h
  back_now stack found (now.plain_return u at0) here c s h = back_plain_return T stack u at0 here c s h
  back_now stack found (now.plain_slash u blanks at0) here c s h = back_plain_slash T stack u blanks at0 here c s h
  back_now stack found (now.slash p at0) here c s h = back_slash T stack found p at0 here c s h
  back_now stack found (now.block p after_star) here c s h = back_block T stack found p here c s after_star h
  back_now stack found (now.block_return p) here c s h = back_block_return T stack found p here c s h
  back_now stack found (now.quoted key q u at0 e) here c s h = back_quoted T stack q at0 key u e here c s h
  back_now stack found (now.two_quotes at0) here c s h = back_two_quotes T stack at0 here c s h
  back_now stack found (now.lines u ended k p at0) here c s h = back_lines T stack k at0 u ended p here c s h

  -- nothing is left at the text's end
  at_end : (stack : List Frame) (found : Option Tree) (n : Now) (at : Place) → found_in found n ≡ Some T → LeftNow T stack found n at []
  at_end stack found (now.gap awaited.end) at e = gap_none (AwaitedThen T stack found awaited.end) at [] (refl, e)
  at_end stack found (now.comment awaited.end) at e = ([], at, [], line_end refl, gap_none (AwaitedThen T stack found awaited.end) at [] (refl, e))
  at_end stack found n at e = cc

  -- what is left before the characters of a run to the end
  pub complete : (at : Place) (σ : State) (s : List ℕ) (end : State) → run at σ s ≡ Some end → whole end ≡ Some T →
      LeftNow T σ.stack σ.found σ.now at s
  complete at σ [] end e w = let f : σ ≡ end = cc in at_end σ.stack σ.found σ.now at (ap whole f ∙ w)
  complete at σ (c ∷ s) end e w = back_now σ.stack σ.found σ.now at c s (go (step at σ c) e (λ t e. complete (next_place at c) t s end e w))
    where
      go : (o : Option State) → option_and_then (λ t. run (next_place at c) t s) o ≡ Some end →
          ((t : State) → run (next_place at c) t s ≡ Some end → LeftNow T t.stack t.found t.now (next_place at c) s) → Left T o (next_place at c) s
      go None e f = let g : None ≡ Some end = e in cc
      go (Some t) e f = record { left = f t e }

-- what is left behind some characters, with them in front, is left before them
pub back_all : (T : Tree) (at : Place) (σ σ2 : State) (s more : List ℕ) → run at σ s ≡ Some σ2 →
    LeftNow T σ2.stack σ2.found σ2.now (place_after at s) more → LeftNow T σ.stack σ.found σ.now at (s ++ more)
back_all T at σ σ2 [] more e h = let f : σ2 ≡ σ = cc in subst (λ (x : State). LeftNow T x.stack x.found x.now at more) f h
back_all T at σ σ2 (c ∷ s) more e h = back_now T σ.stack σ.found σ.now at c (s ++ more) (go (step at σ c) e (λ t e. back_all T (next_place at c) t σ2 s more e h))
  where
    go : (o : Option State) → option_and_then (λ t. run (next_place at c) t s) o ≡ Some σ2 →
        ((t : State) → run (next_place at c) t s ≡ Some σ2 → LeftNow T t.stack t.found t.now (next_place at c) (s ++ more)) →
        Left T o (next_place at c) (s ++ more)
    go None e f = let g : None ≡ Some σ2 = e in cc
    go (Some t) e f = record { left = f t e }

-- what is left before a text is a document
pub from_left : (s : List ℕ) (T : Tree) → LeftNow T [] None (now.gap awaited.root) origin s → Document s T
from_left s T x =
    let o = x.3 in
    let a = o.4 in
    let e : o.0 ≡ T = let f : Some o.0 ≡ Some T = a.3.1 in cc in
    subst (λ (t : Tree). Document s t) e (document x.2 o.3 (subst (λ (r : List ℕ). Gap o.1 o.2 a.0 r) a.3.0 a.2))

-- what the machine reads is a document
pub document_of : (s : List ℕ) (T : Tree) → Finds origin start s T → Document s T
document_of s T d = from_left s T (complete T origin start s d.0 d.1 d.2)
