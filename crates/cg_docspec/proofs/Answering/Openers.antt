-- Behind an opener that the machine has read, each document has it.
use Rattle.std.proofs.Common.{◌≡◌, ℕ, suc, inl, inr, List, [], ◌∷◌, ◌++◌, Option, Some, None, refl, arith, length, true, false, subst, sym, append_assoc}
use Rattle.std.specs.Prelude.{option_and_then, IsSome}
use Rattle.cg_docspec.specs.Place.{Place, next_place, origin, place_after}
use Rattle.cg_docspec.specs.Tree.{Member, Tree, list_of, object_of}
use Rattle.cg_docspec.specs.Document.{Document}
use Rattle.cg_docspec.specs.Depth.{Opener, StandsAt, in_list, in_object, the_root}
use Rattle.cg_docspec.specs.SyntaxFault.{Begins}
use Rattle.cg_docspec.specs.Machine.Awaited as awaited
use Rattle.cg_docspec.specs.Machine.Frame.{Frame}
use Rattle.cg_docspec.specs.Machine.Frame as frame
use Rattle.cg_docspec.specs.Machine.Now.{Now}
use Rattle.cg_docspec.specs.Machine.Now as now
use Rattle.cg_docspec.specs.Machine.Run.{Finds, run, step}
use Rattle.cg_docspec.specs.Machine.State.{State, start}
use Rattle.cg_docspec.proofs.Back.States.{complete}
use Rattle.cg_docspec.proofs.Completion.Growth.{IsOver}
use Rattle.cg_docspec.proofs.Completion.Room.{held_length}
use Rattle.cg_docspec.proofs.Completion.States.{completed}
use Rattle.cg_docspec.proofs.Forth.Values.{document_read}
use Rattle.cg_docspec.proofs.Left.{AfterValue, LeftNow}

-- a value that was closed stands in the document, one level below what is open
stands : (T : Tree) (stack : List Frame) (t : Tree) (at : Place) (s : List ℕ) → AfterValue T stack t at s → StandsAt T (suc (length stack)) t
stands T [] t at s a = let e : t ≡ T = let f : Some t ≡ Some T = a.3.1 in cc in subst (λ (x : Tree). StandsAt T 1 x) (sym e) the_root
stands T (frame.in_list list_at ts ∷ outer) t at s a =
    let r = a.3.3 in
    in_list ts r.0 (subst (λ (x : List Tree). StandsAt T (suc (length outer)) (list_of x list_at)) (append_assoc ts (t ∷ []) r.0) (stands T outer _ _ _ r.6))
stands T (frame.in_member object_at ms k key_at ∷ outer) t at s a =
    let r = a.3.3 in
    let m : Member = record { key = k; key_place = key_at; value = t } in
    in_object k key_at ms r.0 (subst (λ (x : List Member). StandsAt T (suc (length outer)) (object_of x object_at)) (append_assoc ms (m ∷ []) r.0) (stands T outer _ _ _ r.6))
stands T (frame.in_object object_at ms ∷ outer) t at s a = absurd a

-- the rest of the text closes the opener, and so it stands in the document
pub opener : (T : Tree) (here at : Place) (stack : List Frame) (found : Option Tree) (n : Now) (s : List ℕ) → IsOver here stack n →
    LeftNow T stack found n at s → Opener T 65 here
opener T here at (frame.in_object object_at ms ∷ outer) found (now.gap (awaited.item false)) s w x =
    let e : suc (length outer) ≡ 65 = omega (arith, held_length 0 outer w.1) in
    inl (_, subst (λ (d : ℕ). StandsAt T d (object_of (ms ++ x.3.0) here)) e (subst (λ (y : Place). StandsAt T (suc (length outer)) (object_of (ms ++ x.3.0) y)) w.0 (stands T outer _ _ _ x.3.6)))
opener T here at (frame.in_list list_at ts ∷ outer) found (now.gap (awaited.item false)) s w x =
    let e : suc (length outer) ≡ 65 = omega (arith, held_length 0 outer w.1) in
    inr (_, subst (λ (d : ℕ). StandsAt T d (list_of (ts ++ x.3.0) here)) e (subst (λ (y : Place). StandsAt T (suc (length outer)) (list_of (ts ++ x.3.0) y)) w.0 (stands T outer _ _ _ x.3.6)))
opener T here at stack found n s w x = absurd w

-- ---- runs

-- a run of the whole goes on from a run of its front
run_on : (at : Place) (σ end fin : State) (p more : List ℕ) → run at σ p ≡ Some end → run at σ (p ++ more) ≡ Some fin →
    run (place_after at p) end more ≡ Some fin
run_on at σ end fin [] more e f = let s : σ ≡ end = cc in subst (λ (x : State). run at x more ≡ Some fin) s f
run_on at σ end fin (c ∷ p) more e f = go (step at σ c) e f (λ t e f. run_on (next_place at c) t end fin p more e f)
  where
    go : (o : Option State) → option_and_then (λ t. run (next_place at c) t p) o ≡ Some end →
        option_and_then (λ t. run (next_place at c) t (p ++ more)) o ≡ Some fin →
        ((t : State) → run (next_place at c) t p ≡ Some end → run (next_place at c) t (p ++ more) ≡ Some fin → run (place_after (next_place at c) p) end more ≡ Some fin) → run (place_after (next_place at c) p) end more ≡ Some fin
    go None e f more = let n : None ≡ Some end = e in cc
    go (Some t) e f more = more t e f

-- each document that begins so has the opener
pub has_opener : (p : List ℕ) (here : Place) (end : State) → run origin start p ≡ Some end → IsOver here end.stack end.now →
    (more : List ℕ) (t : Tree) → Document (p ++ more) t → Opener t 65 here
has_opener p here end e w more t d =
    let doc : Finds origin start (p ++ more) t = document_read d in
    opener t here (place_after origin p) end.stack end.found end.now more w (complete t (place_after origin p) end more doc.0 (run_on origin start end doc.0 p more e doc.1) doc.2)

-- a front of what runs runs
runs_front : (at : Place) (σ : State) (p more : List ℕ) → IsSome (run at σ (p ++ more)) → IsSome (run at σ p)
runs_front at σ [] more h = refl
runs_front at σ (c ∷ p) more h = go (step at σ c) h (λ t h. runs_front (next_place at c) t p more h)
  where
    go : (o : Option State) → IsSome (option_and_then (λ t. run (next_place at c) t (p ++ more)) o) →
        ((t : State) → IsSome (run (next_place at c) t (p ++ more)) → IsSome (run (next_place at c) t p)) →
        IsSome (option_and_then (λ t. run (next_place at c) t p) o)
    go None h f = h
    go (Some t) h f = f t h

-- what begins a document runs, and what runs begins one
pub begun_runs : (p : List ℕ) → Begins p → IsSome (run origin start p)
begun_runs p b =
    let d : Finds origin start (p ++ b.0) b.1 = document_read b.2 in
    runs_front origin start p b.0 (let e = d.1 in rw e refl)

-- the state that a run leads to
some_of : {G : Type 0} (o : Option State) → IsSome o → ((σ : State) → o ≡ Some σ → G) → G
some_of None h f = let n : false ≡ true = h in cc
some_of (Some σ) h f = f σ refl

-- what runs begins a document
pub run_begins : (p : List ℕ) (σ : State) → run origin start p ≡ Some σ → Begins p
run_begins p σ e = let x = completed p σ e in (x.0, x.1, x.2)

-- the same without naming the state
pub runs_begin : (p : List ℕ) → IsSome (run origin start p) → Begins p
runs_begin p h = some_of (run origin start p) h (run_begins p)
