-- The machine's answer, in the words of the grammar; and a text has one answer.
use Rattle.std.proofs.Common.{◌≡◌, ℕ, zero, suc, ◌<◌, ◌≤◌, inl, inr, List, [], ◌∷◌, ◌++◌, Some, None, refl, arith, length, take, drop, ap, subst, ◌∙◌, sym, append_assoc}
use Rattle.std.specs.Prelude.{nat_lt}
use Rattle.std.proofs.lemmas.Bool.Decides.{nat_tests}
use Rattle.std.proofs.lemmas.List.{take-append-drop}
use Rattle.cg_docspec.specs.Place.{Place, origin, place_after}
use Rattle.cg_docspec.specs.Tree.{Tree}
use Rattle.cg_docspec.specs.Document.{Document}
use Rattle.cg_docspec.specs.Depth.{Opener}
use Rattle.cg_docspec.specs.SyntaxFault.{Answer, Begins, IsAnswer, IsLongest, IsShallow, NoDocument, OpensAt, TooDeep, no_document, read, too_deep}
use Rattle.cg_docspec.specs.Machine.Run.{Finds, answer, run, whole}
use Rattle.cg_docspec.specs.Machine.State.{State, start}
use Rattle.cg_docspec.proofs.Answering.Machine.{Runs, runs_all}
use Rattle.cg_docspec.proofs.Answering.Openers.{begun_runs, has_opener, run_begins}
use Rattle.cg_docspec.proofs.Back.States.{document_of}
use Rattle.cg_docspec.proofs.Basics.{bool_cases}
use Rattle.cg_docspec.proofs.Completion.Room.{Kept, no_opener}
use Rattle.cg_docspec.proofs.Completion.States.{completed}
use Rattle.cg_docspec.proofs.Forth.Values.{document_read}

-- the front of a front
front_of : (text : List ℕ) (i n : ℕ) → i < n → (rest : List ℕ) × (take n text ≡ take (suc i) text ++ rest)
front_of [] i zero h = absurd (omega (arith, h))
front_of [] i (suc n) h = ([], refl)
front_of (c ∷ text) i zero h = absurd (omega (arith, h))
front_of (c ∷ text) zero (suc n) h = (take n text, refl)
front_of (c ∷ text) (suc i) (suc n) h = let x = front_of text i n (omega (arith, h)) in (x.0, ap (λ (y : List ℕ). c ∷ y) x.1)

-- where some document of 64 levels begins so, no opener of depth 65 stands there
shallow : (text : List ℕ) (n : ℕ) (mid : State) → run origin start (take n text) ≡ Some mid → Kept mid.stack mid.found → IsShallow text n
shallow text n mid e k i h o =
    let c = completed (take n text) mid e in
    let f = front_of text i n h in
    let d : Document (take (suc i) text ++ (f.0 ++ c.0)) c.1 = subst (λ (x : List ℕ). Document x c.1) (ap (λ (x : List ℕ). x ++ c.0) f.1 ∙ append_assoc (take (suc i) text) f.0 c.0) c.2 in
    no_opener c.1 (c.3 k) (place_after origin (take i text)) (o.opener (f.0 ++ c.0) c.1 d)

-- before a text 64 levels suffice
abbrev kept_start : Kept [] None
kept_start = record { room = 64; held = refl; low = tt }

-- what the machine's run says, the grammar says
right : (text : List ℕ) (a : Answer) → Runs origin start text a → IsAnswer text a
right text (read t) r = (document_of text t r.0, no_opener t r.1)
right text (no_document p) r = record {
  end = r.end;
  no_tree = λ t d. r.no_tree t (document_read d);
  is_longest = record {
    within = r.within;
    begins = run_begins (take r.end text) r.mid r.runs;
    longest = λ l b. r.longest l (begun_runs (take (suc r.end) text) b);
  };
  shallow = shallow text r.end r.mid r.runs r.kept;
  is_place = r.is_place;
}
right text (too_deep p) r = record {
  index = r.index;
  opens = record {
    within = r.within;
    begins = run_begins (take (suc r.index) text) r.after r.runs_on;
    opener = λ more t d. has_opener (take (suc r.index) text) (place_after origin (take r.index text)) r.after r.runs_on r.over more t d;
  };
  first = shallow text r.index r.mid r.runs r.kept;
  is_place = r.is_place;
}

-- the machine's answer is right
pub is_answer : (text : List ℕ) → IsAnswer text (answer text)
is_answer text = right text (answer text) (runs_all origin start text kept_start)

-- a text has at most one tree
pub one_tree : (s : List ℕ) (t u : Tree) → Document s t → Document s u → t ≡ u
one_tree s t u d e =
    let a : Finds origin start s t = document_read d in
    let b : Finds origin start s u = document_read e in
    let c : Some a.0 ≡ Some b.0 = sym a.1 ∙ b.1 in
    let alike : a.0 ≡ b.0 = cc in
    let f : Some t ≡ Some u = sym a.2 ∙ ap whole alike ∙ b.2 in
    cc

-- ---- one answer

-- a prefix of what begins a document begins one
begins_front : (p rest : List ℕ) → Begins (p ++ rest) → Begins p
begins_front p rest b = (rest ++ b.0, b.1, subst (λ (x : List ℕ). Document x b.1) (append_assoc p rest b.0) b.2)

-- what begins a document is no longer than the longest that does
longest_bound : (text : List ℕ) (e n : ℕ) → IsLongest text e → n ≤ length text → Begins (take n text) → n ≤ e
longest_bound text e n l within b =
    elim (bool_cases (nat_lt e n)) as (λ _. n ≤ e) [
      | inl t ↦
          let h : e < n = grind (arith, nat_tests) in
          let f = front_of text e n h in
          absurd (l.longest (omega arith) (begins_front (take (suc e) text) f.0 (subst Begins f.1 b)))
      | inr t ↦ grind (arith, nat_tests)
    ]

-- a document's tree has the opener
document_opener : (text : List ℕ) (d i : ℕ) (t : Tree) → OpensAt text d i → Document text t → Opener t d (place_after origin (take i text))
document_opener text d i t o doc = o.opener (drop (suc i) text) t (subst (λ (x : List ℕ). Document x t) (sym (take-append-drop (suc i) text)) doc)

-- an opener of depth 65 stands before the end, or it is not the first fault
before_end : (text : List ℕ) (p q : Place) → NoDocument text p → TooDeep text q → ⊥
before_end text p q a b =
    let h : suc b.index ≤ a.end = longest_bound text a.end (suc b.index) a.is_longest (omega (arith, b.opens.within)) b.opens.begins in
    a.shallow b.index (omega (arith, h)) b.opens

-- no document: at one place
same_end : (text : List ℕ) (p q : Place) → NoDocument text p → NoDocument text q → p ≡ q
same_end text p q a b =
    let x : a.end ≤ b.end = longest_bound text b.end a.end b.is_longest a.is_longest.within a.is_longest.begins in
    let y : b.end ≤ a.end = longest_bound text a.end b.end a.is_longest b.is_longest.within b.is_longest.begins in
    let e : a.end ≡ b.end = omega arith in
    a.is_place ∙ ap (λ (n : ℕ). place_after origin (take n text)) e ∙ sym b.is_place

-- too deep: at one place
same_opener : (text : List ℕ) (p q : Place) → TooDeep text p → TooDeep text q → p ≡ q
same_opener text p q a b =
    elim (bool_cases (nat_lt a.index b.index)) as (λ _. p ≡ q) [
      | inl t ↦ absurd (b.first a.index (grind (arith, nat_tests)) a.opens)
      | inr t ↦ elim (bool_cases (nat_lt b.index a.index)) as (λ _. p ≡ q) [
        | inl u ↦ absurd (a.first b.index (grind (arith, nat_tests)) b.opens)
        | inr u ↦
            let e : a.index ≡ b.index = grind (arith, nat_tests) in
            a.is_place ∙ ap (λ (n : ℕ). place_after origin (take n text)) e ∙ sym b.is_place
      ]
    ]

-- a text has one answer
pub one_answer : (text : List ℕ) (a b : Answer) → IsAnswer text a → IsAnswer text b → a ≡ b
one_answer text (read t) (read u) x y = ap read (one_tree text t u x.0 y.0)
one_answer text (read t) (no_document q) x y = absurd (y.no_tree t x.0)
one_answer text (read t) (too_deep q) x y = absurd (x.1 _ (document_opener text 65 y.index t y.opens x.0))
one_answer text (no_document p) (read u) x y = absurd (x.no_tree u y.0)
one_answer text (no_document p) (no_document q) x y = ap no_document (same_end text p q x y)
one_answer text (no_document p) (too_deep q) x y = absurd (before_end text p q x y)
one_answer text (too_deep p) (read u) x y = absurd (y.1 _ (document_opener text 65 x.index u x.opens y.0))
one_answer text (too_deep p) (no_document q) x y = absurd (before_end text q p y x)
one_answer text (too_deep p) (too_deep q) x y = ap too_deep (same_opener text p q x y)
