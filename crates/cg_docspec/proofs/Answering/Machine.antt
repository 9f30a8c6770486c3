-- What the machine's answer says of its run.
use Rattle.std.proofs.Common.{◌≡◌, ℕ, suc, ◌<◌, ◌≤◌, ◌⊎◌, inl, inr, List, [], ◌∷◌, Option, Some, None, refl, arith, length, take, true, false, ap, subst, ◌∙◌, sym}
use Rattle.std.specs.Prelude.{nat_lt, option_and_then, IsSome}
use Rattle.std.proofs.lemmas.Bool.{cond_both}
use Rattle.std.proofs.lemmas.Bool.Decides.{nat_tests}
use Rattle.cg_docspec.specs.Place.{Place, next_place, place_after}
use Rattle.cg_docspec.specs.Tree.{Tree}
use Rattle.cg_docspec.specs.SyntaxFault.{Answer, no_document, read, too_deep}
use Rattle.cg_docspec.specs.Machine.Awaited as awaited
use Rattle.cg_docspec.specs.Machine.Frame.{Frame}
use Rattle.cg_docspec.specs.Machine.Frame as frame
use Rattle.cg_docspec.specs.Machine.Now.{Now}
use Rattle.cg_docspec.specs.Machine.Now as now
use Rattle.cg_docspec.specs.Machine.Run.{Finds, answer_from, ended, found_in, next_or_fault, run, step, whole}
use Rattle.cg_docspec.specs.Machine.State.{State}
use Rattle.cg_docspec.proofs.Completion.Growth.{Grown, IsOver, keeps_step}
use Rattle.cg_docspec.proofs.Completion.Room.{Kept, Low, LowFound, held_length}
use Rattle.cg_docspec.proofs.Forth.Gaps.{run_step}

-- the run stops behind `end` characters, and no opener of depth 65 was read
pub record Stops (at : Place) (σ : State) (cs : List ℕ) (p : Place) : Type 0 where
  pub end : ℕ
  pub within : end ≤ length cs
  pub mid : State
  pub runs : run at σ (take end cs) ≡ Some mid
  pub kept : Kept mid.stack mid.found
  pub longest : end < length cs → IsSome (run at σ (take (suc end) cs)) → ⊥
  pub no_tree : (t : Tree) → Finds at σ cs t → ⊥
  pub is_place : p ≡ place_after at (take end cs)

-- the character behind the first `index` is an opener of depth 65, and the first one
pub record Deepens (at : Place) (σ : State) (cs : List ℕ) (p : Place) : Type 0 where
  pub index : ℕ
  pub within : index < length cs
  pub mid : State
  pub runs : run at σ (take index cs) ≡ Some mid
  pub kept : Kept mid.stack mid.found
  pub after : State
  pub runs_on : run at σ (take (suc index) cs) ≡ Some after
  pub over : IsOver (place_after at (take index cs)) after.stack after.now
  pub is_place : p ≡ place_after at (take index cs)

-- what an answer says of the run
abbrev pub Runs : Place → State → List ℕ → Answer → Type 0
Runs at σ cs (read t) = Finds at σ cs t × Low 64 t
Runs at σ cs (no_document p) = Stops at σ cs p
Runs at σ cs (too_deep p) = Deepens at σ cs p

-- ---- the ends of a run

-- the tree that was found is the state's
found_of : (found : Option Tree) (n : Now) (t : Tree) → found_in found n ≡ Some t → found ≡ Some t
found_of found (now.gap awaited.end) t e = e
found_of found (now.comment awaited.end) t e = e
found_of found n t e = let f : None ≡ Some t = e in cc

-- at the text's end
runs_end : (at : Place) (σ : State) (o : Option Tree) → whole σ ≡ o → Kept σ.stack σ.found → Runs at σ [] (ended at o)
runs_end at σ None e k = record {
  end = 0;
  within = omega arith;
  mid = σ;
  runs = refl;
  kept = k;
  longest = λ l b. absurd (omega (arith, l));
  no_tree = λ t d. let s : σ ≡ d.0 = cc in let f : None ≡ Some t = sym e ∙ ap whole s ∙ d.2 in cc;
  is_place = refl;
}
runs_end at σ (Some t) e k = ((σ, refl, e), subst LowFound (found_of σ.found σ.now t e) k.low)

-- no run goes over a step that fails
run_stuck : (at : Place) (σ : State) (c : ℕ) (cs : List ℕ) → step at σ c ≡ None → run at σ (c ∷ cs) ≡ None
run_stuck at σ c cs h = ap (option_and_then (λ t. run (next_place at c) t cs)) h

-- at a step that fails
runs_stuck : (at : Place) (σ : State) (c : ℕ) (cs : List ℕ) → step at σ c ≡ None → Kept σ.stack σ.found → Stops at σ (c ∷ cs) at
runs_stuck at σ c cs h k = record {
  end = 0;
  within = omega arith;
  mid = σ;
  runs = refl;
  kept = k;
  longest = λ l b. let f : false ≡ true = rw (run_stuck at σ c [] h) at b in cc;
  no_tree = λ t d. let e : None ≡ Some d.0 = sym (run_stuck at σ c cs h) ∙ d.1 in cc;
  is_place = refl;
}

-- at an opener of depth 65
runs_deep : (at : Place) (σ t : State) (c : ℕ) (cs : List ℕ) → step at σ c ≡ Some t → Kept σ.stack σ.found → IsOver at t.stack t.now →
    Deepens at σ (c ∷ cs) at
runs_deep at σ t c cs h k w = record { index = 0; within = omega arith; mid = σ; runs = refl; kept = k; after = t; runs_on = run_step at σ t c [] h; over = w; is_place = refl }

-- one character more in front
runs_more : (at : Place) (σ t : State) (c : ℕ) (cs : List ℕ) (a : Answer) → step at σ c ≡ Some t → Runs (next_place at c) t cs a →
    Runs at σ (c ∷ cs) a
runs_more at σ t c cs (read x) h r = ((r.0.0, run_step at σ t c cs h ∙ r.0.1, r.0.2), r.1)
runs_more at σ t c cs (no_document p) h r = record {
  end = suc r.end;
  within = omega (arith, r.within);
  mid = r.mid;
  runs = run_step at σ t c (take r.end cs) h ∙ r.runs;
  kept = r.kept;
  longest = λ l b. r.longest (omega (arith, l)) (rw (run_step at σ t c (take (suc r.end) cs) h) at b);
  no_tree = λ x d. r.no_tree x (d.0, sym (run_step at σ t c cs h) ∙ d.1, d.2);
  is_place = r.is_place;
}
runs_more at σ t c cs (too_deep p) h r = record {
  index = suc r.index;
  within = omega (arith, r.within);
  mid = r.mid;
  runs = run_step at σ t c (take r.index cs) h ∙ r.runs;
  kept = r.kept;
  after = r.after;
  runs_on = run_step at σ t c (take (suc r.index) cs) h ∙ r.runs_on;
  over = r.over;
  is_place = r.is_place;
}

-- ---- the whole run

-- behind such an opener 65 are open
over_length : (here : Place) (stack : List Frame) (n : Now) → IsOver here stack n → length stack ≡ 65
over_length here (frame.in_object at ms ∷ outer) (now.gap (awaited.item false)) w = omega (arith, held_length 0 outer w.1)
over_length here (frame.in_list at ts ∷ outer) (now.gap (awaited.item false)) w = omega (arith, held_length 0 outer w.1)
over_length here stack n w = absurd w

-- behind a step, if there is one
runs_next : (at : Place) (σ : State) (c : ℕ) (cs : List ℕ) (more : State → Answer) →
    ((t : State) → Kept t.stack t.found → Runs (next_place at c) t cs (more t)) → (o : Option State) → step at σ c ≡ o → Grown at o →
    Kept σ.stack σ.found →
    Runs at σ (c ∷ cs) (next_or_fault at more o)
runs_next at σ c cs more f None h g k = runs_stuck at σ c cs h k
runs_next at σ c cs more f (Some t) h g k =
    cond_both (nat_lt 64 (length t.stack)) (too_deep at) (more t) (Runs at σ (c ∷ cs)) (λ e. deep g.grown (grind (arith, nat_tests))) (λ e. shallow g.grown (grind (arith, nat_tests)))
  where
    deep : Kept t.stack t.found ⊎ IsOver at t.stack t.now → 64 < length t.stack → Deepens at σ (c ∷ cs) at
    deep (inl x) l = absurd (omega (arith, l, held_length x.room t.stack x.held))
    deep (inr w) l = runs_deep at σ t c cs h k w

    shallow : Kept t.stack t.found ⊎ IsOver at t.stack t.now → length t.stack ≤ 64 → Runs at σ (c ∷ cs) (more t)
    shallow (inl x) l = runs_more at σ t c cs (more t) h (f t x)
    shallow (inr w) l = absurd (omega (arith, l, over_length at t.stack t.now w))

-- from each state in which 64 levels suffice
pub runs_all : (at : Place) (σ : State) (cs : List ℕ) → Kept σ.stack σ.found → Runs at σ cs (answer_from at σ cs)
runs_all at σ [] k = runs_end at σ (whole σ) refl k
runs_all at σ (c ∷ cs) k =
    runs_next at σ c cs (λ t. answer_from (next_place at c) t cs) (λ t k. runs_all (next_place at c) t cs k) (step at σ c) refl (keeps_step at σ.stack σ.found σ.now c k) k
