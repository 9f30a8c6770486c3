-- Files have one answer, and commands are played in one way.
use Rattle.std.proofs.Common.{◌≡◌, List, [], ◌∷◌, ◌++◌, ℕ, refl, ap, sym, subst, ◌∙◌}
use Rattle.std.specs.FinMap as fin
use Rattle.cg_desc.specs.Faults.{BeforeIsTotal}
use Rattle.cg_inputs.specs.Input.{Command, put_file, del_file, build_files}
use Rattle.cg_deeds.specs.declared.deed.Deed.{Deed}
use Rattle.cg_deeds.specs.declared.deed.Deed.TheVariants.{Write, Remove, Say}
use Rattle.cg_keep.specs.Laws.{BuiltBreaksNothing, BuiltIsOne, WantedAreOne}
use Rattle.cg_session.specs.Answers.{Answer, builds, refuses}
use Rattle.cg_session.specs.Laws.{AnswersAreOne, PlaysAreOne, SameAnswer, changes_in}
use Rattle.cg_session.specs.Play.{Kept, Does, PlaysFrom, after_build, deeds_of, nothing_kept}

pub answers_one : WantedAreOne → BuiltIsOne → BuiltBreaksNothing → BeforeIsTotal → AnswersAreOne
answers_one wanted one sound total top files (builds xs) (builds ys) a b = one top files xs ys a b
answers_one wanted one sound total top files (builds xs) (refuses names fault) a b = absurd (sound top files xs fault a b.1.violates)
answers_one wanted one sound total top files (refuses names fault) (builds ys) a b = absurd (sound top files ys fault b a.1.violates)
answers_one wanted one sound total top files (refuses names fault) (refuses others other) a b =
    (wanted (fin.get files top) top names others a.0 b.0, total fault other (b.1.least fault a.1.violates) (a.1.least other b.1.violates))

changes_join : (ds es : List Deed) → changes_in (ds ++ es) ≡ changes_in ds ++ changes_in es
changes_join [] es = refl
changes_join (Write name bytes ∷ ds) es = ap (λ x. Write name bytes ∷ x) (changes_join ds es)
changes_join (Remove name ∷ ds) es = ap (λ x. Remove name ∷ x) (changes_join ds es)
changes_join (Say stream line ∷ ds) es = changes_join ds es

same_behind : (dir : List ℕ) (k : Kept) (a b : Answer) → SameAnswer a b → after_build dir k a ≡ after_build dir k b
same_behind dir k (builds xs) (builds ys) s = ap (λ os. after_build dir k (builds os)) s
same_behind dir k (builds xs) (refuses names fault) s = absurd s
same_behind dir k (refuses names fault) (builds ys) s = absurd s
same_behind dir k (refuses names fault) (refuses others other) s = refl

same_changes : (dir : List ℕ) (k : Kept) (a b : Answer) → SameAnswer a b → changes_in (deeds_of dir k.good a) ≡ changes_in (deeds_of dir k.good b)
same_changes dir k (builds xs) (builds ys) s = ap (λ os. changes_in (deeds_of dir k.good (builds os))) s
same_changes dir k (builds xs) (refuses names fault) s = absurd s
same_changes dir k (refuses names fault) (builds ys) s = absurd s
same_changes dir k (refuses names fault) (refuses others other) s = refl

module _ (answers : AnswersAreOne) (top dir : List ℕ) where
  does_one : (c : Command) (k a b : Kept) (ds es : List Deed) → Does top dir c k a ds → Does top dir c k b es → (a ≡ b) × (changes_in ds ≡ changes_in es)
  does_one (put_file name bytes) k a b ds es x y = (x.0 ∙ sym y.0, ap changes_in (x.1 ∙ sym y.1))
  does_one (del_file name) k a b ds es x y = (x.0 ∙ sym y.0, ap changes_in (x.1 ∙ sym y.1))
  does_one build_files k a b ds es x y =
      let s = answers top k.files x.answer y.answer x.is_answer y.is_answer in (
        x.kept_is ∙ same_behind dir k x.answer y.answer s ∙ sym y.kept_is,
        ap changes_in x.deeds_are ∙ same_changes dir k x.answer y.answer s ∙ ap changes_in (sym y.deeds_are),
      )

  plays_one : (cs : List Command) (k a b : Kept) (ds es : List Deed) → PlaysFrom top dir cs k a ds → PlaysFrom top dir cs k b es → (a ≡ b) × (changes_in ds ≡ changes_in es)
  plays_one [] k a b ds es x y = (x.0 ∙ sym y.0, ap changes_in (x.1 ∙ sym y.1))
  plays_one (c ∷ cs) k a b ds es x y =
      let first = does_one c k x.0 y.0 x.1 y.1 x.3 y.3 in
      let rest = plays_one cs y.0 a b x.2 y.2 (subst (λ q. PlaysFrom top dir cs q a x.2) first.0 x.4) y.4 in
      (rest.0, ap changes_in x.5 ∙ changes_join x.1 x.2 ∙ ap (λ q. q ++ changes_in x.2) first.1 ∙ ap (λ q. changes_in y.1 ++ q) rest.1 ∙ sym (changes_join y.1 y.2) ∙ ap changes_in (sym y.5))

pub plays_are_one : AnswersAreOne → PlaysAreOne
plays_are_one answers top dir commands j k ds es x y = plays_one answers top dir commands nothing_kept j k ds es x y
