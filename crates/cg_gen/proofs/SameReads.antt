-- A command whose next read is determined makes the same reads wherever the files are the same.
use Rattle.std.proofs.Common.{◌≡◌, ℕ, List, [], ◌∷◌, ◌++◌, append-nil, append_assoc, Some, refl, sym, ap, subst, ◌∙◌}
use Rattle.std.specs.FinMap as fin
use Rattle.cg_base.specs.Outside.{Files}
use Rattle.cg_words.specs.declared.command.Command.{Command}
use Rattle.cg_gen.specs.Reads.{Read, GaveAll}
use Rattle.cg_gen.specs.Commands.{NextRead}
use Rattle.cg_gen.specs.Due.{HasRead, HasReadAll, none, one_more}

-- ---- lists by their ends

snoc_not_empty : {X : Type 0} (xs : List X) (x : X) → xs ++ x ∷ [] ≡ [] → ⊥
snoc_not_empty [] x e = cc
snoc_not_empty (y ∷ ys) x e = cc

front_same : {X : Type 0} (xs ys : List X) (x y : X) → xs ++ x ∷ [] ≡ ys ++ y ∷ [] → xs ≡ ys
front_same [] [] x y e = refl
front_same [] (b ∷ bs) x y e = let bad : bs ++ y ∷ [] ≡ [] = cc in absurd (snoc_not_empty bs y bad)
front_same (a ∷ as') [] x y e = let bad : as' ++ x ∷ [] ≡ [] = cc in absurd (snoc_not_empty as' x bad)
front_same (a ∷ as') (b ∷ bs) x y e =
    let first : a ≡ b = cc in
    let rest : as' ++ x ∷ [] ≡ bs ++ y ∷ [] = cc in
    let fronts = front_same as' bs x y rest in
    (λ i. first i ∷ fronts i)

last_same : {X : Type 0} (xs ys : List X) (x y : X) → xs ++ x ∷ [] ≡ ys ++ y ∷ [] → x ≡ y
last_same [] [] x y e = cc
last_same [] (b ∷ bs) x y e = let bad : bs ++ y ∷ [] ≡ [] = cc in absurd (snoc_not_empty bs y bad)
last_same (a ∷ as') [] x y e = let bad : as' ++ x ∷ [] ≡ [] = cc in absurd (snoc_not_empty as' x bad)
last_same (a ∷ as') (b ∷ bs) x y e = let rest : as' ++ x ∷ [] ≡ bs ++ y ∷ [] = cc in last_same as' bs x y rest

-- a list with an item has a last one
last_of : {X : Type 0} (x : X) (xs : List X) → (front : List X) × (last : X) × (x ∷ xs ≡ front ++ last ∷ [])
last_of x [] = ([], x, refl)
last_of x (y ∷ ys) = let rest = last_of y ys in (x ∷ rest.0, rest.1, ap (λ zs. x ∷ zs) rest.2)

module _ (c : Command) where
  -- ---- what was read at a place was read next there

  was_next : (zs xs rest : List Read) (r : Read) → HasRead c zs → zs ≡ xs ++ r ∷ rest → NextRead c xs r.name
  was_next _ xs rest r none same = absurd (not_within xs rest r same) where
    not_within : (ys more : List Read) (s : Read) → ◌≡◌ {A = List Read} [] (ys ++ s ∷ more) → ⊥
    not_within [] more s e = cc
    not_within (y ∷ ys) more s e = cc
  was_next _ xs [] r (one_more before last has is) same =
      let fronts = front_same before xs last r same in
      let ends = last_same before xs last r same in
      subst (λ rs. NextRead c rs r.name) fronts (subst (λ (s : Read). NextRead c before s.name) ends is)
  was_next _ xs (s ∷ rest) r (one_more before last has is) same =
      let cut = last_of s rest in
      let whole : before ++ last ∷ [] ≡ (xs ++ r ∷ cut.0) ++ cut.1 ∷ [] = same ∙ ap (λ ys. xs ++ r ∷ ys) cut.2 ∙ sym (append_assoc xs (r ∷ cut.0) (cut.1 ∷ [])) in
      was_next before xs cut.0 r has (front_same before (xs ++ r ∷ cut.0) last cut.1 whole)

  module _ (once : (reads : List Read) (a b : List ℕ) → NextRead c reads a → NextRead c reads b → a ≡ b) (m : Files) where
    abbrev Leads : List Read → List Read → Type 0
    Leads xs ys = (rest : List Read) × (xs ++ rest ≡ ys)

    gave_at : (xs rest : List Read) (r : Read) → GaveAll (Some m) (xs ++ r ∷ rest) → fin.get m r.name ≡ r.given
    gave_at [] rest r gave = gave.0 m refl
    gave_at (x ∷ xs) rest r gave = gave_at xs rest r gave.1

    gave_front : (xs rest : List Read) → GaveAll (Some m) (xs ++ rest) → GaveAll (Some m) xs
    gave_front [] rest gave = tt
    gave_front (x ∷ xs) rest gave = (gave.0, gave_front xs rest gave.1)

    leads_on : (xs ys : List Read) (next : Read) → HasReadAll c ys → GaveAll (Some m) ys → fin.get m next.name ≡ next.given → NextRead c xs next.name → Leads xs ys → Leads (xs ++ next ∷ []) ys
    leads_on xs ys next has gave given is ([], same) = absurd (has.all next.name (subst (λ rs. NextRead c rs next.name) (sym (append-nil xs) ∙ same) is))
    leads_on xs ys next has gave given is (r ∷ rest, same) =
        let name : r.name ≡ next.name = once xs r.name next.name (was_next ys xs rest r has.has_read (sym same)) is in
        let told : r.given ≡ next.given = sym (gave_at xs rest r (subst (GaveAll (Some m)) (sym same) gave)) ∙ ap (fin.get m) name ∙ given in
        let read : r ≡ next = (λ i. record { name = name i; given = told i }) in
        (rest, append_assoc xs (next ∷ []) rest ∙ ap (λ s. xs ++ s ∷ rest) (sym read) ∙ same)

    leads : (xs ys : List Read) → HasRead c xs → GaveAll (Some m) xs → HasReadAll c ys → GaveAll (Some m) ys → Leads xs ys
    leads _ ys none gave has gave' = (ys, refl)
    leads _ ys (one_more xs next has is) gave all gave' =
        leads_on xs ys next all gave' (gave_at xs [] next gave) is (leads xs ys has (gave_front xs (next ∷ []) gave) all gave')

    -- all reads of the command
    pub same_all : (xs ys : List Read) → GaveAll (Some m) xs → GaveAll (Some m) ys → HasReadAll c xs → HasReadAll c ys → xs ≡ ys
    same_all xs ys gave gave' has has' = by (leads xs ys has.has_read gave has' gave') where
      by : Leads xs ys → xs ≡ ys
      by ([], same) = sym (append-nil xs) ∙ same
      by (r ∷ rest, same) = absurd (has.all r.name (was_next ys xs rest r has'.has_read (sym same)))
