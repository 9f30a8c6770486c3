-- What stands in a list that is made of lists, as in one of findings.
use Rattle.std.proofs.Common.{◌≡◌, Bool, true, false, cond, List, [], ◌∷◌, ◌++◌, ◌⊎◌, inl, inr, refl, sym, ap, subst}
use Rattle.std.proofs.lemmas.List.{append_assoc, append-nil}
use Rattle.std.specs.List.{flat_map}
use Rattle.cg_finding.specs.Finding.{Among, Finding, In, each_after}

pub in_either : {Y : Type 0} (f : Y) (xs ys : List Y) → Among f (xs ++ ys) → Among f xs ⊎ Among f ys
in_either f [] ys among = inr among
in_either f (x ∷ xs) ys (inl is) = inl (inl is)
in_either f (x ∷ xs) ys (inr among) = elim (in_either f xs ys among) [ inl a ↦ inl (inr a) | inr b ↦ inr b ]

pub in_left : {Y : Type 0} (f : Y) (xs ys : List Y) → Among f xs → Among f (xs ++ ys)
in_left f [] ys among = absurd among
in_left f (x ∷ xs) ys (inl is) = inl is
in_left f (x ∷ xs) ys (inr among) = inr (in_left f xs ys among)

pub in_right : {Y : Type 0} (f : Y) (xs ys : List Y) → Among f ys → Among f (xs ++ ys)
in_right f [] ys among = among
in_right f (x ∷ xs) ys among = inr (in_right f xs ys among)

-- it is one of those of an item of the list, as a finding that the item breaks
pub record FromOne {X Y : Type 0} (g : X → List Y) (xs : List X) (f : Y) : Type 0 where
  pub item : X
  pub among : Among item xs
  pub found : Among f (g item)

pub in_flat_map : {X Y : Type 0} (g : X → List Y) (xs : List X) (f : Y) → Among f (flat_map g xs) → FromOne g xs f
in_flat_map g [] f among = absurd among
in_flat_map g (x ∷ xs) f among =
    elim (in_either f (g x) (flat_map g xs) among) [
      | inl here ↦ record { item = x; among = inl refl; found = here }
      | inr later ↦ let one = in_flat_map g xs f later in record { item = one.item; among = inr one.among; found = one.found }
    ]

pub flat_map_has : {X Y : Type 0} (g : X → List Y) (xs : List X) (x : X) (f : Y) → Among x xs → Among f (g x) → Among f (flat_map g xs)
flat_map_has g [] x f among found = absurd among
flat_map_has g (y ∷ ys) x f (inl is) found = in_left f (g y) (flat_map g ys) (subst (λ z. Among f (g z)) is found)
flat_map_has g (y ∷ ys) x f (inr among) found = in_right f (g y) (flat_map g ys) (flat_map_has g ys x f among found)

-- the finding is one that an item breaks together with those before it
pub record FromOneAfter {X : Type 0} (g : List X → X → List Finding) (before xs : List X) (f : Finding) : Type 0 where
  pub front : List X
  pub item : X
  pub back : List X
  pub splits : xs ≡ front ++ item ∷ back
  pub found : In f (g (before ++ front) item)

pub in_each_after : {X : Type 0} (g : List X → X → List Finding) (before xs : List X) (f : Finding)
    → In f (each_after g before xs) → FromOneAfter g before xs f
unfolding each_after
in_each_after g before [] f among = absurd among
in_each_after g before (x ∷ xs) f among =
    elim (in_either f (g before x) (each_after g (before ++ x ∷ []) xs) among) [
      | inl here ↦ record { front = []; item = x; back = xs; splits = refl; found = subst (λ ys. In f (g ys x)) (sym (append-nil before)) here }
      | inr later ↦ let one = in_each_after g (before ++ x ∷ []) xs f later in record {
        front = x ∷ one.front;
        item = one.item;
        back = one.back;
        splits = ap (λ ys. x ∷ ys) one.splits;
        found = subst (λ ys. In f (g ys one.item)) (append_assoc before (x ∷ []) one.front) one.found;
      }
    ]

pub each_after_has : {X : Type 0} (g : List X → X → List Finding) (before front back : List X) (x : X) (f : Finding)
    → In f (g (before ++ front) x) → In f (each_after g before (front ++ x ∷ back))
unfolding each_after
each_after_has g before [] back x f found =
    in_left f (g before x) (each_after g (before ++ x ∷ []) back) (subst (λ ys. In f (g ys x)) (append-nil before) found)
each_after_has g before (y ∷ front) back x f found =
    in_right f (g before y) (each_after g (before ++ y ∷ []) (front ++ x ∷ back))
    (each_after_has g (before ++ y ∷ []) front back x f (subst (λ ys. In f (g ys x)) (sym (append_assoc before (y ∷ []) front)) found))

-- a finding that a test tells
pub in_when : (b : Bool) (f g : Finding) → In f (cond b (g ∷ []) []) → (b ≡ true) × (f ≡ g)
in_when true f g (inl is) = (refl, is)
in_when true f g (inr none) = absurd none
in_when false f g none = absurd none

pub in_unless : (b : Bool) (f g : Finding) → In f (cond b [] (g ∷ [])) → (b ≡ false) × (f ≡ g)
in_unless false f g (inl is) = (refl, is)
in_unless false f g (inr none) = absurd none
in_unless true f g none = absurd none

pub when_has : (b : Bool) (f g : Finding) → b ≡ true → f ≡ g → In f (cond b (g ∷ []) [])
when_has true f g h is = inl is
when_has false f g h is = cc

pub unless_has : (b : Bool) (f g : Finding) → b ≡ false → f ≡ g → In f (cond b [] (g ∷ []))
unless_has false f g h is = inl is
unless_has true f g h is = cc
