-- Which interface of an instance a node's name means.
use Rattle.std.proofs.Common.{◌≡◌, ◌≢◌, ℕ, Bool, true, false, ◌&&◌, ◌||◌, List, [], ◌∷◌, ◌++◌, length, Option, Some, None, ◌⊎◌, inl, inr, refl, sym, ap, subst, ◌∙◌, eqb, arith}
use Rattle.std.specs.List.{slice_get}
use Rattle.std.specs.Str.{bytes_eq}
use Rattle.std.specs.Bool.{Decides}
use Rattle.std.proofs.lemmas.Bool.{false≢true}
use Rattle.std.proofs.lemmas.Bool.Decides.{Decides-eqb}
use Rattle.std.proofs.lemmas.Option.{slice_get_within}
use Rattle.std.proofs.lemmas.Slice.Eq.{bytes_eq-Decides}
use Rattle.cg_desc.specs.Ends.{Means, by_name, without_name, only_one}
use Rattle.cg_desc.specs.FoundBase.{is_meant}

-- what does not hold is not found
pub not_found : {P : Type 0} (b : Bool) → Decides b P → ¬ P → b ≡ false
not_found true d none = absurd (none (d.0 refl))
not_found false d none = refl

-- a text that does not begin with this one
pub not_behind : (name instance interface : List ℕ) → ((rest : List ℕ) → name ≢ instance ++ rest) → false ≡ bytes_eq name (instance ++ (46 ∷ interface))
not_behind name instance interface none = sym (not_found _ (bytes_eq-Decides name (instance ++ (46 ∷ interface))) (none (46 ∷ interface)))

-- equal parts behind a front
same_behind : (front xs ys : List ℕ) → front ++ xs ≡ front ++ ys → xs ≡ ys
same_behind [] xs ys e = e
same_behind (x ∷ front) xs ys e = same_behind front xs ys (cc)

-- a text that begins with this one, and goes on without a dot
pub no_dot : (name instance interface rest : List ℕ) → name ≡ instance ++ rest → ((last : List ℕ) → rest ≢ (46 ∷ []) ++ last) → false ≡ bytes_eq name (instance ++ (46 ∷ interface))
no_dot name instance interface rest is none =
    sym (not_found _ (bytes_eq-Decides name (instance ++ (46 ∷ interface))) (λ e. none interface (same_behind instance rest (46 ∷ interface) (sym is ∙ e))))

-- and with a dot
pub with_dot : (name instance interface rest last : List ℕ) (b : Bool) → name ≡ instance ++ rest → rest ≡ (46 ∷ []) ++ last → Decides b (last ≡ interface)
    → b ≡ bytes_eq name (instance ++ (46 ∷ interface))
with_dot name instance interface rest last true is dot d =
    sym ((bytes_eq-Decides name (instance ++ (46 ∷ interface))).1 (is ∙ ap (λ r. instance ++ r) (dot ∙ ap (λ l. 46 ∷ l) (d.0 refl))))
with_dot name instance interface rest last false is dot d =
    sym (not_found _ (bytes_eq-Decides name (instance ++ (46 ∷ interface))) (λ e. let same = same_behind instance rest (46 ∷ interface) (sym is ∙ e) in let this : last ≡ interface = cc in let yet = d.1 this in cc))

-- ---- what a name means

-- the length of a list that is tested
sole : {A : Type 0} (xs : List A) → eqb (length xs) 1 ≡ true → length xs ≡ 1
sole xs is = (Decides-eqb (length xs) 1).0 is

alone : {A : Type 0} (xs : List A) → length xs ≡ 1 → eqb (length xs) 1 ≡ true
alone xs is = (Decides-eqb (length xs) 1).1 is

-- one text
same_text : (xs ys : List ℕ) → bytes_eq xs ys ≡ true → xs ≡ ys
same_text xs ys is = (bytes_eq-Decides xs ys).0 is

text_same : (xs ys : List ℕ) → xs ≡ ys → bytes_eq xs ys ≡ true
text_same xs ys is = (bytes_eq-Decides xs ys).1 is

either_true : (a b : Bool) → (a || b) ≡ true → (a ≡ true) ⊎ (b ≡ true)
either_true true b is = inl refl
either_true false b is = inr is

both_true : (a b : Bool) → (a && b) ≡ true → (a ≡ true) × (b ≡ true)
both_true true b is = (refl, is)
both_true false b is = absurd (false≢true is)

-- the interface of this number is meant where the test says so
pub means : (instance name : List ℕ) (interfaces : List (Option (List ℕ))) (f : ℕ) (own : Option (List ℕ)) → slice_get interfaces f ≡ Some own
    → is_meant name instance (eqb (length interfaces) 1) own ≡ true → Means instance interfaces name f
unfolding is_meant
means instance name interfaces f None there is = subst (λ n. Means instance interfaces n f) (sym (same_text name instance is)) (without_name f there)
means instance name interfaces f (Some interface) there is = by (either_true (eqb (length interfaces) 1 && bytes_eq name instance) (bytes_eq name (instance ++ (46 ∷ interface))) is) where
  only : (eqb (length interfaces) 1 ≡ true) × (bytes_eq name instance ≡ true) → Means instance interfaces name f
  only (one, same) =
      let few : length interfaces ≡ 1 = sole interfaces one in
      let within = slice_get_within interfaces f (Some interface) there in
      let first : 0 ≡ f = omega arith in
      subst (λ n. Means instance interfaces n f) (sym (same_text name instance same)) (subst (λ k. Means instance interfaces instance k) first (only_one few))

  by : ((eqb (length interfaces) 1 && bytes_eq name instance) ≡ true) ⊎ (bytes_eq name (instance ++ (46 ∷ interface)) ≡ true) → Means instance interfaces name f
  by (inl alike) = only (both_true (eqb (length interfaces) 1) (bytes_eq name instance) alike)
  by (inr dotted) = subst (λ n. Means instance interfaces n f) (sym (same_text name (instance ++ (46 ∷ interface)) dotted)) (by_name f interface there)

-- and the other way round
when_sole : (a b c : Bool) → a ≡ true → b ≡ true → ((a && b) || c) ≡ true
when_sole a b c e f = rw (e, f) refl

when_dotted : (a b : Bool) → b ≡ true → (a || b) ≡ true
when_dotted true b e = refl
when_dotted false b e = e

pub meant : (instance name : List ℕ) (interfaces : List (Option (List ℕ))) (f : ℕ) (own : Option (List ℕ)) → slice_get interfaces f ≡ Some own
    → Means instance interfaces name f → is_meant name instance (eqb (length interfaces) 1) own ≡ true
unfolding is_meant
meant instance name interfaces f None there (by_name _ interface is) = let e : Some None ≡ Some (Some interface) = sym there ∙ is in cc
meant instance name interfaces f None there (without_name _ is) = text_same instance instance refl
meant instance name interfaces f None there (only_one one) = text_same instance instance refl
meant instance name interfaces f (Some own) there (by_name _ interface is) =
    let e : Some (Some own) ≡ Some (Some interface) = sym there ∙ is in
    let same : interface ≡ own = cc in
    when_dotted _ _ (text_same (instance ++ (46 ∷ interface)) (instance ++ (46 ∷ own)) (ap (λ i. instance ++ (46 ∷ i)) same))
meant instance name interfaces f (Some own) there (without_name _ is) = let e : Some (Some own) ≡ Some None = sym there ∙ is in cc
meant instance name interfaces f (Some own) there (only_one one) = when_sole _ _ _ (alone interfaces one) (text_same instance instance refl)
