-- Facts about each member of a list.
use Rattle.std.proofs.Common.{inl, inr, List, [], ◌∷◌, ◌++◌, sym, subst}
use Rattle.std.specs.List.{flat_map}
use Rattle.cg_svspec.specs.Printable.{AllOf}
use Rattle.cg_finding.specs.Finding.{Among}

pub all_front : {A : Type 0} (P : A → Type 0) (xs ys : List A) → AllOf P (xs ++ ys) → AllOf P xs
all_front P [] ys all = tt
all_front P (x ∷ xs) ys all = (all.0, all_front P xs ys all.1)

pub all_back : {A : Type 0} (P : A → Type 0) (xs ys : List A) → AllOf P (xs ++ ys) → AllOf P ys
all_back P [] ys all = all
all_back P (x ∷ xs) ys all = all_back P xs ys all.1

pub all_join : {A : Type 0} (P : A → Type 0) (xs ys : List A) → AllOf P xs → AllOf P ys → AllOf P (xs ++ ys)
all_join P [] ys all more = more
all_join P (x ∷ xs) ys all more = (all.0, all_join P xs ys all.1 more)

pub all_weaker : {A : Type 0} (P Q : A → Type 0) → ((x : A) → P x → Q x) → (xs : List A) → AllOf P xs → AllOf Q xs
all_weaker P Q up [] all = tt
all_weaker P Q up (x ∷ xs) all = (up x all.0, all_weaker P Q up xs all.1)

-- what holds of all holds of one of them
pub of_one : {A : Type 0} (P : A → Type 0) (xs : List A) (x : A) → Among x xs → AllOf P xs → P x
of_one P [] x among all = absurd among
of_one P (y ∷ ys) x (inl is) all = subst P (sym is) all.0
of_one P (y ∷ ys) x (inr among) all = of_one P ys x among all.1

-- what holds of all the pieces holds of the pieces of one item
pub of_pieces : {A B : Type 0} (P : B → Type 0) (g : A → List B) (xs : List A) (x : A) → Among x xs → AllOf P (flat_map g xs) → AllOf P (g x)
of_pieces P g [] x among all = absurd among
of_pieces P g (y ∷ ys) x (inl is) all = subst (λ z. AllOf P (g z)) (sym is) (all_front P (g y) (flat_map g ys) all)
of_pieces P g (y ∷ ys) x (inr among) all = of_pieces P g ys x among (all_back P (g y) (flat_map g ys) all)
