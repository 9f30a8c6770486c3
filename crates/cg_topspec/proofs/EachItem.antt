-- What holds of each item of lists that are put together.
use Rattle.std.proofs.Common.{List, [], flat_map, inl, inr, map, refl, reverse, subst, sym, ◌++◌, ◌∷◌}
use Rattle.std.proofs.lemmas.List.{reverse-append}
use Rattle.cg_svspec.proofs.Parts.{all_join}
use Rattle.cg_svspec.specs.Names.{Among}
use Rattle.cg_svspec.specs.Printable.{AllOf, IsSomeOf}

pub each_flat : {A B : Type 0} (P : B → Type 0) (f : A → List B) (xs : List A) → ((x : A) → Among x xs → AllOf P (f x)) → AllOf P (flat_map f xs)
each_flat P f [] h = tt
each_flat P f (x ∷ xs) h = all_join P (f x) (flat_map f xs) (h x (inl refl)) (each_flat P f xs (λ y a. h y (inr a)))

pub each_mapped : {A B : Type 0} (P : B → Type 0) (f : A → B) (xs : List A) → ((x : A) → Among x xs → P (f x)) → AllOf P (map f xs)
each_mapped P f [] h = tt
each_mapped P f (x ∷ xs) h = (h x (inl refl), each_mapped P f xs (λ y a. h y (inr a)))

pub each_item : {A : Type 0} (P : A → Type 0) (xs : List A) → AllOf P xs → (x : A) → Among x xs → P x
each_item P [] all x a = absurd a
each_item P (y ∷ xs) all x (inl e) = subst P (sym e) all.0
each_item P (y ∷ xs) all x (inr a) = each_item P xs all.1 x a

pub each_reversed : {A : Type 0} (P : A → Type 0) (xs : List A) → AllOf P xs → AllOf P (reverse xs)
each_reversed P [] all = tt
each_reversed P (x ∷ xs) all = subst (AllOf P) (sym (reverse-append (x ∷ []) xs)) (all_join P (reverse xs) (x ∷ []) (each_reversed P xs all.1) (all.0, tt))

-- a list is not empty where its last part is not, or its first
pub some_back : {A : Type 0} (xs ys : List A) → IsSomeOf ys → IsSomeOf (xs ++ ys)
some_back [] ys some = some
some_back (x ∷ xs) ys some = tt

pub some_front : {A : Type 0} (xs ys : List A) → IsSomeOf xs → IsSomeOf (xs ++ ys)
some_front [] ys some = absurd some
some_front (x ∷ xs) ys some = tt

pub some_item : {A : Type 0} (xs : List A) (x : A) → Among x xs → IsSomeOf xs
some_item [] x a = absurd a
some_item (y ∷ xs) x a = tt
