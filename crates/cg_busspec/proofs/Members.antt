-- Members of lists that are made number by number, and of entries.
use Rattle.std.proofs.Common.{◌≡◌, ℕ, suc, ◌≤◌, eqb, leb, Bool, true, false, cond, arith, ◌⊎◌, inl, inr, List, [], ◌∷◌, ◌++◌, map, length, refl, ap, sym, subst, ◌∙◌}
use Rattle.std.specs.Prelude.{flat_map, filter}
use Rattle.cg_svspec.specs.Names.{Among, Differ, entry_names}
use Rattle.cg_svspec.specs.Printable.{AllOf}
use Rattle.cg_svspec.specs.Tree.{Parameter, Connection, Entry, wire, drive, assign, inst}
use Rattle.cg_svspec.specs.Value.{Values, Holds, AllHold}
use Rattle.cg_svspec.proofs.Parts.{all_join}
use Rattle.cg_busspec.specs.CrossbarModule.{entries_if}
use Rattle.cg_busspec.proofs.Good.{Once}
use Rattle.cg_busspec.proofs.Places.{in_filter}

-- ---- facts of all members

-- of a list that is made number by number
pub all_flat : {A : Type 0} (P : A → Type 0) (f : ℕ → List A) (is : List ℕ) → ((i : ℕ) → Among i is → AllOf P (f i)) → AllOf P (flat_map f is)
all_flat P f [] all = tt
all_flat P f (i ∷ is) all = all_join P (f i) (flat_map f is) (all i (inl refl)) (all_flat P f is (λ j a. all j (inr a)))

-- of entries where a test holds
pub all_if : (P : Entry → Type 0) (b : Bool) (es : List Entry) → (b ≡ true → AllOf P es) → AllOf P (entries_if b es)
all_if P true es all = all refl
all_if P false es all = tt

-- of one of them
pub one_of_all : {A : Type 0} (P : A → Type 0) (xs : List A) (x : A) → AllOf P xs → Among x xs → P x
one_of_all P [] x all a = absurd a
one_of_all P (y ∷ ys) x all (inl e) = subst P (sym e) all.0
one_of_all P (y ∷ ys) x all (inr a) = one_of_all P ys x all.1 a

-- ---- members

-- what is made of a member is a member
pub among_map : {A B : Type 0} (f : A → B) (xs : List A) (x : A) → Among x xs → Among (f x) (map f xs)
among_map f [] x a = absurd a
among_map f (y ∷ ys) x (inl e) = inl (ap f e)
among_map f (y ∷ ys) x (inr a) = inr (among_map f ys x a)

-- an entry where the test holds
pub among_if : (b : Bool) (e : Entry) → b ≡ true → Among e (entries_if b (e ∷ []))
among_if true e t = inl refl
among_if false e t = cc

-- an entry holds where all do
pub holds_at : (v state next : Values) (es : List Entry) (e : Entry) → AllHold v state next es → Among e es → Holds v state next e
holds_at v state next [] e all a = absurd a
holds_at v state next (x ∷ xs) e all (inl same) = subst (Holds v state next) (sym same) all.0
holds_at v state next (x ∷ xs) e all (inr a) = holds_at v state next xs e all.1 a

-- an instance's name is one of the entries'
instance_named : (m : List ℕ) (ps : List Parameter) (n : List ℕ) (cs : List Connection) (es : List Entry) → Among (inst m ps n cs) es → Among n (entry_names es)
instance_named m ps n cs [] a = absurd a
instance_named m ps n cs (wire w k ∷ es) (inl e) = cc
instance_named m ps n cs (wire w k ∷ es) (inr a) = inr (instance_named m ps n cs es a)
instance_named m ps n cs (drive w k x ∷ es) (inl e) = cc
instance_named m ps n cs (drive w k x ∷ es) (inr a) = inr (instance_named m ps n cs es a)
instance_named m ps n cs (assign k x ∷ es) (inl e) = cc
instance_named m ps n cs (assign k x ∷ es) (inr a) = instance_named m ps n cs es a
instance_named m ps n cs (inst p qs k ds ∷ es) (inl e) = let same : n ≡ k = cc in inl same
instance_named m ps n cs (inst p qs k ds ∷ es) (inr a) = inr (instance_named m ps n cs es a)

-- Where no name stands twice, two instances of one name are one: they have the same connections.
pub same_instance : (n : List ℕ) (m p : List ℕ) (ps qs : List Parameter) (cs ds : List Connection) (es : List Entry) → Differ (entry_names es)
    → Among (inst m ps n cs) es → Among (inst p qs n ds) es → cs ≡ ds
same_instance n m p ps qs cs ds [] d a b = absurd a
same_instance n m p ps qs cs ds (wire w k ∷ es) d (inl e) b = cc
same_instance n m p ps qs cs ds (wire w k ∷ es) d (inr a) (inl e) = cc
same_instance n m p ps qs cs ds (wire w k ∷ es) d (inr a) (inr b) = same_instance n m p ps qs cs ds es d.1 a b
same_instance n m p ps qs cs ds (drive w k x ∷ es) d (inl e) b = cc
same_instance n m p ps qs cs ds (drive w k x ∷ es) d (inr a) (inl e) = cc
same_instance n m p ps qs cs ds (drive w k x ∷ es) d (inr a) (inr b) = same_instance n m p ps qs cs ds es d.1 a b
same_instance n m p ps qs cs ds (assign k x ∷ es) d (inl e) b = cc
same_instance n m p ps qs cs ds (assign k x ∷ es) d (inr a) (inl e) = cc
same_instance n m p ps qs cs ds (assign k x ∷ es) d (inr a) (inr b) = same_instance n m p ps qs cs ds es d a b
same_instance n m p ps qs cs ds (inst o rs k us ∷ es) d (inl e) (inl s) = let both : inst m ps n cs ≡ inst p qs n ds = e ∙ sym s in cc
same_instance n m p ps qs cs ds (inst o rs k us ∷ es) d (inl e) (inr b) = let same : n ≡ k = cc in absurd (d.0 (subst (λ z. Among z (entry_names es)) same (instance_named p qs n ds es b)))
same_instance n m p ps qs cs ds (inst o rs k us ∷ es) d (inr a) (inl e) = let same : n ≡ k = cc in absurd (d.0 (subst (λ z. Among z (entry_names es)) same (instance_named m ps n cs es a)))
same_instance n m p ps qs cs ds (inst o rs k us ∷ es) d (inr a) (inr b) = same_instance n m p ps qs cs ds es d.1 a b

-- ---- two different numbers

-- the numbers that pass a test stand once, where all do
pub filter_once : (p : ℕ → Bool) (is : List ℕ) → Once is → Once (filter p is)
filter_once p [] o = tt
filter_once p (i ∷ is) o = by (p i) (filter_once p is o.1) where
  by : (b : Bool) → Once (filter p is) → Once (cond b (i ∷ filter p is) (filter p is))
  by true later = (λ a. o.0 (in_filter p is i a).0, later)
  by false later = later

-- of two numbers at least two are different
pub two_of : (is : List ℕ) → Once is → leb 2 (length is) ≡ true → (a : ℕ) × (b : ℕ) × (a ≡ b → ⊥) × Among a is × Among b is
two_of [] o t = cc
two_of (a ∷ []) o t = cc
two_of (a ∷ b ∷ is) o t = (a, b, λ e. o.0 (inl e), inl refl, inr (inl refl))

-- and back
pub two_have : (is : List ℕ) (a b : ℕ) → (a ≡ b → ⊥) → Among a is → Among b is → leb 2 (length is) ≡ true
two_have [] a b other m n = absurd m
two_have (i ∷ []) a b other (inl e) (inl s) = absurd (other (e ∙ sym s))
two_have (i ∷ []) a b other (inr m) n = absurd m
two_have (i ∷ []) a b other m (inr n) = absurd n
two_have (i ∷ j ∷ is) a b other m n = more (length is) where
  more : (k : ℕ) → leb 2 (suc (suc k)) ≡ true
  more k = grind arith
