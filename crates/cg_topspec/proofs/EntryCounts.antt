-- How often a name is a plain wire, assigned, driven by an instance, or an output, in lists that are put together.
use Rattle.std.proofs.Common.{Bool, List, [], ap, arith, cond, false, flat_map, inl, inr, map, refl, true, ℕ, ◌++◌, ◌+◌, ◌∙◌, ◌∷◌, ◌≡◌}
use Rattle.cg_svspec.proofs.WellCounts.{assigned_of, count, count-append, plain_of}
use Rattle.cg_svspec.specs.Names.{Among}
use Rattle.cg_svspec.specs.Register.{input_port}
use Rattle.cg_svspec.specs.Tree.{Connection, Entry, Parameter, Port, assign, drive, inst, wire}
use Rattle.cg_svspec.specs.WellFormed.{driven_by_connections, instance_driven, outputs_of}
use Rattle.cg_topspec.proofs.Driving.{at, gives}
use Rattle.cg_topspec.proofs.Totals.{total}

abbrev pub plains : List ℕ → List Entry → ℕ
plains n es = count n (plain_of es)

abbrev pub assigns : List ℕ → List Entry → ℕ
assigns n es = count n (assigned_of es)

abbrev pub driven : List ℕ → List (List ℕ) → List Entry → ℕ
driven n inputs es = count n (instance_driven inputs es)

abbrev pub outputs : List ℕ → List Port → ℕ
outputs n ps = count n (outputs_of ps)

-- ---- lists put together

pub plains_join : (n : List ℕ) (xs ys : List Entry) → plains n (xs ++ ys) ≡ plains n xs + plains n ys
plains_join n [] ys = omega arith
plains_join n (wire w k ∷ xs) ys = omega (arith, plains_join n xs ys)
plains_join n (drive w k x ∷ xs) ys = plains_join n xs ys
plains_join n (assign k x ∷ xs) ys = plains_join n xs ys
plains_join n (inst p ps k cs ∷ xs) ys = plains_join n xs ys

pub assigns_join : (n : List ℕ) (xs ys : List Entry) → assigns n (xs ++ ys) ≡ assigns n xs + assigns n ys
assigns_join n [] ys = omega arith
assigns_join n (wire w k ∷ xs) ys = assigns_join n xs ys
assigns_join n (drive w k x ∷ xs) ys = assigns_join n xs ys
assigns_join n (assign k x ∷ xs) ys = omega (arith, assigns_join n xs ys)
assigns_join n (inst p ps k cs ∷ xs) ys = assigns_join n xs ys

pub driven_join : (n : List ℕ) (inputs : List (List ℕ)) (xs ys : List Entry) → driven n inputs (xs ++ ys) ≡ driven n inputs xs + driven n inputs ys
driven_join n inputs [] ys = omega arith
driven_join n inputs (wire w k ∷ xs) ys = driven_join n inputs xs ys
driven_join n inputs (drive w k x ∷ xs) ys = driven_join n inputs xs ys
driven_join n inputs (assign k x ∷ xs) ys = driven_join n inputs xs ys
driven_join n inputs (inst p ps k cs ∷ xs) ys =
    omega (
      arith,
      driven_join n inputs xs ys,
      count-append n (driven_by_connections inputs p cs) (instance_driven inputs (xs ++ ys)),
      count-append n
          (driven_by_connections inputs p cs) (instance_driven inputs xs),
    )

outputs_append : (ps qs : List Port) → outputs_of (ps ++ qs) ≡ outputs_of ps ++ outputs_of qs
outputs_append [] qs = refl
outputs_append (p ∷ ps) qs = by p.input (outputs_append ps qs) where
  by : (b : Bool) → outputs_of (ps ++ qs) ≡ outputs_of ps ++ outputs_of qs
      → cond b (outputs_of (ps ++ qs)) (p.name ∷ outputs_of (ps ++ qs)) ≡ cond b (outputs_of ps) (p.name ∷ outputs_of ps) ++ outputs_of qs
  by true e = e
  by false e = ap (λ z. p.name ∷ z) e

pub outputs_join : (n : List ℕ) (ps qs : List Port) → outputs n (ps ++ qs) ≡ outputs n ps + outputs n qs
outputs_join n ps qs = ap (count n) (outputs_append ps qs) ∙ count-append n (outputs_of ps) (outputs_of qs)

pub plains_flat : {A : Type 0} (n : List ℕ) (f : A → List Entry) (xs : List A) → plains n (flat_map f xs) ≡ total (λ x. plains n (f x)) xs
plains_flat n f [] = refl
plains_flat n f (x ∷ xs) = omega (arith, plains_join n (f x) (flat_map f xs), plains_flat n f xs)

pub outputs_flat : {A : Type 0} (n : List ℕ) (f : A → List Port) (xs : List A) → outputs n (flat_map f xs) ≡ total (λ x. outputs n (f x)) xs
outputs_flat n f [] = refl
outputs_flat n f (x ∷ xs) = omega (arith, outputs_join n (f x) (flat_map f xs), outputs_flat n f xs)

-- ---- entries that count for nothing

pub plains_none : (n : List ℕ) (es : List Entry) → ((e : Entry) → Among e es → plains n (e ∷ []) ≡ 0) → plains n es ≡ 0
plains_none n [] zero_each = refl
plains_none n (e ∷ es) zero_each = omega (arith, plains_join n (e ∷ []) es, zero_each e (inl refl), plains_none n es (λ f a. zero_each f (inr a)))

pub assigns_none : (n : List ℕ) (es : List Entry) → ((e : Entry) → Among e es → assigns n (e ∷ []) ≡ 0) → assigns n es ≡ 0
assigns_none n [] zero_each = refl
assigns_none n (e ∷ es) zero_each = omega (arith, assigns_join n (e ∷ []) es, zero_each e (inl refl), assigns_none n es (λ f a. zero_each f (inr a)))

pub driven_none : (n : List ℕ) (inputs : List (List ℕ)) (es : List Entry) → ((e : Entry) → Among e es → driven n inputs (e ∷ []) ≡ 0) → driven n inputs es ≡ 0
driven_none n inputs [] zero_each = refl
driven_none n inputs (e ∷ es) zero_each =
    omega (arith, driven_join n inputs (e ∷ []) es, zero_each e (inl refl), driven_none n inputs es (λ f a. zero_each f (inr a)))

-- ---- lists of one kind

pub plains_map : {A : Type 0} (n : List ℕ) (width : A → ℕ) (name : A → List ℕ) (xs : List A)
    → plains n (map (λ x. wire (width x) (name x)) xs) ≡ total (λ x. at n (name x)) xs
plains_map n width name [] = refl
plains_map n width name (x ∷ xs) = ap (λ k. at n (name x) + k) (plains_map n width name xs)

pub driven_map : {A : Type 0} (n : List ℕ) (inputs : List (List ℕ)) (part : A → List ℕ) (ps : A → List Parameter) (name : A → List ℕ) (cs : A
    → List Connection) (xs : List A)
    → driven n inputs (map (λ x. inst (part x) (ps x) (name x) (cs x)) xs) ≡ total (λ x. gives n inputs (part x) (cs x)) xs
driven_map n inputs part ps name cs [] = refl
driven_map n inputs part ps name cs (x ∷ xs) =
    count-append n (driven_by_connections inputs (part x) (cs x)) (instance_driven inputs (map (λ x. inst (part x) (ps x) (name x) (cs x)) xs))
    ∙ ap (λ k. gives n inputs (part x) (cs x) + k) (driven_map n inputs part ps name cs xs)

pub inputs_are_no_outputs : {A : Type 0} (n : List ℕ) (name : A → List ℕ) (xs : List A) → outputs n (map (λ x. input_port 1 (name x)) xs) ≡ 0
inputs_are_no_outputs n name [] = refl
inputs_are_no_outputs n name (x ∷ xs) = inputs_are_no_outputs n name xs
