-- Files as they are given, by their numbers, and lists in two parts.
use Rattle.std.proofs.Common.{◌≡◌, ◌⊎◌, ℕ, zero, suc, ◌+◌, ◌<◌, ◌≤◌, List, [], ◌∷◌, ◌++◌, length, get_or, map, option_map, take, Bor, Option, Some, None, inl, inr, refl, ap, ◌∙◌, arith}
use Rattle.std.specs.List.{slice_get}
use Rattle.std.proofs.lemmas.List.{length-map}
use Rattle.std.proofs.lemmas.Option.{slice_get-get_or}
use Rattle.cg_svspec.specs.Printable.{AllOf}
use Rattle.cg_desc.proofs.Numbered.{image_at}
use Rattle.cg_design.specs.Files.{FileIs, files_from, given_file, size_of}
use Rattle.cg_design.specs.Inner.Reading.{sizes}

-- ---- lists

-- an item of the front, and one behind it
pub at_left : {X : Type 0} (xs ys : List X) (i : ℕ) → i < length xs → slice_get (xs ++ ys) i ≡ slice_get xs i
at_left [] ys i less = absurd (omega arith)
at_left (x ∷ xs) ys zero less = refl
at_left (x ∷ xs) ys (suc i) less = at_left xs ys i (omega arith)

pub at_right : {X : Type 0} (xs ys : List X) (i : ℕ) → slice_get (xs ++ ys) (length xs + i) ≡ slice_get ys i
at_right [] ys i = let e : 0 + i ≡ i = omega arith in ap (slice_get ys) e
at_right (x ∷ xs) ys i = let e : suc (length xs) + i ≡ suc (length xs + i) = omega arith in ap (slice_get (x ∷ (xs ++ ys))) e ∙ at_right xs ys i

-- behind one item
pub at_behind : {X : Type 0} (x : X) (xs : List X) (i : ℕ) → slice_get (x ∷ xs) (1 + i) ≡ slice_get xs i
at_behind x xs i = let e : 1 + i ≡ suc i = omega arith in ap (slice_get (x ∷ xs)) e

-- an item of a list with one more
pub one_more : {X : Type 0} (xs : List X) (x y : X) (i : ℕ) → slice_get (xs ++ (x ∷ [])) i ≡ Some y → (slice_get xs i ≡ Some y) ⊎ ((i ≡ length xs) × (x ≡ y))
one_more [] x y zero is = let same : x ≡ y = cc in inr (refl, same)
one_more [] x y (suc i) is = cc
one_more (z ∷ xs) x y zero is = inl is
one_more (z ∷ xs) x y (suc i) is = elim (one_more xs x y i is) [ inl there ↦ inl there | inr last ↦ inr (ap suc last.0, last.1) ]

-- all are so where each is
pub all_from : {X : Type 0} (P : X → Type 0) (xs : List X) → ((i : ℕ) (x : X) → slice_get xs i ≡ Some x → P x) → AllOf P xs
all_from P [] each = tt
all_from P (x ∷ xs) each = (each 0 x refl, all_from P xs (λ i y. each (suc i) y))

-- ---- files

pub count_files : (number before : ℕ) (gs : List (Option (List ℕ))) → length (files_from number before gs) ≡ length gs
count_files number before [] = refl
count_files number before (g ∷ gs) = ap suc (count_files (suc number) (before + size_of g) gs)

-- the file of a number, behind those before it
pub file_at : (number before : ℕ) (gs : List (Option (List ℕ))) (i : ℕ) (g : Option (List ℕ)) → slice_get gs i ≡ Some g
    → FileIs (files_from number before gs) i (given_file (number + i) (before + sizes (take i gs)) g)
file_at number before [] i g is = cc
file_at number before (x ∷ gs) zero g is =
    let same : x ≡ g = cc in
    let n : number ≡ number + 0 = omega arith in
    let b : before ≡ before + 0 = omega arith in
    (λ j. Some (given_file (n j) (b j) (same j)))
file_at number before (x ∷ gs) (suc i) g is =
    let n : suc number + i ≡ number + suc i = omega arith in
    let b : (before + size_of x) + sizes (take i gs) ≡ before + (size_of x + sizes (take i gs)) = omega arith in
    file_at (suc number) (before + size_of x) gs i g is ∙ (λ j. Some (given_file (n j) (b j) g))

-- files in two parts
pub files_append : (number before : ℕ) (gs hs : List (Option (List ℕ)))
    → files_from number before (gs ++ hs) ≡ files_from number before gs ++ files_from (number + length gs) (before + sizes gs) hs
files_append number before [] hs =
    let n : number ≡ number + 0 = omega arith in
    let b : before ≡ before + 0 = omega arith in
    (λ j. files_from (n j) (b j) hs)
files_append number before (g ∷ gs) hs =
    let n : suc number + length gs ≡ number + suc (length gs) = omega arith in
    let b : (before + size_of g) + sizes gs ≡ before + (size_of g + sizes gs) = omega arith in
    ap (λ fs. given_file number before g ∷ fs)
    (files_append (suc number) (before + size_of g) gs hs ∙ (λ j. files_from (suc number) (before + size_of g) gs ++ files_from (n j) (b j) hs))

-- one more file's bytes
pub sizes_next : (gs : List (Option (List ℕ))) (i : ℕ) (g : Option (List ℕ)) → slice_get gs i ≡ Some g → sizes (take (i + 1) gs) ≡ sizes (take i gs) + size_of g
sizes_next gs i g is = let e : i + 1 ≡ suc i = omega arith in ap (λ k. sizes (take k gs)) e ∙ by gs i is where
  by : (hs : List (Option (List ℕ))) (k : ℕ) → slice_get hs k ≡ Some g → sizes (take (suc k) hs) ≡ sizes (take k hs) + size_of g
  by [] k at = cc
  by (x ∷ hs) zero at = let same : x ≡ g = cc in let e : size_of x ≡ size_of g = ap size_of same in omega arith
  by (x ∷ hs) (suc k) at = let e = by hs k at in omega arith

-- what there is of a file, by its number
pub given_at : (gs : List (Option (Bor (List ℕ)))) (i : ℕ) → i < length gs → slice_get (map (option_map (λ b. b.now)) gs) i ≡ Some (option_map (λ b. b.now) (get_or gs i None))
given_at gs i less = image_at (option_map (λ (b : Bor (List ℕ)). b.now)) gs i (get_or gs i None) (slice_get-get_or gs i None less)

-- there are no more than that many
pub count_given : (gs : List (Option (Bor (List ℕ)))) (n : ℕ) → length gs ≤ n → length (map (option_map (λ (b : Bor (List ℕ)). b.now)) gs) ≤ n
count_given gs n most = let e = length-map gs (option_map (λ (b : Bor (List ℕ)). b.now)) in omega arith
