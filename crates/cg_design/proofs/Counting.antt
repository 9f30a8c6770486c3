-- How many bytes files have together, counted file by file.
use Rattle.std.proofs.Common.{◌≡◌, ℕ, ◌+◌, ◌≤◌, List, length, take, Option, Some, subst, arith}
use Rattle.std.specs.List.{slice_get}
use Rattle.std.proofs.lemmas.List.{take_all}
use Rattle.cg_design.specs.Files.{size_of}
use Rattle.cg_design.specs.Inner.Reading.{IsCountOf, sizes}
use Rattle.cg_design.proofs.Rows.{sizes_next}

module _ (gs : List (Option (List ℕ))) (exact : ℕ) where
  -- no file is counted
  pub count_none : (counted : ℕ) → IsCountOf counted exact → IsCountOf counted (exact + sizes (take 0 gs))
  count_none counted count = let e : exact ≡ exact + 0 = omega arith in subst (IsCountOf counted) e count

  -- one more
  pub count_next : (i : ℕ) (g : Option (List ℕ)) (counted new : ℕ) → slice_get gs i ≡ Some g → IsCountOf counted (exact + sizes (take i gs))
      → ((e : ℕ) → IsCountOf counted e → IsCountOf new (e + size_of g)) → IsCountOf new (exact + sizes (take (i + 1) gs))
  count_next i g counted new is count step =
      let next = sizes_next gs i g is in
      let e : (exact + sizes (take i gs)) + size_of g ≡ exact + sizes (take (i + 1) gs) = omega arith in
      subst (IsCountOf new) e (step (exact + sizes (take i gs)) count)

  -- and all
  pub count_all : (i counted : ℕ) → length gs ≤ i → IsCountOf counted (exact + sizes (take i gs)) → IsCountOf counted (exact + sizes gs)
  count_all i counted most count = subst (λ hs. IsCountOf counted (exact + sizes hs)) (take_all i gs most) count
