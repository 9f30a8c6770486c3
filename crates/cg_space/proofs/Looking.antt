-- Looking an address up in rows.
use Rattle.std.proofs.Common.{◌≡◌, ◌≢◌, ℕ, zero, suc, ◌+◌, ◌<◌, ◌≤◌, ◌⊎◌, inl, inr, List, [], ◌∷◌, Some, length, slice_get, refl, sym, subst, arith}
use Rattle.std.proofs.lemmas.Option.{slice_get_within}
use Rattle.cg_svspec.specs.Names.{Among}
use Rattle.cg_desc.specs.declared.address.Place.{Place}
use Rattle.cg_desc.specs.declared.address.Place.TheVariants.{Reg, Word, Outside, Error}
use Rattle.cg_space.specs.Rows.{RowHolds, with_index}
use Rattle.cg_space.specs.declared.row.HostId.{HostId}
use Rattle.cg_space.specs.declared.row.Row.{Row}

-- what stands in a list stands at a place
pub among_at : {X : Type 0} (xs : List X) (x : X) → Among x xs → (i : ℕ) × (slice_get xs i ≡ Some x)
among_at [] x among = absurd among
among_at (y ∷ ys) x (inl is) = (0, rw is refl)
among_at (y ∷ ys) x (inr among) = let rest = among_at ys x among in (suc rest.0, rest.1)

pub at_among : {X : Type 0} (xs : List X) (i : ℕ) (x : X) → slice_get xs i ≡ Some x → Among x xs
at_among [] i x is = absurd cc
at_among (y ∷ ys) zero x is = let e : y ≡ x = cc in inl (sym e)
at_among (y ∷ ys) (suc i) x is = inr (at_among ys i x is)

-- a number below the next is this one or below
pub below_next : (j k : ℕ) → j < k + 1 → (j < k) ⊎ (j ≡ k)
below_next zero zero h = inr refl
below_next zero (suc k) h = inl (omega arith)
below_next (suc j) zero h = absurd (omega (arith, h))
below_next (suc j) (suc k) h = elim (below_next j k (omega (arith, h))) [ inl less ↦ inl (omega (arith, less)) | inr same ↦ inr (omega (arith, same)) ]

-- none of the first rows holds the address
abbrev pub NoneBefore : List Row → HostId → ℕ → ℕ → Type 0
NoneBefore rows host address k = (j : ℕ) (row : Row) → j < k → slice_get rows j ≡ Some row → ¬ RowHolds row host address

pub none_more : (rows : List Row) (host : HostId) (address k : ℕ) (row : Row) → slice_get rows k ≡ Some row → ¬ RowHolds row host address
    → NoneBefore rows host address k → NoneBefore rows host address (k + 1)
none_more rows host address k row is not none j other less at = elim (below_next j k less) [
  | inl below ↦ none j other below at
  | inr same ↦ let e : row ≡ other = cc in λ holds. not (subst (λ (r : Row). RowHolds r host address) (sym e) holds)
]

pub none_at_all : (rows : List Row) (host : HostId) (address k : ℕ) → length rows ≤ k → NoneBefore rows host address k → (row : Row) → Among row rows → ¬ RowHolds row host address
none_at_all rows host address k all none row among =
    let at = among_at rows row among in none at.0 row (omega (arith, all, slice_get_within rows at.0 row at.1)) at.1

pub not_error : (place : Place) (index : ℕ) → place ≢ Error → with_index place index ≢ Error
not_error (Reg i f r) index some e = some e
not_error (Word i f r old) index some e = cc
not_error (Outside z d) index some e = some e
not_error Error index some e = some e
