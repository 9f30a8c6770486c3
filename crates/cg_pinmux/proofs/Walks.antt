-- What a walk over items tells, item by item.
use Rattle.std.proofs.Common.{◌≡◌, ◌+◌, ◌≤◌, ℕ, List, length, Option, Some, None, subst, arith}
use Rattle.std.specs.List.{slice_get}
use Rattle.std.proofs.lemmas.Option.{slice_get_within}
use Rattle.cg_finding.specs.Finding.{Finding, earlier}
use Rattle.cg_finding.specs.Told.{TellsFirst}
use Rattle.cg_finding.proofs.Told.{BrokenBelow, tells_all, tells_as, tells_next, tells_start}
use Rattle.cg_desc.proofs.Numbered.{same_item}

-- the item of this number breaks it
abbrev pub BreaksAt : {X : Type 0} → (ℕ → X → Finding → Type 0) → List X → ℕ → Finding → Type 0
BreaksAt {X} B xs i f = (x : X) × (slice_get xs i ≡ Some x) × B i x f

-- what the items below n break
abbrev pub Walked : {X : Type 0} → (ℕ → X → Finding → Type 0) → List X → Option Finding → ℕ → Type 0
Walked B xs told n = TellsFirst told (BrokenBelow (BreaksAt B xs) n)

pub walk_start : {X : Type 0} (B : ℕ → X → Finding → Type 0) (xs : List X) → Walked B xs None 0
walk_start B xs = tells_start

-- one more item
pub walk_next : {X : Type 0} (B : ℕ → X → Finding → Type 0) (xs : List X) (n : ℕ) (x : X) (told now new : Option Finding) → slice_get xs n ≡ Some x → Walked B xs told n
    → TellsFirst now (B n x) → new ≡ earlier told now → Walked B xs new (n + 1)
walk_next B xs n x told now new there walked here so =
    tells_next n walked
    (tells_as here (λ f broken. (x, there, broken)) (λ f broken. subst (λ y. B n y f) (same_item xs n broken.0 x broken.1 there) broken.2)) so

-- all of them
pub walk_end : {X : Type 0} (B : ℕ → X → Finding → Type 0) (xs : List X) (told : Option Finding) (n : ℕ) → length xs ≤ n → Walked B xs told n
    → TellsFirst told (λ f. (i : ℕ) × BreaksAt B xs i f)
walk_end B xs told n most walked =
    tells_all n walked (λ f i broken. (i, broken))
    (λ f broken. let within = slice_get_within xs broken.0 broken.1.0 broken.1.1 in (broken.0, omega arith, broken.1))
