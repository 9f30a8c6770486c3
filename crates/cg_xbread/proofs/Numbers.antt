-- Nodes by their numbers, in lists in which no name stands twice.
use Rattle.std.proofs.Common.{◌≡◌, ℕ, zero, suc, ◌+◌, ◌<◌, Bool, true, false, not, cond, List, [], ◌∷◌, ◌++◌, map, length, Some, None, inl, inr, refl, sym, ap, subst, ◌∙◌, arith}
use Rattle.std.specs.Prelude.{position, slice_get, unwrap_or}
use Rattle.std.specs.List.{position_or_len}
use Rattle.std.specs.Str.{bytes_eq}
use Rattle.std.proofs.lemmas.Bool.{false≢true, lt-ltb}
use Rattle.std.proofs.lemmas.Slice.Eq.{bytes_eq-Decides}
use Rattle.cg_finding.specs.Finding.{Among}
use Rattle.cg_xbread.specs.Described.{number_of}
use Rattle.cg_xbread.specs.declared.written.WrittenNode.{WrittenNode}

-- ---- items by their numbers

-- the item stands in the list at this number
abbrev pub At : {X : Type 0} → List X → ℕ → X → Type 0
At xs i x = slice_get xs i ≡ Some x

pub at_among : {X : Type 0} (xs : List X) (i : ℕ) (x : X) → At xs i x → Among x xs
at_among [] i x at = cc
at_among (y ∷ ys) zero x at = let is : y ≡ x = cc in inl (sym is)
at_among (y ∷ ys) (suc i) x at = inr (at_among ys i x at)

pub among_at : {X : Type 0} (xs : List X) (x : X) → Among x xs → (i : ℕ) × At xs i x
among_at [] x among = absurd among
among_at (y ∷ ys) x (inl is) = (0, ap Some (sym is))
among_at (y ∷ ys) x (inr among) = let rest = among_at ys x among in (suc rest.0, rest.1)

-- what stands in a mapped list
pub record Mapped {X Y : Type 0} (view : X → Y) (xs : List X) (i : ℕ) (y : Y) : Type 0 where
  pub source : X
  pub there : At xs i source
  pub is : y ≡ view source

pub at_map : {X Y : Type 0} (view : X → Y) (xs : List X) (i : ℕ) (y : Y) → At (map view xs) i y → Mapped view xs i y
at_map view [] i y at = cc
at_map view (x ∷ xs) zero y at = let is : view x ≡ y = cc in record { source = x; there = refl; is = sym is }
at_map view (x ∷ xs) (suc i) y at = let rest = at_map view xs i y at in record { source = rest.source; there = rest.there; is = rest.is }

pub map_at : {X Y : Type 0} (view : X → Y) (xs : List X) (i : ℕ) (x : X) → At xs i x → At (map view xs) i (view x)
map_at view [] i x at = cc
map_at view (y ∷ ys) zero x at = let is : y ≡ x = cc in ap (λ z. Some (view z)) is
map_at view (y ∷ ys) (suc i) x at = map_at view ys i x at

pub same_at : {X : Type 0} (xs : List X) (i : ℕ) (x y : X) → At xs i x → At xs i y → x ≡ y
same_at xs i x y a b = cc

-- two items, the first before the second
pub record Apart {X : Type 0} (xs : List X) (x y : X) : Type 0 where
  pub before : List X
  pub after : List X
  pub splits : xs ≡ before ++ (y ∷ after)
  pub earlier : Among x before

pub apart : {X : Type 0} (xs : List X) (i j : ℕ) (x y : X) → At xs i x → At xs j y → i < j → Apart xs x y
apart [] i j x y a b lt = cc
apart (z ∷ zs) i zero x y a b lt = absurd (omega arith)
apart (z ∷ zs) zero (suc j) x y a b lt =
    let is : z ≡ x = cc in
    let cut = front zs j y b in
    record { before = z ∷ cut.0; after = cut.1; splits = ap (λ l. z ∷ l) cut.2; earlier = inl (sym is) }
  where
    front : {X : Type 0} (xs : List X) (j : ℕ) (y : X) → At xs j y → (before : List X) × (after : List X) × (xs ≡ before ++ (y ∷ after))
    front [] j y b = cc
    front (x ∷ xs) zero y b = let is : x ≡ y = cc in ([], xs, ap (λ z. z ∷ xs) is)
    front (x ∷ xs) (suc j) y b = let rest = front xs j y b in (x ∷ rest.0, rest.1, ap (λ l. x ∷ l) rest.2)
apart (z ∷ zs) (suc i) (suc j) x y a b lt =
    let rest = apart zs i j x y a b (omega arith) in
    record { before = z ∷ rest.before; after = rest.after; splits = ap (λ l. z ∷ l) rest.splits; earlier = inr rest.earlier }

-- ---- the first that passes a test

pub record FirstPlace {X : Type 0} (p : X → Bool) (xs : List X) : Type 0 where
  pub item : X
  pub at : At xs (position_or_len p xs) item
  pub passes : p item ≡ true
  pub within : position_or_len p xs < length xs

pub first_place : {X : Type 0} (p : X → Bool) (xs : List X) (x : X) → Among x xs → p x ≡ true → FirstPlace p xs
first_place p [] x among passes = absurd among
first_place {X} p (y ∷ ys) x among passes = by (p y) refl (λ h. first_place p ys x h passes) among
  where
    by : (b : Bool) → p y ≡ b → (Among x ys → FirstPlace p ys) → Among x (y ∷ ys) → FirstPlace p (y ∷ ys)
    by true is rest among =
        let here : position_or_len p (y ∷ ys) ≡ 0 = ap (λ b. cond (not b) (1 + position_or_len p ys) 0) is in
        record { item = y; at = ap (slice_get (y ∷ ys)) here; passes = is; within = omega (arith, here) }
    by false is rest (inl same) = absurd (false≢true (sym is ∙ subst (λ z. p z ≡ true) same passes))
    by false is rest (inr among) =
        let later = rest among in
        let here : position_or_len p (y ∷ ys) ≡ suc (position_or_len p ys) = ap (λ b. cond (not b) (1 + position_or_len p ys) 0) is ∙ omega arith in
        record { item = later.item; at = ap (slice_get (y ∷ ys)) here ∙ later.at; passes = later.passes; within = omega (arith, here, later.within) }

-- the node that the number of a name is of
pub record Numbered (nodes : List WrittenNode) (name : List ℕ) : Type 0 where
  pub node : WrittenNode
  pub at : At nodes (number_of nodes name) node
  pub named : node.name ≡ name

pub numbered : (nodes : List WrittenNode) (name : List ℕ) (node : WrittenNode) → Among node nodes → node.name ≡ name → Numbered nodes name
unfolding number_of
numbered nodes name node among named =
    let first = first_place (λ n. bytes_eq n.name name) nodes node among ((bytes_eq-Decides node.name name).1 named) in
    let is : unwrap_or (position (λ n. bytes_eq n.name name) nodes) 0 ≡ position_or_len (λ n. bytes_eq n.name name) nodes =
    ap (λ b. unwrap_or (cond b (Some (position_or_len (λ n. bytes_eq n.name name) nodes)) None) 0) (lt-ltb (position_or_len (λ n. bytes_eq n.name name) nodes) (length nodes) first.within) in
    record { node = first.item; at = ap (slice_get nodes) is ∙ first.at; named = (bytes_eq-Decides first.item.name name).0 first.passes }
