-- How many levels of objects and lists fit into a tree, and into what is open, where 64 are allowed.
use Rattle.std.proofs.Common.{◌≡◌, ℕ, zero, suc, ◌+◌, inl, inr, List, [], ◌∷◌, ◌++◌, Option, Some, None, refl, arith, length, true, false, Bool}
use Rattle.std.specs.Prelude.{ℤ, cond, codes}
use Rattle.std.specs.Str.{bytes_eq}
use Rattle.cg_docspec.specs.Place.{Place}
use Rattle.cg_docspec.specs.Tree.{Kind, Member, Members, Tree, Trees, array, boolean, integer, list_of, member_and, members, no_members, no_trees, null, object_of, string, tree, tree_and, trees}
use Rattle.cg_docspec.specs.Depth.{Opener, StandsAt, in_list, in_object, the_root}
use Rattle.cg_docspec.specs.Machine.Frame.{Frame}
use Rattle.cg_docspec.specs.Machine.Frame as frame
use Rattle.cg_docspec.specs.Machine.Numeral.{integer_value, is_number, number_kind, plain_kind, plain_tree}

-- ---- trees

-- one level less, if there is one
abbrev pub OneLess : ℕ → (ℕ → Type 0) → Type 0
OneLess zero P = ⊥
OneLess (suc n) P = P n

abbrev mutual
  -- at most n levels
  pub Low : ℕ → Tree → Type 0
  Low n (tree k at) = LowKind n k

  -- the same of what a value is
  pub LowKind : ℕ → Kind → Type 0
  LowKind n null = Unit {0}
  LowKind n (boolean b) = Unit {0}
  LowKind n (integer z) = Unit {0}
  LowKind n (string u) = Unit {0}
  LowKind n (array ts) = OneLess n (λ m. LowTrees m ts)
  LowKind n (Kind.object ms) = OneLess n (λ m. LowMembers m ms)

  -- and of each value of a list
  pub LowTrees : ℕ → Trees → Type 0
  LowTrees n no_trees = Unit {0}
  LowTrees n (tree_and t ts) = Low n t × LowTrees n ts

  -- and of each member of an object
  pub LowMembers : ℕ → Members → Type 0
  LowMembers n no_members = Unit {0}
  LowMembers n (member_and k at t ms) = Low n t × LowMembers n ms

-- of two lists joined
pub low_trees : (n : ℕ) (ts us : List Tree) → LowTrees n (trees ts) → LowTrees n (trees us) → LowTrees n (trees (ts ++ us))
low_trees n [] us a b = b
low_trees n (t ∷ ts) us a b = (a.0, low_trees n ts us a.1 b)

-- of two objects joined
pub low_members : (n : ℕ) (ms ns : List Member) → LowMembers n (members ms) → LowMembers n (members ns) → LowMembers n (members (ms ++ ns))
low_members n [] ns a b = b
low_members n (m ∷ ms) ns a b = (a.0, low_members n ms ns a.1 b)

-- of each value of a list
low_at : (n : ℕ) (ts : List Tree) (t : Tree) (us : List Tree) → LowTrees n (trees (ts ++ t ∷ us)) → Low n t
low_at n [] t us h = h.0
low_at n (x ∷ ts) t us h = low_at n ts t us h.1

-- of each member of an object
low_value : (n : ℕ) (ms : List Member) (m : Member) (ns : List Member) → LowMembers n (members (ms ++ m ∷ ns)) → Low n m.value
low_value n [] m ns h = h.0
low_value n (x ∷ ms) m ns h = low_value n ms m ns h.1

-- what stands at depth d has d - 1 levels less
stands_low : (root : Tree) (n : ℕ) {d : ℕ} {t : Tree} → Low n root → StandsAt root d t → (m : ℕ) × (m + d ≡ n + 1) × Low m t
stands_low root n h the_root = (n, refl, h)
stands_low root n h (in_list {d} {at} {t} before after s) =
    let x = stands_low root n h s in
    go x.0 x.1 x.2
  where
    go : (m : ℕ) → m + d ≡ n + 1 → Low m (list_of (before ++ t ∷ after) at) → (m : ℕ) × (m + suc d ≡ n + 1) × Low m t
    go zero e l = absurd l
    go (suc m) e l = (m, omega (arith, e), low_at m before t after l)
stands_low root n h (in_object {d} {at} {t} key key_at before after s) =
    let x = stands_low root n h s in
    go x.0 x.1 x.2
  where
    go : (m : ℕ) → m + d ≡ n + 1 → Low m (object_of (before ++ record { key = key; key_place = key_at; value = t } ∷ after) at) →
        (m : ℕ) × (m + suc d ≡ n + 1) × Low m t
    go zero e l = absurd l
    go (suc m) e l = (m, omega (arith, e), low_value m before (record { key = key; key_place = key_at; value = t }) after l)

-- a tree of 64 levels has no opener of depth 65
pub no_opener : (root : Tree) → Low 64 root → (at : Place) → Opener root 65 at → ⊥
no_opener root h at (inl o) =
    let x = stands_low root 64 h o.1 in
    go x.0 (omega (arith, x.1)) x.2
  where
    go : (m : ℕ) → m ≡ 0 → Low m (object_of o.0 at) → ⊥
    go zero e l = l
    go (suc m) e l = absurd (omega (arith, e))
no_opener root h at (inr o) =
    let x = stands_low root 64 h o.1 in
    go x.0 (omega (arith, x.1)) x.2
  where
    go : (m : ℕ) → m ≡ 0 → Low m (list_of o.0 at) → ⊥
    go zero e l = l
    go (suc m) e l = absurd (omega (arith, e))

-- what is written without brackets has no level
pub plain_low : (n : ℕ) (u : List ℕ) (at : Place) → Low n (plain_tree u at)
unfolding plain_kind
plain_low n u at = go (bytes_eq u (codes "true")) (bytes_eq u (codes "false")) (bytes_eq u (codes "null")) (is_number u) (integer_value u)
  where
    go : (a b c d : Bool) (o : Option ℤ) →
        LowKind n (cond a (boolean true) (cond b (boolean false) (cond c null (cond d (number_kind o u) (string u)))))
    go true b c d o = tt
    go false true c d o = tt
    go false false true d o = tt
    go false false false true (Some z) = tt
    go false false false true None = tt
    go false false false false o = tt

-- ---- what is open

-- `room` levels fit into what is open innermost
abbrev pub Held : ℕ → List Frame → Type 0
Held room [] = room ≡ 64
Held room (frame.in_list at ts ∷ outer) = LowTrees room (trees ts) × Held (suc room) outer
Held room (frame.in_object at ms ∷ outer) = LowMembers room (members ms) × Held (suc room) outer
Held room (frame.in_member at ms k key_at ∷ outer) = LowMembers room (members ms) × Held (suc room) outer

-- the levels that are open and those that fit are 64
pub held_length : (room : ℕ) (stack : List Frame) → Held room stack → room + length stack ≡ 64
held_length room [] h = omega (arith, h)
held_length room (frame.in_list at ts ∷ outer) h = omega (arith, held_length (suc room) outer h.1)
held_length room (frame.in_object at ms ∷ outer) h = omega (arith, held_length (suc room) outer h.1)
held_length room (frame.in_member at ms k key_at ∷ outer) h = omega (arith, held_length (suc room) outer h.1)

-- the tree that was found has 64 levels at most
abbrev pub LowFound : Option Tree → Type 0
LowFound None = Unit {0}
LowFound (Some t) = Low 64 t

-- a state in which 64 levels suffice
pub record Kept (stack : List Frame) (found : Option Tree) : Type 0 where
  pub room : ℕ
  pub held : Held room stack
  pub low : LowFound found
