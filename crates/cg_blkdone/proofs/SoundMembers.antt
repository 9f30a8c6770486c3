-- The first members of each key are what stands at the keys.
use Rattle.std.proofs.Common.{◌≡◌, ℕ, Bool, true, false, ◌&&◌, ◌||◌, cond, not, List, [], ◌∷◌, Some, bytes_eq, refl, sym, ap, ◌∙◌}
use Rattle.std.proofs.lemmas.Bool.{and_parts}
use Rattle.std.proofs.lemmas.Option.{same_Some}
use Rattle.std.proofs.lemmas.Slice.Eq.{bytes_eq-Decides}
use Rattle.std.specs.Cmp.Lexicographic.{nat_list_eq_equiv}
use Rattle.std.specs.List.{list_all, list_any}
use Rattle.cg_hjson.specs.declared.tree.Tree.{Tree}
use Rattle.cg_hjson.specs.declared.tree.Member.{Member}
use Rattle.cg_keys.specs.Table.{value_at}
use Rattle.cg_blkread.specs.Interfaces.{first_members_after}

-- a test of a key and its value
abbrev pub Test : Type 0
Test = List ℕ → Tree → Bool

-- the first member of each key passes
abbrev pub first_pass : Test → List (List ℕ) → List Member → Bool
first_pass p before ms = list_all (λ (m : Member). p m.key m.value) (first_members_after before ms)

-- what stands at each key passes
abbrev pub EachPasses : Test → List (List ℕ) → List Member → Type 0
EachPasses p before ms = (key : List ℕ) (w : Tree) → list_any (bytes_eq key) before ≡ false → value_at key ms ≡ Some w → p key w ≡ true

-- neither of two holds where not one of them does
pub apart : (a b : Bool) → (a || b) ≡ false → (a ≡ false) × (b ≡ false)
apart true b h = absurd cc
apart false b h = (refl, h)

turned : (k l : List ℕ) (b : Bool) → bytes_eq k l ≡ b → bytes_eq l k ≡ b
turned k l b is = nat_list_eq_equiv.symm l k ∙ is

-- what stands at a key passes where the first members do
pub each_passes : (p : Test) (before : List (List ℕ)) (ms : List Member) → first_pass p before ms ≡ true → EachPasses p before ms
unfolding first_members_after value_at
each_passes p before [] all key w absent there = absurd cc
each_passes p before (m ∷ ms) all key w absent there =
    by (bytes_eq m.key key) (list_any (bytes_eq m.key) before) refl refl all there (λ rest later. each_passes p before ms rest key w absent later)
    (λ other rest later. each_passes p (m.key ∷ before) ms rest key w other later) where
      by : (same known : Bool) → bytes_eq m.key key ≡ same → list_any (bytes_eq m.key) before ≡ known
          → list_all (λ (n : Member). p n.key n.value) (cond known (first_members_after before ms) (m ∷ first_members_after (m.key ∷ before) ms)) ≡ true
          → cond same (Some m.value) (value_at key ms) ≡ Some w
          → (first_pass p before ms ≡ true → value_at key ms ≡ Some w → p key w ≡ true)
          → (list_any (bytes_eq key) (m.key ∷ before) ≡ false → first_pass p (m.key ∷ before) ms ≡ true → value_at key ms ≡ Some w → p key w ≡ true)
          → p key w ≡ true
      by true true e k held is here later =
          let there : list_any (bytes_eq key) before ≡ true = ap (λ n. list_any (bytes_eq n) before) (sym ((bytes_eq-Decides m.key key).0 e)) ∙ k in absurd cc
      by true false e k held is here later =
          let same : m.key ≡ key = (bytes_eq-Decides m.key key).0 e in
          let value : m.value ≡ w = same_Some m.value w is in
          (λ i. p (sym same i) (sym value i)) ∙ (and_parts (p m.key m.value) _ held).0
      by false true e k held is here later = here held is
      by false false e k held is here later =
          later (ap (λ t. t || list_any (bytes_eq key) before) (turned m.key key false e) ∙ absent) (and_parts (p m.key m.value) _ held).1 is

-- and the first members where what stands at each key does
pub first_passes : (p : Test) (before : List (List ℕ)) (ms : List Member) → EachPasses p before ms → first_pass p before ms ≡ true
unfolding first_members_after value_at
first_passes p before [] each = refl
first_passes p before (m ∷ ms) each =
    by (list_any (bytes_eq m.key) before) refl (λ rest. first_passes p before ms rest) (λ rest. first_passes p (m.key ∷ before) ms rest) where
      at_other : (key : List ℕ) (w : Tree) (b : Bool) → bytes_eq m.key key ≡ b → b ≡ false → value_at key ms ≡ Some w
          → cond (bytes_eq m.key key) (Some m.value) (value_at key ms) ≡ Some w
      at_other key w b is fails there = ap (λ t. cond t (Some m.value) (value_at key ms)) (is ∙ fails) ∙ there

      differs : (key : List ℕ) (b : Bool) → bytes_eq m.key key ≡ b → list_any (bytes_eq m.key) before ≡ true → list_any (bytes_eq key) before ≡ false → b ≡ false
      differs key false e known absent = refl
      differs key true e known absent =
          let there : list_any (bytes_eq key) before ≡ true = ap (λ n. list_any (bytes_eq n) before) (sym ((bytes_eq-Decides m.key key).0 e)) ∙ known in absurd cc

      by : (known : Bool) → list_any (bytes_eq m.key) before ≡ known
          → (EachPasses p before ms → first_pass p before ms ≡ true)
          → (EachPasses p (m.key ∷ before) ms → first_pass p (m.key ∷ before) ms ≡ true)
          → list_all (λ (n : Member). p n.key n.value) (cond known (first_members_after before ms) (m ∷ first_members_after (m.key ∷ before) ms)) ≡ true
      by true k here later =
          here (λ key w absent there. each key w absent (at_other key w (bytes_eq m.key key) refl (differs key (bytes_eq m.key key) refl k absent) there))
      by false k here later =
          let own : p m.key m.value ≡ true = each m.key m.value k (ap (λ t. cond t (Some m.value) (value_at m.key ms)) (nat_list_eq_equiv.refl m.key)) in
          let rest : first_pass p (m.key ∷ before) ms ≡ true =
          later (λ key w absent there.
          let both = apart (bytes_eq key m.key) (list_any (bytes_eq key) before) absent in
          each key w both.1 (at_other key w false (turned key m.key false both.0) refl there)) in
          λ i. own i && rest i

-- no member passes exactly where each fails
pub none_any : {X : Type 0} (q : X → Bool) (xs : List X) → list_any q xs ≡ false → list_all (λ x. not (q x)) xs ≡ true
none_any q [] h = refl
none_any q (x ∷ xs) h = let both = apart (q x) (list_any q xs) h in λ i. not (both.0 i) && none_any q xs both.1 i

-- and the other way
pub any_none : {X : Type 0} (q : X → Bool) (xs : List X) → list_all (λ x. not (q x)) xs ≡ true → list_any q xs ≡ false
any_none q [] h = refl
any_none q (x ∷ xs) h = by (q x) (any_none q xs) h where
  by : (b : Bool) → (list_all (λ x. not (q x)) xs ≡ true → list_any q xs ≡ false) → (not b && list_all (λ x. not (q x)) xs) ≡ true → (b || list_any q xs) ≡ false
  by true more all = absurd cc
  by false more all = more all
