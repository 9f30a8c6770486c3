-- A walk has at most one end.
use Rattle.std.proofs.Common.{◌≡◌, ℕ, Bool, true, false, ◌⊎◌, inl, inr, List, [], ◌∷◌, refl, sym, subst, ◌∙◌}
use Rattle.cg_svspec.specs.Bits.{Bits}
use Rattle.cg_svspec.specs.Tree.{Module}
use Rattle.cg_svspec.specs.Walk.{End, face, error, no_module, Position, was_at, Next, on, ends, meets, next, IsFace, answers, Way, goes, comes_back, ended, reached, lost, missing, start, Walks, walks, never, WalkHasOneEnd}

-- what a way is from a position whose next is known
abbrev After : List Module → Bits → List Position → Position → End → Next → Type 0
After modules request way p e (on q) =
    ((was_at (p ∷ way) q ≡ false) × Way modules request (p ∷ way) q e) ⊎ ((was_at (p ∷ way) q ≡ true) × (e ≡ error))
After modules request way p e (ends x) = e ≡ x
After modules request way p e (meets i j r) =
    (IsFace modules r × (answers r p.link ≡ true) × (e ≡ face i j)) ⊎ ((IsFace modules r × (answers r p.link ≡ false) × (e ≡ error)) ⊎ ((IsFace modules r → ⊥) × (e ≡ no_module)))

-- a way is so
after : (modules : List Module) (request : Bits) (way : List Position) (p : Position) (e : End) → Way modules request way p e → After modules request way p e (next modules request (p ∷ way) p)
after modules request way p e (goes step new rest) = subst (After modules request way p e) (sym step) (inl (new, rest))
after modules request way p e (comes_back step old) = subst (After modules request way p error) (sym step) (inr (old, refl))
after modules request way p e (ended step) = subst (After modules request way p e) (sym step) refl
after modules request way p e (reached step is yes_answer) = subst (After modules request way p e) (sym step) (inl (is, yes_answer, refl))
after modules request way p e (lost step is no_answer) = subst (After modules request way p error) (sym step) (inr (inl (is, no_answer, refl)))
after modules request way p e (missing step none) = subst (After modules request way p no_module) (sym step) (inr (inr (none, refl)))

-- a test has one answer
not_both : {A : Type 0} (b : Bool) → b ≡ true → b ≡ false → A
not_both b t f = let u : true ≡ false = sym t ∙ f in cc

-- two ways from one position, over the same ones, have one end
one_way : (modules : List Module) (request : Bits) (way : List Position) (p : Position) (a b : End) → Way modules request way p a → Way modules request way p b → a ≡ b
one_way modules request way p a b (goes {q = q} step new rest) w =
    by (λ v. one_way modules request (p ∷ way) q a b rest v) (subst (After modules request way p b) step (after modules request way p b w)) where
      by : (Way modules request (p ∷ way) q b → a ≡ b) → After modules request way p b (on q) → a ≡ b
      by later (inl both) = later both.1
      by later (inr both) = not_both (was_at (p ∷ way) q) both.0 new
one_way modules request way p a b (comes_back {q = q} step old) w = by (subst (After modules request way p b) step (after modules request way p b w)) where
  by : After modules request way p b (on q) → error ≡ b
  by (inl both) = not_both (was_at (p ∷ way) q) old both.0
  by (inr both) = sym both.1
one_way modules request way p a b (ended step) w = sym (subst (After modules request way p b) step (after modules request way p b w))
one_way modules request way p a b (reached {i = i} {j = j} {r = r} step is yes_answer) w = by (subst (After modules request way p b) step (after modules request way p b w)) where
  by : After modules request way p b (meets i j r) → face i j ≡ b
  by (inl found) = sym found.2
  by (inr (inl found)) = not_both (answers r p.link) yes_answer found.1
  by (inr (inr found)) = absurd (found.0 is)
one_way modules request way p a b (lost {i = i} {j = j} {r = r} step is no_answer) w = by (subst (After modules request way p b) step (after modules request way p b w)) where
  by : After modules request way p b (meets i j r) → error ≡ b
  by (inl found) = not_both (answers r p.link) found.1 no_answer
  by (inr (inl found)) = sym found.2
  by (inr (inr found)) = absurd (found.0 is)
one_way modules request way p a b (missing {i = i} {j = j} {r = r} step none) w = by (subst (After modules request way p b) step (after modules request way p b w)) where
  by : After modules request way p b (meets i j r) → no_module ≡ b
  by (inl found) = absurd (none found.0)
  by (inr (inl found)) = absurd (none found.0)
  by (inr (inr found)) = sym found.1

-- how a walk begins
abbrev First : List Module → Bits → End → Next → Type 0
First modules request e (on p) = Way modules request [] p e
First modules request e (ends x) = e ≡ x
First modules request e (meets i j r) = ⊥

-- a walk begins so
first : (modules : List Module) (host : List ℕ) (request : Bits) (e : End) → Walks modules host request e → First modules request e (start modules host)
first modules host request e (walks begins way) = subst (First modules request e) (sym begins) way
first modules host request e (never begins) = subst (First modules request e) (sym begins) refl

-- A walk has at most one end.
pub walk_has_one_end : WalkHasOneEnd
walk_has_one_end modules host request a b (walks {p = p} begins way) w = one_way modules request [] p a b way (subst (First modules request b) begins (first modules host request b w))
walk_has_one_end modules host request a b (never begins) w = sym (subst (First modules request b) begins (first modules host request b w))
