-- Modules by their names, where the names differ.
use Rattle.std.proofs.Common.{◌≡◌, ℕ, Bool, true, false, cond, List, [], ◌∷◌, inl, inr, Some, None, map, refl, sym, ap, subst}
use Rattle.std.specs.Str.{bytes_eq}
use Rattle.cg_svspec.proofs.NamesLemmas.{name_is_itself, same_name}
use Rattle.cg_svspec.specs.Names.{Among, Differ}
use Rattle.cg_svspec.specs.Tree.{Module}
use Rattle.cg_svspec.specs.Walk.{module_named}

abbrev pub names_of : List Module → List (List ℕ)
names_of ms = map (λ (m : Module). m.name) ms

name_among : (ms : List Module) (m : Module) → Among m ms → Among m.name (names_of ms)
name_among [] m a = absurd a
name_among (x ∷ ms) m (inl e) = inl (ap (λ (z : Module). z.name) e)
name_among (x ∷ ms) m (inr a) = inr (name_among ms m a)

-- a module of the list is found by its name
pub found_by_name : (ms : List Module) → Differ (names_of ms) → (m : Module) → Among m ms → module_named ms m.name ≡ Some m
found_by_name [] d m a = absurd a
found_by_name (x ∷ ms) d m (inl e) = rw (e, name_is_itself x.name) refl
found_by_name (x ∷ ms) d m (inr a) = by (bytes_eq x.name m.name) refl (found_by_name ms d.1 m a) where
  by : (b : Bool) → bytes_eq x.name m.name ≡ b → module_named ms m.name ≡ Some m → cond b (Some x) (module_named ms m.name) ≡ Some m
  by true is later = absurd (d.0 (subst (λ n. Among n (names_of ms)) (sym (same_name x.name m.name is)) (name_among ms m a)))
  by false is later = later

-- and a name that none of them has finds none
pub not_found : (ms : List Module) (n : List ℕ) → (Among n (names_of ms) → ⊥) → module_named ms n ≡ None
not_found [] n none = refl
not_found (x ∷ ms) n none = by (bytes_eq x.name n) refl (not_found ms n (λ a. none (inr a))) where
  by : (b : Bool) → bytes_eq x.name n ≡ b → module_named ms n ≡ None → cond b (Some x) (module_named ms n) ≡ None
  by true is later = absurd (none (inl (sym (same_name x.name n is))))
  by false is later = later
