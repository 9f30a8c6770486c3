-- From the way inside one crossbar to the way of the whole.
use Rattle.std.proofs.Common.{Bool, List, None, Option, Some, [], ap, arith, cond, false, refl, slice_get, subst, sym, true, ℕ, ◌&&◌, ◌||◌, ◌∙◌, ◌∷◌, ◌≡◌}
use Rattle.std.proofs.lemmas.Bool.Decides.{nat_tests}
use Rattle.std.specs.Str.{bytes_eq}
use Rattle.cg_busspec.specs.Passage.{Passes, ends_here, out, over}
use Rattle.cg_svspec.specs.Bits.{Bits}
use Rattle.cg_svspec.specs.Links.{Link, inside, leaves}
use Rattle.cg_svspec.specs.Names.{is_among}
use Rattle.cg_svspec.specs.Tree.{Connection, Module, Parameter, inst}
use Rattle.cg_svspec.specs.Walk.{End, Place, Position, Way, ended, error, goes, held_at, module_named, next, position, same_place, step_within, was_at, within}

-- whether the way was at a link is whether its net is among those held there
pub was_is_held : (way : List Position) (p : Place) (l : Link) → was_at way (position p l) ≡ is_among (held_at p way) l.request
was_is_held [] p l = refl
was_is_held (x ∷ xs) p l = by (same_place x.place p) (was_is_held xs p l) where
  by : (b : Bool) → was_at xs (position p l) ≡ is_among (held_at p xs) l.request
      → ((b && bytes_eq x.link.request l.request) || was_at xs (position p l)) ≡ is_among (cond b (x.link.request ∷ held_at p xs) (held_at p xs)) l.request
  by true e = ap (λ z. bytes_eq x.link.request l.request || z) e
  by false e = e

-- entry i of the first module is an instance of crossbar x with these connections
pub record AtEntry (first : Module) (ms : List Module) (i : ℕ) (x : Module) (cs : List Connection) : Type 0 where
  pub part : List ℕ
  pub parameters : List Parameter
  pub name : List ℕ
  pub entry_is : slice_get first.entries i ≡ Some (inst part parameters name cs)
  pub module_is : module_named (first ∷ ms) part ≡ Some x

pub next_within : (first : Module) (ms : List Module) (i : ℕ) (x : Module) (cs : List Connection) (request : Bits) (way : List Position) (l : Link) → AtEntry first ms i x cs
    → next (first ∷ ms) request way (position (within i) l) ≡ step_within first i x cs l (inside x request (held_at (within i) way) l)
unfolding next
next_within first ms i x cs request way l at = rw (at.entry_is, at.module_is) refl

pub same_number : (i : ℕ) → same_place (within i) (within i) ≡ true
same_number i = grind (arith, nat_tests)

-- the second history adds links of entry i alone
pub record AddsAt (i : ℕ) (way more : List Position) : Type 0 where
  pub same : (p : Place) → same_place (within i) p ≡ false → held_at p more ≡ held_at p way

adds_none : (i : ℕ) (way : List Position) → AddsAt i way way
adds_none i way = record { same = λ p e. refl }

adds_one : (i : ℕ) (l : Link) (way more : List Position) → AddsAt i (position (within i) l ∷ way) more → AddsAt i way more
adds_one i l way more a = record { same = λ p e. a.same p e ∙ rw e refl }

held_here : (i : ℕ) (l : Link) (way : List Position) (held : List (List ℕ)) → held_at (within i) way ≡ held → held_at (within i) (position (within i) l ∷ way) ≡ l.request ∷ held
held_here i l way held e = rw (same_number i, e) refl

-- what follows where the request leaves the crossbar by a link
abbrev pub Onwards : (first : Module) (ms : List Module) (i : ℕ) (x : Module) → Bits → End → List Position → Link → Type 0
Onwards first ms i x request end way e =
    (more : List Position) → AddsAt i way more → inside x request (held_at (within i) (position (within i) e ∷ more)) e ≡ leaves → Way (first ∷ ms) request more (position (within i) e) end

-- A way inside a crossbar is a part of the way of the whole: it goes on where it leaves, and ends in an error where it does not.
abbrev After : (first : Module) (ms : List Module) (i : ℕ) (x : Module) → Bits → End → List Position → Option Link → Type 0
After first ms i x request end way None = end ≡ error
After first ms i x request end way (Some e) = Onwards first ms i x request end way e

passing : (first : Module) (ms : List Module) (i : ℕ) (x : Module) (cs : List Connection) (request : Bits) → AtEntry first ms i x cs
    → (end : End) (held : List (List ℕ)) (l : Link) (o : Option Link) → Passes x request held l o → (way : List Position) → held_at (within i) way ≡ held
    → After first ms i x request end way o → Way (first ∷ ms) request way (position (within i) l) end
passing first ms i x cs request at end held l o (out away) way is then = then way (adds_none i way) (rw (held_here i l way held is) away)
passing first ms i x cs request at end held l o (ends_here none) way is then =
    subst (Way (first ∷ ms) request way (position (within i) l)) (sym then)
    (ended (next_within first ms i x cs request (position (within i) l ∷ way) l at ∙ rw (held_here i l way held is, none) refl))
passing first ms i x cs request at end held l o (over {b = b} on_to new rest) way is then =
    goes (next_within first ms i x cs request (position (within i) l ∷ way) l at ∙ rw (held_here i l way held is, on_to) refl)
    (was_is_held (position (within i) l ∷ way) (within i) b ∙ rw (held_here i l way held is) new)
    (passing first ms i x cs request at end (l.request ∷ held) b o rest (position (within i) l ∷ way) (held_here i l way held is) (later o then)) where
      later : (o : Option Link) → After first ms i x request end way o → After first ms i x request end (position (within i) l ∷ way) o
      later None e = e
      later (Some e) f = λ more adds away. f more (adds_one i l way more adds) away

pub crossing : (first : Module) (ms : List Module) (i : ℕ) (x : Module) (cs : List Connection) (request : Bits) → AtEntry first ms i x cs
    → (end : End) (l e : Link) → Passes x request [] l (Some e) → (way : List Position) → held_at (within i) way ≡ []
    → Onwards first ms i x request end way e → Way (first ∷ ms) request way (position (within i) l) end
crossing first ms i x cs request at end l e p way is then = passing first ms i x cs request at end [] l (Some e) p way is then

pub stopping : (first : Module) (ms : List Module) (i : ℕ) (x : Module) (cs : List Connection) (request : Bits) → AtEntry first ms i x cs
    → (l : Link) → Passes x request [] l None → (way : List Position) → held_at (within i) way ≡ [] → Way (first ∷ ms) request way (position (within i) l) error
stopping first ms i x cs request at l p way is = passing first ms i x cs request at error [] l None p way is refl
