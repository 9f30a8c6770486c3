-- Lists of ports that are used, each once, in the order of their first use.
use Rattle.std.proofs.Common.{◌≡◌, ◌<◌, ◌≤◌, ◌⊎◌, ℕ, zero, suc, List, [], ◌∷◌, ◌++◌, length, map, Some, inl, inr, refl, sym, ap, subst, arith}
use Rattle.std.specs.List.{slice_get}
use Rattle.std.proofs.lemmas.List.{map-append}
use Rattle.std.proofs.lemmas.Option.{slice_get_within}
use Rattle.cg_svspec.specs.Names.{Among}
use Rattle.cg_svspec.specs.Printable.{AllOf}
use Rattle.cg_desc.specs.declared.top.MergedTop.{MergedTop}
use Rattle.cg_desc.proofs.Numbered.{item_among, item_number}
use Rattle.cg_irq.proofs.Order.{among_either, among_left, among_right, one_by_place}
use Rattle.cg_clkrst.specs.Owned.{AreTied}
use Rattle.cg_clkrst.specs.Ports.{ArePorts, IsUsedBefore, TiePort}
use Rattle.cg_clkrst.specs.Ties.{HasSource, port_of}
use Rattle.cg_clkrst.specs.declared.tie.Tie.{Tie}

-- ---- places in longer lists

in_front : {X : Type 0} (xs ys : List X) (i : ℕ) (x : X) → slice_get xs i ≡ Some x → slice_get (xs ++ ys) i ≡ Some x
in_front [] ys i x is = cc
in_front (y ∷ xs) ys zero x is = is
in_front (y ∷ xs) ys (suc i) x is = in_front xs ys i x is

from_front : {X : Type 0} (xs ys : List X) (i : ℕ) (x : X) → i < length xs → slice_get (xs ++ ys) i ≡ Some x → slice_get xs i ≡ Some x
from_front [] ys i x less is = absurd (omega (arith, less))
from_front (y ∷ xs) ys zero x less is = is
from_front (y ∷ xs) ys (suc i) x less is = from_front xs ys i x (omega (arith, less)) is

-- it is one of the old, or the new one
front_or_last : {X : Type 0} (xs : List X) (y : X) (i : ℕ) (x : X) → slice_get (xs ++ y ∷ []) i ≡ Some x → (slice_get xs i ≡ Some x) ⊎ ((i ≡ length xs) × (x ≡ y))
front_or_last [] y zero x is = inr (refl, (let e : y ≡ x = cc in sym e))
front_or_last [] y (suc i) x is = cc
front_or_last (z ∷ xs) y zero x is = inl is
front_or_last (z ∷ xs) y (suc i) x is = elim (front_or_last xs y i x is) [ inl old ↦ inl old | inr new ↦ inr (ap suc new.0, new.1) ]

-- ---- one more use

more_before : (uses more : List TiePort) (a b : TiePort) → IsUsedBefore uses a b → IsUsedBefore (uses ++ more) a b
more_before uses more a b (i, at, none) =
    let within = slice_get_within uses i a at in
    (i, in_front uses more i a at, λ j le is. none j le (from_front uses more j b (omega (arith, le, within)) is))

pub no_ports : ArePorts [] []
no_ports = record { members = λ p. (λ among. among, λ among. among); in_order = λ i j a b at_a at_b less. cc }

pub used_again : (uses ports : List TiePort) (p : TiePort) → ArePorts uses ports → Among p uses → ArePorts (uses ++ p ∷ []) ports
used_again uses ports p are among = record {
  members = λ q. (λ inside. among_left q uses (p ∷ []) ((are.members q).0 inside), λ inside. back q (among_either q uses (p ∷ []) inside));
  in_order = λ i j a b at_a at_b less. more_before uses (p ∷ []) a b (are.in_order i j a b at_a at_b less);
}
  where
    back : (q : TiePort) → Among q uses ⊎ Among q (p ∷ []) → Among q ports
    back q (inl old) = (are.members q).1 old
    back q (inr (inl is)) = (are.members q).1 (subst (λ r. Among r uses) (sym is) among)
    back q (inr (inr none)) = absurd none

pub first_used : (uses ports : List TiePort) (p : TiePort) → ArePorts uses ports → (Among p uses → ⊥) → ArePorts (uses ++ p ∷ []) (ports ++ p ∷ [])
first_used uses ports p are new = record {
  members = λ q. (λ inside. to q (among_either q ports (p ∷ []) inside), λ inside. back q (among_either q uses (p ∷ []) inside));
  in_order = λ i j a b at_a at_b less. order i j a b less (front_or_last ports p i a at_a) (front_or_last ports p j b at_b);
}
  where
    to : (q : TiePort) → Among q ports ⊎ Among q (p ∷ []) → Among q (uses ++ p ∷ [])
    to q (inl old) = among_left q uses (p ∷ []) ((are.members q).0 old)
    to q (inr is) = among_right q uses (p ∷ []) is

    back : (q : TiePort) → Among q uses ⊎ Among q (p ∷ []) → Among q (ports ++ p ∷ [])
    back q (inl old) = among_left q ports (p ∷ []) ((are.members q).1 old)
    back q (inr is) = among_right q ports (p ∷ []) is

    old_first : (a : TiePort) → Among a uses → IsUsedBefore (uses ++ p ∷ []) a p
    old_first a among =
        let at = item_number uses a among in
        let within = slice_get_within uses at.0 a at.1 in
        (at.0, in_front uses (p ∷ []) at.0 a at.1, λ k le is. new (item_among uses k p (from_front uses (p ∷ []) k p (omega (arith, le, within)) is)))

    order : (i j : ℕ) (a b : TiePort) → i < j → (slice_get ports i ≡ Some a) ⊎ ((i ≡ length ports) × (a ≡ p)) → (slice_get ports j ≡ Some b) ⊎ ((j ≡ length ports) × (b ≡ p))
        → IsUsedBefore (uses ++ p ∷ []) a b
    order i j a b less (inl old) (inl later) = more_before uses (p ∷ []) a b (are.in_order i j a b old later less)
    order i j a b less (inl old) (inr last) = subst (IsUsedBefore (uses ++ p ∷ []) a) (sym last.1) (old_first a ((are.members a).0 (item_among ports i a old)))
    order i j a b less (inr last) (inl later) = let within = slice_get_within ports j b later in absurd (omega (arith, less, last.0, within))
    order i j a b less (inr last) (inr also) = absurd (omega (arith, less, last.0, also.0))

-- no two ports are used before each other
once : (uses : List TiePort) (a b : TiePort) → IsUsedBefore uses a b → IsUsedBefore uses b a → ⊥
once uses a b (i, at_i, no_b) (j, at_j, no_a) = no_b j (late i j (λ le. no_a i le at_i)) at_j
  where
    late : (i j : ℕ) → (i ≤ j → ⊥) → j ≤ i
    late i j h = omega (arith, h)

-- there is one list
pub one_list : (uses a b : List TiePort) → ArePorts uses a → ArePorts uses b → a ≡ b
one_list uses a b first second =
    one_by_place (IsUsedBefore uses) (once uses) a b first.in_order second.in_order (λ p among. (second.members p).1 ((first.members p).0 among))
    (λ p among. (first.members p).1 ((second.members p).0 among))

-- ---- ties

pub no_ties : (m : MergedTop) → AreTied m [] []
no_ties m = record { ports = no_ports; sources = tt }

pub tied_again : (m : MergedTop) (uses : List TiePort) (ties : List Tie) (p : TiePort) → AreTied m uses ties → Among p uses → AreTied m (uses ++ p ∷ []) ties
tied_again m uses ties p are among = record { ports = used_again uses (map port_of ties) p are.ports among; sources = are.sources }

all_and : {X : Type 0} (P : X → Type 0) (xs : List X) (x : X) → AllOf P xs → P x → AllOf P (xs ++ x ∷ [])
all_and P [] x all one = (one, tt)
all_and P (y ∷ xs) x all one = (all.0, all_and P xs x all.1 one)

pub tied_first : (m : MergedTop) (uses : List TiePort) (ties : List Tie) (t : Tie) → AreTied m uses ties → (Among (port_of t) uses → ⊥) → HasSource m (port_of t) t.source
    → AreTied m (uses ++ port_of t ∷ []) (ties ++ t ∷ [])
tied_first m uses ties t are new source = record {
  ports = subst (ArePorts (uses ++ port_of t ∷ [])) (sym (map-append port_of ties (t ∷ []))) (first_used uses (map port_of ties) (port_of t) are.ports new);
  sources = all_and (λ s. HasSource m (port_of s) s.source) ties t are.sources source;
}
