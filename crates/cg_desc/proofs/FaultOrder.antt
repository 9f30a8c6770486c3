-- The order of faults as a relation and as a comparison, and its laws.
use Rattle.std.proofs.Common.{◌≡◌, ◌<◌, inl, inr, ℕ, List, [], ◌∷◌, refl, sym, ap, ◌∙◌, arith, Bool, true}
use Rattle.std.specs.Prelude.{◌↔◌, IsTrue}
use Rattle.std.specs.Ordering.{nat_cmp, ordering_then, ordering_reverse, is_lt, MatchOrdering}
use Rattle.std.specs.declared.cmp.Ordering.{Ordering}
use Rattle.std.specs.declared.cmp.Ordering.TheVariants.{Less, Equal, Greater}
use Rattle.std.specs.Cmp.{IsTotalOrder}
use Rattle.std.specs.Cmp.Lexicographic.{slice_cmp}
use Rattle.std.proofs.lemmas.Cmp.{ranked, nat_cmp_total, nat_list_cmp_total, then_total, on_total, tied_itself}
use Rattle.cg_desc.specs.declared.fault.Fault.{Fault}
use Rattle.cg_desc.specs.Faults.{FirstThen, BytesBefore, Before, SameRank, fault_cmp, BeforeIsIrreflexive, BeforeIsTransitive, BeforeIsTotal}

-- a comparison answers `Less` where one fact holds, and `Equal` where another does
record Tells (r : Ordering) (smaller alike : Type 0) : Type 0 where
  less : r ≡ Less ↔ smaller
  equal : r ≡ Equal ↔ alike

-- one comparison and then another tells the lexicographic order
tells_then : (r s : Ordering) {L E M F : Type 0} → Tells r L E → Tells s M F → Tells (ordering_then r s) (FirstThen L E M) (E × F)
tells_then Less s first second = record {
  less = (λ e. inl (first.less.0 refl), λ e. refl);
  equal = (λ e. cc, λ both. let x = first.equal.1 both.0 in cc);
}
tells_then Equal s first second = record {
  less = (λ e. inr (first.equal.0 refl, second.less.0 e), λ e. elim e [ inl l ↦ (let x = first.less.1 l in cc) | inr both ↦ second.less.1 both.1 ]);
  equal = (λ e. (first.equal.0 refl, second.equal.0 e), λ both. second.equal.1 both.1);
}
tells_then Greater s first second = record {
  less = (λ e. cc, λ e. elim e [ inl l ↦ (let x = first.less.1 l in cc) | inr both ↦ (let x = first.equal.1 both.0 in cc) ]);
  equal = (λ e. cc, λ both. let x = first.equal.1 both.0 in cc);
}

-- the comparison of numbers tells which is smaller and whether they are equal, by its answer
tells_numbers_by : (x y : ℕ) (r : Ordering) → MatchOrdering r (x < y) (x ≡ y) (y < x) → Tells r (x < y) (x ≡ y)
tells_numbers_by x y Less m = record { less = (λ e. m, λ e. refl); equal = (λ e. cc, λ e. absurd (omega arith)) }
tells_numbers_by x y Equal m = record { less = (λ e. cc, λ e. absurd (omega arith)); equal = (λ e. m, λ e. refl) }
tells_numbers_by x y Greater m = record { less = (λ e. cc, λ e. absurd (omega arith)); equal = (λ e. cc, λ e. absurd (omega arith)) }

-- the comparison of numbers tells which is smaller and whether they are equal
tells_numbers : (x y : ℕ) → Tells (nat_cmp x y) (x < y) (x ≡ y)
tells_numbers x y = tells_numbers_by x y (nat_cmp x y) (ranked x y (nat_cmp x y) refl)

-- the same with the second fact said another way
tells_as : {r : Ordering} {L E F : Type 0} → Tells r L E → (E → F) → (F → E) → Tells r L F
tells_as t to from = record { less = t.less; equal = (λ e. to (t.equal.0 e), λ f. t.equal.1 (from f)) }

-- the comparison of byte lists tells the order of a dictionary
tells_bytes : (xs ys : List ℕ) → Tells (slice_cmp nat_cmp xs ys) (BytesBefore xs ys) (xs ≡ ys)
tells_bytes [] [] = record { less = (λ e. cc, λ e. absurd e); equal = (λ e. refl, λ e. refl) }
tells_bytes [] (y ∷ ys) = record { less = (λ e. tt, λ e. refl); equal = (λ e. cc, λ e. cc) }
tells_bytes (x ∷ xs) [] = record { less = (λ e. cc, λ e. absurd e); equal = (λ e. cc, λ e. cc) }
tells_bytes (x ∷ xs) (y ∷ ys) =
    tells_as (tells_then (nat_cmp x y) (slice_cmp nat_cmp xs ys) (tells_numbers x y) (tells_bytes xs ys))
    (λ both. cc (both.0, both.1))
    (λ e. (cc, cc))

-- what the comparison of faults tells
fault_tells : (f g : Fault) → Tells (fault_cmp f g) (Before f g) (SameRank f g)
unfolding fault_cmp Before
fault_tells f g =
    tells_as
    (tells_then _ _ (tells_numbers f.phase g.phase)
    (tells_then _ _ (tells_numbers f.file g.file)
    (tells_then _ _ (tells_numbers f.at.byte g.at.byte)
    (tells_then _ _ (tells_numbers f.rule g.rule) (tells_bytes f.name g.name)))))
    (λ e. record { phase = e.0; file = e.1.0; byte = e.1.1.0; rule = e.1.1.1.0; name = e.1.1.1.1 })
    (λ s. (s.phase, (s.file, (s.byte, (s.rule, s.name)))))

-- the comparison answers `Less` exactly where the first fault is before the second
pub fault_cmp-Less : (f g : Fault) → fault_cmp f g ≡ Less ↔ Before f g
fault_cmp-Less f g = (fault_tells f g).less

-- the comparison answers `Equal` exactly where the faults agree in what it reads
pub fault_cmp-Equal : (f g : Fault) → fault_cmp f g ≡ Equal ↔ SameRank f g
fault_cmp-Equal f g = (fault_tells f g).equal

-- `is_lt` holds of `Less` alone
lt_is_less : (r : Ordering) → is_lt r ≡ true → r ≡ Less
lt_is_less Less e = refl
lt_is_less Equal e = cc
lt_is_less Greater e = cc

-- a test that is the comparison's tells what is before
pub Before-is_lt : (f g : Fault) (r : Bool) → r ≡ is_lt (fault_cmp f g) → IsTrue r ↔ Before f g
Before-is_lt f g r e =
    (λ yes. (fault_cmp-Less f g).0 (lt_is_less (fault_cmp f g) (sym e ∙ yes)), λ before. e ∙ ap is_lt ((fault_cmp-Less f g).1 before))

-- the comparison of faults is a total order
pub fault_cmp_total : IsTotalOrder fault_cmp
unfolding fault_cmp
fault_cmp_total =
    then_total (on_total (λ f. f.phase) nat_cmp_total)
    (then_total (on_total (λ f. f.file) nat_cmp_total)
    (then_total (on_total (λ f. f.at.byte) nat_cmp_total)
    (then_total (on_total (λ f. f.rule) nat_cmp_total)
    (on_total (λ f. f.name) nat_list_cmp_total))))

-- no fault is before itself
pub before_irreflexive : BeforeIsIrreflexive
before_irreflexive f before =
    let less : fault_cmp f f ≡ Less = (fault_cmp-Less f f).1 before in
    let same : fault_cmp f f ≡ Equal = tied_itself fault_cmp_total f in
    cc

-- what is before a fault that is before a third is before the third
pub before_transitive : BeforeIsTransitive
before_transitive f g h fg gh =
    (fault_cmp-Less f h).0 (fault_cmp_total.trans f g h ((fault_cmp-Less f g).1 fg) ((fault_cmp-Less g h).1 gh))

-- two faults of which neither is before the other agree, by the comparison's answer
apart_or_same : (f g : Fault) (r : Ordering) → fault_cmp f g ≡ r → ¬ Before f g → ¬ Before g f → SameRank f g
apart_or_same f g Less e no_fg no_gf = absurd (no_fg ((fault_cmp-Less f g).0 e))
apart_or_same f g Equal e no_fg no_gf = (fault_cmp-Equal f g).0 e
apart_or_same f g Greater e no_fg no_gf =
    absurd (no_gf ((fault_cmp-Less g f).0 (fault_cmp_total.antisymm g f ∙ ap ordering_reverse e)))

-- two faults of which neither is before the other agree in what the order reads
pub before_total : BeforeIsTotal
before_total f g = apart_or_same f g (fault_cmp f g) refl
