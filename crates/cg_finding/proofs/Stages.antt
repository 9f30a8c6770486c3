-- What a stage finds first is what is broken first of all, where no earlier stage breaks anything.
use Rattle.std.proofs.Common.{◌≡◌, ◌<◌, ℕ, inl, inr, refl, sym, subst, arith}
use Rattle.cg_desc.specs.Faults.{Before}
use Rattle.cg_desc.proofs.FaultOrder.{before_irreflexive}
use Rattle.cg_desc.specs.declared.fault.DescFault.{DescFault}
use Rattle.cg_desc.specs.declared.fault.DescFault.TheVariants.{Fault as refused_by, Memory}
use Rattle.cg_desc.specs.declared.fault.Fault.{Fault}
use Rattle.cg_finding.specs.Finding.{Finding, finding, in_file}
use Rattle.cg_finding.specs.Refusal.{Names}
use Rattle.cg_finding.specs.Violations.{IsFirstViolation, IsFirstFault, RefusesFirst}

-- a refusal that names the first violation
pub named : (e : DescFault) (number : ℕ) (V : Finding → Type 0) (f : Finding) → Names e number f → IsFirstViolation V f → RefusesFirst e number V
named (refused_by fault) number V f names first = (f, names, first)
named Memory number V f names first = tt

-- the only violation is the first
pub only_first : (V : Finding → Type 0) (f : Finding) → V f → ((g : Finding) → V g → g ≡ f) → IsFirstViolation V f
only_first V f is only = record { violates = is; least = λ file g also before. before_irreflexive (in_file file f) (subst (λ h. Before (in_file file h) (in_file file f)) (only g also) before) }

-- where some of these is broken, all that is broken is of them: so their first is the first of all
pub lifted : (V W : Finding → Type 0) (e : DescFault) (number : ℕ) → ((f : Finding) → V f → W f) → ((f g : Finding) → V f → W g → V g) → RefusesFirst e number V → RefusesFirst e number W
lifted V W (refused_by fault) number up down (f, is, first) =
    (f, is, record { violates = up f first.violates; least = λ file g broken. first.least file g (down f g first.violates broken) })
lifted V W Memory number up down none = tt

-- ---- faults of one file as findings

-- what a fault says apart from its file
abbrev pub finding_of : Fault → Finding
finding_of fault = finding fault.phase fault.rule fault.at fault.name

-- in one file or another, findings come in one order
same_order : (a b : ℕ) (f g : Finding) → Before (in_file a g) (in_file a f) → Before (in_file b g) (in_file b f)
unfolding Before
same_order a b f g (inl earlier) = inl earlier
same_order a b f g (inr (same, inl less)) = absurd (irreflexive a less) where
  irreflexive : (n : ℕ) → n < n → ⊥
  irreflexive n less = omega arith
same_order a b f g (inr (same, inr (also, rest))) = inr (same, inr (refl, rest))

-- the first of the faults, which are all of one file, is the first of what is found there
pub found_first : (V : Fault → Type 0) (fault : Fault) (number : ℕ) → fault.file ≡ number → IsFirstFault V fault → IsFirstViolation (λ f. V (in_file number f)) (finding_of fault)
found_first V fault number same first = record {
  violates = subst (λ n. V (in_file n (finding_of fault))) same first.violates;
  least = λ file g also before.
      first.least (in_file number g) also (subst (λ n. Before (in_file number g) (in_file n (finding_of fault))) (sym same) (same_order file number (finding_of fault) g before));
}
