-- The first of what either of two checks of a file finds.
use Rattle.std.proofs.Common.{◌≡◌, ◌⊎◌, ℕ, Option, Some, None, inl, inr, sym, subst, ◌∙◌}
use Rattle.cg_desc.specs.Faults.{Before}
use Rattle.cg_desc.proofs.FaultOrder.{before_transitive}
use Rattle.cg_desc.specs.declared.fault.DescFault.{DescFault}
use Rattle.cg_desc.specs.declared.fault.DescFault.TheVariants as refusal
use Rattle.cg_desc.specs.declared.fault.Fault.{Fault}
use Rattle.cg_finding.specs.Finding.{Finding, in_file}
use Rattle.cg_finding.specs.Refusal.{Names}
use Rattle.cg_finding.specs.Told.{TellsFirst}
use Rattle.cg_finding.specs.Violations.{IsFirstViolation, RefusesFirst}
use Rattle.cg_finding.proofs.Firsts.{first_of_is_first}
use Rattle.cg_finding.proofs.Stages.{named}
use Rattle.cg_finding.proofs.Told.{none_broken}
use Rattle.cg_design.specs.Inner.{KeepsFault, KeepsFirst}
use Rattle.cg_design.proofs.Order.{in_any_file, not_before_trans}

-- what is told is the first violation
pub told_first : (W : Finding → Type 0) (g : Finding) → TellsFirst (Some g) W → IsFirstViolation W g
told_first W g t =
    let first = first_of_is_first t.faults g (sym t.first) in
    record { violates = t.sound g first.among; least = λ file h broken. first.least file h (t.complete h broken) }

module _ (V W : Finding → Type 0) where
  abbrev pub Either : Finding → Type 0
  Either f = V f ⊎ W f

  -- only the second finds something
  pub second_alone : (e : DescFault) (number : ℕ) (g : Finding) → ((f : Finding) → ¬ V f) → TellsFirst (Some g) W → Names e number g → RefusesFirst e number Either
  second_alone e number g none t names =
      let first = told_first W g t in
      named e number Either g names
      (record { violates = inr first.violates; least = λ file h broken. elim broken [ inl v ↦ absurd (none h v) | inr w ↦ first.least file h w ] })

  -- only the first does
  first_alone : (e : DescFault) (number : ℕ) → RefusesFirst e number V → TellsFirst None W → RefusesFirst e number Either
  first_alone (refusal.Fault fault) number (f, is, first) t =
      (f, is, record { violates = inl first.violates; least = λ file h broken. elim broken [ inl v ↦ first.least file h v | inr w ↦ absurd (none_broken t h w) ] })
  first_alone refusal.Memory number r t = tt

  -- the second's is before the first's
  second_sooner : (number : ℕ) (kept : Fault) (f g : Finding) → IsFirstViolation V f → IsFirstViolation W g → Before (in_file number g) (in_file number f)
      → kept ≡ in_file number g → RefusesFirst (refusal.Fault kept) number Either
  second_sooner number kept f g first other before is = (
    g,
    is,
    record {
      violates = inr other.violates;
      least = λ file h broken. elim broken [
        | inl v ↦ (λ sooner. first.least file h v (before_transitive (in_file file h) (in_file file g) (in_file file f) sooner (in_any_file number file f g before)))
        | inr w ↦ other.least file h w
      ];
    },
  )

  -- or it is not
  second_later : (number : ℕ) (kept : Fault) (f g : Finding) → IsFirstViolation V f → IsFirstViolation W g → ¬ Before (in_file number g) (in_file number f)
      → kept ≡ in_file number f → RefusesFirst (refusal.Fault kept) number Either
  second_later number kept f g first other none is = (
    f,
    is,
    record {
      violates = inl first.violates;
      least = λ file h broken. elim broken [
        | inl v ↦ first.least file h v
        | inr w ↦ not_before_trans (in_file file f) (in_file file g) (in_file file h) (λ before. none (in_any_file file number f g before)) (other.least file h w)
      ];
    },
  )

  both_find : (e kept : DescFault) (number : ℕ) (g : Finding) → RefusesFirst e number V → IsFirstViolation W g → KeepsFault kept e g number → RefusesFirst kept number Either
  both_find (refusal.Fault fault) (refusal.Fault kept) number g (f, is, first) other (inl (before, kept_is)) =
      second_sooner number kept f g first other (subst (λ x. Before (in_file number g) x) is before) kept_is
  both_find (refusal.Fault fault) (refusal.Fault kept) number g (f, is, first) other (inr (none, kept_is)) =
      second_later number kept f g first other (subst (λ x. ¬ Before (in_file number g) x) is none) (kept_is ∙ is)
  both_find refusal.Memory (refusal.Fault kept) number g r other none = absurd none
  both_find e refusal.Memory number g r other keeps = tt

  -- the earlier of what both find
  pub earlier_of_both : (e kept : DescFault) (found : Option Finding) (number : ℕ) → RefusesFirst e number V → TellsFirst found W → KeepsFirst e found number kept
      → RefusesFirst kept number Either
  earlier_of_both e kept None number r t keeps = subst (λ x. RefusesFirst x number Either) (sym keeps) (first_alone e number r t)
  earlier_of_both e kept (Some g) number r t keeps = both_find e kept number g r (told_first W g t) keeps
