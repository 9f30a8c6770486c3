-- The first that is found is the first that a block breaks.
use Rattle.std.proofs.Common.{ℕ, ◌≡◌, true, [], ◌++◌, Some, None, inl, inr, refl, sym, ◌∙◌, subst}
use Rattle.cg_desc.proofs.FaultOrder.{before_transitive}
use Rattle.cg_desc.specs.declared.block.BlockDesc.{BlockDesc}
use Rattle.cg_desc.specs.declared.fault.DescFault.{DescFault}
use Rattle.cg_desc.specs.declared.fault.DescFault.TheVariants.{Fault, Memory}
use Rattle.cg_desc.specs.Faults.{Before}
use Rattle.cg_desc.specs.Items.{items_of_block}
use Rattle.cg_finding.specs.Finding.{Finding, In, finding, first_of, in_file}
use Rattle.cg_finding.specs.Refusal.{Names}
use Rattle.cg_finding.specs.Violations.{IsFirstViolation, RefusesFirst}
use Rattle.cg_finding.proofs.Firsts.{first_of_is_first, none_is_empty}
use Rattle.cg_finding.proofs.Members.{in_left, when_has}
use Rattle.cg_expand.specs.Violations.{Violates}
use Rattle.cg_expand.specs.Parts.Faults.{all_behind, early_faults, late_faults, size_faults}
use Rattle.cg_expand.specs.Parts.Sizes.{is_too_large}
use Rattle.cg_expand.proofs.AllFaults.{early_has_counts, found_violates, of_size, violates_found}
use Rattle.cg_expand.proofs.Behind.{FoundBehind, items_behind}
use Rattle.cg_expand.proofs.PlainFaults.{violates_plain}

-- a refusal that names the first violation refuses by it
pub names_violation : (e : DescFault) (file : ℕ) (f : Finding) (Broken : Finding → Type 0) → Names e file f → IsFirstViolation Broken f → RefusesFirst e file Broken
names_violation (Fault fault) file f Broken names first = (f, names, first)
names_violation Memory file f Broken names first = tt

-- the first of all that is found
pub first_found : (b : BlockDesc) (f : Finding) → first_of (early_faults b ++ late_faults b) ≡ Some f → IsFirstViolation (Violates b) f
first_found b f is =
    let first = first_of_is_first (early_faults b ++ late_faults b) f is in
    record {
      violates = found_violates b f first.among;
      least = λ file g violates. first.least file g (violates_found b g violates);
    }

-- where nothing is found, nothing is broken
pub none_found : (b : BlockDesc) → first_of (early_faults b ++ late_faults b) ≡ None → (f : Finding) → ¬ Violates b f
none_found b none f violates = subst (In f) (none_is_empty (early_faults b ++ late_faults b) none) (violates_found b f violates)

-- a finding of phase 4 at a place is before one behind it
before_behind : (file : ℕ) (f g : Finding) → 4 ≡ f.phase → FoundBehind f.at g → Before (in_file file f) (in_file file g)
unfolding Before
before_behind file f g phase behind = inr (sym phase ∙ behind.phase, inr (refl, inl behind.place))

too_large_found : (b : BlockDesc) → is_too_large (items_of_block b) ≡ true → In (finding 4 38 b.at []) (early_faults b)
unfolding size_faults
too_large_found b large =
    of_size b (finding 4 38 b.at []) (when_has (is_too_large (items_of_block b)) (finding 4 38 b.at []) (finding 4 38 b.at []) large refl)

-- the first that is found before the items are made, where the block is too large and all that is written stands behind its place
pub first_early : (b : BlockDesc) (f : Finding) → is_too_large (items_of_block b) ≡ true → all_behind b ≡ true → first_of (early_faults b) ≡ Some f → IsFirstViolation (Violates b) f
first_early b f large behind is =
    let first = first_of_is_first (early_faults b) f is in
    let size : Finding = finding 4 38 b.at [] in
    let early : (file : ℕ) (g : Finding) → In g (early_faults b) → ¬ Before (in_file file g) (in_file file f) = first.least in
    let later : (file : ℕ) (g : Finding) → FoundBehind b.at g → ¬ Before (in_file file g) (in_file file f) =
    λ file g there before. early file size (too_large_found b large)
    (before_transitive (in_file file size) (in_file file g) (in_file file f) (before_behind file size g refl there) before) in
    record {
      violates = found_violates b f (in_left f (early_faults b) (late_faults b) first.among);
      least = λ file g violates. elim (violates_plain b g violates) [
        | inl count ↦ early file g (early_has_counts b g count)
        | inr items ↦ elim (items_behind b g behind items) [ inl found ↦ early file g found | inr there ↦ later file g there ]
      ];
    }
