-- A top that breaks no rule on keys and values is one of which nothing is found.
use Rattle.std.proofs.Common.{◌≡◌, List, [], ◌∷◌, inl, refl, subst}
use Rattle.cg_finding.specs.Finding.{Finding, In}
use Rattle.cg_hjson.specs.declared.tree.Tree.{Tree}
use Rattle.cg_topread.specs.Listed.{top_faults}
use Rattle.cg_topread.specs.Violations.{Violates}
use Rattle.cg_topread.proofs.TopFacts.{in_top_faults, top_faults_have}

none_in : (fs : List Finding) → ((f : Finding) → ¬ In f fs) → fs ≡ []
none_in [] none = refl
none_in (f ∷ fs) none = absurd (none f (inl refl))

-- where nothing is broken, nothing is found
pub nothing_found : (t : Tree) → ((f : Finding) → ¬ Violates t f) → top_faults t ≡ []
nothing_found t sound = none_in (top_faults t) (λ f among. sound f (in_top_faults t f among))

-- where nothing is found, nothing is broken
pub nothing_broken : (t : Tree) → top_faults t ≡ [] → (f : Finding) → ¬ Violates t f
nothing_broken t none f violates = subst (In f) none (top_faults_have t f violates)
