use Rattle.std.proofs.Common.{◌≡◌, drop, map}
use Rattle.std.specs.List.{flat_map}
use Rattle.cg_finding.specs.Finding.{earlier, first_of}
use Rattle.cg_finding.specs.Found.{sees}
use Rattle.cg_keys.proofs.firsts.first_in_all_of.Given as goal

-- what was found and what the members that are left break have the first of all
abbrev pub invariant-loop-member : goal.invariant-loop-member
invariant-loop-member g l =
    earlier (sees l.first) (first_of (flat_map (g.R.Rule.faults l.rule) (map (λ m. m.now) (drop l.member-index l.members))))
    ≡ first_of (flat_map (g.R.Rule.faults l.rule) (map (λ m. m.now) l.members))
