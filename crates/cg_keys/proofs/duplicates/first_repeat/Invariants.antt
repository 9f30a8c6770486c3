use Rattle.std.proofs.Common.{◌≡◌, [], drop, map}
use Rattle.cg_docspec.specs.Tree as document
use Rattle.cg_finding.specs.Finding.{earlier, first_of}
use Rattle.cg_finding.specs.Found.{sees}
use Rattle.cg_hjson.specs.Views.{members_of}
use Rattle.cg_keys.specs.Duplicates.{repeats}
use Rattle.cg_keys.proofs.duplicates.first_repeat.Given as goal

-- what was found and the repeats that are left, behind the keys seen, have the first of all
abbrev pub invariant-loop-member : goal.invariant-loop-member
invariant-loop-member l =
    earlier (sees l.first) (first_of (repeats (map (λ s. s.now) l.seen.keys) (document.members (members_of (drop l.member-index l.members)))))
    ≡ first_of (repeats [] (document.members (members_of l.members)))
