use Rattle.std.proofs.Common.{drop}
use Rattle.std.specs.List.{zip}
use Rattle.cg_finding.specs.Found.{sees}
use Rattle.cg_layout.proofs.Faces.{GoesOn}
use Rattle.cg_layout.proofs.faults.first_in_faces.Given as goal

-- what is first so far, and the interfaces that are left
abbrev pub invariant-loop-number : goal.invariant-loop-number
invariant-loop-number l = GoesOn (zip l.faces l.items) (sees l.first) (drop l.number (zip l.faces l.items))
