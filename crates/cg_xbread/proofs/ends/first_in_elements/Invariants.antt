use Rattle.std.proofs.Common.{◌≡◌, [], drop, take}
use Rattle.cg_finding.specs.Finding.{each_after, earlier, first_of}
use Rattle.cg_finding.specs.Found.{sees}
use Rattle.cg_xbread.specs.Listed.{element_faults_after}
use Rattle.cg_xbread.specs.Written.{text_of}
use Rattle.cg_keys.proofs.SeenNames.{HasNamesOf}
use Rattle.cg_xbread.proofs.ends.first_in_elements.Given as goal

-- the names of the elements so far are in the set, and what was found and what is left have the first of all
abbrev pub invariant-loop-element : goal.invariant-loop-element
invariant-loop-element l = record {
  seen : HasNamesOf text_of l.seen.keys (take l.element-index l.elements);
  rest :
      earlier (sees l.first) (first_of (each_after (element_faults_after l.nodes) (take l.element-index l.elements) (drop l.element-index l.elements)))
      ≡ first_of (each_after (element_faults_after l.nodes) [] l.elements);
}
