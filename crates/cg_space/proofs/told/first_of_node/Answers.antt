use Rattle.std.proofs.Common.{◌∙◌, ap}
use Rattle.cg_finding.specs.Found.{sees}
use Rattle.cg_finding.specs.Finding.{earlier}
use Rattle.cg_space.proofs.Telling.{tells_node}
use Rattle.cg_space.proofs.told.first_of_node.Goals as goal

pub returns : goal.returns
returns c =
    tells_node c.args.node.now c.args.verdict (sees c.found_if-circle.result) (sees c.found_if-range.result) (sees c.found_if-overlap.result) _
    (rw (c.crossbars_in_a_circle.ensures, c.as_str-name.ensures) at c.found_if-circle.ensures)
    (rw (c.bad_range.ensures, c.as_str-name.ensures) at c.found_if-range.ensures)
    (rw (c.ranges_overlap.ensures, c.as_str-name.ensures) at c.found_if-overlap.ensures)
    (c.earlier_of-2.ensures ∙ ap (earlier (sees c.found_if-circle.result)) c.earlier_of.ensures)
