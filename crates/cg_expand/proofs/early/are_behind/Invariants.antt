use Rattle.std.proofs.Common.{◌≡◌, drop, map}
use Rattle.std.specs.List.{list_all}
use Rattle.cg_expand.specs.Parts.Labels.{is_behind}
use Rattle.cg_expand.proofs.early.are_behind.Given as goal

-- those before these stand behind the place
abbrev pub invariant-loop-item : goal.invariant-loop-item
invariant-loop-item g l =
    list_all (is_behind l.at) (map g.L.Labelled.of (drop l.item-index l.labelled))
    ≡ list_all (is_behind l.at) (map g.L.Labelled.of l.labelled)
