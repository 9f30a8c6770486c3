use Rattle.std.proofs.Common.{◌≡◌, drop, map}
use Rattle.std.specs.List.{list_any}
use Rattle.cg_expand.specs.Parts.Labels.{is_earlier, named}
use Rattle.cg_expand.proofs.labels.is_repeat.Given as goal

-- none of the labels before these is earlier and has the name
abbrev pub invariant-loop-other : goal.invariant-loop-other
invariant-loop-other g l =
    list_any (is_earlier (named l.label)) (map g.L.Labelled.of (drop l.other-index l.all))
    ≡ list_any (is_earlier (named l.label)) (map g.L.Labelled.of l.all)
