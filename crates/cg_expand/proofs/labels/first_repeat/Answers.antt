use Rattle.std.proofs.Common.{map, ap, sym, ◌∙◌}
use Rattle.std.proofs.lemmas.List.Folds.{flat_map-map}
use Rattle.cg_finding.specs.Finding.{first_of}
use Rattle.cg_expand.specs.Parts.Labels.{labels_twice, twice_among}
use Rattle.cg_expand.proofs.labels.first_repeat.Goals as goal

pub returns : goal.returns
unfolding labels_twice
returns g c =
    c.first_in_all.ensures
    ∙ ap first_of (sym (flat_map-map (twice_among (map g.L.Labelled.of c.args.all.now)) g.L.Labelled.of c.args.all.now))
