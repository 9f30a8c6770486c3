use Rattle.std.proofs.Common.{ap, map, ◌∙◌}
use Rattle.cg_finding.specs.Finding.{first_of}
use Rattle.cg_blkread.proofs.NameSets.{missing_lists_by}
use Rattle.cg_blkread.proofs.shape.first_missing_list.Goals as goal

pub returns : goal.returns
returns c =
    c.first_missing.ensures
    ∙ ap first_of (missing_lists_by c.in_ok-keys.keys.keys c.args.block.now c.in-Some-object.lists.now c.in-Some.tree.now (map (λ t. t.now) c.args.device_faces.now)
    c.requires c.in-Some.ensures c.in-Some-object.ensures c.in_ok-keys.ensures)
