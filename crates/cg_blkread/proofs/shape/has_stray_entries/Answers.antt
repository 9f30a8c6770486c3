use Rattle.std.proofs.Common.{ap, map, ◌∙◌, ◌&&◌, not}
use Rattle.std.specs.List.{list_any}
use Rattle.cg_blkread.specs.Interfaces.{first_members, has_stray_entries, is_entry_less}
use Rattle.cg_blkread.proofs.NameSets.{stray_as}
use Rattle.cg_blkread.proofs.SeenKeys.{has}
use Rattle.cg_blkread.proofs.shape.has_stray_entries.Goals as goal

pub returns-in_ok-names-in-Some : goal.returns-in_ok-names-in-Some
returns-in_ok-names-in-Some c =
    c.has_stray_list.ensures
    ∙ ap (list_any (λ l. not (has c.in_ok-names-in-Some.names.keys l.key.now) && not (is_entry_less l.value.now))) c.as_slice.ensures.value
    ∙ stray_as c.in_ok-names-in-Some.names.keys (map (λ t. t.now) c.args.device_faces.now) c.in_ok-lists-in-Some.lists.items (first_members c.in-Some.members.now)
    c.in_ok-lists-in-Some.ensures c.in_ok-names-in-Some.ensures
    ∙ ap (has_stray_entries (map (λ t. t.now) c.args.device_faces.now) c.args.tree.now) c.in-Some.ensures
