use Rattle.std.proofs.Common.{◌≡◌, ◌++◌, drop, map}
use Rattle.serde_json.specs.View.{view}
use Rattle.cg_blkdone.specs.Parts.{full_by}
use Rattle.cg_blkdone.proofs.lists.full_list.Given as goal

abbrev pub invariant-loop-item : goal.invariant-loop-item
invariant-loop-item l = map view l.list.items ++ map (full_by l.part) (drop l.item-index l.items) ≡ map (full_by l.part) l.items
