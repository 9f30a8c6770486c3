use Rattle.std.proofs.Common.{◌≡◌, ◌++◌, drop, map}
use Rattle.serde_json.specs.View.{view, members_view}
use Rattle.cg_docspec.specs.Tree.{members}
use Rattle.cg_hjson.specs.Json.{json_of, json_members}
use Rattle.cg_hjson.specs.Views.{members_of, trees_of}
use Rattle.cg_hjson.proofs.JsonParts.{put_all}
use Rattle.cg_hjson.proofs.json_value.+making.Given as goal

abbrev pub invariant-json_list-loop-item : goal.invariant-json_list-loop-item
invariant-json_list-loop-item l = map view l.list.items ++ map json_of (trees_of (drop l.item-index l.items)) ≡ map json_of (trees_of l.items)

abbrev pub invariant-json_map-loop-member : goal.invariant-json_map-loop-member
invariant-json_map-loop-member l = put_all (members (members_of (drop l.member-index l.fields))) (members_view l.map.entries) ≡ json_members (members (members_of l.fields))
