use Rattle.std.proofs.Common.{rules}
use Rattle.serde_json.specs.View.{view, members_view}
use Rattle.cg_docspec.specs.Tree.{members}
use Rattle.cg_hjson.specs.Json.{HasKeysOnce, HasRange}
use Rattle.cg_hjson.specs.Views.{members_of}
use Rattle.cg_hjson.proofs.JsonParts.{item_step, items_done, put_all-once, member_step, members_done, in_list, in_object, in_trees, in_members}
use Rattle.cg_hjson.specs.declared.tree.Kind.{the_lemmas}
use Rattle.cg_hjson.proofs.json_value.+making.Goals as goal

pub json_list-to_json-requires : goal.json_list-to_json-requires
json_list-to_json-requires t c = (
  search (rules, the_lemmas, c.decreases),
  (
    in_trees HasKeysOnce c.args.items.now c.loop-item.item-index c.item-item.result c.loop-item-test.true c.item-item.is c.requires.keys,
    in_trees HasRange c.args.items.now c.loop-item.item-index c.item-item.result c.loop-item-test.true c.item-item.is c.requires.integers,
  ),
)

pub json_list-loop-item-preserved : goal.json_list-loop-item-preserved
json_list-loop-item-preserved t c =
    item_step c.args.items.now c.loop-item.item-index c.item-item.result _ _ c.in_ok-value.value
    c.loop-item-test.true c.item-item.is c.loop-item.invariant c.in_ok-push.ensures.items c.in_ok-value.ensures

pub json_list-returns : goal.json_list-returns
json_list-returns t c = items_done c.args.items.now c.loop-item.item-index _ c.loop-item-test.false c.loop-item.invariant

pub json_map-loop-member-init : goal.json_map-loop-member-init
json_map-loop-member-init t c = rw c.new-map.ensures.empty (put_all-once (members (members_of c.args.fields.now)) c.requires.once)

pub json_map-to_json-requires : goal.json_map-to_json-requires
json_map-to_json-requires t c = (
  search (rules, the_lemmas, c.decreases),
  (
    in_members HasKeysOnce c.args.fields.now c.loop-member.member-index c.member-item.result c.loop-member-test.true c.member-item.is c.requires.keys,
    in_members HasRange c.args.fields.now c.loop-member.member-index c.member-item.result c.loop-member-test.true c.member-item.is c.requires.integers,
  ),
)

pub json_map-loop-member-preserved : goal.json_map-loop-member-preserved
json_map-loop-member-preserved t c =
    member_step c.args.fields.now c.loop-member.member-index c.member-item.result (members_view c.loop-member.map.entries) _ _ (view c.in_ok-value.value)
    c.loop-member-test.true c.member-item.is (search rules) c.in_ok-value.ensures c.loop-member.invariant

pub json_map-returns : goal.json_map-returns
json_map-returns t c = members_done c.args.fields.now c.loop-member.member-index _ _ c.loop-member-test.false c.loop-member.invariant

pub to_json-json_list-requires : goal.to_json-json_list-requires
to_json-json_list-requires t c = (
  search (rules, the_lemmas, c.decreases),
  (
    rw c.as_slice.ensures (in_list HasKeysOnce c.args.tree.now c.in-Array.items c.in-Array.is c.requires.keys),
    rw c.as_slice.ensures (in_list HasRange c.args.tree.now c.in-Array.items c.in-Array.is c.requires.integers),
  ),
)

pub to_json-json_map-requires : goal.to_json-json_map-requires
to_json-json_map-requires t c =
    let differ = in_object HasKeysOnce c.args.tree.now c.in-Object.members c.in-Object.is c.requires.keys in
    let fit = in_object HasRange c.args.tree.now c.in-Object.members c.in-Object.is c.requires.integers in
    (search (rules, the_lemmas, c.decreases), (rw c.as_slice-in-Object.ensures differ.0, (rw c.as_slice-in-Object.ensures differ.1, rw c.as_slice-in-Object.ensures fit.1)))
