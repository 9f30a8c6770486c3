use Rattle.std.proofs.Common.{◌≡◌, ◌+◌, ◌∷◌, drop, sym, ◌∙◌}
use Rattle.std.proofs.lemmas.Bool.{false≢true}
use Rattle.std.proofs.lemmas.List.{drop_all}
use Rattle.cg_layout.specs.Violations.{IsSkipBack}
use Rattle.cg_layout.proofs.Ends.{extent_ends, reached_back, reached_end, reached_later, reached_past}
use Rattle.cg_layout.proofs.Lists.{cut}
use Rattle.cg_layout.proofs.faults.first_in_offsets.Goals as goal
use Rattle.cg_layout.proofs.faults.first_in_offsets.Goals.{After-is_skip_back, Else-is_skip_back}

-- the item, and those behind it
rest : (c : After-is_skip_back) → drop c.loop-item.item-index c.args.items.now ≡ c.item-item.result ∷ drop (c.loop-item.item-index + 1) c.args.items.now
rest c = cut c.args.items.now c.loop-item.item-index c.item-item.result _ c.loop-item-test.true c.item-item.is

-- the item does not skip back
forth : (c : Else-is_skip_back) → ¬ IsSkipBack c.loop-item.low c.item-item.result
forth c skips = false≢true (sym c.if-is_skip_back.false ∙ c.is_skip_back.ensures.1 skips)

pub returns-then-is_skip_back : goal.returns-then-is_skip_back
returns-then-is_skip_back c =
    rw c.skip_back.ensures
    (reached_back (rest (goal.at.returns-then-is_skip_back c).After-is_skip_back) c.loop-item.invariant c.place_of.result c.place_of.ensures
    (c.is_skip_back.ensures.0 c.if-is_skip_back.true))

pub returns-then-low-gt-END_LIMIT : goal.returns-then-low-gt-END_LIMIT
returns-then-low-gt-END_LIMIT c =
    let on = goal.at.returns-then-low-gt-END_LIMIT c in
    rw c.past_the_end.ensures
    (reached_past (rest on.After-is_skip_back) c.loop-item.invariant c.place_of-then-low-gt-END_LIMIT.result c.own_name.result.now c.extent_of-low.result.end
    c.place_of-then-low-gt-END_LIMIT.ensures c.own_name.ensures (forth on.Else-is_skip_back) (extent_ends c.extent_of-low.ensures) c.if-low-gt-END_LIMIT.true)

pub loop-item-preserved : goal.loop-item-preserved
loop-item-preserved c =
    let on = goal.at.loop-item-preserved c in
    reached_later (rest on.After-is_skip_back) c.loop-item.invariant c.extent_of-low.result.end (forth on.Else-is_skip_back)
    (extent_ends c.extent_of-low.ensures) c.if-low-gt-END_LIMIT.false

pub returns : goal.returns
returns c = reached_end (drop_all c.loop-item.item-index c.args.items.now c.loop-item-test.false) c.loop-item.invariant
