use Rattle.std.proofs.Common.{rules, ap, refl, ◌+◌, ◌∙◌}
use Rattle.std.proofs.lemmas.List.Sorted.{IsNonDecreasingBy-from_sort_by_key}
use Rattle.cg_space.proofs.Sharing.{all_collected, collected_push, collected_skip, extent_at}
use Rattle.cg_space.proofs.shared.sorted_extents.Goals as goal
use Rattle.cg_space.proofs.shared.sorted_extents.Goals.{then-range-gt0+in_ok-push, else-range-gt0}

pub loop-place-preserved : goal.loop-place-preserved
loop-place-preserved c = elim c.if-range-gt0.branch [
  | then-range-gt0+in_ok-push w ↦
      collected_push c.args.ranges.now c.loop-place.place c.loop-place.extents.items c.if-range-gt0.extents.items _
      (extent_at c.args.ranges.now c.loop-place.place _ _ c.loop-place-test.true w.if-range-gt0.true refl w.from-first.ensures (ap (λ first. first + _) w.from-first.ensures)) refl
      (ap (λ extents. extents.items) w.extents-is ∙ w.in_ok-push.ensures.items) c.loop-place.invariant
  | else-range-gt0 w ↦
      collected_skip c.args.ranges.now c.loop-place.place _ c.loop-place.extents.items c.if-range-gt0.extents.items c.loop-place-test.true w.if-range-gt0.false
      (ap (λ extents. extents.items) w.extents-is) c.loop-place.invariant
]

pub returns-clause-are : goal.returns-clause-are
returns-clause-are c =
    all_collected c.args.ranges.now c.loop-place.place c.loop-place.extents.items c.sort_unstable_by_key.new.self.items c.loop-place-test.false c.loop-place.invariant
    c.sort_unstable_by_key.ensures.permutation

pub returns-clause-rise : goal.returns-clause-rise
returns-clause-rise c = IsNonDecreasingBy-from_sort_by_key (λ e. e.first) _ c.sort_unstable_by_key.ensures.sorted (λ a r q k. search rules)
