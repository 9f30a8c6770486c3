use Rattle.std.proofs.Common.{ap, drop, sym, ◌+◌, ◌∙◌}
use Rattle.std.specs.Prelude.{option_map}
use Rattle.cg_topread.specs.Types.{type_in}
use Rattle.cg_topread.proofs.Uses.{and_left, no_left, no_new, no_type_yet, one_use}
use Rattle.cg_topread.proofs.types.types_in.Goals as goal
use Rattle.cg_topread.proofs.types.types_in.Goals.{in-Some+in_ok-insert, in_default}

pub loop-instance-init : goal.loop-instance-init
loop-instance-init c = no_type_yet c.args.instances.now c.new-types.result.keys c.new-types.ensures.empty

pub loop-instance-preserved : goal.loop-instance-preserved
loop-instance-preserved c =
    elim c.match-type_in.branch [
      | in-Some+in_ok-insert w ↦
          one_use type_in c.args.instances.now c.loop-instance.instance-index c.instance-item.result _ c.loop-instance.types.keys c.match-type_in.types.keys w.in-Some.kind _
          c.loop-instance-test.true c.instance-item.is (sym c.type_in.ensures ∙ ap (option_map (λ k. k.now)) w.in-Some.is)
          (ap (λ s. s.keys) w.types-is ∙ w.in_ok-insert.ensures.keys) c.loop-instance.invariant
      | in_default w ↦
          ap (λ s. and_left type_in s.keys (drop (c.loop-instance.instance-index + 1) c.args.instances.now)) w.types-is
          ∙ no_new type_in c.args.instances.now c.loop-instance.instance-index c.instance-item.result _ c.loop-instance.types.keys _
          c.loop-instance-test.true c.instance-item.is (sym c.type_in.ensures ∙ ap (option_map (λ k. k.now)) w.in_default.is) c.loop-instance.invariant
    ]

pub returns : goal.returns
returns c = sym (no_left type_in c.loop-instance.types.keys c.args.instances.now c.loop-instance.instance-index c.loop-instance-test.false) ∙ c.loop-instance.invariant
