use Rattle.std.proofs.Common.{◌≡◌, ℕ, ◌++◌, List, ap, ◌∙◌}
use Rattle.std.specs.Prelude.{codes}
use Rattle.std.proofs.lemmas.List.{append_assoc}
use Rattle.cg_finding.specs.Finding.{Finding, first_of}
use Rattle.cg_keys.specs.Table.{Key}
use Rattle.cg_blkread.specs.Keys.{lists_faults, objects_faults}
use Rattle.cg_blkread.specs.Tables.{alert_keys, clocking_keys, interface_keys, interrupt_keys, parameter_keys, pin_keys}
use Rattle.cg_blkread.proofs.MoreKeys.{merged}
use Rattle.cg_blkread.proofs.keys.first_in_lists.Goals as goal

-- two, three and three lists are eight
joined : (a b c d e f g h : List Finding) → (a ++ b) ++ ((c ++ (d ++ e)) ++ (f ++ (g ++ h))) ≡ a ++ (b ++ (c ++ (d ++ (e ++ (f ++ (g ++ h))))))
joined a b c d e f g h =
    append_assoc a b ((c ++ (d ++ e)) ++ (f ++ (g ++ h)))
    ∙ ap (λ l. a ++ (b ++ l)) (append_assoc c (d ++ e) (f ++ (g ++ h)))
    ∙ ap (λ l. a ++ (b ++ (c ++ l))) (append_assoc d e (f ++ (g ++ h)))

pub returns : goal.returns
unfolding lists_faults
returns c =
    let found : List ℕ → List Key → List Finding = λ key keys. objects_faults key keys c.args.block.now in
    merged _ _ _ _ _ c.earlier_of-2.ensures c.first_in_clocks_and_interfaces-clocks_and_interfaces.ensures
    (merged _ _ _ _ _ c.earlier_of.ensures c.first_in_signals-signals.ensures c.first_in_pins-pins.ensures)
    ∙ ap first_of
    (joined (found (codes "clocking") clocking_keys) (found (codes "bus_interfaces") interface_keys) (found (codes "interrupt_list") interrupt_keys)
    (found (codes "alert_list") alert_keys) (found (codes "param_list") parameter_keys) (found (codes "available_input_list") pin_keys)
    (found (codes "available_output_list") pin_keys) (found (codes "available_inout_list") pin_keys))
