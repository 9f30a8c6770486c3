use Rattle.std.proofs.Common.{◌++◌, map, subst, sym, ap, ◌∙◌}
use Rattle.cg_svspec.specs.WellFormed.{inputs_of, instance_driven, port_nets}
use Rattle.cg_sv.specs.Views.{entry_of, module_of}
use Rattle.cg_sveval.specs.Cells.{HasCells, InOrder, state_nets}
use Rattle.cg_sveval.specs.Tables.{reset_cells}
use Rattle.cg_sveval.specs.Lookups.{value_in}
use Rattle.cg_sveval.proofs.Resets.{resets_in_order, resets_mean}
use Rattle.cg_sveval.proofs.clock.reset.Goals as goal

pub returns-clause-cells : goal.returns-clause-cells
returns-clause-cells c =
    let m = module_of c.args.module.now in
    subst (InOrder (state_nets m.entries)) (sym (c.in_ok-cells.ensures ∙ ap (λ z. reset_cells (value_in c.new-known.result) (map entry_of z)) c.as_slice.ensures))
    (resets_in_order (inputs_of m.ports) (value_in c.new-known.result) (port_nets m.ports) (inputs_of m.ports ++ instance_driven (inputs_of m.ports) m.entries) m.entries
    c.requires.well_formed.entries_fit c.requires.register.entries)

pub returns-clause-reset : goal.returns-clause-reset
returns-clause-reset c = λ values has.
    let m = module_of c.args.module.now in
    resets_mean (inputs_of m.ports) (value_in c.new-known.result) values (port_nets m.ports) (inputs_of m.ports ++ instance_driven (inputs_of m.ports) m.entries) m.entries
    c.requires.well_formed.entries_fit c.requires.register.entries (subst (λ cells. HasCells values (state_nets m.entries) cells) (c.in_ok-cells.ensures ∙ ap (λ z. reset_cells (value_in c.new-known.result) (map entry_of z)) c.as_slice.ensures) has)
