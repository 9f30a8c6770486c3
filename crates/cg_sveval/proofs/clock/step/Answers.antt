use Rattle.std.proofs.Common.{map, subst, sym, ap, ◌∙◌}
use Rattle.cg_sv.specs.Views.{entry_of, module_of, port_of}
use Rattle.cg_sveval.specs.Cells.{HasCells, InOrder, output_nets, state_nets}
use Rattle.cg_sveval.specs.Lookups.{value_in}
use Rattle.cg_sveval.specs.Tables.{next_cells, output_cells, with_inputs, with_states, settled}
use Rattle.cg_sveval.proofs.Clocks.{has_them}
use Rattle.cg_sveval.proofs.Tables.{Steps}
use Rattle.cg_sveval.proofs.Meaning.{clock_matches, some_clock, outputs_named_apart, states_named_apart}
use Rattle.cg_sveval.proofs.clock.step.Goals as goal

-- the table, step by step
abbrev steps : (c : goal.After-drop-known-2) → Steps (module_of c.args.module.now) c.args.inputs.now.cells c.args.state.now.cells
steps c = record {
  start = value_in c.new-known.result;
  with_ins = value_in c.add_inputs.new.known;
  with_all = value_in c.add_states.new.known;
  table = value_in c.settle.new.known;
  ins = λ n. c.in_ok-add_inputs.ensures n ∙ ap (λ z. with_inputs z (value_in c.new-known.result) (map port_of c.as_slice-2.result.now) n) c.as_slice.ensures
      ∙ ap (λ z. with_inputs c.args.inputs.now.cells (value_in c.new-known.result) (map port_of z) n) c.as_slice-2.ensures;
  all = λ n. c.in_ok-add_states.ensures n ∙ ap (λ z. with_states z (value_in c.add_inputs.new.known) (map entry_of c.as_slice-4.result.now) n) c.as_slice-3.ensures
      ∙ ap (λ z. with_states c.args.state.now.cells (value_in c.add_inputs.new.known) (map entry_of z) n) c.as_slice-4.ensures;
  done = λ n. c.in_ok-settle.ensures n ∙ ap (λ z. settled (value_in c.add_states.new.known) (map entry_of z) n) c.as_slice-5.ensures;
}

pub returns-clause-means_states : goal.returns-clause-means_states
returns-clause-means_states c = λ given held v next has_ins has_states valuation.
    let m = module_of c.args.module.now in
    let all = clock_matches m c.requires.well_formed c.requires.register c.args.inputs.now.cells c.args.state.now.cells c.requires.inputs c.requires.states (steps c) given held v next has_ins
    has_states valuation in
    subst (HasCells next (state_nets m.entries)) (sym (c.in_ok-cells.ensures ∙ ap (λ z. next_cells (value_in c.settle.new.known) (map entry_of z)) c.as_slice-6.ensures))
    (has_them next (state_nets m.entries) (next_cells (value_in c.settle.new.known) m.entries) (states_named_apart m c.requires.well_formed c.requires.register) all.nexts)

pub returns-clause-means_outputs : goal.returns-clause-means_outputs
returns-clause-means_outputs c = λ given held v next has_ins has_states valuation.
    let m = module_of c.args.module.now in
    let all = clock_matches m c.requires.well_formed c.requires.register c.args.inputs.now.cells c.args.state.now.cells c.requires.inputs c.requires.states (steps c) given held v next has_ins
    has_states valuation in
    subst (HasCells v (output_nets m.ports)) (sym (c.in_ok-outputs.ensures ∙ ap (λ z. output_cells (value_in c.settle.new.known) (map port_of z)) c.as_slice-7.ensures))
    (has_them v (output_nets m.ports) (output_cells (value_in c.settle.new.known) m.ports) (outputs_named_apart m c.requires.well_formed) all.outputs)

pub returns-clause-states : goal.returns-clause-states
returns-clause-states c =
    let m = module_of c.args.module.now in
    let all = some_clock m c.requires.well_formed c.requires.register c.args.inputs.now.cells c.args.state.now.cells c.requires.inputs c.requires.states (steps c) in
    subst (InOrder (state_nets m.entries)) (sym (c.in_ok-cells.ensures ∙ ap (λ z. next_cells (value_in c.settle.new.known) (map entry_of z)) c.as_slice-6.ensures)) all.nexts

pub returns-clause-outputs : goal.returns-clause-outputs
returns-clause-outputs c =
    let m = module_of c.args.module.now in
    let all = some_clock m c.requires.well_formed c.requires.register c.args.inputs.now.cells c.args.state.now.cells c.requires.inputs c.requires.states (steps c) in
    subst (InOrder (output_nets m.ports)) (sym (c.in_ok-outputs.ensures ∙ ap (λ z. output_cells (value_in c.settle.new.known) (map port_of z)) c.as_slice-7.ensures)) all.outputs
