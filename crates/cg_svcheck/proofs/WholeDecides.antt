-- The test decides whether a module is well formed.
use Rattle.std.proofs.Common.{◌≡◌, ℕ, Bool, true, ◌&&◌, List, [], ◌++◌, sym, subst, ◌∙◌}
use Rattle.std.specs.Bool.{Decides}
use Rattle.cg_svspec.specs.Tree.{Module}
use Rattle.cg_svspec.specs.Names.{Among, Differ, port_names, entry_names, module_names}
use Rattle.cg_svspec.specs.Printable.{IsPrintable}
use Rattle.cg_svspec.specs.WellFormed.{WellFormed, EntriesFit, port_nets, inputs_of, instance_driven}
use Rattle.cg_svspec.proofs.NamesLemmas.{differ_front, differ_back, differ_across}
use Rattle.cg_svspec.proofs.Runs.{both_pass}
use Rattle.std.proofs.lemmas.Bool.{and_from}
use Rattle.cg_svcheck.specs.Fitting.{entries_fit}
use Rattle.cg_svcheck.specs.Whole.{is_well_formed}
use Rattle.cg_svcheck.proofs.CountsDecide.{names_decide, drivers_decide, ports_decide, wires_decide}
use Rattle.cg_svcheck.proofs.EntriesDecide.{entries_decide, agrees_first, tells_first, names_of_ports}

-- the entries, where the module is printable and its names differ
pub fit_decides : (m : Module) → IsPrintable m → Differ (module_names m)
    → Decides (entries_fit m [] m.entries) (EntriesFit (inputs_of m.ports) (port_nets m.ports) (inputs_of m.ports ++ instance_driven (inputs_of m.ports) m.entries) m.entries)
fit_decides m printable differ =
    entries_decide m [] m.entries (port_nets m.ports) (inputs_of m.ports ++ instance_driven (inputs_of m.ports) m.entries) printable.entries
    (differ_back (port_names m.ports) (entry_names m.entries) differ)
    (λ n a b. differ_across n (port_names m.ports) (entry_names m.entries) differ (subst (λ (ns : List (List ℕ)). Among n ns) (names_of_ports m.ports) b) a)
    (agrees_first m.ports (differ_front (port_names m.ports) (entry_names m.entries) differ)) (tells_first m)

-- The tests behind that of what is printable decide whether a printable module is well formed.
pub well_formed_decides : (m : Module) (printable : Bool) → Decides printable (IsPrintable m) → Decides (printable && is_well_formed m) (WellFormed m)
unfolding is_well_formed
well_formed_decides m printable first = (up, down) where
  up : (printable && is_well_formed m) ≡ true → WellFormed m
  up h =
      let a = both_pass printable (is_well_formed m) h in
      let b = both_pass _ _ a.1 in
      let c = both_pass _ _ b.1 in
      let d = both_pass _ _ c.1 in
      let e = both_pass _ _ d.1 in
      let prints : IsPrintable m = first.0 a.0 in
      let differ : Differ (module_names m) = (names_decide m).0 b.0 in
      let ports = (ports_decide m m.ports).0 e.0 in
      record {
        printable = prints;
        names_differ = differ;
        entries_fit = (fit_decides m prints differ).0 c.0;
        drivers_differ = (drivers_decide m).0 d.0;
        outputs_driven = ports.0;
        wires_driven = (wires_decide m m.entries).0 e.1;
        inputs_free = ports.1;
      }

  down : WellFormed m → (printable && is_well_formed m) ≡ true
  down w =
      and_from _ _ (first.1 w.printable)
      (and_from _ _ ((names_decide m).1 w.names_differ)
      (and_from _ _ ((fit_decides m w.printable w.names_differ).1 w.entries_fit)
      (and_from _ _ ((drivers_decide m).1 w.drivers_differ)
      (and_from _ _ ((ports_decide m m.ports).1 (w.outputs_driven, w.inputs_free)) ((wires_decide m m.entries).1 w.wires_driven)))))

-- Where a module is printable, the other tests decide.
pub others_decide : (m : Module) (printable answer : Bool) → Decides printable (IsPrintable m) → printable ≡ true → answer ≡ is_well_formed m → Decides answer (WellFormed m)
others_decide m printable answer first holds is =
    let whole : Decides (printable && is_well_formed m) (WellFormed m) = well_formed_decides m printable first in
    (λ e. whole.0 (and_from printable (is_well_formed m) holds (sym is ∙ e)), λ w. is ∙ (both_pass printable (is_well_formed m) (whole.1 w)).1)
