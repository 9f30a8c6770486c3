-- A test that computes: whether a printable module is well formed.
use Rattle.std.specs.Prelude.{Bool, ◌&&◌, []}
use Rattle.std.specs.List.{list_all}
use Rattle.cg_svspec.specs.Tree.{Module}
use Rattle.cg_svcheck.specs.Counting.{names_differ, drivers_differ, is_port_driven, is_wire_driven}
use Rattle.cg_svcheck.specs.Fitting.{entries_fit}

-- names differ, entries fit, no net has two drivers, and outputs and wires have one, but no input
unfoldable pub is_well_formed : Module → Bool
is_well_formed m =
    names_differ m && (entries_fit m [] m.entries && (drivers_differ m && (list_all (is_port_driven m) m.ports && list_all (is_wire_driven m) m.entries)))
