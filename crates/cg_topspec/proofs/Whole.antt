-- The parts of the whole module.
use Rattle.std.proofs.Common.{◌≡◌, refl}
use Rattle.cg_svspec.specs.Names.{Differ, module_names}
use Rattle.cg_topspec.proofs.Built.{Built, NamesApart}
use Rattle.cg_topspec.proofs.Nets.{NamesDiffer}
use Rattle.cg_topspec.specs.TopModule.{top_entries, top_module, top_ports}

pub ports_of_top : (top : Built) → (top_module top.merged top.numbers top.ties top.pins).ports ≡ top_ports top.merged top.numbers top.pins
unfolding top_module
ports_of_top top = refl

pub entries_of_top : (top : Built) → (top_module top.merged top.numbers top.ties top.pins).entries ≡ top_entries top.merged top.numbers top.ties top.pins
unfolding top_module
entries_of_top top = refl

pub names_differ_in : (top : Built) → Differ (module_names (top_module top.merged top.numbers top.ties top.pins)) → NamesDiffer top
unfolding top_module
names_differ_in top differ = differ

pub names_of_top : (top : Built) → NamesApart top → NamesDiffer top
names_of_top top apart = names_differ_in top apart.top_names
