-- The law of register modules.
use Rattle.cg_svspec.proofs.Exists.{has_valuation}
use Rattle.cg_svspec.proofs.KeepsWidths.{keeps_widths}
use Rattle.cg_regspec.specs.Laws.{RegisterModuleMeans}
use Rattle.cg_regspec.proofs.Means.{means_where_well_formed}
use Rattle.cg_regspec.proofs.WellModule.{module_well_formed, module_is_register}

-- The register module of a laid interface, in which no name repeats, acts as the interface's register block.
pub register_module_means : RegisterModuleMeans
register_module_means name face is_name laid none =
    means_where_well_formed has_valuation keeps_widths name face laid (module_well_formed name face is_name laid none) (module_is_register name face laid)
