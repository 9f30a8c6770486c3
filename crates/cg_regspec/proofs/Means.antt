-- The meaning of a register module, put together from its parts.
use Rattle.std.proofs.Common.{ℕ, List}
use Rattle.cg_svspec.specs.WellFormed.{WellFormed}
use Rattle.cg_svspec.specs.Register.{IsRegister, RegisterHasValuation, RegisterKeepsWidths}
use Rattle.cg_desc.specs.Laid.{IsLaid}
use Rattle.cg_desc.specs.declared.block.LaidFace.{LaidFace}
use Rattle.cg_regspec.specs.RegisterModule.{register_module}
use Rattle.cg_regspec.specs.Meaning.{RegisterMeans}
use Rattle.cg_regspec.proofs.PortsAre.{module_named, module_ports_are}
use Rattle.cg_regspec.proofs.Resets.{module_resets, module_has_reset}
use Rattle.cg_regspec.proofs.Steps.{module_steps}

-- A well-formed register module of an interface that is laid out acts as the register block of the interface.
pub means_where_well_formed : RegisterHasValuation → RegisterKeepsWidths → (name : List ℕ) (face : LaidFace) → IsLaid face → WellFormed (register_module name face) → IsRegister (register_module name face)
    → RegisterMeans name (register_module name face) face
means_where_well_formed has_valuation keeps_widths name face laid well_formed is_register = record {
  named = module_named name face;
  ports = module_ports_are name face well_formed;
  well_formed = well_formed;
  is_register = is_register;
  widths = keeps_widths (register_module name face) well_formed is_register;
  resets = module_resets name face;
  has_reset = module_has_reset name face;
  has_valuation = has_valuation (register_module name face) well_formed is_register;
  steps = module_steps name face laid;
}
