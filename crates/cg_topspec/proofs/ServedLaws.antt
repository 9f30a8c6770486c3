-- The premises of the laws are met by the top with an interface: its modules, and what the laws say of it.
use Rattle.std.proofs.Common.{List, None, Some, [], ap, arith, codes, inl, inr, length, refl, slice_get, subst, suc, sym, true, zero, ℕ, ◌<◌, ◌∷◌, ◌≡◌, ◌⊎◌}
use Rattle.std.specs.Fmt.{digits}
use Rattle.cg_busspec.specs.Crossbar.{devices, feeders, has_fifo, hosts, is_joined, label, reach}
use Rattle.cg_busspec.specs.CrossbarModule.{bundle, clocks, crossbar_entries, crossbar_module, crossbar_ports, joined_link, lane, power_of, range_term, socket_link, split_instance}
use Rattle.cg_desc.specs.Reach.{HasRanges, interface}
use Rattle.cg_desc.specs.declared.block.LaidBlock.{LaidBlock}
use Rattle.cg_desc.specs.declared.block.LaidFace.{LaidFace}
use Rattle.cg_desc.specs.declared.crossbar.NodeDesc.{NodeDesc}
use Rattle.cg_desc.specs.declared.crossbar.NodeRanges.{NodeRanges}
use Rattle.cg_desc.specs.declared.crossbar.XbarDesc.{XbarDesc}
use Rattle.cg_desc.specs.declared.top.NodeEnd.TheVariants.{Outside}
use Rattle.cg_regspec.specs.NetNames.{base, update_error_net, window_base}
use Rattle.cg_regspec.specs.RegisterModule.{module_of_face, register_module, window_terms}
use Rattle.cg_space.specs.Answers.{AreNodeRanges}
use Rattle.cg_space.specs.Rows.{IsMapHost}
use Rattle.cg_svspec.specs.Bits.{Bits}
use Rattle.cg_svspec.specs.Names.{Among, first_repeat, module_names}
use Rattle.cg_svspec.specs.Tree.{Module}
use Rattle.cg_svspec.specs.Value.{Values}
use Rattle.cg_svspec.specs.Walk.{module_named}
use Rattle.cg_svspec.specs.WellFormed.{WellFormed}
use Rattle.cg_topspec.proofs.Examples.{no_numbers, no_pins}
use Rattle.cg_topspec.proofs.Law.{requests_come}
use Rattle.cg_topspec.proofs.Possible.{both, cpu, either, only}
use Rattle.cg_topspec.proofs.Selections.{a_selection_exists}
use Rattle.cg_topspec.proofs.Served.{EitherNode, data_face, device_of, in_serving, its_ends, served, served_block, serving}
use Rattle.cg_topspec.proofs.ServedMerged.{base_is}
use Rattle.cg_topspec.proofs.ServedSpace.{its_ties, served_fits, served_names_differ, served_unbroken, unit_range}
use Rattle.cg_topspec.proofs.WellFormedTop.{top_module_is_well_formed}
use Rattle.cg_topspec.specs.Modules.{HasCrossbarModule, HasModules, HasRegisterModule}
use Rattle.cg_topspec.specs.Selection.{HaveWidths, IsSelection}
use Rattle.cg_topspec.specs.TopModule.{top_module}
use Rattle.cg_topspec.specs.Ways.{Comes}
use Rattle.cg_topspec.specs.WellFormed.{HasFewBits}
use Rattle.cg_busspec.specs.Crossbar.{crossbar_of as with_ranges, devices, feeders, has_fifo, hosts, is_joined, label, reach}

abbrev serving_ranges : List NodeRanges
serving_ranges = record { ranges = [] } ∷ record { ranges = unit_range ∷ [] } ∷ []

abbrev serving_module : Module
serving_module = crossbar_module (with_ranges serving serving_ranges)

abbrev unit_module : Module
unit_module = module_of_face served_block data_face

abbrev its_modules : List Module
its_modules = serving_module ∷ unit_module ∷ []

serving_found : module_named (top_module served no_numbers its_ties no_pins ∷ its_modules) (codes "xbar_m") ≡ Some serving_module
unfolding crossbar_module top_module register_module
serving_found = refl

unit_found : module_named (top_module served no_numbers its_ties no_pins ∷ its_modules) (codes "b_reg_top") ≡ Some unit_module
unfolding crossbar_module top_module register_module
unit_found = refl

type_unnamed : module_named (top_module served no_numbers its_ties no_pins ∷ its_modules) (codes "b") ≡ None
unfolding crossbar_module top_module register_module
type_unnamed = refl

serving_names : first_repeat (module_names serving_module) ≡ None
unfolding crossbar_module crossbar_ports crossbar_entries clocks hosts devices label reach feeders is_joined has_fifo socket_link joined_link lane power_of range_term split_instance bundle
serving_names = refl

unit_names : first_repeat (module_names unit_module) ≡ None
unfolding register_module base update_error_net window_base window_terms digits
unit_names = refl

its_ranges : AreNodeRanges served 0 serving_ranges
its_ranges = record {
  count = λ xbar at. ap (λ (c : XbarDesc). length c.nodes) (only serving xbar 0 at).1;
  devices = λ n node entry at device there. a_device n node entry (device_of n node (in_serving 0 n node at).1 device).0
      (either (record { ranges = [] }) (record { ranges = unit_range ∷ [] }) entry n there);
  hosts = λ n node entry at host there. a_host n node entry (in_serving 0 n node at).1 host there;
} where
  unit_has : HasRanges served 0 1 (unit_range ∷ [])
  unit_has = interface 0 0 16 data_face (its_ends, refl, refl) (served_block, (0, refl, refl), refl) base_is

  a_device : (n : ℕ) (node : NodeDesc) (entry : NodeRanges) → n ≡ 1
      → ((n ≡ 0) × (record { ranges = [] } ≡ entry)) ⊎ ((n ≡ 1) × (record { ranges = unit_range ∷ [] } ≡ entry)) → HasRanges served 0 n entry.ranges
  a_device n node entry one (inl e) = absurd (omega (arith, one, e.0))
  a_device n node entry one (inr e) =
      subst (λ (r : NodeRanges). HasRanges served 0 n r.ranges) e.1 (subst (λ k. HasRanges served 0 k (unit_range ∷ [])) (sym one) unit_has)

  a_host : (n : ℕ) (node : NodeDesc) (entry : NodeRanges) → EitherNode n node → node.host ≡ true → slice_get serving_ranges n ≡ Some entry → entry.ranges ≡ []
  a_host n node entry (inr k) host there = absurd (both node.host (ap (λ (d : NodeDesc). d.host) (sym k.1)) host)
  a_host n node entry (inl k) host there = by (either (record { ranges = [] }) (record { ranges = unit_range ∷ [] }) entry n there) where
    by : ((n ≡ 0) × (record { ranges = [] } ≡ entry)) ⊎ ((n ≡ 1) × (record { ranges = unit_range ∷ [] } ≡ entry)) → entry.ranges ≡ []
    by (inl e) = ap (λ (r : NodeRanges). r.ranges) (sym e.1)
    by (inr e) = absurd (omega (arith, k.0, e.0))

modules_there : HasModules served (top_module served no_numbers its_ties no_pins ∷ its_modules)
modules_there = record { crossbars = at; registers = register_at; types = type_at } where
  at : (x : ℕ) → x < 1 → HasCrossbarModule served (top_module served no_numbers its_ties no_pins ∷ its_modules) x
  at zero less = record { ranges = serving_ranges; are_its = its_ranges; found = serving_found; no_repeat = serving_names }
  at (suc x) less = absurd (omega (arith, less))

  register_at : (block : LaidBlock) (face : LaidFace) → Among block (served_block ∷ []) → Among face block.faces
      → HasRegisterModule (top_module served no_numbers its_ties no_pins ∷ its_modules) block face
  register_at block face (inl e) a =
      subst (λ (b : LaidBlock). HasRegisterModule (top_module served no_numbers its_ties no_pins ∷ its_modules) b face) (sym e)
      (of_unit_face face (subst (λ (b : LaidBlock). Among face b.faces) e a)) where
        of_unit_face : (face : LaidFace) → Among face (data_face ∷ [])
            → HasRegisterModule (top_module served no_numbers its_ties no_pins ∷ its_modules) served_block face
        of_unit_face face (inl s) =
            subst (λ (g : LaidFace). HasRegisterModule (top_module served no_numbers its_ties no_pins ∷ its_modules) served_block g) (sym s)
            (record { found = unit_found; no_repeat = unit_names })
        of_unit_face face (inr b) = absurd b
  register_at block face (inr b) a = absurd b

  type_at : (block : LaidBlock) → Among block (served_block ∷ [])
      → module_named (top_module served no_numbers its_ties no_pins ∷ its_modules) block.desc.name ≡ None
  type_at block (inl e) =
      subst (λ (b : LaidBlock). module_named (top_module served no_numbers its_ties no_pins ∷ its_modules) b.desc.name ≡ None) (sym e) type_unnamed
  type_at block (inr b) = absurd b

-- ---- so the laws speak of it

its_host : IsMapHost served 0 0
its_host = record {
  host = cpu;
  is = record { crossbar = serving; crossbar_is = refl; is = refl };
  is_host = refl;
  end = Outside;
  stands = (its_ends, refl, refl);
  plain = tt;
}

few_bits : HasFewBits no_numbers no_pins
few_bits = record { interrupts = omega arith; alerts = omega arith; inputs = omega arith; outputs = omega arith }

-- every request of its host comes to what the address map says
served_requests : (request : Bits) → length request ≡ 70 → Comes served no_numbers its_ties no_pins its_modules 0 0 its_host.host.name request
served_requests request sized =
    requests_come served no_numbers its_ties no_pins its_modules served_fits served_unbroken served_names_differ modules_there 0 0 its_host request sized

-- its module is well formed
served_is_well_formed : WellFormed (top_module served no_numbers its_ties no_pins)
served_is_well_formed = top_module_is_well_formed served no_numbers its_ties no_pins served_fits few_bits served_names_differ

-- and each such request can be made in a clock
served_selection : (request : Bits) → length request ≡ 70 → (brought states : ℕ → ℕ → Values)
    → HaveWidths (top_module served no_numbers its_ties no_pins) its_modules brought states
    → IsSelection (top_module served no_numbers its_ties no_pins) its_modules its_host.host.name request brought states
served_selection request sized brought states widths =
    a_selection_exists served no_numbers its_ties no_pins its_modules served_fits served_unbroken served_names_differ modules_there 0 0 its_host request sized
    brought states widths
