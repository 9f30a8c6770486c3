-- The ports of a register module are printable, and those behind the access's have at most 32 bits.
use Rattle.std.proofs.Common.{ℕ, ◌≤◌, Bool, true, false, List, [], ◌∷◌, refl, arith, codes}
use Rattle.cg_svspec.specs.Characters.{IsName, IsWord}
use Rattle.cg_svspec.specs.Printable.{IsWidth, IsPrintablePort, AllOf}
use Rattle.cg_svspec.specs.Tree.{Port}
use Rattle.cg_svspec.specs.Register.{access_ports, input_port, output_port}
use Rattle.cg_desc.specs.BlockStep.{EachField}
use Rattle.cg_desc.specs.declared.block.FieldDesc.{FieldDesc}
use Rattle.cg_desc.specs.declared.block.RegDesc.{RegDesc}
use Rattle.cg_desc.specs.declared.block.WindowDesc.{WindowDesc}
use Rattle.cg_desc.specs.declared.block.Item.{Item}
use Rattle.cg_desc.specs.declared.block.Item.TheVariants.{Reg, Window, SkipTo, Reserved}
use Rattle.cg_desc.specs.declared.block.LaidRow.{LaidRow}
use Rattle.cg_regspec.specs.NetNames.{update_error_net, q_net, qe_net, re_net, d_net, de_net}
use Rattle.cg_regspec.specs.RegisterModule.{width_of, has_q, has_qe, has_re, port_if, has_d, has_de, has_shadow, field_ports, fields_ports, window_ports, item_ports, rows_ports}
use Rattle.cg_svspec.proofs.Parts.{all_join}
use Rattle.cg_svspec.proofs.WellNames.{literal_name}
use Rattle.cg_regspec.proofs.WellNames.{field_name, update_error_name, window_name}
use Rattle.cg_regspec.proofs.WellRows.{FieldFits, field_width, field_narrow, ItemOk, RowsOk}

-- a printable port of at most 32 bits
abbrev pub PortFits : Port → Type 0
PortFits p = IsPrintablePort p × (p.width ≤ 32)

-- a bit is a width
bit_width : IsWidth 1
bit_width = (omega arith, omega arith)

-- a port that is there where a test holds
port_if_fits : (b : Bool) (p : Port) → PortFits p → AllOf PortFits (port_if b p)
port_if_fits true p fit = (fit, tt)
port_if_fits false p fit = tt

-- of a field
field_port : (f : FieldDesc) (input : Bool) (n : List ℕ) → FieldFits f → IsName n → PortFits (record { input = input; width = width_of f; name = n })
field_port f input n fit name = ((field_width f fit, name), field_narrow f fit)

-- a port of one bit
bit_port : (input : Bool) (n : List ℕ) → IsName n → PortFits (record { input = input; width = 1; name = n })
bit_port input n name = ((bit_width, name), omega arith)

-- the ports of a field
field_ports_fit : (r : RegDesc) (f : FieldDesc) → IsWord r.name → FieldFits f → AllOf PortFits (field_ports r f)
field_ports_fit r f word fit =
    all_join PortFits (port_if (has_q r f) (output_port (width_of f) (q_net r f))) _ (port_if_fits (has_q r f) _ (field_port f false (q_net r f) fit (field_name r f (codes "_q") word fit.word refl)))
    (all_join PortFits (port_if (has_qe r f) (output_port 1 (qe_net r f))) _ (port_if_fits (has_qe r f) _ (bit_port false (qe_net r f) (field_name r f (codes "_qe") word fit.word refl)))
    (all_join PortFits (port_if (has_re r f) (output_port 1 (re_net r f))) _ (port_if_fits (has_re r f) _ (bit_port false (re_net r f) (field_name r f (codes "_re") word fit.word refl)))
    (all_join PortFits (port_if (has_d r f) (input_port (width_of f) (d_net r f))) _ (port_if_fits (has_d r f) _ (field_port f true (d_net r f) fit (field_name r f (codes "_d") word fit.word refl)))
    (port_if_fits (has_de r f) (input_port 1 (de_net r f)) (bit_port true (de_net r f) (field_name r f (codes "_de") word fit.word refl))))))

-- of all fields of a register
fields_ports_fit : (r : RegDesc) (fs : List FieldDesc) → IsWord r.name → EachField FieldFits fs → AllOf PortFits (fields_ports r fs)
fields_ports_fit r [] word fit = tt
fields_ports_fit r (f ∷ fs) word fit = all_join PortFits (field_ports r f) (fields_ports r fs) (field_ports_fit r f word fit.0) (fields_ports_fit r fs word fit.1)

-- of a window
word_port : (input : Bool) (n : List ℕ) → IsName n → PortFits (record { input = input; width = 32; name = n })
word_port input n name = (((omega arith, omega arith), name), omega arith)

-- the port of the byte strobes
strobes_port : (n : List ℕ) → IsName n → PortFits (output_port 4 n)
strobes_port n name = (((omega arith, omega arith), name), omega arith)

-- the ports of a window
window_ports_fit : (w : WindowDesc) → IsWord w.name → AllOf PortFits (window_ports w)
window_ports_fit w word = (
  bit_port false _ (window_name w (codes "_we") word refl),
  (
    bit_port false _ (window_name w (codes "_re") word refl),
    (
      word_port false _ (window_name w (codes "_addr") word refl),
      (
        word_port false _ (window_name w (codes "_wdata") word refl),
        (
          strobes_port _ (window_name w (codes "_be") word refl),
          (word_port true _ (window_name w (codes "_rdata") word refl), tt),
        ),
      ),
    ),
  ),
)

-- the ports of an item
item_ports_fit : (all : List LaidRow) (first : ℕ) (item : Item) → ItemOk all first item → AllOf PortFits (item_ports item)
item_ports_fit all first (Reg r) ok =
    all_join PortFits (fields_ports r r.fields) (port_if (has_shadow r) (output_port 1 (update_error_net r))) (fields_ports_fit r r.fields ok.word ok.each)
    (port_if_fits (has_shadow r) _ (bit_port false (update_error_net r) (update_error_name r ok.word)))
item_ports_fit all first (Window w) ok = window_ports_fit w ok.word
item_ports_fit all first (SkipTo to at) ok = absurd ok
item_ports_fit all first (Reserved words at) ok = absurd ok

-- the ports of all rows
pub rows_ports_fit : (all rows : List LaidRow) → RowsOk all rows → AllOf PortFits (rows_ports rows)
rows_ports_fit all [] ok = tt
rows_ports_fit all (row ∷ rows) ok =
    all_join PortFits (item_ports row.item) (rows_ports rows) (item_ports_fit all row.first row.item ok.0) (rows_ports_fit all rows ok.1)

-- what each port fits, each is printable by, and narrow by
pub ports_printable : (ps : List Port) → AllOf PortFits ps → AllOf IsPrintablePort ps
ports_printable [] fit = tt
ports_printable (p ∷ ps) fit = (fit.0.0, ports_printable ps fit.1)

-- and narrow
pub ports_narrow : (ps : List Port) → AllOf PortFits ps → AllOf (λ p. p.width ≤ 32) ps
ports_narrow [] fit = tt
ports_narrow (p ∷ ps) fit = (fit.0.1, ports_narrow ps fit.1)

-- the ports of the access
pub access_ports_fit : AllOf PortFits access_ports
access_ports_fit = (
  bit_port true (codes "clk_i") (literal_name (codes "clk_i") refl refl),
  (
    bit_port true (codes "rst_ni") (literal_name (codes "rst_ni") refl refl),
    (
      bit_port true (codes "reg_we") (literal_name (codes "reg_we") refl refl),
      (
        bit_port true (codes "reg_re") (literal_name (codes "reg_re") refl refl),
        (
          word_port true (codes "reg_addr") (literal_name (codes "reg_addr") refl refl),
          (
            word_port true (codes "reg_wdata") (literal_name (codes "reg_wdata") refl refl),
            (
              (((omega arith, omega arith), literal_name (codes "reg_be") refl refl), omega arith),
              (
                word_port false (codes "reg_rdata") (literal_name (codes "reg_rdata") refl refl),
                (bit_port false (codes "reg_error") (literal_name (codes "reg_error") refl refl), tt),
              ),
            ),
          ),
        ),
      ),
    ),
  ),
)
