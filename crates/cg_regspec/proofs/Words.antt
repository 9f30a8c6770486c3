-- The word that a row shows.
use Rattle.std.proofs.Common.{◌≡◌, ℕ, zero, suc, ◌-◌, Bool, true, false, cond, List, [], ◌∷◌, ◌++◌, refl, ap, sym, ◌∙◌, append_assoc, append-nil}
use Rattle.cg_svspec.specs.Bits.{zeros}
use Rattle.cg_svspec.specs.Tree.{net, lit, Expressions, none, more}
use Rattle.cg_svspec.specs.Value.{Values, eval, eval_parts}
use Rattle.cg_desc.specs.AccessTable.{is_readable}
use Rattle.cg_desc.specs.BlockStep.{word_from, shown_value, EachField}
use Rattle.cg_desc.specs.declared.block.FieldDesc.{FieldDesc}
use Rattle.cg_desc.specs.declared.block.RegDesc.{RegDesc}
use Rattle.cg_regspec.specs.NetNames.{state_net, d_net}
use Rattle.cg_regspec.specs.RegisterModule.{width_of, is_in_word, gap, shown_part, word_parts}
use Rattle.cg_regspec.specs.Meaning.{fields_in, hardware_in}
use Rattle.cg_svspec.proofs.BitLists.{bits-zero}
use Rattle.cg_regspec.proofs.Tables.{in_word_is}
use Rattle.cg_regspec.proofs.Wires.{FieldWires, RegisterWires}

-- a gap shows zeros
gap_is : (v : Values) (w : ℕ) (below : Expressions) → eval_parts v (gap w below) ≡ eval_parts v below ++ zeros w
gap_is v zero below = sym (append-nil (eval_parts v below))
gap_is v (suc w) below = ap (λ z. eval_parts v below ++ z) (bits-zero (suc w))

-- where the field can be read, its net is an input or a state
shown_net : (v state next inputs : Values) (r : RegDesc) (f : FieldDesc) (external readable : Bool) → r.hwext ≡ external → is_in_word f.sw ≡ readable → FieldWires v state next inputs r f
    → eval v (cond readable (net (cond external (d_net r f) (state_net r f))) (lit (width_of f) 0))
    ≡ cond readable (cond external (inputs (d_net r f)) (state (state_net r f))) (zeros (width_of f))
shown_net v state next inputs r f external false is reads wires = bits-zero (width_of f)
shown_net v state next inputs r f true true is reads wires = wires.brought (rw (is, reads) refl)
shown_net v state next inputs r f false true is reads wires = wires.stored is

-- a field's part shows its value, or zeros
part_is : (v state next inputs : Values) (r : RegDesc) (f : FieldDesc) → FieldWires v state next inputs r f
    → eval v (shown_part r f) ≡ cond (is_readable f.sw) (shown_value (fields_in state) (hardware_in inputs) r f) (zeros (width_of f))
part_is v state next inputs r f wires =
    shown_net v state next inputs r f r.hwext (is_in_word f.sw) refl refl wires ∙ (λ k. cond (in_word_is f.sw k) (shown_value (fields_in state) (hardware_in inputs) r f) (zeros (width_of f)))

-- the parts from bit `from` on, over what stands below
parts_are : (v state next inputs : Values) (r : RegDesc) (from : ℕ) (below : Expressions) (fs : List FieldDesc) → EachField (FieldWires v state next inputs r) fs
    → eval_parts v (word_parts r from below fs) ≡ eval_parts v below ++ word_from (shown_value (fields_in state) (hardware_in inputs) r) from fs
parts_are v state next inputs r from below [] wires = gap_is v (32 - from) below
parts_are v state next inputs r from below (f ∷ fs) wires =
    parts_are v state next inputs r (suc f.msb) (more (shown_part r f) (gap (f.lsb - from) below)) fs wires.1
    ∙ rw (gap_is v (f.lsb - from) below, part_is v state next inputs r f wires.0) (simp append_assoc)

-- a register's word
pub register_word : (v state next inputs : Values) (r : RegDesc) → RegisterWires v state next inputs r
    → eval_parts v (word_parts r 0 none r.fields) ≡ word_from (shown_value (fields_in state) (hardware_in inputs) r) 0 r.fields
register_word v state next inputs r wires = parts_are v state next inputs r 0 none r.fields wires
