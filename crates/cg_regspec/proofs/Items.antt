-- What the expressions of a row say: of a register's row, and of a window's.
use Rattle.std.proofs.Common.{◌≡◌, ℕ, suc, ◌+◌, ◌-◌, ◌*◌, ◌≤◌, ◌^◌, eqb, Bool, true, false, not, cond, ◌&&◌, ◌||◌, List, [], ◌∷◌, take, drop, length, refl, ap, sym, ◌∙◌, arith}
use Rattle.std.proofs.lemmas.Bool.{eqb-true, and_parts}
use Rattle.std.proofs.Math.Bool.{and-true}
use Rattle.cg_svspec.specs.Bits.{Bits, bits, all_bits}
use Rattle.cg_svspec.specs.Tree.{net, cut, lit}
use Rattle.cg_svspec.specs.Value.{Values, eval}
use Rattle.cg_desc.specs.Target.{holds_address}
use Rattle.cg_desc.specs.BlockStep.{Access, is_read_only, is_write_only}
use Rattle.cg_desc.specs.Laid.{RegisterFits, WindowFits, RowFits}
use Rattle.cg_desc.specs.declared.block.SwAccess.{SwAccess}
use Rattle.cg_desc.specs.declared.block.SwAccess.TheVariants.{Ro, Wo}
use Rattle.cg_desc.specs.declared.block.RegDesc.{RegDesc}
use Rattle.cg_desc.specs.declared.block.WindowDesc.{WindowDesc}
use Rattle.cg_desc.specs.declared.block.Item.{Item}
use Rattle.cg_desc.specs.declared.block.Item.TheVariants.{Reg, Window, SkipTo, Reserved}
use Rattle.cg_desc.specs.declared.block.LaidRow.{LaidRow}
use Rattle.cg_desc.specs.declared.block.LaidFace.{LaidFace}
use Rattle.cg_regspec.specs.NetNames.{reg_be}
use Rattle.cg_regspec.specs.RegisterModule.{slice, lacks_strobe, last_byte, window_write_refused, window_read_refused}
use Rattle.cg_regspec.specs.Meaning.{fields_in, hardware_in}
use Rattle.cg_svspec.proofs.BitLists.{any_bit-not, take_whole}
use Rattle.cg_regspec.proofs.Hits.{register_hit, window_hit}
use Rattle.cg_regspec.proofs.Tables.{last_byte_is}
use Rattle.cg_regspec.proofs.Wires.{CarryAccess, ItemWires, RowsWires}
use Rattle.cg_regspec.proofs.Words.{register_word}
use Rattle.cg_regspec.proofs.Gates.{gate_cuts}
use Rattle.cg_regspec.proofs.Rows.{RowTells}

-- all bits of a list, as a slice
all_of_net : (width msb lsb : ℕ) (xs : Bits) → length xs ≡ width → (eqb lsb 0 && eqb (suc msb) width) ≡ true → xs ≡ take (suc msb - lsb) (drop lsb xs)
all_of_net width msb lsb xs wide whole =
    let parts = and_parts (eqb lsb 0) (eqb (suc msb) width) whole in
    let low : lsb ≡ 0 = eqb-true lsb 0 parts.0 in
    let high : suc msb ≡ width = eqb-true (suc msb) width parts.1 in
    let less : width - 0 ≡ width = omega arith in
    rw (low, high, less) (sym (take_whole width xs wide))

-- by whether all bits of the net are meant
slice_by : (v : Values) (n : List ℕ) (width msb lsb : ℕ) → length (v n) ≡ width → (b : Bool) → (eqb lsb 0 && eqb (suc msb) width) ≡ b
    → eval v (cond b (net n) (cut n msb lsb)) ≡ take (suc msb - lsb) (drop lsb (v n))
slice_by v n width msb lsb wide true whole = all_of_net width msb lsb (v n) wide whole
slice_by v n width msb lsb wide false whole = refl

-- the bits of a slice, with a range or without
pub slice_is : (v : Values) (n : List ℕ) (width msb lsb : ℕ) → length (v n) ≡ width → eval v (slice n width msb lsb) ≡ take (suc msb - lsb) (drop lsb (v n))
slice_is v n width msb lsb wide = slice_by v n width msb lsb wide (eqb lsb 0 && eqb (suc msb) width) refl

-- some byte of those up to the last one needed is not strobed
lacks_is : (v : Values) (a : Access) (last : ℕ) → CarryAccess v a → eval v (lacks_strobe last) ≡ not (all_bits (take (suc last) a.strobes)) ∷ []
lacks_is v a last carry =
    let less : suc last - 0 ≡ suc last = omega arith in
    let wide : length (v reg_be) ≡ 4 = rw carry.strobes carry.strobes_width in
    let part : eval v (slice reg_be 4 last 0) ≡ take (suc last) a.strobes = slice_is v reg_be 4 last 0 wide ∙ rw (carry.strobes, less) refl in
    ap (λ b. b ∷ []) (rw (part, any_bit-not) refl)

-- there are four strobes
all_four : (a : Access) → length a.strobes ≡ 4 → take 4 a.strobes ≡ a.strobes
all_four a wide = take_whole 4 a.strobes wide

-- which writes a window refuses
window_writes : (v : Values) (a : Access) (sw : SwAccess) (bytes : Bool) → CarryAccess v a
    → eval v (window_write_refused sw bytes) ≡ not (not (is_read_only sw) && (bytes || all_bits a.strobes)) ∷ []
unfolding bits
window_writes v a Ro bytes carry = refl
window_writes v a sw true carry = refl
window_writes v a sw false carry = lacks_is v a 3 carry ∙ rw (all_four a carry.strobes_width) refl

-- which reads a window refuses
window_reads : (v : Values) (sw : SwAccess) → eval v (window_read_refused sw) ≡ not (not (is_write_only sw) || false) ∷ []
unfolding bits
window_reads v Wo = refl
window_reads v sw = refl

-- a register refuses no read
no_refusal : (v : Values) → eval v (lit 1 0) ≡ false ∷ []
unfolding bits
no_refusal v = refl

-- what a register's row says
pub register_tells : (v state next inputs : Values) (face : LaidFace) (a : Access) (first words turn : ℕ) (r : RegDesc) (here : Bool) → CarryAccess v a → RowsWires v state next inputs face.rows
    → ItemWires v state next inputs (Reg r) → words ≡ 1 → first ≡ 4 * turn → first + 4 * words ≤ 2 ^ 24 → RegisterFits face.rows r
    → holds_address (record { first = first; words = words; item = Reg r }) a.address ≡ here
    → RowTells v face a (fields_in state) (hardware_in inputs) (record { first = first; words = words; item = Reg r }) here
register_tells v state next inputs face a first words turn r here carry all wires one start low fits is = record {
  hits = register_hit v a.address turn (record { first = first; words = words; item = Reg r }) r carry.address carry.small one start low ∙ ap (λ b. b ∷ []) is;
  write_refusal = lacks_is v a (last_byte 0 r.fields) carry
      ∙ ap (λ k. not (all_bits (take (suc k) a.strobes)) ∷ []) (last_byte_is 0 0 r.fields fits.fields fits.some_field);
  read_refusal = no_refusal v;
  gate = gate_cuts v state next inputs face r all fits.gate;
  word = register_word v state next inputs r wires;
}

-- what a window's row says; it has no gate
pub window_tells : (v state next inputs : Values) (face : LaidFace) (a : Access) (first words : ℕ) (w : WindowDesc) (here : Bool) → CarryAccess v a
    → ItemWires v state next inputs (Window w) → words ≡ w.items → WindowFits first w → first + 4 * words ≤ 2 ^ 24
    → holds_address (record { first = first; words = words; item = Window w }) a.address ≡ here
    → RowTells v face a (fields_in state) (hardware_in inputs) (record { first = first; words = words; item = Window w }) here
window_tells v state next inputs face a first words w here carry wires count fits low is = record {
  hits = window_hit v a.address (record { first = first; words = words; item = Window w }) w carry.address carry.small count fits low ∙ ap (λ b. b ∷ []) is;
  write_refusal = window_writes v a w.sw w.byte_write carry;
  read_refusal = window_reads v w.sw;
  gate = λ x b holds. holds ∙ ap (λ z. z ∷ []) (sym (and-true b));
  word = wires;
}

-- what a row that fits says, by its item
item_tells : (v state next inputs : Values) (face : LaidFace) (a : Access) (first words : ℕ) (item : Item) (here : Bool) → CarryAccess v a → RowsWires v state next inputs face.rows
    → ItemWires v state next inputs item → RowFits face.rows (record { first = first; words = words; item = item }) → first + 4 * words ≤ 2 ^ 24
    → holds_address (record { first = first; words = words; item = item }) a.address ≡ here
    → RowTells v face a (fields_in state) (hardware_in inputs) (record { first = first; words = words; item = item }) here
item_tells v state next inputs face a first words (Reg r) here carry all wires fits low is =
    register_tells v state next inputs face a first words fits.1.0 r here carry all wires fits.0 fits.1.1 low fits.2 is
item_tells v state next inputs face a first words (Window w) here carry all wires fits low is =
    window_tells v state next inputs face a first words w here carry wires fits.0 fits.1 low is
item_tells v state next inputs face a first words (SkipTo to at) here carry all wires fits low is = absurd fits
item_tells v state next inputs face a first words (Reserved spare at) here carry all wires fits low is = absurd fits

-- for a row as it stands
pub row_tells : (v state next inputs : Values) (face : LaidFace) (a : Access) (row : LaidRow) (here : Bool) → CarryAccess v a → RowsWires v state next inputs face.rows
    → ItemWires v state next inputs row.item → RowFits face.rows row → row.first + 4 * row.words ≤ 2 ^ 24 → holds_address row a.address ≡ here
    → RowTells v face a (fields_in state) (hardware_in inputs) row here
row_tells v state next inputs face a row here carry all wires fits low is = item_tells v state next inputs face a row.first row.words row.item here carry all wires fits low is
