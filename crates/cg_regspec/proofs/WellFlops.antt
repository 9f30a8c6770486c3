-- The flip-flops of a register module fit where they stand.
use Rattle.std.proofs.Common.{◌≡◌, ℕ, ◌+◌, ◌^◌, ◌<◌, ◌≤◌, eqb, Bool, true, false, cond, List, [], ◌∷◌, refl, arith, codes}
use Rattle.std.proofs.lemmas.Bool.{eqb-true}
use Rattle.std.proofs.lemmas.Nat.{pow_pos}
use Rattle.cg_svspec.specs.Characters.{IsName, IsWord}
use Rattle.cg_svspec.specs.Printable.{AllOf, IsLiteral, IsNumberOrLiteral, IsPrintableEntry}
use Rattle.cg_svspec.specs.Tree.{Expression, lit, Entry, drive}
use Rattle.cg_svspec.proofs.NamesLemmas.{none_repeats}
use Rattle.cg_desc.specs.BlockStep.{EachField}
use Rattle.cg_desc.specs.declared.block.FieldDesc.{FieldDesc}
use Rattle.cg_desc.specs.declared.block.RegDesc.{RegDesc}
use Rattle.cg_desc.specs.declared.block.Item.{Item}
use Rattle.cg_desc.specs.declared.block.Item.TheVariants.{Reg, Window, SkipTo, Reserved}
use Rattle.cg_desc.specs.declared.block.LaidRow.{LaidRow}
use Rattle.cg_regspec.specs.NetNames.{phase_net, next_phase_net, phase_instance, state_net, next_net, staged_net, next_staged_net, flop_instance, staged_instance}
use Rattle.cg_regspec.specs.RegisterModule.{width_of, has_shadow, entry_if, stage_of, shadow_entries, field_views, field_updates, field_entries, fields_entries, item_fields, rows_fields, flop, staged_flop, phase_flop, flops_of, item_flops, rows_flops}
use Rattle.cg_svspec.proofs.Parts.{all_front, all_back}
use Rattle.cg_svspec.proofs.WellNames.{literal_name}
use Rattle.cg_regspec.proofs.WellNames.{row_name, flop_instance_name, staged_instance_name}
use Rattle.cg_svspec.proofs.WellSound.{Above, Up, Has, up_up, has_up, after, up_after, Sounds, sounds_none, sounds_join, GivenBy}
use Rattle.cg_regspec.proofs.WellRows.{FieldFits, field_some, field_narrow, RegisterOk, ItemOk, RowsOk}
use Rattle.cg_regspec.proofs.Wires.{shadow_stored}
use Rattle.cg_regspec.proofs.WellGiven.{AccessGiven, FieldGiven, ItemGiven, RowsGiven, ItemShadow, RowsShadows}

-- ---- the next values

-- the next value of a stored field may be used, and its next staged value where there is one
pub record NextGiven (e : Above) (r : RegDesc) (f : FieldDesc) : Type 0 where
  pub stored : r.hwext ≡ false → Has e (next_net r f) (width_of f)
  pub staged : has_shadow r ≡ true → Has e (next_staged_net r f) (width_of f)

-- those of a register in row i, and its next phase
pub record RegisterNext (e : Above) (i : ℕ) (r : RegDesc) : Type 0 where
  pub fields : EachField (NextGiven e r) r.fields
  pub phase : has_shadow r ≡ true → Has e (next_phase_net i) 1

-- of each field of an item
abbrev pub ItemNext : Above → ℕ → Item → Type 0
ItemNext e i (Reg r) = RegisterNext e i r
ItemNext e i (Window w) = Unit {0}
ItemNext e i (SkipTo to at) = Unit {0}
ItemNext e i (Reserved words at) = Unit {0}

-- of all rows from number i on
abbrev pub RowsNext : Above → ℕ → List LaidRow → Type 0
RowsNext e i [] = Unit {0}
RowsNext e i (row ∷ rows) = ItemNext e i row.item × RowsNext e (i + 1) rows

-- a field that is not external has its wires
updates_there : (e : Above) (external : Bool) (i : ℕ) (r : RegDesc) (f : FieldDesc) → AllOf (GivenBy e) (cond external [] (field_updates i r f)) → external ≡ false
    → AllOf (GivenBy e) (field_updates i r f)
updates_there e true i r f given is = cc
updates_there e false i r f given is = given

-- a wire that is there where the test holds
wire_there : (e : Above) (b : Bool) (w : ℕ) (n : List ℕ) (x : Expression) → AllOf (GivenBy e) (entry_if b (drive w n x)) → b ≡ true → Has e n w
wire_there e true w n x given is = given.0
wire_there e false w n x given is = cc

-- of all fields of a register
fields_next : (e : Above) (i : ℕ) (r : RegDesc) (fs : List FieldDesc) → AllOf (GivenBy e) (fields_entries i r fs) → EachField (NextGiven e r) fs
fields_next e i r [] given = tt
fields_next e i r (f ∷ fs) given =
    let here = updates_there e r.hwext i r f (all_front (GivenBy e) (cond r.hwext [] (field_updates i r f)) (field_views i r f) (all_front (GivenBy e) (field_entries i r f) (fields_entries i r fs) given)) in (
      record {
        stored = λ is. (here is).1.0;
        staged = λ is. wire_there e (has_shadow r) (width_of f) (next_staged_net r f) (stage_of i r f) (here (shadow_stored r is)).1.1 is;
      },
      fields_next e i r fs (all_back (GivenBy e) (field_entries i r f) (fields_entries i r fs) given),
    )

-- the next phase of a register with a shadow
phase_there : (e : Above) (b : Bool) (i : ℕ) (r : RegDesc) → AllOf (GivenBy e) (cond b (shadow_entries i r) []) → b ≡ true → Has e (next_phase_net i) 1
phase_there e true i r given is = given.1.1.0
phase_there e false i r given is = cc

-- of an item
item_next : (e : Above) (i : ℕ) (item : Item) → AllOf (GivenBy e) (item_fields i item) → ItemNext e i item
item_next e i (Reg r) given = record {
  fields = fields_next e i r r.fields (all_back (GivenBy e) (cond (has_shadow r) (shadow_entries i r) []) (fields_entries i r r.fields) given);
  phase = phase_there e (has_shadow r) i r (all_front (GivenBy e) (cond (has_shadow r) (shadow_entries i r) []) (fields_entries i r r.fields) given);
}
item_next e i (Window w) given = tt
item_next e i (SkipTo to at) given = tt
item_next e i (Reserved words at) given = tt

-- and of all rows
pub rows_next : (e : Above) (i : ℕ) (rows : List LaidRow) → AllOf (GivenBy e) (rows_fields i rows) → RowsNext e i rows
rows_next e i [] given = tt
rows_next e i (row ∷ rows) given = (
  item_next e i row.item (all_front (GivenBy e) (item_fields i row.item) (rows_fields (i + 1) rows) given),
  rows_next e (i + 1) rows (all_back (GivenBy e) (item_fields i row.item) (rows_fields (i + 1) rows) given),
)

-- ---- the instances

-- a literal with a width is no plain number
literal_parameter : (w v : ℕ) → IsLiteral w v → IsNumberOrLiteral (lit w v)
literal_parameter w v h = by (eqb w 0) refl where
  by : (b : Bool) → eqb w 0 ≡ b → cond b (v < 2 ^ 16) (IsLiteral w v)
  by true is = let none : w ≡ 0 = eqb-true w 0 is in absurd (omega (arith, h.0))
  by false is = h

-- what a flip-flop of this width and reset value stands on
record FlopFits (e : Above) (width reset : ℕ) (instance from to : List ℕ) : Type 0 where
  name : IsName instance
  some : 0 < width
  narrow : width ≤ 32
  small : reset < 2 ^ width
  clock : Has e (codes "clk_i") 1
  reset_input : Has e (codes "rst_ni") 1
  next : Has e from width
  state : Has e to width

-- such a flip-flop is printable
flop_printable : {e : Above} {width reset : ℕ} {instance from to : List ℕ} → FlopFits e width reset instance from to → IsPrintableEntry (flop width reset instance from to)
flop_printable {e} {width} {reset} {instance} {from} {to} fits =
    let shallow : 1 ≤ 128 = omega arith in (
      literal_name (codes "prim_flop") refl refl,
      (
        (literal_name (codes "Width") refl refl, omega (arith, fits.narrow)),
        ((literal_name (codes "ResetValue") refl refl, literal_parameter width reset (fits.some, fits.narrow, fits.small)), tt),
      ),
      fits.name,
      tt,
      (
        (literal_name (codes "clk_i") refl refl, (fits.clock.declared.name, shallow)),
        (
          (literal_name (codes "rst_ni") refl refl, (fits.reset_input.declared.name, shallow)),
          (
            (literal_name (codes "d_i") refl refl, (fits.next.declared.name, shallow)),
            ((literal_name (codes "q_o") refl refl, (fits.state.declared.name, shallow)), tt),
          ),
        ),
      ),
    )

-- and fits
flop_sounds : {inputs : List (List ℕ)} {e : Above} {width reset : ℕ} {instance from to : List ℕ} {es : List Entry} → FlopFits e width reset instance from to → Sounds inputs e es
    → Sounds inputs e (flop width reset instance from to ∷ es)
flop_sounds {inputs} {e} {width} {reset} {instance} {from} {to} {es} fits later = record {
  printable = (flop_printable fits, later.printable);
  fit = (
    record {
      width = width;
      reset = reset;
      count = refl;
      width_is = refl;
      reset_is = refl;
      ports = record {
        once = none_repeats (codes "clk_i" ∷ codes "rst_ni" ∷ codes "d_i" ∷ codes "q_o" ∷ []) refl;
        count = refl;
        each = (fits.clock.declared.net, (fits.reset_input.declared.net, (fits.next.declared.net, (fits.state.declared.net, tt))));
      };
      bare = tt;
    },
    (fits.clock.known, (fits.reset_input.known, (fits.next.known, (fits.state.known, tt)))),
    later.fit,
  );
}

-- one that is there where a test holds
flop_if_sounds : {inputs : List (List ℕ)} (e : Above) (b : Bool) (width reset : ℕ) (instance from to : List ℕ) → (b ≡ true → FlopFits e width reset instance from to)
    → Sounds inputs e (entry_if b (flop width reset instance from to))
flop_if_sounds e true width reset instance from to fits = flop_sounds (fits refl) sounds_none
flop_if_sounds e false width reset instance from to fits = sounds_none

-- the flip-flops of a register fit
fields_flops_sound : {inputs : List (List ℕ)} (b c e : Above) (r : RegDesc) (fs : List FieldDesc) → AccessGiven b → EachField (FieldGiven b r) fs → EachField (NextGiven c r) fs → Up b e → Up c e
    → IsWord r.name → EachField FieldFits fs → r.hwext ≡ false → Sounds inputs e (flops_of r fs)
fields_flops_sound b c e r [] access given next up cup word fit stored = sounds_none
fields_flops_sound b c e r (f ∷ fs) access given next up cup word fit stored =
    let shadow : List Entry = entry_if (has_shadow r) (staged_flop r f) in
    let more : Up e (after e shadow) = up_after e shadow in
    let value : FlopFits e (width_of f) f.resval (flop_instance r f) (next_net r f) (state_net r f) = record {
      name = flop_instance_name r f word fit.0.word;
      some = field_some f fit.0;
      narrow = field_narrow f fit.0;
      small = fit.0.reset;
      clock = has_up up access.clock;
      reset_input = has_up up access.reset;
      next = has_up cup (next.0.stored stored);
      state = has_up up (given.0.state stored);
    } in
    let staged : has_shadow r ≡ true → FlopFits e (width_of f) 0 (staged_instance r f) (next_staged_net r f) (staged_net r f) = λ is. record {
      name = staged_instance_name r f word fit.0.word;
      some = field_some f fit.0;
      narrow = field_narrow f fit.0;
      small = pow_pos (width_of f);
      clock = has_up up access.clock;
      reset_input = has_up up access.reset;
      next = has_up cup (next.0.staged is);
      state = has_up up (given.0.staged is);
    } in
    flop_sounds value (sounds_join e shadow (flops_of r fs) (flop_if_sounds e (has_shadow r) (width_of f) 0 (staged_instance r f) (next_staged_net r f) (staged_net r f) staged)
    (fields_flops_sound b c (after e shadow) r fs access given.1 next.1 (up_up up more) (up_up cup more) word fit.1 stored))

-- an external register has none
flops_by : {inputs : List (List ℕ)} (e : Above) (external : Bool) (es : List Entry) → (external ≡ false → Sounds inputs e es) → Sounds inputs e (cond external [] es)
flops_by e true es s = sounds_none
flops_by e false es s = s refl

-- the flip-flops of a register
register_flops_sound : {inputs : List (List ℕ)} (b c e : Above) (all : List LaidRow) (first i : ℕ) (r : RegDesc) → AccessGiven b → ItemGiven b (Reg r) → ItemShadow b i (Reg r) → RegisterNext c i r
    → Up b e → Up c e → RegisterOk all first r → Sounds inputs e (item_flops i (Reg r))
register_flops_sound b c e all first i r access given shadow next up cup ok =
    let fields : List Entry = cond r.hwext [] (flops_of r r.fields) in
    let more : Up e (after e fields) = up_after e fields in
    let phase : has_shadow r ≡ true → FlopFits (after e fields) 1 0 (phase_instance i) (next_phase_net i) (phase_net i) = λ is. record {
      name = row_name (codes "u_ph_") i refl refl;
      some = omega arith;
      narrow = omega arith;
      small = omega arith;
      clock = has_up (up_up up more) access.clock;
      reset_input = has_up (up_up up more) access.reset;
      next = has_up (up_up cup more) (next.phase is);
      state = has_up (up_up up more) (shadow is).phase;
    } in
    sounds_join e fields (entry_if (has_shadow r) (phase_flop i))
    (flops_by e r.hwext (flops_of r r.fields) (λ stored. fields_flops_sound b c e r r.fields access given next.fields up cup ok.word ok.each stored))
    (flop_if_sounds (after e fields) (has_shadow r) 1 0 (phase_instance i) (next_phase_net i) (phase_net i) phase)

-- those of an item
item_flops_sound : {inputs : List (List ℕ)} (b c e : Above) (all : List LaidRow) (first i : ℕ) (item : Item) → AccessGiven b → ItemGiven b item → ItemShadow b i item → ItemNext c i item → Up b e
    → Up c e → ItemOk all first item → Sounds inputs e (item_flops i item)
item_flops_sound b c e all first i (Reg r) access given shadow next up cup ok = register_flops_sound b c e all first i r access given shadow next up cup ok
item_flops_sound b c e all first i (Window w) access given shadow next up cup ok = sounds_none
item_flops_sound b c e all first i (SkipTo to at) access given shadow next up cup ok = absurd ok
item_flops_sound b c e all first i (Reserved words at) access given shadow next up cup ok = absurd ok

-- the flip-flops of all fields
pub rows_flops_sound : {inputs : List (List ℕ)} (b c e : Above) (all : List LaidRow) (i : ℕ) (rows : List LaidRow) → AccessGiven b → RowsGiven b rows → RowsShadows b i rows → RowsNext c i rows → Up b e
    → Up c e → RowsOk all rows → Sounds inputs e (rows_flops i rows)
rows_flops_sound b c e all i [] access given shadows next up cup ok = sounds_none
rows_flops_sound b c e all i (row ∷ rows) access given shadows next up cup ok =
    let more : Up e (after e (item_flops i row.item)) = up_after e (item_flops i row.item) in
    sounds_join e (item_flops i row.item) (rows_flops (i + 1) rows) (item_flops_sound b c e all row.first i row.item access given.0 shadows.0 next.0 up cup ok.0)
    (rows_flops_sound b c (after e (item_flops i row.item)) all (i + 1) rows access given.1 shadows.1 next.1 (up_up up more) (up_up cup more) ok.1)
