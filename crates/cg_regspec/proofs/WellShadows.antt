-- The entries that a shadowed register has before those of its fields fit where they stand.
use Rattle.std.proofs.Common.{◌≡◌, ℕ, suc, ◌+◌, ◌≤◌, Bool, true, false, cond, List, [], ◌∷◌, length, refl, arith, codes}
use Rattle.cg_svspec.specs.Characters.{IsName}
use Rattle.cg_svspec.specs.Printable.{IsWidth}
use Rattle.cg_svspec.specs.Tree.{Expression, and}
use Rattle.cg_desc.specs.BlockStep.{EachField}
use Rattle.cg_desc.specs.declared.block.FieldDesc.{FieldDesc}
use Rattle.cg_desc.specs.declared.block.RegDesc.{RegDesc}
use Rattle.cg_desc.specs.declared.block.Item.TheVariants.{Reg}
use Rattle.cg_desc.specs.declared.block.LaidRow.{LaidRow}
use Rattle.cg_regspec.specs.NetNames.{reg_wdata, phase_net, equal_net, commit_net, next_phase_net}
use Rattle.cg_regspec.specs.RegisterModule.{width_of, has_shadow, written_bits, equals, equals_and, all_equal, second_write, shadow_entries}
use Rattle.cg_regspec.proofs.WellNames.{row_name, row_end_name}
use Rattle.cg_svspec.proofs.WellSound.{Above, Up, Has, up_up, declared_up, has_up, Sound, sound_deeper, sound_net, sound_lit, sound_inv, sound_and, sound_equal, sound_pick, with_drive, up_drive, drive_has, Sounds, sounds_none, sounds_drive, sounds_assign}
use Rattle.cg_regspec.proofs.WellSlices.{sound_slice}
use Rattle.cg_regspec.proofs.WellRows.{FieldFits, few_fields, RegisterOk}
use Rattle.cg_regspec.proofs.WellGiven.{AccessGiven, FieldGiven, RegisterGiven, ShadowGiven, ItemShadow}
use Rattle.cg_regspec.proofs.WellEntries.{RowHas}

-- the bits of the write data for a field are sound
pub written_sound : {e : Above} (f : FieldDesc) → FieldFits f → Has e reg_wdata 32 → Sound e 1 (written_bits f) (width_of f)
written_sound f fit data_in = sound_slice 1 32 f.msb f.lsb (omega arith) data_in (omega arith) (omega arith) fit.low fit.order

-- ---- whether every field is equal

-- the test of a field
equals_sound : {e : Above} (b : Above) (r : RegDesc) (f : FieldDesc) → has_shadow r ≡ true → AccessGiven b → FieldGiven b r f → Up b e → FieldFits f → Sound e 2 (equals r f) 1
equals_sound b r f is access given up fit = sound_equal (sound_net 1 (omega arith) (has_up up (given.staged is))) (written_sound f fit (has_up up access.data_in))

-- behind others, each one deeper
equals_and_sound : {e : Above} (b : Above) (r : RegDesc) (d : ℕ) (x : Expression) (fs : List FieldDesc) → has_shadow r ≡ true → AccessGiven b → EachField (FieldGiven b r) fs → Up b e
    → EachField FieldFits fs → 2 ≤ d → Sound e d x 1 → Sound e (d + length fs) (equals_and x r fs) 1
equals_and_sound {e} b r d x [] is access given up fit deep s = sound_deeper s (omega arith)
equals_and_sound {e} b r d x (f ∷ fs) is access given up fit deep s =
    let here : Sound e (suc d) (and x (equals r f)) 1 = sound_and s (sound_deeper (equals_sound b r f is access given.0 up fit.0) deep) in
    sound_deeper (equals_and_sound b r (suc d) (and x (equals r f)) fs is access given.1 up fit.1 (omega arith) here) (omega arith)

-- of all fields
all_equal_sound : {e : Above} (b : Above) (r : RegDesc) (fs : List FieldDesc) → has_shadow r ≡ true → AccessGiven b → EachField (FieldGiven b r) fs → Up b e → EachField FieldFits fs
    → Sound e (2 + length fs) (all_equal r fs) 1
all_equal_sound b r [] is access given up fit = sound_lit 2 1 1 (omega arith) (omega arith, omega arith, omega arith)
all_equal_sound b r (f ∷ fs) is access given up fit =
    sound_deeper (equals_and_sound b r 2 (equals r f) fs is access given.1 up fit.1 (omega arith) (equals_sound b r f is access given.0 up fit.0)) (omega arith)

-- ---- the entries

-- a bit is a width
bit_width : IsWidth 1
bit_width = (omega arith, omega arith)

-- the entries of a register with a shadow fit
entries_sound : {inputs : List (List ℕ)} (b c e : Above) (i : ℕ) (all : List LaidRow) (first : ℕ) (r : RegDesc) → has_shadow r ≡ true → AccessGiven b → RowHas c i → RegisterGiven b r → ShadowGiven b i r
    → Up b e → Up c e → RegisterOk all first r → Sounds inputs e (shadow_entries i r)
entries_sound b c e i all first r is access row given shadow up cup ok =
    let equal_name : IsName (equal_net i) = row_name (codes "eq_") i refl refl in
    let commit_name : IsName (commit_net i) = row_name (codes "ok_") i refl refl in
    let phase_name : IsName (next_phase_net i) = row_end_name (codes "ph_") i (codes "_n") refl refl refl in
    let e1 : Above = with_drive e (equal_net i) 1 in
    let e2 : Above = with_drive e1 (commit_net i) 1 in
    let e3 : Above = with_drive e2 (next_phase_net i) 1 in
    let up1 : Up e e1 = up_drive e (equal_net i) 1 in
    let up12 : Up e1 e2 = up_drive e1 (commit_net i) 1 in
    let up13 : Up e1 e3 = up_up up12 (up_drive e2 (next_phase_net i) 1) in
    let up2 : Up e e2 = up_up up1 up12 in
    let up3 : Up e e3 = up_up up1 up13 in
    let equal1 : Has e1 (equal_net i) 1 = drive_has e (equal_net i) 1 equal_name in
    let few : 0 + length r.fields ≤ 32 = few_fields 0 r.fields ok.fields (omega arith) in
    let second1 : Sound e1 2 (second_write i) 1 = sound_and (sound_net 1 (omega arith) (has_up (up_up cup up1) row.write)) (sound_net 1 (omega arith) (has_up (up_up up up1) shadow.phase)) in
    let second3 : Sound e3 2 (second_write i) 1 = sound_and (sound_net 1 (omega arith) (has_up (up_up cup up3) row.write)) (sound_net 1 (omega arith) (has_up (up_up up up3) shadow.phase)) in
    let phase2 : Has e2 (phase_net i) 1 = has_up (up_up up up2) shadow.phase in
    sounds_drive bit_width equal_name (omega (arith, few)) (all_equal_sound b r r.fields is access given up ok.each)
    (sounds_drive bit_width commit_name (omega arith) (sound_and second1 (sound_net 2 (omega arith) equal1))
    (sounds_drive bit_width phase_name (omega arith)
    (sound_pick (sound_net 2 (omega arith) (has_up (up_up cup up2) row.write)) (sound_inv (sound_net 1 (omega arith) phase2))
    (sound_pick (sound_net 1 (omega arith) (has_up (up_up cup up2) row.read)) (sound_lit 1 1 0 (omega arith) (omega arith, omega arith, omega arith)) (sound_net 1 (omega arith) phase2)))
    (sounds_assign (declared_up (up_up up up3) shadow.update_error) (omega arith) (sound_and second3 (sound_inv (sound_net 1 (omega arith) (has_up up13 equal1))))
    sounds_none)))

-- those of any register
pub shadow_sound : {inputs : List (List ℕ)} (b c e : Above) (i : ℕ) (all : List LaidRow) (first : ℕ) (r : RegDesc) → AccessGiven b → RowHas c i → RegisterGiven b r → ItemShadow b i (Reg r) → Up b e
    → Up c e → RegisterOk all first r → Sounds inputs e (cond (has_shadow r) (shadow_entries i r) [])
shadow_sound {inputs} b c e i all first r access row given shadow up cup ok = by (has_shadow r) refl where
  by : (t : Bool) → has_shadow r ≡ t → Sounds inputs e (cond t (shadow_entries i r) [])
  by true is = entries_sound b c e i all first r is access row given (shadow is) up cup ok
  by false is = sounds_none
