-- The entries of fields and windows fit where they stand.
use Rattle.std.proofs.Common.{◌≡◌, ℕ, suc, ◌+◌, ◌-◌, ◌^◌, ◌<◌, ◌≤◌, Bool, true, false, cond, List, [], ◌∷◌, ◌++◌, refl, arith, codes}
use Rattle.std.proofs.lemmas.Nat.{pow_pos}
use Rattle.cg_svspec.specs.Characters.{IsName, IsWord}
use Rattle.cg_svspec.specs.Tree.{Expression, net, pick, Entry, drive, assign}
use Rattle.cg_desc.specs.BlockStep.{EachField}
use Rattle.cg_desc.specs.declared.block.SwAccess.{SwAccess}
use Rattle.cg_desc.specs.declared.block.SwAccess.TheVariants.{Ro, Rc, Rw, R0w1c, Rw1s, Rw1c, Rw0c, Wo, Nothing}
use Rattle.cg_desc.specs.declared.block.FieldDesc.{FieldDesc}
use Rattle.cg_desc.specs.declared.block.RegDesc.{RegDesc}
use Rattle.cg_desc.specs.declared.block.WindowDesc.{WindowDesc}
use Rattle.cg_desc.specs.declared.block.Item.{Item}
use Rattle.cg_desc.specs.declared.block.Item.TheVariants.{Reg, Window, SkipTo, Reserved}
use Rattle.cg_desc.specs.declared.block.LaidRow.{LaidRow}
use Rattle.cg_regspec.specs.NetNames.{we, re, commit_net, next_staged_net, state_net, hold_net, next_net, q_net, qe_net, re_net, d_net, de_net, window_we, window_re, window_addr, window_wdata}
use Rattle.cg_regspec.specs.RegisterModule.{width_of, hardware_sets, has_q, has_qe, has_re, has_shadow, written_bits, zero_bits, one_bits, next_of, hold_of, entry_if, write_net, stage_of, shadow_entries, field_views, field_updates, field_entries, fields_entries, item_fields, rows_fields, item_windows, rows_windows}
use Rattle.cg_regspec.proofs.WellNames.{field_name}
use Rattle.cg_svspec.proofs.WellSound.{Above, Up, Declared, Has, up_up, declared_up, has_up, Sound, sound_deeper, sound_net, sound_lit, sound_inv, sound_and, sound_or, sound_pick, with_drive, with_assign, after, up_drive, up_assign, up_after, drive_has, Sounds, sounds_none, sounds_drive, sounds_assign, sounds_join, all_given}
use Rattle.cg_regspec.proofs.WellRows.{FieldFits, field_some, field_narrow, field_width, RegisterOk, ItemOk, RowsOk}
use Rattle.cg_regspec.proofs.WellGiven.{AccessGiven, FieldGiven, RegisterGiven, WindowGiven, ItemGiven, RowsGiven, ItemShadow, RowsShadows}
use Rattle.cg_regspec.proofs.WellEntries.{RowHas, RowsHave}
use Rattle.cg_regspec.proofs.WellShadows.{written_sound, shadow_sound}

-- ---- expressions of a field

-- zeros are sound
zero_sound : {e : Above} (d w : ℕ) → 0 < d → 0 < w → w ≤ 32 → Sound e d (zero_bits w) w
zero_sound d w some wide narrow = sound_lit d w 0 some (wide, narrow, pow_pos w)

-- and ones
one_sound : {e : Above} (d w : ℕ) → 0 < d → 0 < w → w ≤ 32 → Sound e d (one_bits w) w
one_sound d w some wide narrow = sound_lit d w (2 ^ w - 1) some (wide, narrow, omega (arith, pow_pos w))

-- the next value takes the row's write or read
chosen_by : {e : Above} {n : List ℕ} {x y : Expression} {d w : ℕ} → 0 < d → Has e n 1 → Sound e d x w → Sound e d y w → Sound e (suc d) (pick (net n) x y) w
chosen_by {e} {n} {x} {y} {d} {w} some h s t = sound_pick (sound_net d some h) s t

-- each kind of access
next_sound : {e : Above} {data_in h : Expression} {writes reads : List ℕ} (sw : SwAccess) (w : ℕ) → Has e writes 1 → Has e reads 1 → 0 < w → w ≤ 32 → Sound e 1 data_in w → Sound e 1 h w → Sound e 4 (next_of sw writes reads data_in h w) w
next_sound Rw w write read some narrow d h = sound_deeper (chosen_by (omega arith) write d h) (omega arith)
next_sound Wo w write read some narrow d h = sound_deeper (chosen_by (omega arith) write d h) (omega arith)
next_sound Ro w write read some narrow d h = sound_deeper h (omega arith)
next_sound Nothing w write read some narrow d h = sound_deeper h (omega arith)
next_sound Rw1s w write read some narrow d h =
    sound_deeper (sound_or (sound_deeper h (omega arith)) (chosen_by (omega arith) write d (zero_sound 1 w (omega arith) some narrow))) (omega arith)
next_sound Rw1c w write read some narrow d h = sound_and (sound_deeper h (omega arith)) (chosen_by (omega arith) write (sound_inv d) (one_sound 2 w (omega arith) some narrow))
next_sound R0w1c w write read some narrow d h = sound_and (sound_deeper h (omega arith)) (chosen_by (omega arith) write (sound_inv d) (one_sound 2 w (omega arith) some narrow))
next_sound Rw0c w write read some narrow d h =
    sound_deeper (sound_and (sound_deeper h (omega arith)) (chosen_by (omega arith) write d (one_sound 1 w (omega arith) some narrow))) (omega arith)
next_sound Rc w write read some narrow d h = sound_deeper (chosen_by (omega arith) read (zero_sound 1 w (omega arith) some narrow) h) (omega arith)

-- the value after hardware, of a stored field
hold_sound : {e : Above} (b : Above) (r : RegDesc) (f : FieldDesc) → r.hwext ≡ false → FieldGiven b r f → Up b e → Sound e 2 (hold_of r f) (width_of f)
hold_sound {e} b r f stored given up = by (hardware_sets f.hw) refl where
  by : (t : Bool) → hardware_sets f.hw ≡ t → Sound e 2 (cond t (pick (net (de_net r f)) (net (d_net r f)) (net (state_net r f))) (net (state_net r f))) (width_of f)
  by true is =
      sound_pick (sound_net 1 (omega arith) (has_up up (given.strobe (rw (stored, is) refl)))) (sound_net 1 (omega arith) (has_up up (given.brought (rw (stored, is) refl))))
      (sound_net 1 (omega arith) (has_up up (given.state stored)))
  by false is = sound_net 2 (omega arith) (has_up up (given.state stored))

-- ---- entries of a field

-- the next staged value of a field of a register with a shadow fits
staged_sound : {inputs : List (List ℕ)} (b c e : Above) (i : ℕ) (r : RegDesc) (f : FieldDesc) → AccessGiven b → RowHas c i → FieldGiven b r f → ItemShadow b i (Reg r) → Up b e → Up c e
    → IsWord r.name → FieldFits f → Sounds inputs e (entry_if (has_shadow r) (drive (width_of f) (next_staged_net r f) (stage_of i r f)))
staged_sound {inputs} b c e i r f access row given shadow up cup word fit = by (has_shadow r) refl where
  by : (t : Bool) → has_shadow r ≡ t → Sounds inputs e (entry_if t (drive (width_of f) (next_staged_net r f) (stage_of i r f)))
  by true is =
      let name : IsName (next_staged_net r f) = field_name r f (codes "_v") word fit.word refl in
      sounds_drive (field_width f fit) name (omega arith)
      (sound_pick
      (sound_and (sound_net 2 (omega arith) (has_up cup row.write)) (sound_inv (sound_net 1 (omega arith) (has_up up (shadow is).phase))))
      (sound_deeper (written_sound f fit (has_up up access.data_in)) (omega arith)) (sound_net 3 (omega arith) (has_up up (given.staged is))))
      sounds_none
  by false is = sounds_none

-- the wires of a stored field fit
updates_sound : {inputs : List (List ℕ)} (b c e : Above) (i : ℕ) (r : RegDesc) (f : FieldDesc) → AccessGiven b → RowHas c i → FieldGiven b r f → ItemShadow b i (Reg r) → Has e (write_net i r) 1 → Up b e
    → Up c e → IsWord r.name → FieldFits f → r.hwext ≡ false → Sounds inputs e (field_updates i r f)
updates_sound b c e i r f access row given shadow write up cup word fit stored =
    let hold_name : IsName (hold_net r f) = field_name r f (codes "_h") word fit.word refl in
    let next_name : IsName (next_net r f) = field_name r f (codes "_n") word fit.word refl in
    let e1 : Above = with_drive e (hold_net r f) (width_of f) in
    let up1 : Up e e1 = up_drive e (hold_net r f) (width_of f) in
    let hold1 : Has e1 (hold_net r f) (width_of f) = drive_has e (hold_net r f) (width_of f) hold_name in
    let e2 : Above = with_drive e1 (next_net r f) (width_of f) in
    let up2 : Up e e2 = up_up up1 (up_drive e1 (next_net r f) (width_of f)) in
    sounds_drive (field_width f fit) hold_name (omega arith) (hold_sound b r f stored given up)
    (sounds_drive (field_width f fit) next_name (omega arith)
    (next_sound f.sw (width_of f) (has_up up1 write) (has_up (up_up cup up1) row.read) (field_some f fit) (field_narrow f fit)
    (written_sound f fit (has_up (up_up up up1) access.data_in)) (sound_net 1 (omega arith) hold1))
    (staged_sound b c e2 i r f access row given shadow (up_up up up2) (up_up cup up2) word fit))

-- of an external register there are none
updates_by : {inputs : List (List ℕ)} (e : Above) (external : Bool) (i : ℕ) (r : RegDesc) (f : FieldDesc) → (external ≡ false → Sounds inputs e (field_updates i r f))
    → Sounds inputs e (cond external [] (field_updates i r f))
updates_by e true i r f s = sounds_none
updates_by e false i r f s = s refl

-- an assignment where the test holds
view_by : {inputs : List (List ℕ)} {e : Above} {n : List ℕ} {x : Expression} {w : ℕ} (t : Bool) → (t ≡ true → Declared e n w) → Sound e 1 x w → Sounds inputs e (entry_if t (assign n x))
view_by true target s = sounds_assign (target refl) (omega arith) s sounds_none
view_by false target s = sounds_none

-- what hardware sees of a field is sound
seen_sound : {e : Above} (b : Above) (external : Bool) (r : RegDesc) (f : FieldDesc) → r.hwext ≡ external → AccessGiven b → FieldGiven b r f → Up b e → FieldFits f
    → Sound e 1 (cond external (written_bits f) (net (state_net r f))) (width_of f)
seen_sound b true r f is access given up fit = written_sound f fit (has_up up access.data_in)
seen_sound b false r f is access given up fit = sound_net 1 (omega arith) (has_up up (given.state is))

-- the assignments of the outputs of a field fit
views_sound : {inputs : List (List ℕ)} (b c e : Above) (i : ℕ) (r : RegDesc) (f : FieldDesc) → AccessGiven b → RowHas c i → FieldGiven b r f → Has e (write_net i r) 1 → Up b e → Up c e → FieldFits f
    → Sounds inputs e (field_views i r f)
views_sound b c e i r f access row given write up cup fit =
    let q : List Entry = entry_if (has_q r f) (assign (q_net r f) (cond r.hwext (written_bits f) (net (state_net r f)))) in
    let qe : List Entry = entry_if (has_qe r f) (assign (qe_net r f) (net (write_net i r))) in
    let re : List Entry = entry_if (has_re r f) (assign (re_net r f) (net (re i))) in
    let up1 : Up e (after e q) = up_after e q in
    let up2 : Up e (after (after e q) qe) = up_up up1 (up_after (after e q) qe) in
    sounds_join e q (qe ++ re) (view_by (has_q r f) (λ is. declared_up up (given.value_seen is)) (seen_sound b r.hwext r f refl access given up fit))
    (sounds_join (after e q) qe re (view_by (has_qe r f) (λ is. declared_up (up_up up up1) (given.write_seen is)) (sound_net 1 (omega arith) (has_up up1 write)))
    (view_by (has_re r f) (λ is. declared_up (up_up up up2) (given.read_seen is)) (sound_net 1 (omega arith) (has_up (up_up cup up2) row.read))))

-- the entries of a field fit
field_sound : {inputs : List (List ℕ)} (b c e : Above) (i : ℕ) (r : RegDesc) (f : FieldDesc) → AccessGiven b → RowHas c i → FieldGiven b r f → ItemShadow b i (Reg r) → Has e (write_net i r) 1 → Up b e
    → Up c e → IsWord r.name → FieldFits f → Sounds inputs e (field_entries i r f)
field_sound b c e i r f access row given shadow write up cup word fit =
    let updates : List Entry = cond r.hwext [] (field_updates i r f) in
    let more : Up e (after e updates) = up_after e updates in
    sounds_join e updates (field_views i r f) (updates_by e r.hwext i r f (λ stored. updates_sound b c e i r f access row given shadow write up cup word fit stored))
    (views_sound b c (after e updates) i r f access row given (has_up more write) (up_up up more) (up_up cup more) fit)

-- of all fields of a register
fields_sound : {inputs : List (List ℕ)} (b c e : Above) (i : ℕ) (r : RegDesc) (fs : List FieldDesc) → AccessGiven b → RowHas c i → EachField (FieldGiven b r) fs → ItemShadow b i (Reg r)
    → Has e (write_net i r) 1 → Up b e → Up c e → IsWord r.name → EachField FieldFits fs → Sounds inputs e (fields_entries i r fs)
fields_sound b c e i r [] access row given shadow write up cup word fit = sounds_none
fields_sound b c e i r (f ∷ fs) access row given shadow write up cup word fit =
    let more : Up e (after e (field_entries i r f)) = up_after e (field_entries i r f) in
    sounds_join e (field_entries i r f) (fields_entries i r fs) (field_sound b c e i r f access row given.0 shadow write up cup word fit.0)
    (fields_sound b c (after e (field_entries i r f)) i r fs access row given.1 shadow (has_up more write) (up_up up more) (up_up cup more) word fit.1)

-- behind the entries of a shadow, if there is one, stands the net that tells of a write that changes the fields
write_there : {inputs : List (List ℕ)} (e : Above) (t : Bool) (i : ℕ) (r : RegDesc) → Has e (we i) 1 → Sounds inputs e (cond t (shadow_entries i r) [])
    → Has (after e (cond t (shadow_entries i r) [])) (cond t (commit_net i) (we i)) 1
write_there e true i r write sounds = (all_given e (shadow_entries i r) sounds.printable).1.0
write_there e false i r write sounds = write

-- of a register
register_sound : {inputs : List (List ℕ)} (b c e : Above) (i : ℕ) (all : List LaidRow) (first : ℕ) (r : RegDesc) → AccessGiven b → RowHas c i → RegisterGiven b r → ItemShadow b i (Reg r) → Up b e
    → Up c e → RegisterOk all first r → Sounds inputs e (item_fields i (Reg r))
register_sound {inputs} b c e i all first r access row given shadow up cup ok =
    let es : List Entry = cond (has_shadow r) (shadow_entries i r) [] in
    let more : Up e (after e es) = up_after e es in
    let sounds : Sounds inputs e es = shadow_sound b c e i all first r access row given shadow up cup ok in
    sounds_join e es (fields_entries i r r.fields) sounds
    (fields_sound b c (after e es) i r r.fields access row given shadow (write_there e (has_shadow r) i r (has_up cup row.write) sounds) (up_up up more) (up_up cup more) ok.word ok.each)

-- of an item
item_fields_sound : {inputs : List (List ℕ)} (b c e : Above) (i : ℕ) (all : List LaidRow) (first : ℕ) (item : Item) → AccessGiven b → RowHas c i → ItemGiven b item → ItemShadow b i item → Up b e → Up c e
    → ItemOk all first item → Sounds inputs e (item_fields i item)
item_fields_sound b c e i all first (Reg r) access row given shadow up cup ok = register_sound b c e i all first r access row given shadow up cup ok
item_fields_sound b c e i all first (Window w) access row given shadow up cup ok = sounds_none
item_fields_sound b c e i all first (SkipTo to at) access row given shadow up cup ok = absurd ok
item_fields_sound b c e i all first (Reserved words at) access row given shadow up cup ok = absurd ok

-- the entries of all fields
pub rows_fields_sound : {inputs : List (List ℕ)} (b c e : Above) (i : ℕ) (all rows : List LaidRow) → AccessGiven b → RowsHave c i rows → RowsGiven b rows → RowsShadows b i rows → Up b e → Up c e
    → RowsOk all rows → Sounds inputs e (rows_fields i rows)
rows_fields_sound b c e i all [] access have given shadows up cup ok = sounds_none
rows_fields_sound b c e i all (row ∷ rows) access have given shadows up cup ok =
    let more : Up e (after e (item_fields i row.item)) = up_after e (item_fields i row.item) in
    sounds_join e (item_fields i row.item) (rows_fields (i + 1) rows) (item_fields_sound b c e i all row.first row.item access have.0 given.0 shadows.0 up cup ok.0)
    (rows_fields_sound b c (after e (item_fields i row.item)) (i + 1) all rows access have.1 given.1 shadows.1 (up_up up more) (up_up cup more) ok.1)

-- ---- windows

-- the assignments of a window fit
window_sound : {inputs : List (List ℕ)} (b c e : Above) (i : ℕ) (w : WindowDesc) → AccessGiven b → RowHas c i → WindowGiven b w → Up b e → Up c e → Sounds inputs e (item_windows i (Window w))
window_sound b c e i w access row given up cup =
    let e1 : Above = with_assign e (window_we w) in
    let e2 : Above = with_assign e1 (window_re w) in
    let e3 : Above = with_assign e2 (window_addr w) in
    let e4 : Above = with_assign e3 (window_wdata w) in
    let up1 : Up e e1 = up_assign e (window_we w) in
    let up2 : Up e e2 = up_up up1 (up_assign e1 (window_re w)) in
    let up3 : Up e e3 = up_up up2 (up_assign e2 (window_addr w)) in
    let up4 : Up e e4 = up_up up3 (up_assign e3 (window_wdata w)) in
    let one : 0 < 1 = omega arith in
    sounds_assign (declared_up up given.write) (omega arith) (sound_net 1 one (has_up cup row.write))
    (sounds_assign (declared_up (up_up up up1) given.read) (omega arith) (sound_net 1 one (has_up (up_up cup up1) row.read))
    (sounds_assign (declared_up (up_up up up2) given.address) (omega arith) (sound_net 1 one (has_up (up_up up up2) access.address))
    (sounds_assign (declared_up (up_up up up3) given.data_in) (omega arith) (sound_net 1 one (has_up (up_up up up3) access.data_in))
    (sounds_assign (declared_up (up_up up up4) given.strobes) (omega arith) (sound_net 1 one (has_up (up_up up up4) access.strobes))
    sounds_none))))

-- of an item
item_windows_sound : {inputs : List (List ℕ)} (b c e : Above) (i : ℕ) (item : Item) → AccessGiven b → RowHas c i → ItemGiven b item → Up b e → Up c e → Sounds inputs e (item_windows i item)
item_windows_sound b c e i (Reg r) access row given up cup = sounds_none
item_windows_sound b c e i (Window w) access row given up cup = window_sound b c e i w access row given up cup
item_windows_sound b c e i (SkipTo to at) access row given up cup = sounds_none
item_windows_sound b c e i (Reserved words at) access row given up cup = sounds_none

-- the entries of all windows
pub rows_windows_sound : {inputs : List (List ℕ)} (b c e : Above) (i : ℕ) (rows : List LaidRow) → AccessGiven b → RowsHave c i rows → RowsGiven b rows → Up b e → Up c e → Sounds inputs e (rows_windows i rows)
rows_windows_sound b c e i [] access have given up cup = sounds_none
rows_windows_sound b c e i (row ∷ rows) access have given up cup =
    let more : Up e (after e (item_windows i row.item)) = up_after e (item_windows i row.item) in
    sounds_join e (item_windows i row.item) (rows_windows (i + 1) rows) (item_windows_sound b c e i row.item access have.0 given.0 up cup)
    (rows_windows_sound b c (after e (item_windows i row.item)) (i + 1) rows access have.1 given.1 (up_up up more) (up_up cup more))
