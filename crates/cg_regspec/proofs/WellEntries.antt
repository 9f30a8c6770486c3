-- The wires of the states, of the rows, and of the answer fit where they stand.
use Rattle.std.proofs.Common.{◌≡◌, ℕ, suc, ◌+◌, ◌-◌, ◌^◌, ◌<◌, ◌≤◌, Bool, true, false, cond, inl, List, [], ◌∷◌, length, refl, subst, arith, codes}
use Rattle.cg_svspec.specs.Characters.{IsName, IsWord}
use Rattle.cg_svspec.specs.Printable.{IsWidth, AllOf}
use Rattle.cg_svspec.specs.Tree.{Expression, net, cat, inv, any, and, Expressions, none, more, Entry, wire}
use Rattle.cg_desc.specs.BlockStep.{EachField}
use Rattle.cg_desc.specs.Laid.{HasRow}
use Rattle.cg_desc.specs.declared.block.FieldDesc.{FieldDesc}
use Rattle.cg_desc.specs.declared.block.RegDesc.{RegDesc}
use Rattle.cg_desc.specs.declared.block.Item.{Item}
use Rattle.cg_desc.specs.declared.block.Item.TheVariants.{Reg, Window, SkipTo, Reserved}
use Rattle.cg_desc.specs.declared.block.LaidRow.{LaidRow}
use Rattle.cg_regspec.specs.NetNames.{reg_we, reg_re, reg_error, hit_any, wbad_any, rbad_any, hit, wbad, rbad, we, re, rd, phase_net, state_net, staged_net}
use Rattle.cg_regspec.specs.RegisterModule.{width_of, has_shadow, entry_if, states_of, item_states, rows_states, rows_entries, all_ones, last_rd, highest_first, refused, answer_entries}
use Rattle.cg_svspec.proofs.WellNames.{literal_name}
use Rattle.cg_regspec.proofs.WellNames.{row_name, field_name}
use Rattle.cg_svspec.proofs.WellSound.{Above, Up, Has, up_up, declared_up, has_up, Sound, SoundParts, sound_deeper, sound_net, sound_lit, sound_inv, sound_any, sound_and, sound_or, sound_pick, sound_none, sound_more, HasPart, sound_cat, with_wire, with_drive, with_assign, after, up_drive, up_assign, drive_has, Sounds, sounds_none, sounds_wire, sounds_drive, sounds_assign, sounds_join, GivenBy}
use Rattle.cg_regspec.proofs.WellRows.{FieldFits, field_width, ItemOk, RowsOk}
use Rattle.cg_regspec.proofs.WellGiven.{AccessGiven, RowsGiven}
use Rattle.cg_regspec.proofs.WellHits.{hit_sound, write_refused_sound, read_refused_sound, gate_sound, item_word_sound}

-- ---- the states

-- a wire that is there where a test holds fits
state_if_sounds : {inputs : List (List ℕ)} (e : Above) (b : Bool) (w : ℕ) (n : List ℕ) → IsWidth w → IsName n → Sounds inputs e (entry_if b (wire w n))
state_if_sounds e true w n wide name = sounds_wire wide name sounds_none
state_if_sounds e false w n wide name = sounds_none

-- the wires of the states of a register fit
fields_states_sound : {inputs : List (List ℕ)} (e : Above) (r : RegDesc) (fs : List FieldDesc) → IsWord r.name → EachField FieldFits fs → Sounds inputs e (states_of r fs)
fields_states_sound e r [] word fit = sounds_none
fields_states_sound e r (f ∷ fs) word fit =
    let e1 : Above = with_wire e (state_net r f) (width_of f) in
    let shadow : List Entry = entry_if (has_shadow r) (wire (width_of f) (staged_net r f)) in
    sounds_wire (field_width f fit.0) (field_name r f (codes "_s") word fit.0.word refl)
    (sounds_join e1 shadow (states_of r fs) (state_if_sounds e1 (has_shadow r) (width_of f) (staged_net r f) (field_width f fit.0) (field_name r f (codes "_t") word fit.0.word refl))
    (fields_states_sound (after e1 shadow) r fs word fit.1))

-- a bit is a width
bit_width : IsWidth 1
bit_width = (omega arith, omega arith)

-- those of an item
item_states_sound : {inputs : List (List ℕ)} (e : Above) (all : List LaidRow) (first i : ℕ) (item : Item) → ItemOk all first item → Sounds inputs e (item_states i item)
item_states_sound {inputs} e all first i (Reg r) ok =
    sounds_join e (cond r.hwext [] (states_of r r.fields)) (entry_if (has_shadow r) (wire 1 (phase_net i))) (by r.hwext (fields_states_sound e r r.fields ok.word ok.each))
    (state_if_sounds (after e (cond r.hwext [] (states_of r r.fields))) (has_shadow r) 1 (phase_net i) bit_width (row_name (codes "ph_") i refl refl)) where
      by : (b : Bool) → Sounds inputs e (states_of r r.fields) → Sounds inputs e (cond b [] (states_of r r.fields))
      by true s = sounds_none
      by false s = s
item_states_sound e all first i (Window w) ok = sounds_none
item_states_sound e all first i (SkipTo to at) ok = absurd ok
item_states_sound e all first i (Reserved words at) ok = absurd ok

-- those of all rows
pub rows_states_sound : {inputs : List (List ℕ)} (e : Above) (all : List LaidRow) (i : ℕ) (rows : List LaidRow) → RowsOk all rows → Sounds inputs e (rows_states i rows)
rows_states_sound e all i [] ok = sounds_none
rows_states_sound e all i (row ∷ rows) ok =
    sounds_join e (item_states i row.item) (rows_states (i + 1) rows) (item_states_sound e all row.first i row.item ok.0)
    (rows_states_sound (after e (item_states i row.item)) all (i + 1) rows ok.1)

-- ---- the rows

-- a word is a width
word_width : IsWidth 32
word_width = (omega arith, omega arith)

-- the expression is sound from here on, whatever else stands above
abbrev pub StaysSound : Above → Expression → Type 0
StaysSound e x = (f : Above) → Up e f → Sound f 1 x 32

-- the word of ones is sound
pub ones_sound : {e : Above} (d : ℕ) → 0 < d → Sound e d all_ones 32
ones_sound d some = sound_lit d 32 (2 ^ 32 - 1) some (omega arith, omega arith, omega arith)

-- all rows, of which this is the rest: `b` has what stands above the first
pub rows_sound : {inputs : List (List ℕ)} (b : Above) (all : List LaidRow) → AccessGiven b → RowsGiven b all → (e : Above) → Up b e → (i : ℕ) (before : Expression) → StaysSound e before
    → (rows : List LaidRow) → RowsOk all rows → RowsGiven b rows → Sounds inputs e (rows_entries all i before rows)
rows_sound b all access given e up i before stays [] ok have = sounds_none
rows_sound {inputs} b all access given e up i before stays (row ∷ rows) ok have =
    let hit_name = row_name (codes "hit_") i refl refl in
    let wbad_name = row_name (codes "wbad_") i refl refl in
    let rbad_name = row_name (codes "rbad_") i refl refl in
    let we_name = row_name (codes "we_") i refl refl in
    let re_name = row_name (codes "re_") i refl refl in
    let rd_name = row_name (codes "rd_") i refl refl in
    let e1 : Above = with_drive e (hit i) 1 in
    let e2 : Above = with_drive e1 (wbad i) 1 in
    let e3 : Above = with_drive e2 (rbad i) 1 in
    let e4 : Above = with_drive e3 (we i) 1 in
    let e5 : Above = with_drive e4 (re i) 1 in
    let e6 : Above = with_drive e5 (rd i) 32 in
    let up1 : Up e e1 = up_drive e (hit i) 1 in
    let up12 : Up e1 e2 = up_drive e1 (wbad i) 1 in
    let up23 : Up e2 e3 = up_drive e2 (rbad i) 1 in
    let up34 : Up e3 e4 = up_drive e3 (we i) 1 in
    let up45 : Up e4 e5 = up_drive e4 (re i) 1 in
    let up56 : Up e5 e6 = up_drive e5 (rd i) 32 in
    let b1 : Up b e1 = up_up up up1 in
    let b3 : Up b e3 = up_up b1 (up_up up12 up23) in
    let b4 : Up b e4 = up_up b3 up34 in
    let b5 : Up b e5 = up_up b4 up45 in
    let hit1 : Has e1 (hit i) 1 = drive_has e (hit i) 1 hit_name in
    let hit2 : Has e2 (hit i) 1 = has_up up12 hit1 in
    let hit3 : Has e3 (hit i) 1 = has_up up23 hit2 in
    let hit4 : Has e4 (hit i) 1 = has_up up34 hit3 in
    let hit5 : Has e5 (hit i) 1 = has_up up45 hit4 in
    let wbad3 : Has e3 (wbad i) 1 = has_up up23 (drive_has e1 (wbad i) 1 wbad_name) in
    let rbad4 : Has e4 (rbad i) 1 = has_up up34 (drive_has e2 (rbad i) 1 rbad_name) in
    let one : 0 < 1 = omega arith in
    let write3 : Sound e3 4 (and (and (net reg_we) (net (hit i))) (inv (net (wbad i)))) 1
    = sound_deeper (sound_and (sound_and (sound_net 1 one (has_up b3 access.write)) (sound_net 1 one hit3)) (sound_inv (sound_net 1 one wbad3))) (omega arith) in
    let read4 : Sound e4 3 (and (and (net reg_re) (net (hit i))) (inv (net (rbad i)))) 1
    = sound_and (sound_and (sound_net 1 one (has_up b4 access.read)) (sound_net 1 one hit4)) (sound_inv (sound_net 1 one rbad4)) in
    let shown : StaysSound e6 (net (rd i)) = λ f more. sound_net 1 one (has_up more (drive_has e5 (rd i) 32 rd_name)) in
    sounds_drive bit_width hit_name (omega arith) (hit_sound all row ok.0 (has_up up access.address))
    (sounds_drive bit_width wbad_name (omega arith) (sound_and (sound_net 3 (omega arith) hit1) (write_refused_sound all row.first row.item ok.0 (has_up b1 access.strobes)))
    (sounds_drive bit_width rbad_name (omega arith) (sound_and (sound_net 3 (omega arith) hit2) (read_refused_sound all row.first row.item ok.0))
    (sounds_drive bit_width we_name (omega arith) (gate_sound b all row.first row.item ok.0 given b3 write3)
    (sounds_drive bit_width re_name (omega arith) read4
    (sounds_drive word_width rd_name (omega arith)
    (sound_pick (sound_net 2 (omega arith) hit5) (item_word_sound b all row.first row.item ok.0 have.0 b5) (sound_deeper (stays e5 (up_up up1 (up_up up12 (up_up up23 (up_up up34 up45))))) (omega arith)))
    (rows_sound b all access given e6 (up_up b5 up56) (i + 1) (net (rd i)) shown rows ok.1 have.1))))))

-- ---- what the rows give

-- a row's wires
pub record RowHas (e : Above) (i : ℕ) : Type 0 where
  pub hits : Has e (hit i) 1
  pub write_bad : Has e (wbad i) 1
  pub read_bad : Has e (rbad i) 1
  pub write : Has e (we i) 1
  pub read : Has e (re i) 1
  pub shows : Has e (rd i) 32

-- the wires of all rows from this number on
abbrev pub RowsHave : Above → ℕ → List LaidRow → Type 0
RowsHave e i [] = Unit {0}
RowsHave e i (row ∷ rows) = RowHas e i × RowsHave e (i + 1) rows

-- they stand above behind the entries of the rows
pub rows_have : (e : Above) (all : List LaidRow) (i : ℕ) (before : Expression) (rows : List LaidRow) → AllOf (GivenBy e) (rows_entries all i before rows) → RowsHave e i rows
rows_have e all i before [] given = tt
rows_have e all i before (row ∷ rows) given = (
  record { hits = given.0; write_bad = given.1.0; read_bad = given.1.1.0; write = given.1.1.1.0; read = given.1.1.1.1.0; shows = given.1.1.1.1.1.0 },
  rows_have e all (i + 1) (net (rd i)) rows given.1.1.1.1.1.1,
)

-- ---- the answer

-- one net of each row
abbrev EachHas : Above → (ℕ → List ℕ) → ℕ → List LaidRow → Type 0
EachHas e name i [] = Unit {0}
EachHas e name i (row ∷ rows) = Has e (name i) 1 × EachHas e name (i + 1) rows

-- each row has its hit
each_hit : {b e : Above} → Up b e → (i : ℕ) (rows : List LaidRow) → RowsHave b i rows → EachHas e hit i rows
each_hit up i [] have = tt
each_hit up i (row ∷ rows) have = (has_up up have.0.hits, each_hit up (i + 1) rows have.1)

-- its refused write
each_write_bad : {b e : Above} → Up b e → (i : ℕ) (rows : List LaidRow) → RowsHave b i rows → EachHas e wbad i rows
each_write_bad up i [] have = tt
each_write_bad up i (row ∷ rows) have = (has_up up have.0.write_bad, each_write_bad up (i + 1) rows have.1)

-- and its refused read
each_read_bad : {b e : Above} → Up b e → (i : ℕ) (rows : List LaidRow) → RowsHave b i rows → EachHas e rbad i rows
each_read_bad up i [] have = tt
each_read_bad up i (row ∷ rows) have = (has_up up have.0.read_bad, each_read_bad up (i + 1) rows have.1)

-- the nets of the rows, put together, have one bit for each row
highest_sound : {e : Above} (name : ℕ → List ℕ) (i k : ℕ) (below : Expressions) (rows : List LaidRow) → EachHas e name i rows → SoundParts e 1 below k
    → SoundParts e 1 (highest_first name i below rows) (k + length rows)
highest_sound {e} name i k below [] have s = let same : k ≡ k + 0 = omega arith in subst (λ w. SoundParts e 1 below w) same s
highest_sound {e} name i k below (row ∷ rows) have s =
    let same : suc k + length rows ≡ k + suc (length rows) = omega arith in
    subst (λ w. SoundParts e 1 (highest_first name (i + 1) (more (net (name i)) below) rows) w) same
    (highest_sound name (i + 1) (suc k) (more (net (name i)) below) rows have.1 (sound_more (suc k) (sound_net 1 (omega arith) have.0) s (omega arith)))

-- a part that is there stays
highest_stays : (name : ℕ → List ℕ) (i : ℕ) (below : Expressions) (rows : List LaidRow) → HasPart below → HasPart (highest_first name i below rows)
highest_stays name i below [] some = some
highest_stays name i below (row ∷ rows) some = highest_stays name (i + 1) (more (net (name i)) below) rows tt

-- there is a part where there is a row
highest_some : (name : ℕ → List ℕ) (rows : List LaidRow) → HasRow rows → HasPart (highest_first name 0 none rows)
highest_some name [] some = absurd some
highest_some name (row ∷ rows) some = highest_stays name (0 + 1) (more (net (name 0)) none) rows tt

-- some net of the rows
some_net_sound : {e : Above} (name : ℕ → List ℕ) (rows : List LaidRow) → HasRow rows → length rows ≤ 2 ^ 24 → EachHas e name 0 rows → Sound e 3 (any (cat (highest_first name 0 none rows))) 1
some_net_sound name rows some few have = sound_any (sound_cat (highest_some name rows some) (omega (arith, few)) (highest_sound name 0 0 none rows have (sound_none 1)))

-- what the last row reads
last_sound : {b e : Above} → Up b e → (i : ℕ) (before : Expression) (rows : List LaidRow) → RowsHave b i rows → Sound e 2 before 32 → Sound e 2 (last_rd i before rows) 32
last_sound up i before [] have s = s
last_sound up i before (row ∷ rows) have s = last_sound up (i + 1) (net (rd i)) rows have.1 (sound_net 2 (omega arith) (has_up up have.0.shows))

-- a refusal is sound
refused_sound : {e : Above} {bad : List ℕ} → Has e hit_any 1 → Has e bad 1 → Sound e 3 (refused bad) 1
refused_sound hits bad = sound_or (sound_inv (sound_net 1 (omega arith) hits)) (sound_net 2 (omega arith) bad)

-- the entries of the answer fit
pub answer_sound : {inputs : List (List ℕ)} (b c e : Above) (rows : List LaidRow) → AccessGiven b → Up b e → RowsHave c 0 rows → Up c e → HasRow rows → length rows ≤ 2 ^ 24
    → Sounds inputs e (answer_entries rows)
answer_sound b c e rows access up have cup some few =
    let any_name : IsName hit_any = literal_name (codes "hit_any") refl refl in
    let wbad_name : IsName wbad_any = literal_name (codes "wbad_any") refl refl in
    let rbad_name : IsName rbad_any = literal_name (codes "rbad_any") refl refl in
    let e1 : Above = with_drive e hit_any 1 in
    let e2 : Above = with_drive e1 wbad_any 1 in
    let e3 : Above = with_drive e2 rbad_any 1 in
    let e4 : Above = with_assign e3 reg_error in
    let up1 : Up e e1 = up_drive e hit_any 1 in
    let up12 : Up e1 e2 = up_drive e1 wbad_any 1 in
    let up23 : Up e2 e3 = up_drive e2 rbad_any 1 in
    let up34 : Up e3 e4 = up_assign e3 reg_error in
    let b3 : Up b e3 = up_up up (up_up up1 (up_up up12 up23)) in
    let any3 : Has e3 hit_any 1 = has_up (up_up up12 up23) (drive_has e hit_any 1 any_name) in
    let wbad3 : Has e3 wbad_any 1 = has_up up23 (drive_has e1 wbad_any 1 wbad_name) in
    let rbad3 : Has e3 rbad_any 1 = drive_has e2 rbad_any 1 rbad_name in
    let fault4 : Has e4 reg_error 1 = record { declared = declared_up (up_up b3 up34) access.fault; known = inl refl } in
    sounds_drive bit_width any_name (omega arith) (some_net_sound hit rows some few (each_hit cup 0 rows have))
    (sounds_drive bit_width wbad_name (omega arith) (some_net_sound wbad rows some few (each_write_bad (up_up cup up1) 0 rows have))
    (sounds_drive bit_width rbad_name (omega arith) (some_net_sound rbad rows some few (each_read_bad (up_up cup (up_up up1 up12)) 0 rows have))
    (sounds_assign (declared_up b3 access.fault) (omega arith)
    (sound_or (sound_and (sound_net 3 (omega arith) (has_up b3 access.write)) (refused_sound any3 wbad3)) (sound_and (sound_net 3 (omega arith) (has_up b3 access.read)) (refused_sound any3 rbad3)))
    (sounds_assign (declared_up (up_up b3 up34) access.data_out) (omega arith)
    (sound_pick (sound_net 2 (omega arith) fault4) (ones_sound 2 (omega arith))
    (last_sound (up_up cup (up_up up1 (up_up up12 (up_up up23 up34)))) 0 all_ones rows have (ones_sound 2 (omega arith))))
    sounds_none))))
