-- The expressions of a row are sound: where it is hit, what it refuses, and the word that it shows.
use Rattle.std.proofs.Common.{◌≡◌, ℕ, zero, suc, ◌+◌, ◌-◌, ◌*◌, ◌/◌, ◌^◌, ◌<◌, ◌≤◌, leb, Bool, true, false, cond, List, [], ◌∷◌, Option, Some, None, refl, ap, sym, subst, ◌∙◌, arith, pow-add}
use Rattle.std.proofs.lemmas.Bool.{leb-true, leb-false}
use Rattle.std.proofs.lemmas.Nat.{pow_pos}
use Rattle.std.proofs.Math.Nat.{div-lt_iff_lt-mul}
use Rattle.cg_svspec.specs.Printable.{IsLiteral}
use Rattle.cg_svspec.specs.Tree.{Expression, net, cut, lit, cat, any, equal, Expressions, none, more}
use Rattle.cg_desc.specs.Gates.{has_name, register_named}
use Rattle.cg_desc.specs.BlockStep.{EachField}
use Rattle.cg_desc.specs.Laid.{FieldsFit, HasField, IsGateAt, GateFits}
use Rattle.cg_desc.specs.declared.block.SwAccess.{SwAccess}
use Rattle.cg_desc.specs.declared.block.SwAccess.TheVariants.{Ro, Wo}
use Rattle.cg_desc.specs.declared.block.FieldDesc.{FieldDesc}
use Rattle.cg_desc.specs.declared.block.RegDesc.{RegDesc}
use Rattle.cg_desc.specs.declared.block.WindowDesc.{WindowDesc}
use Rattle.cg_desc.specs.declared.block.Item.{Item}
use Rattle.cg_desc.specs.declared.block.Item.TheVariants.{Reg, Window, SkipTo, Reserved}
use Rattle.cg_desc.specs.declared.block.LaidRow.{LaidRow}
use Rattle.cg_regspec.specs.NetNames.{reg_addr, reg_be, state_net, d_net}
use Rattle.cg_regspec.specs.RegisterModule.{width_of, is_in_word, window_terms, hit_of, last_byte, lacks_strobe, window_write_refused, window_read_refused, write_refused, read_refused, gate_of, gated, item_gate, gap, shown_part, word_parts, item_word_text}
use Rattle.cg_svspec.proofs.WellSound.{Above, Up, Has, has_up, Sound, SoundParts, sound_deeper, sound_net, sound_cut, sound_lit, sound_inv, sound_any, sound_and, sound_equal, sound_none, sound_more, HasPart, sound_cat}
use Rattle.cg_regspec.proofs.WellSlices.{sound_slice}
use Rattle.cg_regspec.proofs.Tables.{OneBit, gate_parts, first_net, gate_net_is}
use Rattle.cg_regspec.proofs.WellRows.{FieldFits, field_some, field_narrow, last_low, WindowOk, ItemOk}
use Rattle.cg_regspec.proofs.WellGiven.{FieldGiven, RegisterGiven, ItemGiven, RowsGiven}

-- ---- the hit

-- the first words of a window fit above the bits of a term
term_small : (b at : ℕ) → b ≤ 22 → at < 2 ^ 22 → at / 2 ^ b < 2 ^ (30 - b)
term_small b at low small =
    let whole : (30 - b) + b ≡ 30 = omega arith in
    let product : 2 ^ (30 - b) * 2 ^ b ≡ 2 ^ 30 = sym (pow-add 2 (30 - b) b) ∙ ap (λ z. 2 ^ z) whole in
    let under : at < 2 ^ 30 = omega arith in
    (div-lt_iff_lt-mul (pow_pos b)).1 (subst (λ z. at < z) (sym product) under)

-- so a term's literal is one
term_literal : (b at : ℕ) → b ≤ 22 → at < 2 ^ 22 → IsLiteral (30 - b) (at / 2 ^ b)
term_literal b at low small = (omega arith, omega arith, term_small b at low small)

-- terms of a window, of which there are at most so many
record SoundTerms (e : Above) (most : ℕ) (xs : Expressions) : Type 0 where
  count : ℕ
  few : count ≤ most
  parts : SoundParts e 2 xs count

-- all terms of a window are sound
terms_sound : {e : Above} (b items at : ℕ) → Has e reg_addr 32 → b ≤ 23 → at + items ≤ 2 ^ 22 → SoundTerms e b (window_terms b items at)
unfolding window_terms
terms_sound zero items at address low fits = record { count = 0; few = omega arith; parts = sound_none 2 }
terms_sound {e} (suc b) items at address low fits =
    by (leb (2 ^ b) items) refl (λ over. terms_sound b (items - 2 ^ b) (at + 2 ^ b) address (omega arith) (omega (arith, over))) (terms_sound b items at address (omega arith) fits) where
      by : (t : Bool) → leb (2 ^ b) items ≡ t → (2 ^ b ≤ items → SoundTerms e b (window_terms b (items - 2 ^ b) (at + 2 ^ b))) → SoundTerms e b (window_terms b items at)
          → SoundTerms e (suc b) (cond t (more (equal (cut reg_addr 31 (b + 2)) (lit (30 - b) (at / 2 ^ b))) (window_terms b (items - 2 ^ b) (at + 2 ^ b))) (window_terms b items at))
      by true is with_term without =
          let over : 2 ^ b ≤ items = leb-true (2 ^ b) items is in
          let later = with_term over in
          let small : at < 2 ^ 22 = omega (arith, pow_pos b) in
          record {
            count = suc later.count;
            few = omega (arith, later.few);
            parts = sound_more (suc later.count)
                (sound_equal (sound_cut 1 31 (b + 2) (30 - b) (omega arith) address (omega arith) (omega arith) (omega arith) (omega arith) (omega arith))
                (sound_lit 1 (30 - b) (at / 2 ^ b) (omega arith) (term_literal b at (omega arith) small)))
                later.parts (omega arith);
          }
      by false is with_term without = record { count = without.count; few = omega (arith, without.few); parts = without.parts }

-- a window has a term
terms_some : (b items at : ℕ) → 0 < items → items < 2 ^ b → HasPart (window_terms b items at)
unfolding window_terms
terms_some zero items at some small = absurd (omega arith)
terms_some (suc b) items at some small = by (leb (2 ^ b) items) refl (terms_some b items at some) where
  by : (t : Bool) → leb (2 ^ b) items ≡ t → (items < 2 ^ b → HasPart (window_terms b items at))
      → HasPart (cond t (more (equal (cut reg_addr 31 (b + 2)) (lit (30 - b) (at / 2 ^ b))) (window_terms b (items - 2 ^ b) (at + 2 ^ b))) (window_terms b items at))
  by true is later = tt
  by false is later = later (leb-false (2 ^ b) items is)

-- the hit of a register
register_hit_sound : {e : Above} (first : ℕ) → first < 2 ^ 24 → Has e reg_addr 32 → Sound e 4 (equal (cut reg_addr 31 2) (lit 30 (first / 4))) 1
register_hit_sound first low address =
    sound_deeper (sound_equal (sound_cut 1 31 2 30 (omega arith) address (omega arith) (omega arith) (omega arith) (omega arith) (omega arith))
    (sound_lit 1 30 (first / 4) (omega arith) (omega arith, omega arith, omega arith))) (omega arith)

-- of a window
window_hit_sound : {e : Above} (first : ℕ) (w : WindowDesc) → WindowOk first w → Has e reg_addr 32 → Sound e 4 (any (cat (window_terms 23 w.items (first / 4)))) 1
window_hit_sound first w ok address =
    let terms = terms_sound 23 w.items (first / 4) address (omega arith) (omega (arith, ok.low)) in
    sound_any (sound_cat (terms_some 23 w.items (first / 4) ok.some (omega (arith, ok.few))) (omega (arith, terms.few)) terms.parts)

-- of a row, by its item
hit_by_item : {e : Above} (all : List LaidRow) (first words : ℕ) (item : Item) → ItemOk all first item → Has e reg_addr 32
    → Sound e 4 (hit_of (record { first = first; words = words; item = item }) item) 1
hit_by_item all first words (Reg r) ok address = register_hit_sound first ok.low address
hit_by_item all first words (Window w) ok address = window_hit_sound first w ok address
hit_by_item all first words (SkipTo to at) ok address = absurd ok
hit_by_item all first words (Reserved spare at) ok address = absurd ok

-- for a row as it stands
pub hit_sound : {e : Above} (all : List LaidRow) (row : LaidRow) → ItemOk all row.first row.item → Has e reg_addr 32 → Sound e 4 (hit_of row row.item) 1
hit_sound all row ok address = hit_by_item all row.first row.words row.item ok address

-- ---- refusals

-- the literals of a bit are sound
pub no_sound : {e : Above} (d : ℕ) → 0 < d → Sound e d (lit 1 0) 1
no_sound d some = sound_lit d 1 0 some (omega arith, omega arith, omega arith)

-- both of them
yes_sound : {e : Above} (d : ℕ) → 0 < d → Sound e d (lit 1 1) 1
yes_sound d some = sound_lit d 1 1 some (omega arith, omega arith, omega arith)

-- so is the test of the strobes of bytes 0 to k
lacks_sound : {e : Above} (k : ℕ) → k < 4 → Has e reg_be 4 → Sound e 3 (lacks_strobe k) 1
lacks_sound k few strobes = sound_any (sound_inv (sound_slice 1 4 k 0 (omega arith) strobes (omega arith) (omega arith) (omega arith) (omega arith)))

-- which writes a window refuses
window_writes_sound : {e : Above} (sw : SwAccess) (bytes : Bool) → Has e reg_be 4 → Sound e 3 (window_write_refused sw bytes) 1
window_writes_sound Ro bytes strobes = yes_sound 3 (omega arith)
window_writes_sound sw true strobes = no_sound 3 (omega arith)
window_writes_sound sw false strobes = lacks_sound 3 (omega arith) strobes

-- which reads
window_reads_sound : {e : Above} (sw : SwAccess) → Sound e 3 (window_read_refused sw) 1
window_reads_sound Wo = yes_sound 3 (omega arith)
window_reads_sound sw = no_sound 3 (omega arith)

-- the writes that a row refuses
pub write_refused_sound : {e : Above} (all : List LaidRow) (first : ℕ) (item : Item) → ItemOk all first item → Has e reg_be 4 → Sound e 3 (write_refused item) 1
write_refused_sound all first (Reg r) ok strobes = lacks_sound (last_byte 0 r.fields) (last_low 0 r.fields (omega arith) ok.each) strobes
write_refused_sound all first (Window w) ok strobes = window_writes_sound w.sw w.byte_write strobes
write_refused_sound all first (SkipTo to at) ok strobes = absurd ok
write_refused_sound all first (Reserved spare at) ok strobes = absurd ok

-- the reads that it refuses
pub read_refused_sound : {e : Above} (all : List LaidRow) (first : ℕ) (item : Item) → ItemOk all first item → Sound e 3 (read_refused item) 1
read_refused_sound all first (Reg r) ok = no_sound 3 (omega arith)
read_refused_sound all first (Window w) ok = window_reads_sound w.sw
read_refused_sound all first (SkipTo to at) ok = absurd ok
read_refused_sound all first (Reserved spare at) ok = absurd ok

-- ---- gates

-- the nets of a register, if there is one
abbrev GivenAt : Above → Option RegDesc → Type 0
GivenAt b None = Unit {0}
GivenAt b (Some g) = RegisterGiven b g

-- the first register of the name, or a later one
either_given : (b : Above) (t : Bool) (r : RegDesc) (later : Option RegDesc) → RegisterGiven b r → GivenAt b later → GivenAt b (cond t (Some r) later)
either_given b true r later here there = here
either_given b false r later here there = there

-- with one row more
named_with : (b : Above) (first words : ℕ) (item : Item) (rows : List LaidRow) (name : List ℕ) → ItemGiven b item → GivenAt b (register_named rows name)
    → GivenAt b (register_named (record { first = first; words = words; item = item } ∷ rows) name)
named_with b first words (Reg r) rows name here there = either_given b (has_name r name) r (register_named rows name) here there
named_with b first words (Window w) rows name here there = there
named_with b first words (SkipTo to at) rows name here there = there
named_with b first words (Reserved spare at) rows name here there = there

-- the register of a name has its nets
named_given : (b : Above) (rows : List LaidRow) (name : List ℕ) → RowsGiven b rows → GivenAt b (register_named rows name)
named_given b [] name given = tt
named_given b (row ∷ rows) name given = named_with b row.first row.words row.item rows name given.0 (named_given b rows name given.1)

-- a net of a field of one bit
one_bit : {e : Above} {n : List ℕ} (m l : ℕ) → m ≡ l → Has e n (suc m - l) → Has e n 1
one_bit {e} {n} m l same h = let one : suc m - l ≡ 1 = omega arith in subst (λ w. Has e n w) one h

-- an expression with the gate of this register, whose fields are these
gate_with_sound : {e : Above} {x : Expression} (b : Above) (g : RegDesc) (fs : List FieldDesc) → (g.hwext ≡ false) × OneBit fs → RegisterGiven b (record g { fields = fs }) → Up b e
    → Sound e 4 x 1 → Sound e 5 (gated x (first_net (Some (record g { fields = fs })))) 1
gate_with_sound b g [] gate given up s = absurd gate.1
gate_with_sound b g (f ∷ []) gate given up s = sound_and s (sound_net 4 (omega arith) (has_up up (one_bit f.msb f.lsb gate.1 (given.0.state gate.0))))
gate_with_sound b g (f ∷ (h ∷ fs)) gate given up s = absurd gate.1

-- with the gate, if there is one of the name
gate_at_sound : {e : Above} {x : Expression} (b : Above) (o : Option RegDesc) → IsGateAt o → GivenAt b o → Up b e → Sound e 4 x 1 → Sound e 5 (gated x (first_net o)) 1
gate_at_sound b None gate given up s = absurd gate
gate_at_sound b (Some g) gate given up s = gate_with_sound b g g.fields (gate_parts g gate) given up s

-- with and without a gate
gate_by_sound : {e : Above} {x : Expression} (b : Above) (all : List LaidRow) (o : Option (List ℕ)) → GateFits all o → RowsGiven b all → Up b e → Sound e 4 x 1 → Sound e 5 (gated x (gate_of all o)) 1
gate_by_sound b all None fits given up s = sound_deeper s (omega arith)
gate_by_sound b all (Some name) fits given up s = rw (gate_net_is all name) (gate_at_sound b (register_named all name) fits (named_given b all name given) up s)

-- with the gate of an item, if it has one
pub gate_sound : {e : Above} {x : Expression} (b : Above) (all : List LaidRow) (first : ℕ) (item : Item) → ItemOk all first item → RowsGiven b all → Up b e → Sound e 4 x 1
    → Sound e 5 (gated x (item_gate all item)) 1
gate_sound b all first (Reg r) ok given up s = gate_by_sound b all r.regwen ok.gate given up s
gate_sound b all first (Window w) ok given up s = sound_deeper s (omega arith)
gate_sound b all first (SkipTo to at) ok given up s = absurd ok
gate_sound b all first (Reserved spare at) ok given up s = absurd ok

-- ---- the word

-- zeros over what stands below
gap_sound : {e : Above} (w from : ℕ) (below : Expressions) → w ≤ 32 → SoundParts e 1 below from → SoundParts e 1 (gap w below) (w + from)
gap_sound {e} zero from below small s = let same : from ≡ 0 + from = omega arith in subst (λ z. SoundParts e 1 below z) same s
gap_sound (suc w) from below small s = sound_more (suc w + from) (sound_lit 1 (suc w) 0 (omega arith) (omega arith, small, pow_pos (suc w))) s refl

-- zeros of the width of a field are a literal
zeros_literal : (f : FieldDesc) → FieldFits f → IsLiteral (width_of f) 0
zeros_literal f fit = (field_some f fit, field_narrow f fit, pow_pos (width_of f))

-- the part of a field, by what kind it is
part_by : {e : Above} (b : Above) (r : RegDesc) (f : FieldDesc) (external readable : Bool) → r.hwext ≡ external → is_in_word f.sw ≡ readable → FieldFits f → FieldGiven b r f → Up b e
    → Sound e 1 (cond readable (net (cond external (d_net r f) (state_net r f))) (lit (width_of f) 0)) (width_of f)
part_by b r f external false is reads fit given up = sound_lit 1 (width_of f) 0 (omega arith) (zeros_literal f fit)
part_by b r f true true is reads fit given up = sound_net 1 (omega arith) (has_up up (given.brought (rw (is, reads) refl)))
part_by b r f false true is reads fit given up = sound_net 1 (omega arith) (has_up up (given.state is))

-- for a field as it stands
part_sound : {e : Above} (b : Above) (r : RegDesc) (f : FieldDesc) → FieldFits f → FieldGiven b r f → Up b e → Sound e 1 (shown_part r f) (width_of f)
part_sound b r f fit given up = part_by b r f r.hwext (is_in_word f.sw) refl refl fit given up

-- the parts from bit `from` on, over what stands below
word_sound : {e : Above} (b : Above) (r : RegDesc) (from : ℕ) (below : Expressions) (fs : List FieldDesc) → FieldsFit from fs → EachField FieldFits fs → EachField (FieldGiven b r) fs → Up b e
    → from ≤ 32 → SoundParts e 1 below from → SoundParts e 1 (word_parts r from below fs) 32
word_sound {e} b r from below [] fit each given up low s =
    let all : (32 - from) + from ≡ 32 = omega arith in
    subst (λ w. SoundParts e 1 (gap (32 - from) below) w) all (gap_sound (32 - from) from below (omega arith) s)
word_sound b r from below (f ∷ fs) fit each given up low s =
    word_sound b r (suc f.msb) (more (shown_part r f) (gap (f.lsb - from) below)) fs fit.5 each.1 given.1 up (omega (arith, fit.3))
    (sound_more (suc f.msb) (part_sound b r f each.0 given.0 up) (gap_sound (f.lsb - from) from below (omega (arith, fit.2, fit.3)) s) (omega (arith, fit.1, fit.2)))

-- parts that are there stay
some_stays : (r : RegDesc) (from : ℕ) (below : Expressions) (fs : List FieldDesc) → HasPart below → HasPart (word_parts r from below fs)
some_stays r from below [] some = gap_stays (32 - from) below some where
  gap_stays : (w : ℕ) (below : Expressions) → HasPart below → HasPart (gap w below)
  gap_stays zero below some = some
  gap_stays (suc w) below some = tt
some_stays r from below (f ∷ fs) some = some_stays r (suc f.msb) (more (shown_part r f) (gap (f.lsb - from) below)) fs tt

-- a register has a part
word_some : (r : RegDesc) (fs : List FieldDesc) → HasField fs → HasPart (word_parts r 0 none fs)
word_some r [] some = absurd some
word_some r (f ∷ fs) some = some_stays r (suc f.msb) (more (shown_part r f) (gap (f.lsb - 0) none)) fs tt

-- the word that an item shows
pub item_word_sound : {e : Above} (b : Above) (all : List LaidRow) (first : ℕ) (item : Item) → ItemOk all first item → ItemGiven b item → Up b e → Sound e 2 (item_word_text item) 32
item_word_sound b all first (Reg r) ok given up =
    sound_cat (word_some r r.fields ok.some) (omega arith) (word_sound b r 0 none r.fields ok.fields ok.each given up (omega arith) (sound_none 1))
item_word_sound b all first (Window w) ok given up = sound_net 2 (omega arith) (has_up up given.read_data)
item_word_sound b all first (SkipTo to at) ok given up = absurd ok
item_word_sound b all first (Reserved spare at) ok given up = absurd ok
