-- Copies of a valid register: how many have room in a word, and where they stand in it.
use Rattle.std.proofs.Common.{ℕ, ◌≡◌, ◌+◌, ◌-◌, ◌*◌, ◌/◌, ◌<◌, ◌≤◌, suc, zero, Bool, true, false, cond, List, [], ◌∷◌, length, get_or, refl, ap, ◌∙◌, arith}
use Rattle.std.proofs.Math.Nat.{mul-div-le, div-le_self, mul-le-mul_left, mul-le-mul_right, mul-zero, div-mul-le_self}
use Rattle.std.proofs.lemmas.Nat.{le-div}
use Rattle.cg_desc.specs.Items.{copies_in_word, copies_per_word, copy_bits, word_count}
use Rattle.cg_desc.specs.Laid.{FieldsFit}
use Rattle.cg_desc.specs.Valid.{HasOneField, IsValidMultireg}
use Rattle.cg_desc.specs.declared.block.FieldDesc.{FieldDesc}
use Rattle.cg_desc.specs.declared.block.MultiDesc.{MultiDesc}

-- a word has room for a copy, and for no more than there are bits
pub record Room (n : ℕ) : Type 0 where
  pub some : 0 < n
  pub few : n ≤ 32

-- as many copies as have room
room_compact : (fs : List FieldDesc) → FieldsFit 0 fs → Room (32 / copy_bits fs)
room_compact [] fit = record { some = omega arith; few = omega arith }
room_compact (f ∷ fs) fit = record {
  some = let top : f.msb < 32 = fit.3 in le-div 1 32 (f.msb + 1) (omega arith) (omega arith);
  few = div-le_self 32 (f.msb + 1);
}

room_by : (compact : Bool) (fs : List FieldDesc) → FieldsFit 0 fs → Room (cond compact (32 / copy_bits fs) 1)
room_by true fs fit = room_compact fs fit
room_by false fs fit = record { some = omega arith; few = omega arith }

-- what a word of a valid register's copies has room for
pub per_word : (m : MultiDesc) → IsValidMultireg m → Room (copies_per_word m)
unfolding copies_per_word
per_word m valid = room_by m.compact m.reg.fields valid.register.fields

-- a field of a valid register stands within a word
record Within (f : FieldDesc) : Type 0 where
  ordered : f.lsb ≤ f.msb
  below : f.msb < 32

field_within : (from : ℕ) (fs : List FieldDesc) (i : ℕ) (d : FieldDesc) → FieldsFit from fs → i < length fs → Within (get_or fs i d)
field_within from [] i d fit h = absurd (omega arith)
field_within from (f ∷ fs) zero d fit h = record { ordered = fit.2; below = fit.3 }
field_within from (f ∷ fs) (suc i) d fit h = field_within (suc f.msb) fs i d fit.5 (omega arith)

-- so many bits higher each field stands within a word
pub record Placed (fs : List FieldDesc) (shift : ℕ) : Type 0 where
  pub few : shift < 32
  pub msb : (i : ℕ) (d : FieldDesc) → i < length fs → (get_or fs i d).msb + shift < 32
  pub lsb : (i : ℕ) (d : FieldDesc) → i < length fs → (get_or fs i d).lsb + shift < 32

-- so many bits, times a place that has room, and so many bits again, are not more than a word's
room_for : (bits place : ℕ) → place < 32 / bits → bits * place + bits ≤ 32
room_for bits place h =
    let whole : bits * (32 / bits) ≤ 32 = mul-div-le 32 bits in
    let more : bits * (place + 1) ≤ bits * (32 / bits) = mul-le-mul_left bits (omega arith) in
    omega arith

-- what holds of a sole field holds of each
each_of_one : (P : FieldDesc → Type 0) (f : FieldDesc) → P f → (i : ℕ) (d : FieldDesc) → i < 1 → P (get_or (f ∷ []) i d)
each_of_one P f holds zero d lt = holds
each_of_one P f holds (suc i) d lt = absurd (omega arith)

-- the sole field of a copy that is compacted
sole_placed : (fs : List FieldDesc) (place : ℕ) → FieldsFit 0 fs → HasOneField fs → place < 32 / copy_bits fs → Placed fs (copy_bits fs * place)
sole_placed [] place fit sole h = absurd sole
sole_placed (f ∷ (g ∷ fs)) place fit sole h = absurd sole
sole_placed (f ∷ []) place fit sole h =
    let room : (f.msb + 1) * place + (f.msb + 1) ≤ 32 = room_for (f.msb + 1) place h in
    let ordered : f.lsb ≤ f.msb = fit.2 in
    record {
      few = omega arith;
      msb = each_of_one (λ g. g.msb + (f.msb + 1) * place < 32) f (omega arith);
      lsb = each_of_one (λ g. g.lsb + (f.msb + 1) * place < 32) f (omega arith);
    }

-- the fields of a copy that has its word for itself
alone_placed : (fs : List FieldDesc) (shift : ℕ) → FieldsFit 0 fs → shift ≡ 0 → Placed fs shift
alone_placed fs shift fit none = record {
  few = omega arith;
  msb = λ i d lt. let within = field_within 0 fs i d fit lt in omega (arith, within.below);
  lsb = λ i d lt. let within = field_within 0 fs i d fit lt in omega (arith, within.below, within.ordered);
}

pub placed_by : (compact : Bool) (fs : List FieldDesc) (place : ℕ) → FieldsFit 0 fs → (compact ≡ true → HasOneField fs) → place < cond compact (32 / copy_bits fs) 1
    → Placed fs (copy_bits fs * place)
placed_by true fs place fit sole h = sole_placed fs place fit (sole refl) h
placed_by false fs place fit sole h = let first : place ≡ 0 = omega arith in alone_placed fs (copy_bits fs * place) fit (ap (λ n. copy_bits fs * n) first ∙ mul-zero (copy_bits fs))

-- the fields of a copy that has room in its word
pub placed : (m : MultiDesc) (place : ℕ) → IsValidMultireg m → place < copies_per_word m → Placed m.reg.fields (copy_bits m.reg.fields * place)
unfolding copies_per_word
placed m place valid h = placed_by m.compact m.reg.fields place valid.register.fields valid.sole h

-- a word has a first copy
starts : (count per j : ℕ) → 0 < per → j < (count + (per - 1)) / per → j * per < count
starts count per j some h =
    let whole : (count + (per - 1)) / per * per ≤ count + (per - 1) = div-mul-le_self (count + (per - 1)) per in
    let more : (j + 1) * per ≤ (count + (per - 1)) / per * per = mul-le-mul_right per (omega arith) in
    omega arith

pub word_starts : (m : MultiDesc) (j : ℕ) → IsValidMultireg m → j < word_count m → j * copies_per_word m < m.count
unfolding word_count
word_starts m j valid h = starts m.count (copies_per_word m) j (per_word m valid).some h

-- the copies of a word have room in it, and are not more than are left
pub record Filled (m : MultiDesc) (j : ℕ) : Type 0 where
  pub room : copies_in_word m j ≤ copies_per_word m
  pub left : j * copies_per_word m + copies_in_word m j ≤ m.count

pub filled : (m : MultiDesc) (j : ℕ) → IsValidMultireg m → j < word_count m → Filled m j
unfolding copies_in_word
filled m j valid h = let start : j * copies_per_word m < m.count = word_starts m j valid h in record { room = omega arith; left = omega arith }

-- a field of the register, so many bits higher
pub placed_field : (fs gs : List FieldDesc) (shift higher i : ℕ) (f : FieldDesc) → Placed fs shift → gs ≡ fs → higher ≡ shift → i < length gs → f ≡ get_or gs i f
    → (f.msb + higher < 32) × (f.lsb + higher < 32)
placed_field fs gs shift higher i f here same equal lt is =
    let there : f ≡ get_or fs i f = is ∙ ap (λ hs. get_or hs i f) same in
    let below : i < length fs = omega (arith, ap length same) in
    (omega (arith, here.msb i f below, ap (λ g. g.msb) there), omega (arith, here.lsb i f below, ap (λ g. g.lsb) there))
