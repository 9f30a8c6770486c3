-- Bits and numbers in their plain form are read back.
use Rattle.std.proofs.Common.{◌≡◌, ℕ, zero, suc, ◌+◌, ◌-◌, ◌*◌, ◌<◌, ◌≤◌, Bool, true, false, ◌&&◌, List, [], ◌∷◌, Option, Some, None, option_and_then, nat_eq, nat_le, arith, take, drop, refl, sym, ap, ◌∙◌}
use Rattle.std.specs.Prelude.{position}
use Rattle.std.specs.Fmt.{digits}
use Rattle.std.proofs.lemmas.Bool.{and_parts, cond_both}
use Rattle.std.proofs.lemmas.Bool.Decides.{nat_tests}
use Rattle.serde_json.specs.Data.{Data, string}
use Rattle.serde_json.specs.Find.{as_str}
use Rattle.cg_base.specs.Number.Scan.{digits_from, number_of as number_in_text}
use Rattle.cg_svspec.specs.Characters.{is_digit}
use Rattle.cg_keys.specs.Forms.{if_within, natural, or_else}
use Rattle.cg_blkread.specs.Bits.{bit_number, in_order, number_or_range, parts_at, range_in, up_to_31}
use Rattle.cg_blkread.specs.declared.raw.Bits.{Bits}
use Rattle.cg_blkdone.specs.Full.{bits_text, number_of}
use Rattle.cg_blkdone.proofs.Told.{integer_in}
use Rattle.cg_blkdone.proofs.Lookups.{bits_told_in, boolean_told_in, number_told_in}

abbrev bits : ℕ → ℕ → Bits
bits msb lsb = record { msb = msb; lsb = lsb }

-- ---- as written

-- a value reads as these bits
abbrev are : Option Bits → ℕ → ℕ → Bool
are None msb lsb = false
are (Some b) msb lsb = nat_eq b.msb msb && nat_eq b.lsb lsb

abbrev pub below : ℕ → (ℕ → Bool) → Bool
below zero p = true
below (suc n) p = p n && below n p

at_or_below : (b : Bool) (n k : ℕ) (p : ℕ → Bool) → nat_eq n k ≡ b → (p n && below n p) ≡ true → (below n p ≡ true → k < n → p k ≡ true) → k < suc n → p k ≡ true
at_or_below true n k p is all more lt =
    let same : n ≡ k = grind (arith, nat_tests) in ap p (sym same) ∙ (and_parts (p n) (below n p) all).0
at_or_below false n k p is all more lt =
    let less : k < n = grind (arith, nat_tests) in more (and_parts (p n) (below n p) all).1 less

pub below_holds : (n k : ℕ) (p : ℕ → Bool) → below n p ≡ true → k < n → p k ≡ true
below_holds zero k p all lt = absurd (omega arith)
below_holds (suc n) k p all lt = at_or_below (nat_eq n k) n k p refl all (below_holds n k p) lt

reads_back : ℕ → ℕ → Bool
reads_back msb lsb = are (bits_told_in (string (bits_text (bits msb lsb)))) msb lsb

abbrev row_reads_back : ℕ → Bool
row_reads_back msb = below (suc msb) (reads_back msb)

all_read_back : below 32 row_reads_back ≡ true
unfolding digits digits_from up_to_31 bit_number range_in bits_text reads_back
all_read_back = refl

are_these : (o : Option Bits) (msb lsb : ℕ) → are o msb lsb ≡ true → o ≡ Some (bits msb lsb)
are_these None msb lsb is = absurd cc
are_these (Some b) msb lsb is =
    let both = and_parts (nat_eq b.msb msb) (nat_eq b.lsb lsb) is in
    let high : b.msb ≡ msb = grind (arith, nat_tests) in
    let low : b.lsb ≡ lsb = grind (arith, nat_tests) in
    λ i. Some (record { msb = high i; lsb = low i })

-- bits of a register
abbrev pub AreBits : Bits → Type 0
AreBits b = (b.lsb ≤ b.msb) × (b.msb ≤ 31)

-- are read back from their text
pub bits_back : (b : Bits) → AreBits b → bits_told_in (string (bits_text b)) ≡ Some b
unfolding reads_back
bits_back b are_bits =
    let row : row_reads_back b.msb ≡ true = below_holds 32 b.msb row_reads_back all_read_back (omega (arith, are_bits.1)) in
    are_these (bits_told_in (string (bits_text b))) b.msb b.lsb (below_holds (suc b.msb) b.lsb (reads_back b.msb) row (omega (arith, are_bits.0)))

-- ---- as read

-- what is read in a range is in it
pub within_range : (least most n v : ℕ) → if_within least most n ≡ Some v → v ≤ most
within_range least most n v =
    cond_both (nat_le least n && nat_le n most) (Some n) None (λ o. o ≡ Some v → v ≤ most)
    (λ test h. let same : n ≡ v = cc in grind (arith, nat_tests)) (λ test h. absurd cc)

-- a number that was found in a range is in it
pub found_within : (least most v : ℕ) (o : Option ℕ) → option_and_then (if_within least most) o ≡ Some v → v ≤ most
found_within least most v None h = absurd cc
found_within least most v (Some n) h = within_range least most n v h

-- such bits, if there are any
abbrev pub AreBitsIf : Option Bits → Type 0
AreBitsIf None = Unit {0}
AreBitsIf (Some b) = AreBits b

up_to : (cs : List ℕ) (sum v : ℕ) → sum ≤ 31 → up_to_31 sum cs ≡ Some v → v ≤ 31
unfolding up_to_31
up_to [] sum v low h = let same : sum ≡ v = cc in omega (arith, same, low)
up_to (c ∷ cs) sum v low h =
    cond_both (is_digit c && nat_le (sum * 10 + (c - 48)) 31) (up_to_31 (sum * 10 + (c - 48)) cs) None (λ o. o ≡ Some v → v ≤ 31)
    (λ test h. let next : sum * 10 + (c - 48) ≤ 31 = grind (arith, nat_tests, and_parts (is_digit c) (nat_le (sum * 10 + (c - 48)) 31) test) in up_to cs (sum * 10 + (c - 48)) v next h)
    (λ test h. absurd cc) h

number_up_to : (s : List ℕ) (v : ℕ) → bit_number s ≡ Some v → v ≤ 31
unfolding bit_number
number_up_to [] v h = absurd cc
number_up_to (c ∷ cs) v h = up_to (c ∷ cs) 0 v (omega arith) h

in_order_bits : (msb lsb : ℕ) → msb ≤ 31 → AreBitsIf (in_order msb lsb)
in_order_bits msb lsb low =
    cond_both (nat_le lsb msb) (Some (bits msb lsb)) None AreBitsIf
    (λ test. let below : lsb ≤ msb = grind (arith, nat_tests) in (below, low)) (λ test. tt)

order_bits : (msb : ℕ) (o : Option ℕ) → msb ≤ 31 → AreBitsIf (option_and_then (in_order msb) o)
order_bits msb None low = tt
order_bits msb (Some lsb) low = in_order_bits msb lsb low

parts_bits : (high low : Option ℕ) → ((v : ℕ) → high ≡ Some v → v ≤ 31) → AreBitsIf (option_and_then (λ msb. option_and_then (in_order msb) low) high)
parts_bits None low bound = tt
parts_bits (Some msb) low bound = order_bits msb low (bound msb refl)

range_bits : (s : List ℕ) (colon : Option ℕ) → AreBitsIf (option_and_then (parts_at s) colon)
range_bits s None = tt
range_bits s (Some k) = parts_bits (bit_number (take k s)) (bit_number (drop (k + 1) s)) (number_up_to (take k s))

text_bits : (s : Option (List ℕ)) → AreBitsIf (option_and_then range_in s)
unfolding range_in
text_bits None = tt
text_bits (Some s) = range_bits s (position (λ c. nat_eq c 58) s)

number_bits : (n : Option ℕ) (s : Option (List ℕ)) → ((v : ℕ) → n ≡ Some v → v ≤ 31) → AreBitsIf (number_or_range n s)
number_bits (Some n) s bound = (omega arith, bound n refl)
number_bits None s bound = text_bits s

-- what is read of bits is bits of a register
pub bits_are : (d : Data) → AreBitsIf (bits_told_in d)
bits_are d = number_bits (number_told_in 0 31 d) (as_str d) (λ v h. found_within 0 31 v (or_else (option_and_then natural (integer_in d)) (option_and_then number_in_text (as_str d))) h)

-- ---- numbers

-- a number of 32 bits is read back, and is no boolean
pub number_back : (n : ℕ) → n ≤ 4294967295 → number_told_in 0 4294967295 (number_of n) ≡ Some n
number_back n low = let test : nat_le n 4294967295 ≡ true = grind (arith, nat_tests) in let first : nat_le 0 n ≡ true = grind (arith, nat_tests) in rw (test, first) refl

-- a number is no boolean
pub number_is_no_boolean : (n : ℕ) → boolean_told_in (number_of n) ≡ None
number_is_no_boolean n = refl
