-- What a register breaks of the rules on bits and reset values, as lists and as facts.
use Rattle.std.proofs.Common.{◌≡◌, ℕ, zero, suc, ◌+◌, ◌<◌, ◌≤◌, ◌^◌, ◌/◌, ◌%◌, Bool, true, false, not, ◌&&◌, nat_le, nat_lt, max, is_some, inl, inr, List, [], ◌∷◌, ◌++◌, codes, Option, Some, None, refl, sym, ap, subst, arith}
use Rattle.std.proofs.lemmas.Bool.{and_from, and_parts, eqb-true, not_from_false}
use Rattle.std.proofs.lemmas.Bool.Decides.{nat_tests}
use Rattle.std.specs.List.{flat_map, list_all, list_any, range_with_len}
use Rattle.std.specs.Option.{option_map_or}
use Rattle.cg_hjson.specs.declared.tree.Tree.{Tree}
use Rattle.cg_finding.specs.Finding.{Among, Finding, In, each_after}
use Rattle.cg_finding.specs.Rules as rules
use Rattle.cg_finding.proofs.Members.{each_after_has, flat_map_has, in_each_after, in_either, in_flat_map, in_left, in_right, in_unless, in_when, unless_has, when_has}
use Rattle.cg_finding.proofs.Membership.{all_pass, any_finds, fails_any, finds_any, pass_all}
use Rattle.cg_keys.specs.Elements.{elements}
use Rattle.cg_keys.specs.Table.{value_at}
use Rattle.cg_keys.specs.Values.{members_of}
use Rattle.cg_blkread.specs.Bits.{width_of}
use Rattle.cg_blkread.specs.Facts.Values.{BreaksValues, bad, empty, outside, overlap as overlaps, wide, HasBit, HasRegister, IsCountTo, IsOne}
use Rattle.cg_blkread.specs.Raw.{Shared, raw_field, raw_fields, raw_register, shared_of}
use Rattle.cg_blkread.specs.Values.{bad_bits, bit_is_one, has_stray_bit, holds_bit, is_count_to, is_empty, is_too_wide, no_fields, overlap, register_values, shares_bit, stray_reset, wide_reset}
use Rattle.cg_blkread.specs.declared.raw.Bits.{Bits}
use Rattle.cg_blkread.specs.declared.raw.RawField.{RawField}
use Rattle.cg_blkread.specs.declared.raw.RawRegister.{RawRegister}
use Rattle.cg_blkread.proofs.Sound.RawFields.{GoodIfAny, bits_if_any}

-- ---- options

pub is_none : {X : Type 0} (o : Option X) → is_some o ≡ false → o ≡ None
is_none None h = refl
is_none (Some x) h = cc

pub none_is : {X : Type 0} (o : Option X) → o ≡ None → is_some o ≡ false
none_is o is = rw is refl

not_none : {X : Type 0} (o : Option X) → is_some o ≡ true → ¬ (o ≡ None)
not_none o h is = let none : is_some o ≡ false = none_is o is in cc

some_there : {X : Type 0} (o : Option X) → ¬ (o ≡ None) → is_some o ≡ true
some_there None other = absurd (other refl)
some_there (Some x) other = refl

-- ---- bits of fields

-- a field as it is written has its bits the higher one first, where it has any
raw_bits_good : (shared : Shared) (number : ℕ) (ts : List Tree) (f : RawField) → Among f (raw_fields shared number ts) → GoodIfAny f.bits
unfolding raw_field
raw_bits_good shared number [] f among = absurd among
raw_bits_good shared number (t ∷ ts) f (inl is) = subst (λ (g : RawField). GoodIfAny g.bits) (sym is) (bits_if_any (value_at (codes "bits") (members_of t)))
raw_bits_good shared number (t ∷ ts) f (inr among) = raw_bits_good shared (number + 1) ts f among

bits_good : (t : Tree) (r : RawRegister) (f : RawField) → HasRegister t r → Among f r.fields → GoodIfAny f.bits
unfolding raw_register
bits_good t r f has among =
    raw_bits_good (shared_of (members_of has.0)) 1 (elements (codes "fields") (members_of has.0)) f (subst (λ (s : RawRegister). Among f s.fields) has.2 among)

-- a bit that two fields have
record HaveBit (f g : RawField) : Type 0 where
  bit : ℕ
  first : HasBit bit f
  second : HasBit bit g

have_bit : (f g : RawField) → GoodIfAny f.bits → GoodIfAny g.bits → shares_bit f.bits g.bits ≡ true → HaveBit f g
have_bit f g good good' shares = by f.bits g.bits refl refl good good' shares where
  by : (a b : Option Bits) → f.bits ≡ a → g.bits ≡ b → GoodIfAny a → GoodIfAny b → shares_bit a b ≡ true → HaveBit f g
  by None b is_a is_b good_a good_b h = cc
  by (Some a) None is_a is_b good_a good_b h = cc
  by (Some a) (Some b) is_a is_b good_a good_b h =
      let parts = and_parts (nat_le a.lsb b.msb) (nat_le b.lsb a.msb) h in
      let up : a.lsb ≤ b.msb = grind (arith, nat_tests) in
      let down : b.lsb ≤ a.msb = grind (arith, nat_tests) in
      let own : a.lsb ≤ a.msb = good_a.0 in
      let other : b.lsb ≤ b.msb = good_b.0 in
      record {
        bit = max a.lsb b.lsb;
        first = (a, is_a, (omega arith, omega arith));
        second = (b, is_b, (omega arith, omega arith));
      }

share_bit : (k : ℕ) (f g : RawField) → HasBit k f → HasBit k g → shares_bit f.bits g.bits ≡ true
share_bit k f g (a, is_a, within_a) (b, is_b, within_b) =
    let low_a : a.lsb ≤ k = within_a.0 in
    let low_b : b.lsb ≤ k = within_b.0 in
    let high_a : k ≤ a.msb = within_a.1 in
    let high_b : k ≤ b.msb = within_b.1 in
    let up : a.lsb ≤ b.msb = omega arith in
    let down : b.lsb ≤ a.msb = omega arith in
    rw (is_a, is_b) (and_from (nat_le a.lsb b.msb) (nat_le b.lsb a.msb) (grind (arith, nat_tests)) (grind (arith, nat_tests)))

holds : (k : ℕ) (f : RawField) → HasBit k f → holds_bit k f.bits ≡ true
holds k f (b, is, within) =
    let low : b.lsb ≤ k = within.0 in
    let high : k ≤ b.msb = within.1 in
    rw is (and_from (nat_le b.lsb k) (nat_le k b.msb) (grind (arith, nat_tests)) (grind (arith, nat_tests)))

is_held : (k : ℕ) (f : RawField) → holds_bit k f.bits ≡ true → HasBit k f
is_held k f h = by f.bits refl h where
  by : (o : Option Bits) → f.bits ≡ o → holds_bit k o ≡ true → HasBit k f
  by None is h = cc
  by (Some b) is h =
      let parts = and_parts (nat_le b.lsb k) (nat_le k b.msb) h in
      let low : b.lsb ≤ k = grind (arith, nat_tests) in
      let high : k ≤ b.msb = grind (arith, nat_tests) in
      (b, is, (low, high))

-- ---- reset values

-- a value that does not fit these bits
record TooWide (bits : Option Bits) (value : Option ℕ) : Type 0 where
  own : Bits
  number : ℕ
  has_bits : bits ≡ Some own
  has_value : value ≡ Some number
  past : 2 ^ width_of own ≤ number

too_wide : (bits : Option Bits) (value : Option ℕ) → is_too_wide bits value ≡ true → TooWide bits value
too_wide None value h = cc
too_wide (Some b) None h = cc
too_wide (Some b) (Some v) h =
    let past : 2 ^ width_of b ≤ v = grind (arith, nat_tests) in
    record { own = b; number = v; has_bits = refl; has_value = refl; past = past }

in_range : (a n k : ℕ) → Among k (range_with_len a n) → k < a + n
in_range a zero k among = absurd among
in_range a (suc n) k (inl is) = omega arith
in_range a (suc n) k (inr among) = let below : k < a + 1 + n = in_range (a + 1) n k among in omega arith

range_has : (a n k : ℕ) → a ≤ k → k < a + n → Among k (range_with_len a n)
range_has a zero k least most = absurd (omega arith)
range_has a (suc n) k least most = by (nat_le k a) refl (λ (above : a < k). range_has (a + 1) n k (omega arith) (omega arith)) where
  by : (b : Bool) → nat_le k a ≡ b → (a < k → Among k (range_with_len (a + 1) n)) → Among k (range_with_len a (suc n))
  by true h rest = let below : k ≤ a = grind (arith, nat_tests) in inl (omega arith)
  by false h rest = let above : a < k = grind (arith, nat_tests) in inr (rest above)

-- a bit of the value that no field has
record Stray (fields : List RawField) (value : ℕ) : Type 0 where
  bit : ℕ
  below : bit < 32
  one : IsOne value bit
  free : (f : RawField) → Among f fields → ¬ HasBit bit f

not_true : (b : Bool) → not b ≡ true → b ≡ false
not_true true h = cc
not_true false h = refl

stray_bit : (fields : List RawField) (value : ℕ) → has_stray_bit fields value ≡ true → Stray fields value
unfolding has_stray_bit
stray_bit fields value h =
    let found = any_finds (λ k. bit_is_one value k && not (list_any (λ (f : RawField). holds_bit k f.bits) fields)) (range_with_len 0 32) h in
    let k : ℕ = found.item in
    let parts = and_parts (bit_is_one value k) (not (list_any (λ (f : RawField). holds_bit k f.bits) fields)) found.passes in
    let unheld : list_any (λ (f : RawField). holds_bit k f.bits) fields ≡ false = not_true _ parts.1 in
    record {
      bit = k;
      below = in_range 0 32 k found.among;
      one = eqb-true ((value / 2 ^ k) % 2) 1 parts.0;
      free = λ f among has.
          let held : list_any (λ (g : RawField). holds_bit k g.bits) fields ≡ true = finds_any (λ (g : RawField). holds_bit k g.bits) fields f among (holds k f has) in cc;
    }

is_stray : (fields : List RawField) (value k : ℕ) → k < 32 → IsOne value k → ((f : RawField) → Among f fields → ¬ HasBit k f) → has_stray_bit fields value ≡ true
unfolding has_stray_bit
is_stray fields value k below one free =
    let unheld : list_any (λ (f : RawField). holds_bit k f.bits) fields ≡ false =
    fails_any (λ (f : RawField). holds_bit k f.bits) fields (λ f among h. free f among (is_held k f h)) in
    let is_one : bit_is_one value k ≡ true = rw one refl in
    finds_any (λ j. bit_is_one value j && not (list_any (λ (f : RawField). holds_bit j f.bits) fields)) (range_with_len 0 32) k (range_has 0 32 k (omega arith) below)
    (and_from (bit_is_one value k) (not (list_any (λ (f : RawField). holds_bit k f.bits) fields)) is_one (not_from_false _ unheld))

-- ---- what is listed is a fact

empty_tells : (t : Tree) (r : RawRegister) (f : Finding) → HasRegister t r → In f (no_fields r) → BreaksValues t f
empty_tells t r f has among =
    let test = in_when (is_empty r.fields) f (rules.no_fields r.fields_at r.name) among in
    subst (BreaksValues t) (sym test.1) (empty r has (by r.fields test.0))
  where
    by : (fs : List RawField) → is_empty fs ≡ true → fs ≡ []
    by [] h = refl
    by (g ∷ gs) h = cc

bad_tells : (t : Tree) (r : RawRegister) (f : Finding) → HasRegister t r → In f (flat_map (bad_bits r.name) r.fields) → BreaksValues t f
bad_tells t r f has among =
    let one = in_flat_map (bad_bits r.name) r.fields f among in
    let test = in_unless (is_some one.item.bits) f (rules.bad_bits one.item.bits_at r.name) one.found in
    subst (BreaksValues t) (sym test.1) (bad r one.item has one.among (is_none one.item.bits test.0))

overlap_tells : (t : Tree) (r : RawRegister) (f : Finding) → HasRegister t r → In f (each_after overlap [] r.fields) → BreaksValues t f
overlap_tells t r f has among =
    let one = in_each_after overlap [] r.fields f among in
    let field : RawField = one.item in
    let test = in_when (list_any (λ (b : RawField). shares_bit b.bits field.bits) one.front) f (rules.fields_overlap field.bits_at field.name) one.found in
    let earlier = any_finds (λ (b : RawField). shares_bit b.bits field.bits) one.front test.0 in
    let stands : Among field r.fields = subst (Among field) (sym one.splits) (in_right field one.front (field ∷ one.back) (inl refl)) in
    let before : Among earlier.item r.fields = subst (Among earlier.item) (sym one.splits) (in_left earlier.item one.front (field ∷ one.back) earlier.among) in
    let both = have_bit earlier.item field (bits_good t r earlier.item has before) (bits_good t r field has stands) earlier.passes in
    subst (BreaksValues t) (sym test.1) (overlaps r one.front one.back field earlier.item both.bit has one.splits earlier.among both.first both.second)

wide_tells : (t : Tree) (r : RawRegister) (f : Finding) → HasRegister t r → In f (flat_map (wide_reset r.name) r.fields) → BreaksValues t f
wide_tells t r f has among =
    let one = in_flat_map (wide_reset r.name) r.fields f among in
    let test = in_when (is_too_wide one.item.bits one.item.resval) f (rules.reset_too_wide one.item.resval_at r.name) one.found in
    let is = too_wide one.item.bits one.item.resval test.0 in
    subst (BreaksValues t) (sym test.1) (wide r one.item is.own is.number has one.among is.has_bits is.has_value is.past)

outside_tells : (t : Tree) (r : RawRegister) (f : Finding) → HasRegister t r → In f (stray_reset r) → BreaksValues t f
unfolding stray_reset
outside_tells t r f has among =
    let test =
    in_when (list_all (λ (g : RawField). is_some g.bits) r.fields && option_map_or (has_stray_bit r.fields) r.resval false) f (rules.reset_too_wide r.resval_at r.name) among in
    let parts = and_parts (list_all (λ (g : RawField). is_some g.bits) r.fields) (option_map_or (has_stray_bit r.fields) r.resval false) test.0 in
    subst (BreaksValues t) (sym test.1) (by r.resval refl parts.0 parts.1)
  where
    by : (o : Option ℕ) → r.resval ≡ o → list_all (λ (g : RawField). is_some g.bits) r.fields ≡ true → option_map_or (has_stray_bit r.fields) o false ≡ true
        → BreaksValues t (rules.reset_too_wide r.resval_at r.name)
    by None is all h = cc
    by (Some v) is all h =
        let stray = stray_bit r.fields v h in
        outside r v stray.bit has (λ g among. not_none g.bits (all_pass (λ (g : RawField). is_some g.bits) r.fields all g among)) is stray.below stray.one stray.free

pub register_tells : (t : Tree) (r : RawRegister) (f : Finding) → HasRegister t r → In f (register_values r) → BreaksValues t f
unfolding register_values
register_tells t r f has among =
    elim (in_either f (no_fields r) _ among) [
      | inl h ↦ empty_tells t r f has h
      | inr a ↦ elim (in_either f (flat_map (bad_bits r.name) r.fields) _ a) [
        | inl h ↦ bad_tells t r f has h
        | inr b ↦ elim (in_either f (each_after overlap [] r.fields) _ b) [
          | inl h ↦ overlap_tells t r f has h
          | inr c ↦ elim (in_either f (flat_map (wide_reset r.name) r.fields) (stray_reset r) c) [
            | inl h ↦ wide_tells t r f has h
            | inr h ↦ outside_tells t r f has h
          ]
        ]
      ]
    ]

-- ---- a fact is listed

-- the places of the parts of a register's list
pub data PartOf (r : RawRegister) (f : Finding) : Type 0 where
  no_field : In f (no_fields r) → PartOf r f
  bad_field : In f (flat_map (bad_bits r.name) r.fields) → PartOf r f
  overlapping : In f (each_after overlap [] r.fields) → PartOf r f
  wide_field : In f (flat_map (wide_reset r.name) r.fields) → PartOf r f
  stray : In f (stray_reset r) → PartOf r f

pub register_has : (r : RawRegister) (f : Finding) → PartOf r f → In f (register_values r)
unfolding register_values
register_has r f (no_field h) = in_left f (no_fields r) _ h
register_has r f (bad_field h) = in_right f (no_fields r) _ (in_left f (flat_map (bad_bits r.name) r.fields) _ h)
register_has r f (overlapping h) =
    in_right f (no_fields r) _ (in_right f (flat_map (bad_bits r.name) r.fields) _ (in_left f (each_after overlap [] r.fields) _ h))
register_has r f (wide_field h) =
    in_right f (no_fields r) _ (in_right f (flat_map (bad_bits r.name) r.fields) _ (in_right f (each_after overlap [] r.fields) _
    (in_left f (flat_map (wide_reset r.name) r.fields) (stray_reset r) h)))
register_has r f (stray h) =
    in_right f (no_fields r) _ (in_right f (flat_map (bad_bits r.name) r.fields) _ (in_right f (each_after overlap [] r.fields) _
    (in_right f (flat_map (wide_reset r.name) r.fields) (stray_reset r) h)))

pub empty_found : (r : RawRegister) → r.fields ≡ [] → In (rules.no_fields r.fields_at r.name) (no_fields r)
empty_found r none =
    when_has (is_empty r.fields) (rules.no_fields r.fields_at r.name) (rules.no_fields r.fields_at r.name) (ap is_empty none) refl

pub bad_found : (r : RawRegister) (f : RawField) → Among f r.fields → f.bits ≡ None → In (rules.bad_bits f.bits_at r.name) (flat_map (bad_bits r.name) r.fields)
bad_found r f among none =
    flat_map_has (bad_bits r.name) r.fields f (rules.bad_bits f.bits_at r.name) among
    (unless_has (is_some f.bits) (rules.bad_bits f.bits_at r.name) (rules.bad_bits f.bits_at r.name) (none_is f.bits none) refl)

pub overlap_found : (r : RawRegister) (before after : List RawField) (f g : RawField) (k : ℕ) → r.fields ≡ before ++ f ∷ after → Among g before → HasBit k g → HasBit k f
    → In (rules.fields_overlap f.bits_at f.name) (each_after overlap [] r.fields)
overlap_found r before after f g k splits among first second =
    let found : Finding = rules.fields_overlap f.bits_at f.name in
    subst (λ fs. In found (each_after overlap [] fs)) (sym splits)
    (each_after_has overlap [] before after f found
    (when_has (list_any (λ (b : RawField). shares_bit b.bits f.bits) before) found found
    (finds_any (λ (b : RawField). shares_bit b.bits f.bits) before g among (share_bit k g f first second)) refl))

pub wide_found : (r : RawRegister) (f : RawField) (b : Bits) (v : ℕ) → Among f r.fields → f.bits ≡ Some b → f.resval ≡ Some v → 2 ^ width_of b ≤ v
    → In (rules.reset_too_wide f.resval_at r.name) (flat_map (wide_reset r.name) r.fields)
wide_found r f b v among has_bits has_value past =
    let found : Finding = rules.reset_too_wide f.resval_at r.name in
    let is : nat_le (2 ^ width_of b) v ≡ true = grind (arith, nat_tests) in
    flat_map_has (wide_reset r.name) r.fields f found among (when_has (is_too_wide f.bits f.resval) found found (rw (has_bits, has_value) is) refl)

pub outside_found : (r : RawRegister) (v k : ℕ) → ((f : RawField) → Among f r.fields → ¬ (f.bits ≡ None)) → r.resval ≡ Some v → k < 32 → IsOne v k
    → ((f : RawField) → Among f r.fields → ¬ HasBit k f) → In (rules.reset_too_wide r.resval_at r.name) (stray_reset r)
unfolding stray_reset
outside_found r v k all has_value below one free =
    let found : Finding = rules.reset_too_wide r.resval_at r.name in
    let good : list_all (λ (f : RawField). is_some f.bits) r.fields ≡ true = pass_all (λ (f : RawField). is_some f.bits) r.fields (λ f among. some_there f.bits (all f among)) in
    let strays : option_map_or (has_stray_bit r.fields) r.resval false ≡ true = rw has_value (is_stray r.fields v k below one free) in
    when_has (list_all (λ (f : RawField). is_some f.bits) r.fields && option_map_or (has_stray_bit r.fields) r.resval false) found found
    (and_from (list_all (λ (f : RawField). is_some f.bits) r.fields) (option_map_or (has_stray_bit r.fields) r.resval false) good strays) refl

-- ---- counts

pub is_count : (most : ℕ) (o : Option ℕ) → IsCountTo most o → is_count_to most o ≡ true
is_count most None h = absurd h
is_count most (Some n) (some, few) = and_from (nat_lt 0 n) (nat_le n most) (grind (arith, nat_tests)) (grind (arith, nat_tests))

pub count_is : (most : ℕ) (o : Option ℕ) → is_count_to most o ≡ true → IsCountTo most o
count_is most None h = cc
count_is most (Some n) h = let parts = and_parts (nat_lt 0 n) (nat_le n most) h in (grind (arith, nat_tests), grind (arith, nat_tests))
