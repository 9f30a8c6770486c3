-- The value of a select: the number of the first device that has the request's address in a range, and the number of devices where
-- there is none.
use Rattle.std.proofs.Common.{◌≡◌, ℕ, suc, ◌+◌, ◌*◌, ◌-◌, ◌/◌, ◌<◌, ◌≤◌, ◌^◌, eqb, leb, ltb, Bool, true, false, cond, ◌&&◌, inl, inr, List, [], ◌∷◌, take, drop, length, refl, ap, sym, subst, ◌∙◌, arith}
use Rattle.std.specs.Prelude.{min}
use Rattle.std.proofs.lemmas.Bool.Decides.{nat_tests}
use Rattle.std.proofs.lemmas.Bool.{eqb-true}
use Rattle.std.proofs.lemmas.Grind.{common_steps}
use Rattle.std.proofs.lemmas.List.{drop-take, length-take, length-drop}
use Rattle.std.proofs.lemmas.Nat.{shr_below, pow_pos}
use Rattle.std.proofs.Math.Nat.{div-eq_of_eq-mul_right}
use Rattle.std.proofs.Math.Bool.{or_comm}
use Rattle.std.proofs.Math.Pow.{pow_mono}
use Rattle.cg_svspec.specs.Names.{Among}
use Rattle.cg_svspec.specs.Bits.{Bits, bits, same_bits, any_bit, chosen}
use Rattle.cg_svspec.specs.Tree.{cut, lit, equal}
use Rattle.cg_svspec.specs.Printable.{AllOf}
use Rattle.cg_svspec.specs.Value.{Values, eval, eval_parts}
use Rattle.cg_svspec.specs.Links.{number}
use Rattle.cg_desc.specs.declared.crossbar.Range.{Range}
use Rattle.cg_busspec.specs.Crossbar.{device_ranges, Crossbar, node, holds, some_holds}
use Rattle.cg_busspec.specs.Ranges.{IsRange}
use Rattle.cg_busspec.specs.CrossbarModule.{halvings, power_of, range_term, range_terms, select}
use Rattle.cg_svspec.proofs.BitLists.{any_bit-append, any_bit-one, same_bits-bits, drop-bits}
use Rattle.cg_busspec.proofs.Numbers.{bits-number, number_small, halvings-power, block_holds}

-- the address of a request
abbrev pub address_bits : Bits → Bits
address_bits request = take 32 (drop 32 request)

-- 32 bits
address_long : (request : Bits) → length request ≡ 70 → length (address_bits request) ≡ 32
address_long request long = length-take 32 (drop 32 request) ∙ ap (min 32) (length-drop 32 request ∙ ap (λ n. n - 32) long)

-- as a number
address_is : (request : Bits) → length request ≡ 70 → address_bits request ≡ bits 32 (number (address_bits request))
address_is request long = sym (subst (λ w. bits w (number (address_bits request)) ≡ address_bits request) (address_long request long) (bits-number (address_bits request)))

-- below 2^32
address_small : (request : Bits) → length request ≡ 70 → number (address_bits request) < 2 ^ 32
address_small request long = subst (λ w. number (address_bits request) < 2 ^ w) (address_long request long) (number_small (address_bits request))

-- drops one after the other
drop_twice : {A : Type 0} (i j : ℕ) (xs : List A) → drop (i + j) xs ≡ drop j (drop i xs)
drop_twice i j xs = grind (arith, common_steps)

-- the high bits of the address
high_bits : (request : Bits) (k : ℕ) → length request ≡ 70 → k ≤ 32 → take (32 - k) (drop (32 + k) request) ≡ bits (32 - k) (number (address_bits request) / 2 ^ k)
high_bits request k long few =
    let whole : k + (32 - k) ≡ 32 = omega arith in
    ap (take (32 - k)) (drop_twice 32 k request) ∙ sym (drop-take k (32 - k) (drop 32 request))
    ∙ ap (λ z. drop k (take z (drop 32 request))) whole ∙ ap (drop k) (address_is request long) ∙ drop-bits k 32 (32 - k) (number (address_bits request)) (sym whole)

-- a range's power
pub power_is : (r : Range) → (g : IsRange r) → (g.power ≤ 32) → power_of r ≡ g.power
unfolding power_of
power_is r g few = ap (halvings 32) g.size_is ∙ halvings-power 32 g.power few

-- it is at most 32
pub power_few : (r : Range) (g : IsRange r) → g.power ≤ 32
power_few r g = by (leb g.power 32) refl where
  by : (b : Bool) → leb g.power 32 ≡ b → g.power ≤ 32
  by true e = grind (arith, nat_tests)
  by false e =
      let above : 33 ≤ g.power = grind (arith, nat_tests) in
      let big : 2 ^ 33 ≤ 2 ^ g.power = pow_mono above in
      absurd (omega (arith, g.size_is, g.ends))

-- a bound by an equal power
below_by : (m n a : ℕ) → m ≡ n → a < 2 ^ n → a < 2 ^ m
below_by m n a e h = rw e h

-- a list of one bit, as a literal
one_is : bits 1 1 ≡ true ∷ []
unfolding bits
one_is = refl

-- the test of a request's high address bits, against a range of 2^k addresses at a multiple of 2^k
term_is : (v : Values) (q : List ℕ) (request : Bits) → v q ≡ request → length request ≡ 70 → (k turn : ℕ) → k ≤ 32 → 2 ^ k * turn < 2 ^ 32
    → same_bits (take (suc 63 - (32 + k)) (drop (32 + k) (v q))) (bits (32 - k) (2 ^ k * turn / 2 ^ k))
    ≡ (leb (2 ^ k * turn) (number (address_bits request)) && ltb (number (address_bits request)) (2 ^ k * turn + 2 ^ k))
term_is v q request is long k turn few low =
    let width : suc 63 - (32 + k) ≡ 32 - k = omega arith in
    let some : 0 < 2 ^ k = pow_pos k in
    let back : 2 ^ k * turn / 2 ^ k ≡ turn = div-eq_of_eq-mul_right some refl in
    let whole : (32 - k) + k ≡ 32 = omega arith in
    let cut : number (address_bits request) / 2 ^ k < 2 ^ (32 - k) = shr_below (number (address_bits request)) (32 - k) k (below_by (32 - k + k) 32 (number (address_bits request)) whole (address_small request long)) in
    let here : turn < 2 ^ (32 - k) = subst (λ z. z < 2 ^ (32 - k)) back (shr_below (2 ^ k * turn) (32 - k) k (below_by (32 - k + k) 32 (2 ^ k * turn) whole low)) in
    rw (is, width, back, high_bits request k long few, same_bits-bits (32 - k) (number (address_bits request) / 2 ^ k) turn cut here)
    (block_holds (2 ^ k) (number (address_bits request)) turn some)

-- every address is in a range of 2^32 addresses
whole_range : (a base : ℕ) → a < 2 ^ 32 → base + 2 ^ 32 ≤ 2 ^ 32 → (leb base a && ltb a (base + 2 ^ 32)) ≡ true
whole_range a base small ends =
    let none : base ≡ 0 = omega arith in rw none (grind (arith, nat_tests))

-- a range with its power and turn
in_range : (r : Range) (g : IsRange r) (a : ℕ) → (leb (2 ^ g.power * g.turn) a && ltb a (2 ^ g.power * g.turn + 2 ^ g.power)) ≡ holds a r
in_range r g a = rw (g.aligned, g.size_is) refl

-- a range's term
pub range_term_is : (v : Values) (q : List ℕ) (request : Bits) → v q ≡ request → length request ≡ 70 → (r : Range) → IsRange r
    → eval v (range_term q r) ≡ holds (number (address_bits request)) r ∷ []
unfolding range_term
range_term_is v q request is long r g = rw (power_is r g (power_few r g)) (by (eqb g.power 32) refl) where
  by : (b : Bool) → eqb g.power 32 ≡ b
      → eval v (cond b (lit 1 1) (equal (cut q 63 (32 + g.power)) (lit (32 - g.power) (r.base / 2 ^ g.power)))) ≡ holds (number (address_bits request)) r ∷ []
  by true e =
      let full : g.power ≡ 32 = eqb-true _ _ e in
      let size : r.size ≡ 2 ^ 32 = g.size_is ∙ ap (λ z. 2 ^ z) full in
      let fits : r.base + 2 ^ 32 ≤ 2 ^ 32 = subst (λ z. r.base + z ≤ 2 ^ 32) size g.ends in
      rw size (one_is ∙ ap (λ b. b ∷ []) (sym (whole_range (number (address_bits request)) r.base (address_small request long) fits)))
  by false e =
      let low : 2 ^ g.power * g.turn < 2 ^ 32 = omega (arith, g.ends, g.size_is, g.aligned, pow_pos g.power) in
      ap (λ b. b ∷ []) (ap (λ z. same_bits (take (suc 63 - (32 + g.power)) (drop (32 + g.power) (v q))) (bits (32 - g.power) (z / 2 ^ g.power))) g.aligned
      ∙ term_is v q request is long g.power g.turn (power_few r g) low ∙ in_range r g (number (address_bits request)))

-- all terms of a device
pub range_terms_are : (v : Values) (q : List ℕ) (request : Bits) → v q ≡ request → length request ≡ 70 → (rs : List Range) → AllOf IsRange rs
    → any_bit (eval_parts v (range_terms q rs)) ≡ some_holds (number (address_bits request)) rs
range_terms_are v q request is long [] g = refl
range_terms_are v q request is long (r ∷ rs) g =
    any_bit-append (eval_parts v (range_terms q rs)) (eval v (range_term q r))
    ∙ rw (range_terms_are v q request is long rs g.1, range_term_is v q request is long r g.0, any_bit-one)
    (or_comm (some_holds (number (address_bits request)) rs) (holds (number (address_bits request)) r))

-- the number of the first device, from number j on, that has the address in a range
abbrev pub first_with : Crossbar → ℕ → ℕ → List ℕ → ℕ
first_with x a j [] = j
first_with x a j (d ∷ ds) = cond (some_holds a (device_ranges x d)) j (first_with x a (suc j) ds)

-- The select's value is that number.
pub select_is : (v : Values) (x : Crossbar) (q : List ℕ) (request : Bits) → v q ≡ request → length request ≡ 70 → (j : ℕ) (ds : List ℕ)
    → ((d : ℕ) → Among d ds → AllOf IsRange (device_ranges x d)) → eval v (select x q j ds) ≡ bits 8 (first_with x (number (address_bits request)) j ds)
select_is v x q request is long j [] g = refl
select_is v x q request is long j (d ∷ ds) g =
    rw (range_terms_are v q request is long (device_ranges x d) (g d (inl refl)), select_is v x q request is long (suc j) ds (λ e h. g e (inr h)))
    (by (some_holds (number (address_bits request)) (device_ranges x d))) where
      by : (b : Bool) → chosen (b ∷ []) (bits 8 j) (bits 8 (first_with x (number (address_bits request)) (suc j) ds)) ≡ bits 8 (cond b j (first_with x (number (address_bits request)) (suc j) ds))
      by true = refl
      by false = refl
