-- The wire `hit_i` of a row is 1 just where the row holds the address.
use Rattle.std.proofs.Common.{◌≡◌, ℕ, zero, suc, ◌+◌, ◌*◌, ◌-◌, ◌/◌, ◌%◌, ◌<◌, ◌≤◌, ◌^◌, eqb, leb, ltb, Bool, true, false, cond, ◌&&◌, ◌||◌, [], ◌∷◌, take, drop, refl, ap, sym, subst, ◌∙◌, arith, pow-suc, pow-add, ◌⊎◌, inl, inr}
use Rattle.std.proofs.lemmas.Bool.Decides.{nat_tests}
use Rattle.std.proofs.lemmas.Bool.{eqb-true, eq-eqb, leb-true, leb-false, lt-leb, cases_lt}
use Rattle.std.proofs.Math.Nat.{mul_comm, mul_assoc, div-eq_of_eq-mul_right, div-eq_of_lt-le, div-add-mod, div-div-eq-div-mul}
use Rattle.std.specs.Cmp.{both_ways}
use Rattle.std.proofs.Math.Bool.{or_comm}
use Rattle.std.proofs.Math.Pow.{pow-lt}
use Rattle.std.proofs.lemmas.Nat.{shr_below, pow_pos}
use Rattle.cg_svspec.specs.Bits.{bits, any_bit, same_bits}
use Rattle.cg_svspec.specs.Tree.{lit, cut, equal, more}
use Rattle.cg_svspec.specs.Value.{Values, eval, eval_parts}
use Rattle.cg_desc.specs.Target.{holds_address}
use Rattle.cg_desc.specs.Laid.{WindowFits}
use Rattle.cg_desc.specs.declared.block.LaidRow.{LaidRow}
use Rattle.cg_desc.specs.declared.block.RegDesc.{RegDesc}
use Rattle.cg_desc.specs.declared.block.WindowDesc.{WindowDesc}
use Rattle.cg_desc.specs.declared.block.Item.TheVariants.{Reg, Window}
use Rattle.cg_regspec.specs.NetNames.{reg_addr}
use Rattle.cg_regspec.specs.RegisterModule.{window_terms, hit_of}
use Rattle.cg_svspec.proofs.BitLists.{any_bit-append, any_bit-one, same_bits-bits, take_whole, length-bits, drop-bits}

-- a word of those from `first` on
abbrev within : ℕ → ℕ → ℕ → Bool
within first items word = leb first word && ltb word (first + items)

-- from the two bounds
within_from : (first word items : ℕ) → first ≤ word → word < first + items → within first items word ≡ true
within_from first word items low up = grind (arith, nat_tests)

-- and back to them
within_gives : (first word items : ℕ) → within first items word ≡ true → (first ≤ word) × (word < first + items)
within_gives first word items e = (grind (arith, nat_tests), grind (arith, nat_tests))

-- no word is among none
within_none : (first word : ℕ) → within first 0 word ≡ false
within_none first word = grind (arith, nat_tests)

-- words in one part or the next
within_two : (first m n word : ℕ) → (within first m word || within (first + m) n word) ≡ within first (m + n) word
within_two first m n word = both_ways _ _ (λ e. grind (arith, nat_tests)) (λ e. grind (arith, nat_tests))

-- a block of p words at a multiple of p
block_holds : (p word k : ℕ) → 0 < p → eqb (word / p) k ≡ within (p * k) p word
block_holds p word k some = both_ways _ _
    (λ e. let same : word / p ≡ k = eqb-true _ _ e in
    let whole : p * (word / p) + word % p ≡ word = div-add-mod word p in
    let again : p * (word / p) ≡ p * k = ap (λ z. p * z) same in
    let rest : word % p < p = omega arith in
    within_from (p * k) word p (omega arith) (omega arith))
    (λ e. let inside = within_gives (p * k) word p e in
    let swap : k * p ≡ p * k = mul_comm k p in
    let next : (k + 1) * p ≡ p * k + p = omega (arith, mul_comm k p) in
    let low : k * p ≤ word = omega (arith, inside.0) in
    let up : word < (k + 1) * p = omega (arith, inside.1) in
    eq-eqb _ _ (div-eq_of_lt-le p low up))

-- a bound by an equal power
below_by : (m n x : ℕ) → m ≡ n → x < 2 ^ n → x < 2 ^ m
below_by m n x e h = rw e h

-- a multiple of 2^(b+1) is one of 2^b
half_block : (b k : ℕ) → 2 ^ suc b * k ≡ 2 ^ b * (2 * k)
half_block b k = ap (λ z. z * k) (pow-suc 2 b) ∙ mul_assoc (2 ^ b) 2 k

-- the next multiple
next_block : (p m : ℕ) → p * (m + 1) ≡ p * m + p
next_block p m = omega arith

-- the test of bits 31 down to b + 2 of the address, against a block of 2^b words
term_is : (v : Values) (address b k : ℕ) → v reg_addr ≡ bits 32 address → address < 2 ^ 32 → b ≤ 30 → 2 ^ b * k < 2 ^ 30
    → same_bits (take (32 - (b + 2)) (drop (b + 2) (v reg_addr))) (bits (30 - b) (2 ^ b * k / 2 ^ b)) ≡ within (2 ^ b * k) (2 ^ b) (address / 4)
term_is v address b k is small few low =
    let width : 32 - (b + 2) ≡ 30 - b = omega arith in
    let high : drop (b + 2) (bits 32 address) ≡ bits (30 - b) (address / 2 ^ (b + 2)) = drop-bits (b + 2) 32 (30 - b) address (omega arith) in
    let some : 0 < 2 ^ b = pow_pos b in
    let back : 2 ^ b * k / 2 ^ b ≡ k = div-eq_of_eq-mul_right some refl in
    let deep : address / 2 ^ (b + 2) ≡ address / 4 / 2 ^ b = ap (λ z. address / z) (pow-add 2 b 2 ∙ mul_comm (2 ^ b) 4) ∙ sym (div-div-eq-div-mul address 4 (2 ^ b)) in
    let cut : address / 4 / 2 ^ b < 2 ^ (30 - b) = shr_below (address / 4) (30 - b) b (below_by (30 - b + b) 30 (address / 4) (omega arith) (omega arith)) in
    let here : k < 2 ^ (30 - b) = subst (λ z. z < 2 ^ (30 - b)) back (shr_below (2 ^ b * k) (30 - b) b (below_by (30 - b + b) 30 (2 ^ b * k) (omega arith) low)) in
    rw (is, high, width, back, deep, take_whole (30 - b) (bits (30 - b) (address / 4 / 2 ^ b)) (length-bits (30 - b) (address / 4 / 2 ^ b)), same_bits-bits (30 - b) (address / 4 / 2 ^ b) k cut here)
    (block_holds (2 ^ b) (address / 4) k some)

-- the highest term, with what the terms below it tell
with_term : (v : Values) (address : ℕ) → v reg_addr ≡ bits 32 address → address < 2 ^ 32 → (b items first k : ℕ) → b ≤ 30 → 2 ^ b ≤ items → first ≡ 2 ^ b * k → first + items < 2 ^ 30
    → any_bit (eval_parts v (window_terms b (items - 2 ^ b) (first + 2 ^ b))) ≡ within (first + 2 ^ b) (items - 2 ^ b) (address / 4)
    → any_bit (eval_parts v (more (equal (cut reg_addr 31 (b + 2)) (lit (30 - b) (first / 2 ^ b))) (window_terms b (items - 2 ^ b) (first + 2 ^ b)))) ≡ within first items (address / 4)
with_term v address is small b items first k few over start fits rest =
    let here : same_bits (take (32 - (b + 2)) (drop (b + 2) (v reg_addr))) (bits (30 - b) (first / 2 ^ b)) ≡ within first (2 ^ b) (address / 4) =
    rw start (term_is v address b k is small few (omega arith)) in
    let whole : 2 ^ b + (items - 2 ^ b) ≡ items = omega arith in
    any_bit-append (eval_parts v (window_terms b (items - 2 ^ b) (first + 2 ^ b))) _
    ∙ rw (rest, here, any_bit-one)
    (or_comm (within (first + 2 ^ b) (items - 2 ^ b) (address / 4)) (within first (2 ^ b) (address / 4)) ∙ within_two first (2 ^ b) (items - 2 ^ b) (address / 4) ∙ ap (λ z. within first z (address / 4)) whole)

-- the terms for the bits of `items` below bit b, at a multiple of 2^b
abbrev Below : Values → ℕ → ℕ → Type 0
Below v address b = (items first k : ℕ) → b ≤ 31 → items < 2 ^ b → first ≡ 2 ^ b * k → first + items < 2 ^ 30
    → any_bit (eval_parts v (window_terms b items first)) ≡ within first items (address / 4)

-- one bit more, by whether it is set
below_step : (v : Values) (address : ℕ) → v reg_addr ≡ bits 32 address → address < 2 ^ 32 → (b : ℕ) → Below v address b → (items first k : ℕ) → suc b ≤ 31 → items < 2 ^ suc b
    → first ≡ 2 ^ suc b * k → first + items < 2 ^ 30 → (test : Bool) → leb (2 ^ b) items ≡ test
    → any_bit (eval_parts v (cond test (more (equal (cut reg_addr 31 (b + 2)) (lit (30 - b) (first / 2 ^ b))) (window_terms b (items - 2 ^ b) (first + 2 ^ b))) (window_terms b items first)))
    ≡ within first items (address / 4)
below_step v address is small b below items first k few less start fits false test =
    let under : items < 2 ^ b = grind (arith, nat_tests) in
    below items first (2 * k) (omega arith) under (start ∙ half_block b k) fits
below_step v address is small b below items first k few less start fits true test =
    let over : 2 ^ b ≤ items = leb-true _ _ test in
    let place : first ≡ 2 ^ b * (2 * k) = start ∙ half_block b k in
    let twice : 2 ^ suc b ≡ 2 ^ b + 2 ^ b = omega (arith, pow-suc 2 b) in
    let next : first + 2 ^ b ≡ 2 ^ b * (2 * k + 1) = omega (arith, next_block (2 ^ b) (2 * k)) in
    let rest = below (items - 2 ^ b) (first + 2 ^ b) (2 * k + 1) (omega arith) (omega arith) next (omega arith) in
    with_term v address is small b items first (2 * k) (omega arith) over place fits rest

-- the terms tell what they are for, by going down the bits
below_is : (v : Values) (address : ℕ) → v reg_addr ≡ bits 32 address → address < 2 ^ 32 → (b : ℕ) → Below v address b
unfolding window_terms
below_is v address is small zero items first k few less start fits = let empty : items ≡ 0 = omega arith in rw empty (sym (within_none first (address / 4)))
below_is v address is small (suc b) items first k few less start fits =
    below_step v address is small b (below_is v address is small b) items first k few less start fits (leb (2 ^ b) items) refl

-- Items that fit one block of 2^power words, at a multiple of it. A bit above the power is not set.
whole_above : (v : Values) (address b power items first : ℕ) → power < b → items ≤ 2 ^ power
    → any_bit (eval_parts v (window_terms b items first)) ≡ within first items (address / 4)
    → any_bit (eval_parts v (window_terms (suc b) items first)) ≡ within first items (address / 4)
unfolding window_terms
whole_above v address b power items first deep less lower =
    let clear : leb (2 ^ b) items ≡ false = lt-leb (2 ^ b) items (omega (arith, pow-lt deep)) in
    rw clear lower

-- bit `power` itself is set where the items fill the block
whole_at : (v : Values) (address : ℕ) → v reg_addr ≡ bits 32 address → address < 2 ^ 32 → (power items first turn : ℕ) → power ≤ 30 → items ≤ 2 ^ power
    → first ≡ 2 ^ power * turn → first + items < 2 ^ 30 → (test : Bool) → leb (2 ^ power) items ≡ test
    → any_bit (eval_parts v (cond test (more (equal (cut reg_addr 31 (power + 2)) (lit (30 - power) (first / 2 ^ power))) (window_terms power (items - 2 ^ power) (first + 2 ^ power)))
    (window_terms power items first)))
    ≡ within first items (address / 4)
whole_at v address is small power items first turn few less start fits false test =
    below_is v address is small power items first turn (omega arith) (leb-false _ _ test) start fits
whole_at v address is small power items first turn few less start fits true test =
    let over : 2 ^ power ≤ items = leb-true _ _ test in
    let next : first + 2 ^ power ≡ 2 ^ power * (turn + 1) = omega (arith, next_block (2 ^ power) turn) in
    let rest = below_is v address is small power (items - 2 ^ power) (first + 2 ^ power) (turn + 1) (omega arith) (omega (arith, pow_pos power)) next (omega arith) in
    with_term v address is small power items first turn few over start fits rest

-- the terms of all bits from b down
whole_is : (v : Values) (address : ℕ) → v reg_addr ≡ bits 32 address → address < 2 ^ 32 → (b power items first turn : ℕ) → (power < b) ⊎ (b ≤ power) → b ≤ 30 → power ≤ b → items ≤ 2 ^ power
    → first ≡ 2 ^ power * turn → first + items < 2 ^ 30
    → any_bit (eval_parts v (window_terms (suc b) items first)) ≡ within first items (address / 4)
unfolding window_terms
whole_is v address is small zero power items first turn (inl deep) few over less start fits = absurd (omega arith)
whole_is v address is small (suc b) power items first turn (inl deep) few over less start fits =
    whole_above v address (suc b) power items first deep less
    (whole_is v address is small b power items first turn (cases_lt power b) (omega arith) (omega arith) less start fits)
whole_is v address is small b power items first turn (inr flat) few over less start fits =
    let same : power ≡ b = omega arith in
    subst (λ z. any_bit (eval_parts v (window_terms (suc z) items first)) ≡ within first items (address / 4)) same
    (whole_at v address is small power items first turn (omega arith) less start fits (leb (2 ^ power) items) refl)

-- the words of a window against the bytes of its row
within_row : (row : LaidRow) (address first : ℕ) → row.first ≡ 4 * first → within first row.words (address / 4) ≡ holds_address row address
within_row row address first start = both_ways _ _ (λ e. grind (arith, nat_tests)) (λ e. grind (arith, nat_tests))

-- an offset's number of words
quarter : (n m : ℕ) → n ≡ 4 * m → n / 4 ≡ m
quarter n m e = omega arith

-- the hit of a window
pub window_hit : (v : Values) (address : ℕ) (row : LaidRow) (w : WindowDesc) → v reg_addr ≡ bits 32 address → address < 2 ^ 32 → row.words ≡ w.items → WindowFits row.first w
    → row.first + 4 * row.words ≤ 2 ^ 24 → eval v (hit_of row (Window w)) ≡ holds_address row address ∷ []
window_hit v address row w is small words fits low =
    let start : row.first / 4 ≡ 2 ^ fits.power * fits.turn = quarter row.first (2 ^ fits.power * fits.turn) fits.aligned in
    let whole = whole_is v address is small 22 fits.power w.items (row.first / 4) fits.turn (cases_lt fits.power 22) (omega arith) fits.few fits.covers start (omega (arith, words)) in
    let bytes : row.first ≡ 4 * (row.first / 4) = omega (arith, fits.aligned) in
    ap (λ b. b ∷ []) (whole ∙ rw (← words) (within_row row address (row.first / 4) bytes))

-- a register's word against the bytes of its row
same_word : (row : LaidRow) (address turn : ℕ) → row.words ≡ 1 → row.first ≡ 4 * turn → eqb (address / 4) turn ≡ holds_address row address
same_word row address turn words start = both_ways _ _ (λ e. grind (arith, nat_tests)) (λ e. grind (arith, nat_tests))

-- the hit of a register
pub register_hit : (v : Values) (address turn : ℕ) (row : LaidRow) (r : RegDesc) → v reg_addr ≡ bits 32 address → address < 2 ^ 32 → row.words ≡ 1 → row.first ≡ 4 * turn
    → row.first + 4 * row.words ≤ 2 ^ 24 → eval v (hit_of row (Reg r)) ≡ holds_address row address ∷ []
register_hit v address turn row r is small words start low =
    let at : row.first / 4 ≡ turn = quarter row.first turn start in
    let cut : address / 4 < 2 ^ 30 = omega arith in
    let high : drop 2 (bits 32 address) ≡ bits 30 (address / 2 ^ 2) = drop-bits 2 32 30 address (omega arith) in
    ap (λ b. b ∷ []) (rw (is, high, at, take_whole 30 (bits 30 (address / 4)) (length-bits 30 (address / 4)), same_bits-bits 30 (address / 4) turn cut (omega arith)) (same_word row address turn words start))
