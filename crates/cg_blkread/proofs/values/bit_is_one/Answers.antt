use Rattle.std.proofs.Common.{◌≡◌, ℕ, ◌^◌, ◌/◌, ◌%◌, ◌==◌, ◌≤◌, ◌<◌, nat_lt, arith, sym, ap, ◌∙◌}
use Rattle.std.proofs.Math.Nat.{div-eq_of_lt}
use Rattle.std.proofs.Math.Pow.{pow_mono}
use Rattle.std.proofs.lemmas.Bool.Decides.{nat_tests}
use Rattle.cg_blkread.proofs.values.bit_is_one.Goals as goal

-- a value of 32 bits has no bit from place 32 on
high : (v w : ℕ) → v < 2 ^ 32 → 32 ≤ w → 2 ^ 32 ≤ 2 ^ w → nat_lt w 32 ≡ ((v / 2 ^ w) % 2 == 1)
high v w small past wide =
    let below : v < 2 ^ w = omega arith in
    let none : v / 2 ^ w ≡ 0 = div-eq_of_lt below in
    let left : nat_lt w 32 ≡ (0 % 2 == 1) = grind (arith, nat_tests) in
    left ∙ ap (λ n. n % 2 == 1) (sym none)

pub returns-else-place-lt32 : goal.returns-else-place-lt32
returns-else-place-lt32 c = high c.args.value c.args.place c.ranges.value.fits c.if-place-lt32.false (pow_mono {i = 32} {j = c.args.place} c.if-place-lt32.false)
