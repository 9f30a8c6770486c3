use Rattle.std.proofs.Common.{◌≡◌, ℕ, ◌^◌, ◌≤◌, ◌<◌, nat_lt, nat_le, arith}
use Rattle.std.proofs.lemmas.Bool.Decides.{nat_tests}
use Rattle.std.proofs.Math.Pow.{pow_mono}
use Rattle.cg_blkread.proofs.values.passes.Goals as goal

-- no value of 32 bits needs more than 32
high : (w v : ℕ) → v < 2 ^ 32 → 32 ≤ w → 2 ^ 32 ≤ 2 ^ w → nat_lt w 32 ≡ nat_le (2 ^ w) v
high w v small wide big = grind (arith, nat_tests)

pub returns-else-width-lt32 : goal.returns-else-width-lt32
returns-else-width-lt32 c = high c.args.width c.args.value c.ranges.value.fits c.if-width-lt32.false (pow_mono {i = 32} {j = c.args.width} c.if-width-lt32.false)
