-- The low bits of an address.
use Rattle.std.proofs.Common.{Bool, [], ap, arith, cond, false, pow-suc, refl, suc, sym, take, true, zero, ℕ, ◌%◌, ◌*◌, ◌+◌, ◌/◌, ◌<◌, ◌^◌, ◌∙◌, ◌∷◌, ◌≡◌, ◌≤◌}
use Rattle.std.proofs.Math.Nat.{add-mul-mod_self_left, div-add-mod, mod-eq_of_lt, mod-lt, mul_assoc}
use Rattle.std.proofs.lemmas.Nat.{pow_pos}
use Rattle.cg_svspec.specs.Bits.{Bits}
use Rattle.cg_svspec.specs.Links.{number}

-- one bit more
low_step : (b n m : ℕ) → b < 2 → 0 < m → (b + 2 * n) % (2 * m) ≡ b + 2 * (n % m)
low_step b n m small some =
    let whole : m * (n / m) + n % m ≡ n = div-add-mod n m in
    let less : n % m < m = mod-lt n some in
    let split : b + 2 * n ≡ (b + 2 * (n % m)) + 2 * m * (n / m) = omega (arith, whole, mul_assoc 2 m (n / m)) in
    let under : b + 2 * (n % m) < 2 * m = omega (arith, small, less) in
    ap (λ z. z % (2 * m)) split ∙ (add-mul-mod_self_left (b + 2 * (n % m)) (2 * m) (n / m) ∙ mod-eq_of_lt under)

-- the first bits of a list are its number's low part
pub number_take : (k : ℕ) (bs : Bits) → number (take k bs) ≡ number bs % 2 ^ k
number_take zero bs = sym (mod_one (number bs)) where
  mod_one : (n : ℕ) → n % 1 ≡ 0
  mod_one n = let less : n % 1 < 1 = mod-lt n (omega arith) in omega (arith, less)
number_take (suc k) [] = sym (mod-eq_of_lt (pow_pos (suc k)))
number_take (suc k) (b ∷ bs) =
    let twice : 2 ^ suc k ≡ 2 * 2 ^ k = omega (arith, pow-suc 2 k) in
    let bit : cond b 1 0 < 2 = small b in
    ap (λ z. cond b 1 0 + 2 * z) (number_take k bs) ∙ (sym (low_step (cond b 1 0) (number bs) (2 ^ k) bit (pow_pos k)) ∙ ap (λ z. (cond b 1 0 + 2 * number bs) % z) (sym twice)) where
      small : (c : Bool) → cond c 1 0 < 2
      small true = omega arith
      small false = omega arith

take_within : (k m : ℕ) (bs : Bits) → k ≤ m → take k (take m bs) ≡ take k bs
take_within zero m bs h = refl
take_within (suc k) zero bs h = absurd (omega (arith, h))
take_within (suc k) (suc m) [] h = refl
take_within (suc k) (suc m) (b ∷ bs) h = ap (λ z. b ∷ z) (take_within k m bs (omega (arith, h)))

-- the low bits of a part
pub low_bits : (k m : ℕ) (bs : Bits) → k ≤ m → number (take k bs) ≡ number (take m bs) % 2 ^ k
low_bits k m bs h = ap number (sym (take_within k m bs h)) ∙ number_take k (take m bs)
