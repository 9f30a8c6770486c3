-- Steps of loops over bits.
use Rattle.std.proofs.Common.{◌≡◌, ℕ, zero, suc, ◌+◌, ◌-◌, ◌*◌, ◌^◌, ◌<◌, ◌≤◌, ◌/◌, ◌%◌, min, eqb, Bool, true, false, ◌&&◌, cond, [], ◌∷◌, ◌++◌, drop, length, get_or, refl, ap, sym, ◌∙◌, arith, drop-cons, pow-suc, append_assoc, append-nil}
use Rattle.cg_svspec.specs.Bits.{Bits, bits, zipped, same_bits}

-- the first bit, and then the others of a half
pub bits_step : (width done rest : ℕ) → done < width → bits (width - done) rest ≡ eqb (rest % 2) 1 ∷ bits (width - (done + 1)) (rest / 2)
unfolding bits
bits_step width done rest below =
    let one : width - done ≡ suc (width - (done + 1)) = omega arith in
    rw one refl

pub bits_end : (width done rest : ℕ) → width ≤ done → bits (width - done) rest ≡ []
unfolding bits
bits_end width done rest end = let none : width - done ≡ 0 = omega arith in rw none refl

-- the first bits, and then the others
pub zip_step : (f : Bool → Bool → Bool) (xs ys : Bits) (i : ℕ) (d e : Bool) → i < length xs → i < length ys
    → zipped f (drop i xs) (drop i ys) ≡ f (get_or xs i d) (get_or ys i e) ∷ zipped f (drop (suc i) xs) (drop (suc i) ys)
zip_step f xs ys i d e h k = rw (drop-cons xs i d h, drop-cons ys i e k) refl

none_left : (f : Bool → Bool → Bool) (xs : Bits) → zipped f xs [] ≡ []
none_left f [] = refl
none_left f (x ∷ xs) = refl

pub zip_end : (f : Bool → Bool → Bool) (xs ys : Bits) (i : ℕ) → min (length xs) (length ys) ≤ i → zipped f (drop i xs) (drop i ys) ≡ []
zip_end f [] ys zero end = refl
zip_end f [] ys (suc i) end = refl
zip_end f (x ∷ xs) [] zero end = refl
zip_end f (x ∷ xs) [] (suc i) end = none_left f (drop i xs)
zip_end f (x ∷ xs) (y ∷ ys) zero end = absurd (omega arith)
zip_end f (x ∷ xs) (y ∷ ys) (suc i) end = zip_end f xs ys i (omega arith)

pub ruleset zips = (zip_step, zip_end)

-- lists of two lengths are not the same
pub lengths_apart : (xs ys : Bits) → (length xs ≡ length ys → ⊥) → same_bits xs ys ≡ false
lengths_apart [] [] apart = absurd (apart refl)
lengths_apart [] (y ∷ ys) apart = refl
lengths_apart (x ∷ xs) [] apart = refl
lengths_apart (x ∷ xs) (y ∷ ys) apart = rw (lengths_apart xs ys (λ e. apart (ap suc e))) (no_more _) where
  no_more : (b : Bool) → (b && false) ≡ false
  no_more true = refl
  no_more false = refl

-- a number of one more bit
pub below_step : (x n most : ℕ) → x < 2 → n < 2 ^ (most - 1) → (most ≡ 0 → ⊥) → x + 2 * n < 2 ^ most
below_step x n zero a b c = absurd (c refl)
below_step x n (suc m) a b c =
    let twice : 2 ^ suc m ≡ 2 ^ m * 2 = pow-suc 2 m in
    let same : suc m - 1 ≡ m = omega arith in
    let half : n < 2 ^ m = rw same at b in
    omega (arith, twice, half)

-- a bit as a number
pub bit_below : (b : Bool) (x : ℕ) → x ≡ cond b 1 0 → x < 2
bit_below true x e = omega arith
bit_below false x e = omega arith

-- at the end of a loop over two lists
pub zip_done : (f : Bool → Bool → Bool) (found xs ys whole : Bits) (i end : ℕ) → found ++ zipped f (drop i xs) (drop i ys) ≡ whole → end ≡ min (length xs) (length ys) → end ≤ i → found ≡ whole
zip_done f found xs ys whole i end kept is below =
    let here : min (length xs) (length ys) ≤ i = rw (sym is) below in
    sym (append-nil found) ∙ ap (λ z. found ++ z) (sym (zip_end f xs ys i here)) ∙ kept

-- a step of the loop over a number's bits
pub bits_next : (found new whole : Bits) (width done rest : ℕ) → found ++ bits (width - done) rest ≡ whole → done < width → new ≡ found ++ eqb (rest % 2) 1 ∷ []
    → new ++ bits (width - (done + 1)) (rest / 2) ≡ whole
bits_next found new whole width done rest kept below is =
    rw is (append_assoc found (eqb (rest % 2) 1 ∷ []) (bits (width - (done + 1)) (rest / 2)) ∙ ap (λ z. found ++ z) (sym (bits_step width done rest below)) ∙ kept)

pub bits_done : (found whole : Bits) (width done rest : ℕ) → found ++ bits (width - done) rest ≡ whole → width ≤ done → found ≡ whole
bits_done found whole width done rest kept end = sym (append-nil found) ∙ ap (λ z. found ++ z) (sym (bits_end width done rest end)) ∙ kept
