-- Small facts on tests.
use Rattle.std.proofs.Common.{◌≡◌, ℕ, ◌⊎◌, inl, inr, refl, arith, true, false, Bool, sym}
use Rattle.std.specs.Prelude.{cond, ◌&&◌, ◌||◌, ◌==◌, not}
use Rattle.std.proofs.lemmas.Bool.Decides.{nat_tests}

-- a test holds or fails
pub bool_cases : (b : Bool) → (b ≡ true) ⊎ (b ≡ false)
bool_cases true = inl refl
bool_cases false = inr refl

-- two truth values differ
pub never : {G : Type 0} → false ≡ true → G
never e = cc

-- nothing holds beside what fails
pub and_false : (b : Bool) → (b && false) ≡ false
and_false true = refl
and_false false = refl

-- one of two holds where the second does
pub or_true : (b : Bool) → (b || true) ≡ true
or_true true = refl
or_true false = refl

-- what fails turned holds
pub unnot : (b : Bool) → not b ≡ false → b ≡ true
unnot true e = refl
unnot false e = sym e

-- what holds turned fails
pub not_true : (b : Bool) → not b ≡ true → b ≡ false
not_true true e = sym e
not_true false e = refl

-- two tests hold
pub both : (x y : Bool) → x ≡ true → y ≡ true → (x && y) ≡ true
both x y e f = rw (e, f) refl

-- one of two tests holds
pub or_cases : {G : Type 0} (x y : Bool) → (x || y) ≡ true → (x ≡ true → G) → (y ≡ true → G) → G
or_cases true y e f g = f refl
or_cases false y e f g = g e

-- the branch that was taken of a choice that holds
pub if_true : {G : Type 0} (b x y : Bool) → cond b x y ≡ true → (b ≡ true → x ≡ true → G) → (b ≡ false → y ≡ true → G) → G
if_true true x y e f g = f refl e
if_true false x y e f g = g refl e

-- characters that compare equal are equal
pub same_character : (c d : ℕ) → (c == d) ≡ true → c ≡ d
same_character c d e = grind (arith, nat_tests)
