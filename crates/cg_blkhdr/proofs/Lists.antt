-- Lists to whose end items are put.
use Rattle.std.proofs.Common.{◌≡◌, List, [], ◌∷◌, ◌++◌, append_assoc}

-- two items and more
pub two_and_more : {A : Type 0} (old one two whole xs : List A) (a b : A) → one ≡ old ++ a ∷ [] → two ≡ one ++ b ∷ [] → whole ≡ two ++ xs → whole ≡ old ++ a ∷ b ∷ xs
two_and_more old one two whole xs a b p q r = rw (r, q, p) (simp append_assoc)
