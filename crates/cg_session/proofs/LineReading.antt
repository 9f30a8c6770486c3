-- What the reading of a line took, by its last piece.
use Rattle.std.proofs.Common.{◌≡◌, ℕ, zero, suc, ◌+◌, ◌<◌, ◌≤◌, Bool, true, false, List, [], ◌∷◌, ◌++◌, length, length-append, take, drop, Option, refl, ap, sym, subst, ◌∙◌, append_assoc, arith}
use Rattle.std.specs.Prelude.{eqb, get_or, nat_lt, not, Ok}
use Rattle.std.proofs.lemmas.Bool.Decides.{nat_tests}
use Rattle.std.proofs.Math.Seq.{take-suc}
use Rattle.std.proofs.lemmas.List.{length-drop}
use Rattle.cg_base.specs.Outside.{Taken}
use Rattle.cg_inputs.specs.Lines.{HasNoFeed}
use Rattle.cg_inputs.specs.Reading.{least_rest}
use Rattle.cg_inputs.proofs.LeastRest.{least_holds}
use Rattle.cg_inputs.proofs.LineLaws.{each_more}
use Rattle.cg_session.specs.Taking.{GoesTo, GoesBeyond, TakesAdded, TakesWhole, TakesBroken}
use Rattle.cg_session.specs.declared.reader.LinePiece.TheVariants as line
use Rattle.cg_session.proofs.Takes.{line_more, taken_more}

-- what was read of a line so far
pub record ReadSo (room : ℕ) (text : List ℕ) (first old : Option (List ℕ)) (f g : ℕ) : Type 0 where
  pub taken : Taken first old text
  pub is_line : HasNoFeed text
  pub within : length text ≤ room
  pub later : f ≤ g

-- ---- a piece, byte by byte

-- a list at one of its places
split_at : (n : ℕ) (xs : List ℕ) (x : ℕ) → n < length xs → get_or xs n 0 ≡ x → xs ≡ take n xs ++ (x ∷ drop (suc n) xs)
split_at n [] x h e = absurd (omega arith)
split_at zero (y ∷ ys) x h e = ap (λ z. z ∷ ys) e
split_at (suc n) (y ∷ ys) x h e = ap (λ zs. y ∷ zs) (split_at n ys x (omega arith) e)

-- what came of a piece up to one of its places
pub record ReadPart (n : ℕ) (piece text after : List ℕ) : Type 0 where
  pub is_line : HasNoFeed (take n piece)
  pub grown : after ≡ text ++ take n piece

-- one byte more of it, which is no line feed
pub part_more : (n : ℕ) (piece text between after : List ℕ) → n < length piece → ¬ (get_or piece n 0 ≡ 10) → HasNoFeed (take n piece) → between ≡ text ++ take n piece
    → after ≡ between ++ (get_or piece n 0 ∷ []) → ReadPart (n + 1) piece text after
part_more n piece text between after h other each grown more =
    let one : n + 1 ≡ suc n = omega arith in
    let e : take (n + 1) piece ≡ take n piece ++ (get_or piece n 0 ∷ []) = ap (λ k. take k piece) one ∙ take-suc piece n 0 h in
    record {
      is_line = subst HasNoFeed (sym e) (line_more (take n piece) (get_or piece n 0) each other);
      grown = more ∙ ap (λ x. x ++ (get_or piece n 0 ∷ [])) grown ∙ append_assoc text (take n piece) (get_or piece n 0 ∷ []) ∙ ap (λ x. text ++ x) (sym e);
    }

-- the line feed is at this place, and none is before it
pub goes_to : (n : ℕ) (piece text after : List ℕ) → n < length piece → get_or piece n 0 ≡ 10 → HasNoFeed (take n piece) → after ≡ text ++ take n piece → GoesTo (drop (suc n) piece) piece text after
goes_to n piece text after h e each grown = record { front = take n piece; is_line = each; is = split_at n piece 10 h e; grown = grown }

-- at the last place nothing is behind it
pub goes_whole : (n : ℕ) (piece text after : List ℕ) → n + 1 ≡ length piece → get_or piece n 0 ≡ 10 → HasNoFeed (take n piece) → after ≡ text ++ take n piece → GoesTo [] piece text after
goes_whole n piece text after h e each grown =
    subst (λ rest. GoesTo rest piece text after) (no_length (drop (suc n) piece) (length-drop (suc n) piece ∙ omega arith)) (goes_to n piece text after (omega arith) e each grown)
  where
    no_length : (xs : List ℕ) → length xs ≡ 0 → xs ≡ []
    no_length [] h = refl
    no_length (x ∷ xs) h = absurd (omega arith)

-- at another something is
pub goes_beyond : (n : ℕ) (piece text after : List ℕ) → n < length piece → ¬ (n + 1 ≡ length piece) → get_or piece n 0 ≡ 10 → HasNoFeed (take n piece) → after ≡ text ++ take n piece
    → GoesBeyond piece text after
goes_beyond n piece text after h other e each grown =
    let size = length-drop (suc n) piece in
    let less : n + 1 < length piece = below n (length piece) h other in
    record { rest = drop (suc n) piece; some = omega arith; goes = goes_to n piece text after h e each grown }
  where
    below : (a b : ℕ) → a < b → ¬ (a + 1 ≡ b) → a + 1 < b
    below a b h k = go (nat_lt (a + 1) b) refl
      where
        go : (r : Bool) → nat_lt (a + 1) b ≡ r → a + 1 < b
        go true e = grind (arith, nat_tests)
        go false e = absurd (k (let l : b ≤ a + 1 = grind (arith, nat_tests) in omega arith))

-- ---- a line

-- one piece more of it
pub read_more : (room ask : ℕ) (text after : List ℕ) (first old new : Option (List ℕ)) (f g h : ℕ) → length text + ask ≤ room → ReadSo room text first old f g
    → TakesAdded (Ok line.More) ask text after old new g h → ReadSo room after first new f h
read_more room ask text after first old new f g h fits r t =
    let w = t.within in let l = r.later in let m = t.later in
    subst (λ x. ReadSo room x first new f h) (sym t.adds.grown) (record {
      taken = taken_more first old new text t.piece r.taken t.taken;
      is_line = each_more (λ c. not (eqb c 10)) text t.piece r.is_line t.adds.is_line;
      within = omega (arith, length-append text t.piece);
      later = omega arith;
    })

-- its last piece, with the line feed
pub read_whole : (room ask : ℕ) (text after : List ℕ) (first old new : Option (List ℕ)) (f g h : ℕ) → length text + ask ≤ room → ReadSo room text first old f g
    → TakesAdded (Ok line.Whole) ask text after old new g h → TakesWhole room after first new f h
read_whole room ask text after first old new f g h fits r t =
    let w = t.within in let l = r.later in let m = t.later in let a = t.adds in
    subst (λ x. TakesWhole room x first new f h) (sym a.grown) (record {
      taken = subst (Taken first new) (ap (λ x. text ++ x) a.is ∙ sym (append_assoc text a.front (10 ∷ []))) (taken_more first old new text t.piece r.taken t.taken);
      is_line = each_more (λ c. not (eqb c 10)) text a.front r.is_line a.is_line;
      within = omega (arith, length-append text a.front, ap length a.is, length-append a.front (10 ∷ []));
      later = omega arith;
    })

-- its last piece, with the line feed and bytes behind it: then it says nothing, since no more was asked for than a line that says something has
pub read_broken : (room ask : ℕ) (text after : List ℕ) (first old new : Option (List ℕ)) (f g h : ℕ) → length text + ask ≤ room → ask ≤ least_rest text → ReadSo room text first old f g
    → TakesAdded (Ok line.Beyond) ask text after old new g h → TakesBroken room after first new f h
read_broken room ask text after first old new f g h fits least r t =
    let w = t.within in let l = r.later in let m = t.later in let b = t.adds in let a = b.goes in let some = b.some in
    let is : text ++ t.piece ≡ (text ++ a.front) ++ (10 ∷ b.rest) = ap (λ x. text ++ x) a.is ∙ sym (append_assoc text a.front (10 ∷ b.rest)) in
    let size = ap length a.is ∙ length-append a.front (10 ∷ b.rest) in
    subst (λ x. TakesBroken room x first new f h) (sym a.grown) (record {
      rest = b.rest;
      taken = subst (Taken first new) is (taken_more first old new text t.piece r.taken t.taken);
      is_line = each_more (λ c. not (eqb c 10)) text a.front r.is_line a.is_line;
      says_nothing = λ s says. let k = least_holds text a.front s says in omega arith;
      within = omega (arith, sym (ap length is), length-append text t.piece);
      later = omega arith;
    })
