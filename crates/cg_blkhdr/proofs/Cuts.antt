-- Reading a header line by line.
use Rattle.std.proofs.Common.{◌≡◌, ℕ, suc, ◌+◌, ◌<◌, Bool, true, false, not, cond, ◌&&◌, List, [], ◌∷◌, ◌++◌, length, map, Option, Some, None, Result, Ok, Err, refl, ap, sym, subst, ◌∙◌, append_assoc, length-append, arith}
use Rattle.std.specs.Prelude.{eqb, MatchOption}
use Rattle.cg_svspec.specs.Characters.{Each}
use Rattle.cg_hdrspec.specs.Header.{Constant}
use Rattle.cg_hdrspec.specs.HeaderFault.{Answer, constants, formless, IsAnswer}
use Rattle.cg_hdrspec.specs.Laws.{HeaderHasOneAnswer}
use Rattle.cg_hdrspec.specs.Reading.{is_nil, after_one, cut, before_lines, lines, given, joined, with_line, at_end, answer_from, answer_of, answer}
use Rattle.cg_hdrspec.proofs.Pieces.{is_not, cut_parts, lines_after, no_lines}
use Rattle.cg_hdrspec.proofs.Texts.{answer_is}
use Rattle.cg_blkhdr.specs.Answers.{IsRight, Tells, constant_of}
use Rattle.cg_blkhdr.specs.declared.Constant as program
use Rattle.cg_blkhdr.specs.declared.reading.HdrFault.{HdrFault}
use Rattle.cg_blkhdr.specs.declared.reading.HdrFault.TheVariants.{NotHeader, Memory}

-- what tells the answer of a text is right
pub is_right : (text : List ℕ) (r : Result (List program.Constant) HdrFault) → Tells (answer text) r → IsRight text r
is_right text (Ok cs) h = subst (λ a. IsAnswer text a) h (answer_is text)
is_right text (Err (NotHeader k)) h = subst (λ a. IsAnswer text a) h (answer_is text)
is_right text (Err Memory) h = tt

-- and what is right is told of each answer, since there is one
pub tells : (text : List ℕ) (r : Result (List program.Constant) HdrFault) (a : Answer) → HeaderHasOneAnswer → IsRight text r → IsAnswer text a → Tells a r
tells text (Ok cs) a one right is = one text a (constants (map constant_of cs)) is right
tells text (Err (NotHeader k)) a one right is = one text a (formless k) is right
tells text (Err Memory) a one right is = tt

-- the first part of a cut has no such character
cut_before : (c : ℕ) (s : List ℕ) (parts : List ℕ × List ℕ) → cut c s ≡ Some parts → Each (is_not c) parts.0
unfolding cut
cut_before c [] parts h = cc
cut_before c (x ∷ xs) parts h = go (eqb x c) (cut c xs) refl refl h (cut_before c xs)
  where
    go : (b : Bool) (o : Option (List ℕ × List ℕ)) → eqb x c ≡ b → cut c xs ≡ o → cond b (Some ([], xs)) (after_one x o) ≡ Some parts
        → ((q : List ℕ × List ℕ) → cut c xs ≡ Some q → Each (is_not c) q.0) → Each (is_not c) parts.0
    go true o e m k more =
        let is : ([], xs) ≡ parts = cc in
        subst (λ (p : List ℕ × List ℕ). Each (is_not c) p.0) is tt
    go false None e m k more = cc
    go false (Some q) e m k more =
        let is : (x ∷ q.0, q.1) ≡ parts = cc in
        subst (λ (p : List ℕ × List ℕ). Each (is_not c) p.0) is (ap not e, more q m)

-- a text without a cut has no such character
no_cut_before : (c : ℕ) (s : List ℕ) → cut c s ≡ None → Each (is_not c) s
unfolding cut
no_cut_before c [] h = tt
no_cut_before c (x ∷ xs) h = go (eqb x c) (cut c xs) refl refl h (no_cut_before c xs)
  where
    go : (b : Bool) (o : Option (List ℕ × List ℕ)) → eqb x c ≡ b → cut c xs ≡ o → cond b (Some ([], xs)) (after_one x o) ≡ None
        → (cut c xs ≡ None → Each (is_not c) xs) → Each (is_not c) (x ∷ xs)
    go true o e m k more = cc
    go false None e m k more = (ap not e, more m)
    go false (Some q) e m k more = cc

-- nothing stands behind the lines just where the text is empty
nil_first : (x : ℕ) (ls : List (List ℕ)) (r : List ℕ) → (is_nil (before_lines x ls r).0 && is_nil (before_lines x ls r).1) ≡ false
nil_first x [] r = refl
nil_first x (l ∷ ls) r = refl

nil_lines : (s : List ℕ) → (is_nil (lines s).0 && is_nil (lines s).1) ≡ is_nil s
unfolding lines
nil_lines [] = refl
nil_lines (x ∷ xs) = go (eqb x 10)
  where
    go : (b : Bool) → (is_nil (cond b ([] ∷ (lines xs).0, (lines xs).1) (before_lines x (lines xs).0 (lines xs).1)).0
        && is_nil (cond b ([] ∷ (lines xs).0, (lines xs).1) (before_lines x (lines xs).0 (lines xs).1)).1) ≡ false
    go true = refl
    go false = nil_first x (lines xs).0 (lines xs).1

-- the answer from a line on
first_answer : (n : ℕ) (s : List ℕ) (parts : List ℕ × List ℕ) → cut 10 s ≡ Some parts
    → answer_of n s ≡ with_line n (given (eqb n 2) (is_nil parts.1) parts.0) (answer_of (suc n) parts.1)
unfolding answer_from
first_answer n s parts is =
    let found : lines s ≡ (parts.0 ∷ (lines parts.1).0, (lines parts.1).1) =
    ap lines (cut_parts 10 s parts is) ∙ lines_after parts.0 parts.1 (cut_before 10 s parts is) in
    rw (found, nil_lines parts.1) refl

-- and behind the last line feed
pub last_answer : (n : ℕ) (s : List ℕ) → cut 10 s ≡ None → answer_of n s ≡ at_end n s
unfolding answer_from
last_answer n s is = rw (no_lines s (no_cut_before 10 s is)) refl

joined_more : (old cs : List Constant) (a : Answer) → joined (old ++ cs) a ≡ joined old (joined cs a)
joined_more old cs (constants ds) = ap constants (append_assoc old cs ds)
joined_more old cs (formless k) = refl

-- one line is read: the constants are those before and its own, or the line has no form
pub after_line : (n : ℕ) (s : List ℕ) (parts : List ℕ × List ℕ) (old new : List Constant) (has_form : Bool) (wanted : Answer) → cut 10 s ≡ Some parts
    → MatchOption (given (eqb n 2) (is_nil parts.1) parts.0) (has_form ≡ false) (λ cs. (has_form ≡ true) × (new ≡ old ++ cs))
    → joined old (answer_of n s) ≡ wanted
    → (has_form ≡ true → joined new (answer_of (n + 1) parts.1) ≡ wanted) × (has_form ≡ false → wanted ≡ formless n)
after_line n s parts old new has_form wanted is gives before = go (given (eqb n 2) (is_nil parts.1) parts.0) refl gives
  where
    here : joined old (with_line n (given (eqb n 2) (is_nil parts.1) parts.0) (answer_of (suc n) parts.1)) ≡ wanted
    here = ap (joined old) (sym (first_answer n s parts is)) ∙ before

    go : (o : Option (List Constant)) → given (eqb n 2) (is_nil parts.1) parts.0 ≡ o
        → MatchOption o (has_form ≡ false) (λ cs. (has_form ≡ true) × (new ≡ old ++ cs))
        → (has_form ≡ true → joined new (answer_of (n + 1) parts.1) ≡ wanted) × (has_form ≡ false → wanted ≡ formless n)
    go None e h = ((λ t. cc), (λ f. sym (rw e at here)))
    go (Some cs) e h =
        let next : n + 1 ≡ suc n = omega arith in
        let step : joined (old ++ cs) (answer_of (suc n) parts.1) ≡ wanted = joined_more old cs (answer_of (suc n) parts.1) ∙ rw e at here in
        ((λ t. rw (h.1, next) step), (λ f. cc))

-- fewer characters stand behind a line
pub shorter : (s : List ℕ) (parts : List ℕ × List ℕ) → cut 10 s ≡ Some parts → length parts.1 < length s
shorter s parts is = omega (arith, ap length (cut_parts 10 s parts is), length-append parts.0 (10 ∷ parts.1))
