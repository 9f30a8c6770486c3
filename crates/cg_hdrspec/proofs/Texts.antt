-- The answer of a text is the only one.
use Rattle.std.proofs.Common.{◌≡◌, ℕ, suc, ◌+◌, ◌<◌, ◌≤◌, Bool, true, false, cond, ◌&&◌, List, [], ◌∷◌, ◌++◌, length, length-append, Option, Some, None, refl, ap, sym, subst, ◌∙◌, append_assoc, append-nil, arith}
use Rattle.std.specs.Prelude.{eqb, nat_lt}
use Rattle.std.proofs.lemmas.Bool.Decides.{nat_tests}
use Rattle.cg_svspec.specs.Printable.{AllOf}
use Rattle.cg_hdrspec.specs.Header.{Constant, IsLine, Says, Say, no_line, one_line, guard_line, end_line, lines_text, IsHeader}
use Rattle.cg_hdrspec.specs.HeaderFault.{Splits, count, HasForm, guard, end, other, HaveForms, IsFirstFormless, line, unended, no_guard, Answer, constants, formless, IsAnswer}
use Rattle.cg_hdrspec.specs.Reading.{is_nil, lines, said, is_guard, is_end, nothing_if, given, joined, with_line, at_end, answer_from, answer}
use Rattle.cg_hdrspec.proofs.Pieces.{split_found, lines_split, passes_same}
use Rattle.cg_hdrspec.proofs.Forms.{said_found, found_said, guard_found, found_guard, end_found, found_end, guard_is_line, end_is_line}

-- ---- lines in their places

-- the number is the one that the test asks for, or another one
is_same : (k n : ℕ) → k ≡ n → eqb k n ≡ true
is_same k n h = grind (arith, nat_tests)

is_other : (k n : ℕ) → ¬ (k ≡ n) → eqb k n ≡ false
is_other k n h = grind (arith, nat_tests)

other_is : (k n : ℕ) → eqb k n ≡ false → ¬ (k ≡ n)
other_is k n h = grind (arith, nat_tests)

-- a line with a form in its place gives something
form_gives : (n k : ℕ) (l : List ℕ) → HasForm n k l → (cs : List Constant) × (given (eqb k 2) (eqb k n) l ≡ Some cs)
form_gives n k l (guard {name = name} second inner is) = ([], rw (is_same k 2 second, is_other k n inner, guard_found name is) refl)
form_gives n k l (end first last) = ([], rw (is_other k 2 first, is_same k n last, end_found) refl)
form_gives n k l (other {cs = cs} first inner says) = (cs, rw (is_other k 2 first, is_other k n inner) (said_found l cs says))

-- a line that gives something has a form in its place
gives_form : (n k : ℕ) (l : List ℕ) (cs : List Constant) → given (eqb k 2) (eqb k n) l ≡ Some cs → HasForm n k l
gives_form n k l cs h = go (eqb k 2) (eqb k n) refl refl h
  where
    go : (a b : Bool) → eqb k 2 ≡ a → eqb k n ≡ b → given a b l ≡ Some cs → HasForm n k l
    go true true p q g = cc
    go true false p q g = test (is_guard l) refl g
      where
        test : (t : Bool) → is_guard l ≡ t → nothing_if t ≡ Some cs → HasForm n k l
        test true is m =
            let found = found_guard l is in
            subst (λ x. HasForm n k x) (sym found.2) (guard {name = found.0} (passes_same k 2 p) (other_is k n q) found.1)
        test false is m = cc
    go false true p q g = test (is_end l) refl g
      where
        test : (t : Bool) → is_end l ≡ t → nothing_if t ≡ Some cs → HasForm n k l
        test true is m = subst (λ x. HasForm n k x) (sym (found_end l is)) (end (other_is k 2 p) (passes_same k n q))
        test false is m = cc
    go false false p q g = other {cs = cs} (other_is k 2 p) (other_is k n q) (found_said l cs g)

-- a line without a form gives nothing, and the other way round
formless_gives : (n k : ℕ) (l : List ℕ) → ¬ HasForm n k l → given (eqb k 2) (eqb k n) l ≡ None
formless_gives n k l none = go (given (eqb k 2) (eqb k n) l) refl
  where
    go : (o : Option (List Constant)) → given (eqb k 2) (eqb k n) l ≡ o → o ≡ None
    go None e = refl
    go (Some cs) e = absurd (none (gives_form n k l cs e))

gives_formless : (n k : ℕ) (l : List ℕ) → given (eqb k 2) (eqb k n) l ≡ None → ¬ HasForm n k l
gives_formless n k l h form = let some = (form_gives n k l form).1 in cc

-- the last line is the one whose number is the count
last_is : (k n : ℕ) (ls : List (List ℕ)) (l rest : List ℕ) → suc n ≡ k + count (l ∷ ls) rest → (is_nil ls && is_nil rest) ≡ eqb k n
last_is k n [] l [] h = sym (is_same k n (omega arith))
last_is k n [] l (c ∷ cs) h = sym (is_other k n (λ e. absurd (omega arith)))
last_is k n (m ∷ ls) l [] h = sym (is_other k n (λ e. absurd (omega arith)))
last_is k n (m ∷ ls) l (c ∷ cs) h = sym (is_other k n (λ e. absurd (omega arith)))

-- one line more is counted
count_more : (l : List ℕ) (ls : List (List ℕ)) (rest : List ℕ) → count (l ∷ ls) rest ≡ suc (count ls rest)
count_more l ls [] = refl
count_more l ls (c ∷ cs) = refl

-- the answer from a line on
line_answer : (k n : ℕ) (l : List ℕ) (ls : List (List ℕ)) (rest : List ℕ) → suc n ≡ k + count (l ∷ ls) rest
    → answer_from k (l ∷ ls) rest ≡ with_line k (given (eqb k 2) (eqb k n) l) (answer_from (suc k) ls rest)
unfolding answer_from
line_answer k n l ls rest h = rw (last_is k n ls l rest h) refl

-- ---- from the relation to the answer

-- behind lines with forms the first line without one is told
passed : (n k j : ℕ) (done ls : List (List ℕ)) (rest : List ℕ) → suc n ≡ k + count (done ++ ls) rest → HaveForms n k done
    → answer_from (k + length done) ls rest ≡ formless j → answer_from k (done ++ ls) rest ≡ formless j
passed n k j [] ls rest counted forms h = ap (λ i. answer_from i ls rest) {x = k} {y = k + 0} (omega arith) ∙ h
passed n k j (l ∷ done) ls rest counted forms h =
    let one = form_gives n k l forms.0 in
    let place : k + suc (length done) ≡ suc k + length done = omega arith in
    let more : answer_from (suc k) (done ++ ls) rest ≡ formless j =
    passed n (suc k) j done ls rest (omega (arith, counted, count_more l (done ++ ls) rest)) forms.1 (rw place at h) in
    line_answer k n l (done ++ ls) rest counted ∙ rw (one.1, more) refl

-- the lines behind some are counted behind them
count_behind : (done ls : List (List ℕ)) (rest : List ℕ) → count (done ++ ls) rest ≡ length done + count ls rest
count_behind done ls [] = length-append done ls
count_behind done ls (c ∷ cs) = omega (arith, length-append done ls)

-- where nothing stands behind the lines
passed_all : (n j : ℕ) (ls : List (List ℕ)) (rest : List ℕ) → n ≡ count ls rest → HaveForms n 1 ls → at_end (1 + length ls) rest ≡ formless j → answer_from 1 ls rest ≡ formless j
unfolding answer_from
passed_all n j ls rest counted forms h =
    let whole : ls ++ [] ≡ ls = append-nil ls in
    rw whole at (passed n 1 j ls [] rest (rw whole (omega (arith, counted))) forms h)

-- what has a first line without a form has that answer
pub formless_found : (text : List ℕ) (k : ℕ) → IsFirstFormless text k → answer text ≡ formless k
formless_found text k (line {l = l} {rest = rest} done after splits forms none) =
    let n : ℕ = count (done ++ l ∷ after) rest in
    let here : answer_from (suc (length done)) (l ∷ after) rest ≡ formless (suc (length done)) =
    line_answer (suc (length done)) n l after rest (omega (arith, count_behind done (l ∷ after) rest))
    ∙ rw (formless_gives n (suc (length done)) l none) refl in
    let place : 1 + length done ≡ suc (length done) = omega arith in
    rw (split_found text (done ++ l ∷ after) rest splits)
    (passed n 1 (suc (length done)) done (l ∷ after) rest (omega arith) forms (rw place here))
formless_found text k (unended {rest = []} ls splits some forms) = absurd (some refl)
formless_found text k (unended {rest = c ∷ cs} ls splits some forms) =
    rw (split_found text ls (c ∷ cs) splits) (passed_all (suc (length ls)) (suc (length ls)) ls (c ∷ cs) refl forms (ap formless (omega arith)))
formless_found text k (no_guard ls splits few forms) =
    let under : nat_lt (1 + length ls) 3 ≡ true = grind (arith, nat_tests) in
    rw (split_found text ls [] splits) (passed_all (length ls) 2 ls [] refl forms (rw under refl))

-- more lines stand behind
not_nil : (ls : List (List ℕ)) (l : List ℕ) → is_nil (ls ++ l ∷ []) ≡ false
not_nil [] l = refl
not_nil (m ∷ ls) l = refl

-- the answer of the lines behind the guard
tail_found : (k : ℕ) (ls : List (List ℕ)) (cs : List Constant) → 3 ≤ k → Say ls cs → answer_from k (ls ++ end_line ∷ []) [] ≡ constants cs
unfolding answer_from
tail_found k ls cs behind no_line =
    let second : eqb k 2 ≡ false = is_other k 2 (λ e. absurd (omega arith)) in
    let enough : nat_lt (suc k) 3 ≡ false = grind (arith, nat_tests) in
    rw (second, end_found, enough) refl
tail_found k ls cs behind (one_line {l = l} {ls = more} {cs = ones} {ds = others} is says rest) =
    let second : eqb k 2 ≡ false = is_other k 2 (λ e. absurd (omega arith)) in
    rw (second, not_nil more end_line, said_found l ones says, tail_found (suc k) more others (omega arith) rest) refl

-- the lines of a header
say_lines : (ls : List (List ℕ)) (cs : List Constant) → Say ls cs → AllOf IsLine (ls ++ end_line ∷ [])
say_lines ls cs no_line = (end_is_line, tt)
say_lines ls cs (one_line is says more) = (is, say_lines _ _ more)

-- a header has the answer of its constants
pub constants_found : (text : List ℕ) (cs : List Constant) → IsHeader text cs → answer text ≡ constants cs
unfolding answer_from
constants_found text cs header = go header.between cs header.is_text header.says
  where
    go : (between : List (List ℕ)) (cs : List Constant) → text ≡ lines_text (header.first ∷ (guard_line header.guard ∷ (between ++ end_line ∷ [])))
        → Say (header.first ∷ between) cs → answer text ≡ constants cs
    go between cs is (one_line {cs = ones} {ds = others} is_line says more) =
        let splits : Splits text (header.first ∷ (guard_line header.guard ∷ (between ++ end_line ∷ []))) [] = record {
          is_text = is ∙ sym (append-nil (lines_text (header.first ∷ (guard_line header.guard ∷ (between ++ end_line ∷ [])))));
          are_lines = (is_line, (guard_is_line header.guard header.is_guard, say_lines between others more));
          is_rest = tt;
        } in
        rw (
          split_found text _ [] splits,
          said_found header.first ones says,
          not_nil between end_line,
          guard_found header.guard header.is_guard,
          tail_found 3 between others (omega arith) more,
        ) refl

-- ---- from the answer to the relation

have_more : (n k : ℕ) (done : List (List ℕ)) (l : List ℕ) → HaveForms n k done → HasForm n (k + length done) l → HaveForms n k (done ++ l ∷ [])
have_more n k [] l forms form = (subst (λ i. HasForm n i l) {x = k + 0} {y = k} (omega arith) form, tt)
have_more n k (m ∷ done) l forms form =
    (forms.0, have_more n (suc k) done l forms.1 (subst (λ i. HasForm n i l) {x = k + suc (length done)} {y = suc k + length done} (omega arith) form))

-- a line that adds constants leaves the line that is told
joined_formless : (cs : List Constant) (a : Answer) (j : ℕ) → joined cs a ≡ formless j → a ≡ formless j
joined_formless cs (constants ds) j h = cc
joined_formless cs (formless k) j h = h

-- and the constants that it adds stand in front
joined_constants : (cs ds : List Constant) (a : Answer) → joined cs a ≡ constants ds → (es : List Constant) × (a ≡ constants es) × (ds ≡ cs ++ es)
joined_constants cs ds (constants es) h = (es, refl, cc)
joined_constants cs ds (formless k) h = cc

-- the end of the text behind lines with forms
formless_end : (text : List ℕ) (j n : ℕ) (ls : List (List ℕ)) (rest : List ℕ) → Splits text ls rest → n ≡ count ls rest → HaveForms n 1 ls
    → at_end (suc (length ls)) rest ≡ formless j → IsFirstFormless text j
formless_end text j n ls [] splits counted forms h = go (nat_lt (suc (length ls)) 3) refl h
  where
    go : (b : Bool) → nat_lt (suc (length ls)) 3 ≡ b → cond b (formless 2) (constants []) ≡ formless j → IsFirstFormless text j
    go true e k =
        let few : length ls < 2 = grind (arith, nat_tests) in
        let is : 2 ≡ j = cc in
        subst (λ i. IsFirstFormless text i) is (no_guard ls splits few (subst (λ i. HaveForms i 1 ls) counted forms))
    go false e k = cc
formless_end text j n ls (c ∷ cs) splits counted forms h =
    let is : suc (length ls) ≡ j = cc in
    subst (λ i. IsFirstFormless text i) is (unended ls splits (λ e. cc) (subst (λ i. HaveForms i 1 ls) counted forms))

-- the answer behind lines with forms
formless_behind : (text : List ℕ) (j n : ℕ) (ls done : List (List ℕ)) (rest : List ℕ) → Splits text (done ++ ls) rest → n ≡ count (done ++ ls) rest → HaveForms n 1 done
    → answer_from (suc (length done)) ls rest ≡ formless j → IsFirstFormless text j
unfolding answer_from
formless_behind text j n [] done rest splits counted forms h =
    let whole : done ++ [] ≡ done = append-nil done in
    formless_end text j n done rest (subst (λ ls. Splits text ls rest) whole splits) (rw whole at counted) forms h
formless_behind text j n (l ∷ ls) done rest splits counted forms h =
    let ahead : done ++ l ∷ ls ≡ (done ++ l ∷ []) ++ ls = sym (append_assoc done (l ∷ []) ls) in
    let far : length (done ++ l ∷ []) ≡ suc (length done) = omega (arith, length-append done (l ∷ [])) in
    let told : with_line (suc (length done)) (given (eqb (suc (length done)) 2) (eqb (suc (length done)) n) l) (answer_from (suc (suc (length done))) ls rest) ≡ formless j =
    sym (line_answer (suc (length done)) n l ls rest (omega (arith, counted, count_behind done (l ∷ ls) rest))) ∙ h in
    go (given (eqb (suc (length done)) 2) (eqb (suc (length done)) n) l) refl told
    (λ form after. formless_behind text j n ls (done ++ l ∷ []) rest (subst (λ ls. Splits text ls rest) ahead splits) (rw ahead at counted)
    (have_more n 1 done l forms (subst (λ i. HasForm n i l) {x = suc (length done)} {y = 1 + length done} (omega arith) form)) (rw far after))
  where
    go : (o : Option (List Constant)) → given (eqb (suc (length done)) 2) (eqb (suc (length done)) n) l ≡ o → with_line (suc (length done)) o (answer_from (suc (suc (length done))) ls rest) ≡ formless j
        → (HasForm n (suc (length done)) l → answer_from (suc (suc (length done))) ls rest ≡ formless j → IsFirstFormless text j)
        → IsFirstFormless text j
    go None e k more =
        let is : suc (length done) ≡ j = cc in
        subst (λ i. IsFirstFormless text i) is
        (line done ls splits (subst (λ i. HaveForms i 1 done) counted forms) (subst (λ i. ¬ HasForm i (suc (length done)) l) counted (gives_formless n (suc (length done)) l e)))
    go (Some cs) e k more = more (gives_form n (suc (length done)) l cs e) (joined_formless cs (answer_from (suc (suc (length done))) ls rest) j k)

-- where something stands behind the last line feed there are no constants
rest_refused : (k : ℕ) (ls : List (List ℕ)) (c : ℕ) (cs : List ℕ) (ds : List Constant) → answer_from k ls (c ∷ cs) ≡ constants ds → ⊥
unfolding answer_from
rest_refused k [] c cs ds h = cc
rest_refused k (l ∷ ls) c cs ds h = go (given (eqb k 2) (is_nil ls && false) l) h (rest_refused (suc k) ls c cs)
  where
    go : (o : Option (List Constant)) → with_line k o (answer_from (suc k) ls (c ∷ cs)) ≡ constants ds → ((es : List Constant) → answer_from (suc k) ls (c ∷ cs) ≡ constants es → ⊥) → ⊥
    go None e more = cc
    go (Some one) e more = let behind = joined_constants one ds (answer_from (suc k) ls (c ∷ cs)) e in more behind.0 behind.1

-- the lines of a header behind its guard
record Tail (ls : List (List ℕ)) (cs : List Constant) : Type 0 where
  between : List (List ℕ)
  are_lines : ls ≡ between ++ end_line ∷ []
  say : Say between cs

-- a line more in front
more_tail : (l : List ℕ) (ls : List (List ℕ)) (one cs : List Constant) → IsLine l → Says l one → Tail ls cs → Tail (l ∷ ls) (one ++ cs)
more_tail l ls one cs is says tail = record { between = l ∷ tail.between; are_lines = ap (λ m. l ∷ m) tail.are_lines; say = one_line is says tail.say }

found_tail : (k : ℕ) (l : List ℕ) (ls : List (List ℕ)) (cs : List Constant) → 3 ≤ k → AllOf IsLine (l ∷ ls) → answer_from k (l ∷ ls) [] ≡ constants cs → Tail (l ∷ ls) cs
unfolding answer_from
found_tail k l [] cs far are h =
    let second : eqb k 2 ≡ false = is_other k 2 (λ e. absurd (omega arith)) in
    let enough : nat_lt (suc k) 3 ≡ false = grind (arith, nat_tests) in
    go (is_end l) refl (rw (second, enough) at h)
  where
    go : (b : Bool) → is_end l ≡ b → with_line k (nothing_if b) (constants []) ≡ constants cs → Tail (l ∷ []) cs
    go true e m =
        let none : [] ≡ cs = cc in
        subst (λ ds. Tail (l ∷ []) ds) none (record { between = []; are_lines = ap (λ x. x ∷ []) (found_end l e); say = no_line })
    go false e m = cc
found_tail k l (m ∷ ls) cs far are h =
    let second : eqb k 2 ≡ false = is_other k 2 (λ e. absurd (omega arith)) in
    go (said l) refl (rw second at h) (λ ds. found_tail (suc k) m ls ds (omega arith) are.1)
  where
    go : (o : Option (List Constant)) → said l ≡ o → with_line k o (answer_from (suc k) (m ∷ ls) []) ≡ constants cs
        → ((ds : List Constant) → answer_from (suc k) (m ∷ ls) [] ≡ constants ds → Tail (m ∷ ls) ds) → Tail (l ∷ m ∷ ls) cs
    go None e w more = cc
    go (Some one) e w more =
        let behind = joined_constants one cs (answer_from (suc k) (m ∷ ls) []) w in
        subst (λ ds. Tail (l ∷ m ∷ ls) ds) (sym behind.2) (more_tail l (m ∷ ls) one behind.0 are.0 (found_said l one e) (more behind.0 behind.1))

-- a header of its lines
header_of : (text : List ℕ) (l m : List ℕ) (ls : List (List ℕ)) (one cs : List Constant) → text ≡ lines_text (l ∷ m ∷ ls) → IsLine l → Says l one
    → is_guard m ≡ true → Tail ls cs → IsHeader text (one ++ cs)
header_of text l m ls one cs is is_line says second tail =
    let found = found_guard m second in
    record {
      first = l;
      guard = found.0;
      between = tail.between;
      is_text = is ∙ (λ i. lines_text (l ∷ (found.2 i ∷ tail.are_lines i)));
      is_guard = found.1;
      says = one_line is_line says tail.say;
    }

-- lines whose answer is constants are a header
found_header : (text : List ℕ) (ls : List (List ℕ)) (cs : List Constant) → text ≡ lines_text ls → AllOf IsLine ls → answer_from 1 ls [] ≡ constants cs → IsHeader text cs
unfolding answer_from
found_header text [] cs is are h = cc
found_header text (l ∷ []) cs is are h = go (is_end l) h
  where
    go : (b : Bool) → with_line 1 (nothing_if b) (formless 2) ≡ constants cs → IsHeader text cs
    go true w = cc
    go false w = cc
found_header text (l ∷ m ∷ []) cs is are h = go (said l) h
  where
    go : (o : Option (List Constant)) → with_line 1 o (formless 2) ≡ constants cs → IsHeader text cs
    go None w = cc
    go (Some one) w = cc
found_header text (l ∷ m ∷ n ∷ ls) cs is are h = go (said l) (is_guard m) refl refl h
  where
    go : (o : Option (List Constant)) (b : Bool) → said l ≡ o → is_guard m ≡ b → with_line 1 o (with_line 2 (nothing_if b) (answer_from 3 (n ∷ ls) [])) ≡ constants cs → IsHeader text cs
    go None b e f w = cc
    go (Some one) false e f w = cc
    go (Some one) true e f w =
        let behind = joined_constants one cs (joined [] (answer_from 3 (n ∷ ls) [])) w in
        let tail = joined_constants [] behind.0 (answer_from 3 (n ∷ ls) []) behind.1 in
        let all : cs ≡ one ++ tail.0 = behind.2 ∙ ap (λ ds. one ++ ds) tail.2 in
        subst (λ ds. IsHeader text ds) (sym all)
        (header_of text l m (n ∷ ls) one tail.0 is are.0 (found_said l one e) f (found_tail 3 n ls tail.0 (omega arith) are.1.1 tail.1))

-- what the lines and the rest tell is told of the text
split_answer : (text : List ℕ) (ls : List (List ℕ)) (rest : List ℕ) (a : Answer) → Splits text ls rest → answer_from 1 ls rest ≡ a → IsAnswer text a
split_answer text ls rest (formless k) splits h = formless_behind text k (count ls rest) ls [] rest splits refl tt h
split_answer text ls [] (constants cs) splits h = found_header text ls cs (splits.is_text ∙ append-nil (lines_text ls)) splits.are_lines h
split_answer text ls (c ∷ more) (constants cs) splits h = absurd (rest_refused 1 ls c more cs h)

-- ---- both ways

-- the answer is one
pub answer_is : (text : List ℕ) → IsAnswer text (answer text)
answer_is text = split_answer text (lines text).0 (lines text).1 (answer text) (lines_split text) refl

-- and there is no other
pub no_other : (text : List ℕ) (a : Answer) → IsAnswer text a → a ≡ answer text
no_other text (constants cs) is = sym (constants_found text cs is)
no_other text (formless k) is = sym (formless_found text k is)

-- a text has one answer
pub one_answer : (text : List ℕ) (a b : Answer) → IsAnswer text a → IsAnswer text b → a ≡ b
one_answer text a b is also = no_other text a is ∙ sym (no_other text b also)
