-- What begins a list of bytes is what is computed of them.
use Rattle.std.proofs.Common.{◌≡◌, ℕ, ◌≤◌, inl, inr, Bool, true, false, cond, not, List, [], ◌∷◌, ◌++◌, length, take, drop, append-nil, length-append, Option, Some, None, refl, ap, sym, subst, ◌∙◌, arith, codes}
use Rattle.std.specs.Prelude.{eqb, leb, nat_lt}
use Rattle.std.proofs.lemmas.Bool.Decides.{nat_tests}
use Rattle.std.proofs.lemmas.List.{take_at, drop_at, take-append-drop, length-take-le}
use Rattle.cg_svspec.specs.Characters.{Each}
use Rattle.cg_svspec.proofs.Runs.{no_longer}
use Rattle.cg_inputs.proofs.Pieces.{is_not, no_cut, cut_at, cut_parts}
use Rattle.cg_inputs.specs.Lines.{Line, put, del, build, finish, Says}
use Rattle.cg_inputs.specs.Input.{Command, put_file, del_file, build_files, line_for, bytes_for, Begins, IsEnd, IsNone, IsShort}
use Rattle.cg_inputs.specs.Reading.{after_one, cut, line_of, Next, command, at_end, at_false_line, at_short, next_by, next_cut, next}
use Rattle.cg_inputs.proofs.LineLaws.{said, says, line_lacks, line_short}

-- bytes with a whole line
pub next_line : (text rest : List ℕ) → Each (is_not 10) text → next (text ++ (10 ∷ rest)) ≡ next_by (line_of text) rest
unfolding next
next_line text rest each = rw (cut_at 10 text rest each) refl

by_command : (c : Command) (rest : List ℕ) → next_by (Some (line_for c)) (bytes_for c ++ rest) ≡ command c rest
by_command (put_file name bytes) rest =
    let enough : nat_lt (length (bytes ++ rest)) (length bytes) ≡ false = let l = length-append bytes rest in grind (arith, nat_tests) in
    rw (enough, take_at bytes rest (length bytes) refl, drop_at bytes rest (length bytes) refl) refl
by_command (del_file name) rest = refl
by_command build_files rest = refl

-- a command
pub next_command : (cs : List ℕ) (c : Command) (rest : List ℕ) → Begins cs c rest → next cs ≡ command c rest
next_command cs c rest b =
    ap next b.is ∙ next_line b.text (bytes_for c ++ rest) (line_lacks b.text (line_for c) b.says)
    ∙ ap (λ l. next_by l (bytes_for c ++ rest)) (said b.text (line_for c) b.says) ∙ by_command c rest

-- the end
pub next_end : (cs rest : List ℕ) → IsEnd cs rest → next cs ≡ at_end rest
next_end cs rest e =
    ap next e ∙ next_line (codes "end") rest (line_lacks (codes "end") finish refl) ∙ ap (λ l. next_by l rest) (said (codes "end") finish refl)

says_none : (text : List ℕ) → ((l : Line) → ¬ Says text l) → line_of text ≡ None
says_none text h = go (line_of text) refl
  where
    go : (o : Option Line) → line_of text ≡ o → o ≡ None
    go None e = refl
    go (Some l) e = absurd (h l (says text l e))

long_none : (text : List ℕ) → 101 ≤ length text → line_of text ≡ None
long_none text h = says_none text (λ l s. let k = line_short text l s in omega arith)

-- no command
pub next_none : (cs : List ℕ) → IsNone cs → next cs ≡ at_false_line
unfolding next
next_none cs (inl f) = ap next f.is ∙ next_line f.text f.rest f.is_line ∙ ap (λ l. next_by l f.rest) (says_none f.text f.says_nothing)
next_none cs (inr f) = go (cut 10 cs) refl
  where
    go : (o : Option (List ℕ × List ℕ)) → cut 10 cs ≡ o → next_cut o cs ≡ at_false_line
    go None e = let many : leb 101 (length cs) ≡ true = let l = ap length f.is in let m = length-append f.text f.rest in let n = f.long in grind (arith, nat_tests) in rw many refl
    go (Some p) e =
        let whole : cs ≡ p.0 ++ (10 ∷ p.1) = cut_parts 10 cs p e in
        let longer : length f.text ≤ length p.0 = no_longer (is_not 10) p.0 f.text (10 ∷ p.1) f.rest f.is_line refl (sym whole ∙ f.is) in
        let n = f.long in
        ap (λ l. next_by l p.1) (long_none p.0 (omega arith))

-- less than a command
pub next_short : (cs : List ℕ) → IsShort cs → next cs ≡ at_short
unfolding next
next_short cs (inl b) =
    let few : leb 101 (length cs) ≡ false = let l = b.short in grind (arith, nat_tests) in
    rw (no_cut 10 cs b.is_line, few) refl
next_short cs (inr b) =
    let few : nat_lt (length b.bytes) b.count ≡ true = let l = b.few in grind (arith, nat_tests) in
    ap next b.is ∙ next_line b.text b.bytes (line_lacks b.text (put b.name b.count) b.says) ∙ ap (λ l. next_by l b.bytes) (said b.text (put b.name b.count) b.says) ∙ rw few refl

-- what is computed of bytes, as it is said
abbrev pub Holds : Next → List ℕ → Type 0
Holds (command c rest) cs = Begins cs c rest
Holds (at_end rest) cs = IsEnd cs rest
Holds at_false_line cs = IsNone cs
Holds at_short cs = IsShort cs

-- a text without a cut has no such character
pub no_feed : (c : ℕ) (s : List ℕ) → cut c s ≡ None → Each (is_not c) s
unfolding cut
no_feed c [] h = tt
no_feed c (x ∷ xs) h = go (eqb x c) (cut c xs) refl refl h (no_feed c xs)
  where
    go : (b : Bool) (o : Option (List ℕ × List ℕ)) → eqb x c ≡ b → cut c xs ≡ o → cond b (Some ([], xs)) (after_one x o) ≡ None
        → (cut c xs ≡ None → Each (is_not c) xs) → Each (is_not c) (x ∷ xs)
    go true o e m k more = cc
    go false None e m k more = (ap not e, more m)
    go false (Some q) e m k more = cc

-- and the first part of a cut has none
pub feed_first : (c : ℕ) (s : List ℕ) (parts : List ℕ × List ℕ) → cut c s ≡ Some parts → Each (is_not c) parts.0
unfolding cut
feed_first c [] parts h = cc
feed_first c (x ∷ xs) parts h = go (eqb x c) (cut c xs) refl refl h (feed_first c xs)
  where
    go : (b : Bool) (o : Option (List ℕ × List ℕ)) → eqb x c ≡ b → cut c xs ≡ o → cond b (Some ([], xs)) (after_one x o) ≡ Some parts
        → ((q : List ℕ × List ℕ) → cut c xs ≡ Some q → Each (is_not c) q.0) → Each (is_not c) parts.0
    go true o e m k more =
        let is : ([], xs) ≡ parts = cc in
        subst (λ (p : List ℕ × List ℕ). Each (is_not c) p.0) is tt
    go false None e m k more = cc
    go false (Some q) e m k more =
        let is : (x ∷ q.0, q.1) ≡ parts = cc in
        subst (λ (p : List ℕ × List ℕ). Each (is_not c) p.0) is (ap not e, more q m)

whole_put : (cs text rest name : List ℕ) (count : ℕ) → Says text (put name count) → cs ≡ text ++ (10 ∷ rest) → count ≤ length rest → Begins cs (put_file name (take count rest)) (drop count rest)
whole_put cs text rest name count s e enough =
    let long : length (take count rest) ≡ count = length-take-le count rest enough in
    record {
      text = text;
      says = subst (λ n. Says text (put name n)) (sym long) s;
      is = e ∙ ap (λ r. text ++ (10 ∷ r)) (sym (take-append-drop count rest));
    }

pub next_holds : (cs : List ℕ) → Holds (next cs) cs
unfolding next
next_holds cs = go (cut 10 cs) refl
  where
    no_line : (b : Bool) → leb 101 (length cs) ≡ b → Each (is_not 10) cs → Holds (cond b at_false_line at_short) cs
    no_line true e each = inr (record { text = cs; rest = []; is = sym (append-nil cs); is_line = each; long = grind (arith, nat_tests) })
    no_line false e each = inl (record { is_line = each; short = grind (arith, nat_tests) })

    line : (text rest : List ℕ) (o : Option Line) → cs ≡ text ++ (10 ∷ rest) → Each (is_not 10) text → line_of text ≡ o → Holds (next_by o rest) cs
    line text rest None e each l = inl (record { text = text; rest = rest; is = e; is_line = each; says_nothing = λ m s. let bad = sym (said text m s) ∙ l in cc })
    line text rest (Some (put name count)) e each l = sized (nat_lt (length rest) count) refl
      where
        sized : (b : Bool) → nat_lt (length rest) count ≡ b → Holds (cond b at_short (command (put_file name (take count rest)) (drop count rest))) cs
        sized true k = inr (record { text = text; name = name; count = count; bytes = rest; says = says text (put name count) l; is = e; few = grind (arith, nat_tests) })
        sized false k = whole_put cs text rest name count (says text (put name count) l) e (grind (arith, nat_tests))
    line text rest (Some (del name)) e each l = record { text = text; says = says text (del name) l; is = e }
    line text rest (Some build) e each l = record { text = text; says = says text build l; is = e }
    line text rest (Some finish) e each l = e ∙ ap (λ t. t ++ (10 ∷ rest)) (says text finish l)

    go : (o : Option (List ℕ × List ℕ)) → cut 10 cs ≡ o → Holds (next_cut o cs) cs
    go None e = no_line (leb 101 (length cs)) refl (no_feed 10 cs e)
    go (Some p) e = line p.0 p.1 (line_of p.0) (cut_parts 10 cs p e) (feed_first 10 cs p e) refl
