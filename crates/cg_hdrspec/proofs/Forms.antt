-- The forms of a line: what it gives in its place is what its form says.
use Rattle.std.proofs.Common.{◌≡◌, ℕ, Bool, true, false, cond, List, [], ◌∷◌, ◌++◌, Option, Some, None, refl, ap, sym, subst, ◌∙◌, arith}
use Rattle.std.specs.Prelude.{eqb, codes}
use Rattle.std.specs.List.{list_all}
use Rattle.std.specs.Fmt.{decimal, digits}
use Rattle.std.proofs.lemmas.Bool.Decides.{nat_tests}
use Rattle.cg_svspec.specs.Characters.{Each, IsWord, is_digit, is_first, is_name_character}
use Rattle.cg_svspec.proofs.Runs.{both_pass, each_passes}
use Rattle.cg_svspec.proofs.NamesLemmas.{name_is_itself, same_name}
use Rattle.cg_svspec.proofs.Numerals.{decimal_digits}
use Rattle.cg_hdrspec.specs.Header.{Constant, constant, IsNumeral, in_decimal, in_hexadecimal, IsLine, Says, nothing, comment, defined, valued, guard_line, end_line}
use Rattle.cg_hdrspec.specs.Reading.{without, cut, is_word, is_digit_in, number_behind, number_in, number_of, definition, comment_or, said, is_guarded, is_guard, is_end, nothing_if, given}
use Rattle.cg_hdrspec.specs.Reading as reading
use Rattle.cg_hdrspec.proofs.Pieces.{is_not, without_front, front_of, no_cut, cut_at, cut_parts}
use Rattle.cg_hdrspec.proofs.Spelled.{tens, sixteens, number_found, number_spelled, all_pass}

-- ---- names

pub word_passes : (w : List ℕ) → IsWord w → is_word w ≡ true
word_passes [] h = absurd h
word_passes (c ∷ cs) h = rw (h.0, all_pass is_name_character cs h.1) refl

pub passes_word : (w : List ℕ) → is_word w ≡ true → IsWord w
passes_word [] h = cc
passes_word (c ∷ cs) h = let both = both_pass (is_first c) (list_all is_name_character cs) h in (both.0, each_passes is_name_character cs both.1)

-- a character of a name is neither a space nor a line feed
no_space : (c : ℕ) → is_name_character c ≡ true → is_not 32 c ≡ true
no_space c h = grind (arith, nat_tests)

no_feed : (c : ℕ) → is_name_character c ≡ true → is_not 10 c ≡ true
no_feed c h = grind (arith, nat_tests)

first_no_space : (c : ℕ) → is_first c ≡ true → is_not 32 c ≡ true
first_no_space c h = grind (arith, nat_tests)

first_no_feed : (c : ℕ) → is_first c ≡ true → is_not 10 c ≡ true
first_no_feed c h = grind (arith, nat_tests)

each_is : (p q : ℕ → Bool) → ((c : ℕ) → p c ≡ true → q c ≡ true) → (xs : List ℕ) → Each p xs → Each q xs
each_is p q so [] each = tt
each_is p q so (x ∷ xs) each = (so x each.0, each_is p q so xs each.1)

word_no_space : (w : List ℕ) → IsWord w → Each (is_not 32) w
word_no_space [] h = absurd h
word_no_space (c ∷ cs) h = (first_no_space c h.0, each_is is_name_character (is_not 32) no_space cs h.1)

-- a name has no line feed
pub word_is_line : (w : List ℕ) → IsWord w → IsLine w
word_is_line [] h = absurd h
word_is_line (c ∷ cs) h = (first_no_feed c h.0, each_is is_name_character (is_not 10) no_feed cs h.1)

-- nor has the line of a guard, or that of the end
pub guard_is_line : (w : List ℕ) → IsWord w → IsLine (guard_line w)
guard_is_line w is = (refl, (refl, (refl, (refl, (refl, (refl, (refl, (refl, word_is_line w is))))))))

pub end_is_line : IsLine end_line
end_is_line = (refl, (refl, (refl, (refl, (refl, (refl, tt))))))

-- ---- numbers

digit_no_mark : (c : ℕ) → is_digit c ≡ true → eqb c 120 ≡ false
digit_no_mark c h = grind (arith, nat_tests)

-- nothing is nothing, whatever the test
neither : (b : Bool) → cond {A = Option (List ℕ)} b None None ≡ None
neither true = refl
neither false = refl

-- decimal digits do not begin with `0x`
no_mark : (ds : List ℕ) → Each is_digit ds → without (codes "0x") ds ≡ None
unfolding without
no_mark [] each = refl
no_mark (c ∷ []) each = neither (eqb c 48)
no_mark (c ∷ d ∷ ds) each = rw (digit_no_mark d each.1.0) (neither (eqb c 48))

-- a numeral's number is found
pub numeral_found : (text : List ℕ) (n : ℕ) → IsNumeral text n → number_of text ≡ Some n
unfolding number_of
numeral_found text n (in_decimal small) =
    rw (no_mark (decimal n) (decimal_digits n)) (number_found 10 tens (omega arith) (omega arith) n (omega arith) small)
numeral_found text n (in_hexadecimal small) =
    rw (without_front (codes "0x") (digits 16 false n)) (number_found 16 sixteens (omega arith) (omega arith) n (omega arith) small)

-- a text of which a number is found is its numeral
pub found_numeral : (text : List ℕ) (n : ℕ) → number_of text ≡ Some n → IsNumeral text n
unfolding number_of
found_numeral text n h = go (without (codes "0x") text) refl h
  where
    go : (o : Option (List ℕ)) → without (codes "0x") text ≡ o → number_behind text o ≡ Some n → IsNumeral text n
    go (Some ds) e k =
        let spelled = number_spelled 16 sixteens (omega arith) ds n k in
        let whole : text ≡ codes "0x" ++ digits 16 false n = front_of (codes "0x") text ds e ∙ ap (λ l. codes "0x" ++ l) (sym spelled.1) in
        subst (λ t. IsNumeral t n) (sym whole) (in_hexadecimal spelled.0)
    go None e k =
        let spelled = number_spelled 10 tens (omega arith) text n k in
        subst (λ t. IsNumeral t n) spelled.1 (in_decimal spelled.0)

-- ---- lines

-- what a line of a form says is found
pub said_found : (l : List ℕ) (cs : List Constant) → Says l cs → said l ≡ Some cs
unfolding said without
said_found l cs nothing = refl
said_found l cs comment = refl
said_found l cs (defined {name = name} is) = rw (no_cut 32 name (word_no_space name is), word_passes name is) refl
said_found l cs (valued {name = name} {numeral = numeral} {value = value} is spelled) =
    rw (cut_at 32 name numeral (word_no_space name is), word_passes name is, numeral_found numeral value spelled) refl

-- a line behind `#define `
defined_form : (l text : List ℕ) (cs : List Constant) → l ≡ codes "#define " ++ text → reading.defined text (cut 32 text) ≡ Some cs → Says l cs
defined_form l text cs whole h = go (cut 32 text) refl h
  where
    valued_form : (parts : List ℕ × List ℕ) (o : Option ℕ) → text ≡ parts.0 ++ (32 ∷ parts.1) → number_of parts.1 ≡ o → is_word parts.0 ≡ true
        → reading.valued parts.0 o ≡ Some cs → Says l cs
    valued_form parts None cuts spelled is k = cc
    valued_form parts (Some n) cuts spelled is k =
        let gives : constant parts.0 n ∷ [] ≡ cs = cc in
        let line : l ≡ codes "#define " ++ (parts.0 ++ (codes " " ++ parts.1)) = whole ∙ ap (λ t. codes "#define " ++ t) cuts in
        rw (line, ← gives) (valued (passes_word parts.0 is) (found_numeral parts.1 n spelled))

    go : (o : Option (List ℕ × List ℕ)) → cut 32 text ≡ o → reading.defined text o ≡ Some cs → Says l cs
    go None e k = word (is_word text) refl k
      where
        word : (b : Bool) → is_word text ≡ b → cond b (Some []) None ≡ Some cs → Says l cs
        word true is m = let gives : [] ≡ cs = cc in rw (whole, ← gives) (defined (passes_word text is))
        word false is m = cc
    go (Some parts) e k = word (is_word parts.0) refl k
      where
        word : (b : Bool) → is_word parts.0 ≡ b → cond b (reading.valued parts.0 (number_of parts.1)) None ≡ Some cs → Says l cs
        word true is m = valued_form parts (number_of parts.1) (cut_parts 32 text parts e) refl is m
        word false is m = cc

-- a line of which constants are found has that form
pub found_said : (l : List ℕ) (cs : List Constant) → said l ≡ Some cs → Says l cs
unfolding said
found_said [] cs h = let gives : [] ≡ cs = cc in rw (← gives) nothing
found_said (c ∷ l) cs h = go (without (codes "//") (c ∷ l)) refl h
  where
    go : (o : Option (List ℕ)) → without (codes "//") (c ∷ l) ≡ o → comment_or (c ∷ l) o ≡ Some cs → Says (c ∷ l) cs
    go (Some text) e k = let gives : [] ≡ cs = cc in rw (front_of (codes "//") (c ∷ l) text e, ← gives) comment
    go None e k = more (without (codes "#define ") (c ∷ l)) refl k
      where
        more : (o : Option (List ℕ)) → without (codes "#define ") (c ∷ l) ≡ o → definition o ≡ Some cs → Says (c ∷ l) cs
        more None e m = cc
        more (Some text) e m = defined_form (c ∷ l) text cs (front_of (codes "#define ") (c ∷ l) text e) m

-- the guard's line, and the line of the end
pub guard_found : (name : List ℕ) → IsWord name → is_guard (guard_line name) ≡ true
unfolding is_guard
guard_found name is = rw (without_front (codes "#ifndef ") name) (word_passes name is)

pub found_guard : (l : List ℕ) → is_guard l ≡ true → (name : List ℕ) × IsWord name × (l ≡ guard_line name)
unfolding is_guard
found_guard l h = go (without (codes "#ifndef ") l) refl h
  where
    go : (o : Option (List ℕ)) → without (codes "#ifndef ") l ≡ o → is_guarded o ≡ true → (name : List ℕ) × IsWord name × (l ≡ guard_line name)
    go None e k = cc
    go (Some name) e k = (name, passes_word name k, front_of (codes "#ifndef ") l name e)

pub end_found : is_end end_line ≡ true
unfolding is_end
end_found = name_is_itself end_line

pub found_end : (l : List ℕ) → is_end l ≡ true → l ≡ end_line
unfolding is_end
found_end l h = same_name l end_line h
