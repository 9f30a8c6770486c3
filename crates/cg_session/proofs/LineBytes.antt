-- Lines that say something are ASCII.
use Rattle.std.proofs.Common.{◌≡◌, ℕ, ◌<◌, ◌≤◌, Bool, true, List, [], ◌∷◌, ◌++◌, length, Option, Some, None, Result, Ok, refl, sym, subst, arith, codes, ◌&&◌, ◌^◌}
use Rattle.std.specs.Prelude.{leb}
use Rattle.std.specs.List.{list_all}
use Rattle.std.specs.Str.{IsAscii, IsUtf8}
use Rattle.std.specs.Str.Parse.{AllDigits, digits_value, ParsesUnsigned}
use Rattle.std.specs.Char.{digit_value}
use Rattle.std.proofs.lemmas.Str.{IsUtf8-from_ascii, IsAscii-append}
use Rattle.std.proofs.lemmas.Str.Ascii.{IsAscii-nil, IsAscii-cons}
use Rattle.std.proofs.lemmas.Str.Parse.{numerals_by_value, tells_digits, digits_value_short, parse_gives}
use Rattle.std.proofs.lemmas.Bool.Decides.{nat_tests}
use Rattle.cg_svspec.specs.Characters.{is_digit}
use Rattle.cg_svspec.proofs.Runs.{both_pass}
use Rattle.cg_inputs.specs.Lines.{is_file_character, is_file_name, is_length, Line, put, del, build, finish, Says}
use Rattle.cg_inputs.specs.Reading.{line_of}
use Rattle.cg_inputs.proofs.LineLaws.{says}

low_character : (c : ℕ) → is_file_character c ≡ true → c < 128
low_character c h = grind (arith, nat_tests)

low_digit : (c : ℕ) → is_digit c ≡ true → c < 128
low_digit c h = grind (arith, nat_tests)

all_low : (p : ℕ → Bool) (xs : List ℕ) → ((c : ℕ) → p c ≡ true → c < 128) → list_all p xs ≡ true → IsAscii xs
all_low p [] h k = IsAscii-nil
all_low p (x ∷ xs) h k = let both = both_pass (p x) (list_all p xs) k in IsAscii-cons x xs (h x both.0) (all_low p xs h both.1)

name_ascii : (name : List ℕ) → is_file_name name ≡ true → IsAscii name
unfolding is_file_name
name_ascii name h = all_low is_file_character name low_character (both_pass (list_all is_file_character name) (leb 1 (length name) && leb (length name) 64) h).0

length_ascii : (ds : List ℕ) → is_length ds ≡ true → IsAscii ds
unfolding is_length
length_ascii ds h = all_low is_digit ds low_digit (both_pass (list_all is_digit ds) (leb 1 (length ds) && leb (length ds) 8) h).0

low : (c : ℕ) (xs : List ℕ) → c < 128 → IsAscii xs → IsAscii (c ∷ xs)
low c xs h k = IsAscii-cons c xs h k

abbrev is_low : ℕ → Bool
is_low c = leb c 127

low_test : (c : ℕ) → is_low c ≡ true → c < 128
low_test c h = grind (arith, nat_tests)

-- a line that says something is ASCII
line_ascii : (text : List ℕ) (l : Line) → Says text l → IsAscii text
line_ascii text build h = subst IsAscii (sym h) (all_low is_file_character (codes "build") low_character refl)
line_ascii text finish h = subst IsAscii (sym h) (all_low is_file_character (codes "end") low_character refl)
line_ascii text (del name) h =
    subst IsAscii (sym h.1) (IsAscii-append (codes "del ") name (all_low is_low (codes "del ") low_test refl) (name_ascii name h.0))
line_ascii text (put name count) h =
    subst IsAscii (sym h.4) (IsAscii-append (codes "put ") (name ++ (32 ∷ h.0)) (all_low is_low (codes "put ") low_test refl)
    (IsAscii-append name (32 ∷ h.0) (name_ascii name h.1) (low 32 h.0 (omega arith) (length_ascii h.0 h.2))))

-- bytes that are no text say nothing
pub unread : (text : List ℕ) → ¬ IsUtf8 text → line_of text ≡ None
unread text h = go (line_of text) refl
  where
    go : (o : Option Line) → line_of text ≡ o → o ≡ None
    go None e = refl
    go (Some l) e = absurd (h (IsUtf8-from_ascii text (line_ascii text l (says text l e))))

-- ---- lengths

small_digit : (c : ℕ) → is_digit c ≡ true → digit_value c < 10
small_digit c h = grind (arith, nat_tests)

small_digits : (ds : List ℕ) → list_all is_digit ds ≡ true → AllDigits 10 ds
small_digits [] h = tt
small_digits (d ∷ ds) h = let both = both_pass (is_digit d) (list_all is_digit ds) h in (small_digit d both.0, small_digits ds both.1)

pub record IsShortNumber (ds : List ℕ) : Type 0 where
  pub digits : AllDigits 10 ds
  pub some : 0 < length ds
  pub below : digits_value 10 ds < 2 ^ 32

pub short_number : (ds : List ℕ) → is_length ds ≡ true → IsShortNumber ds
unfolding is_length
short_number ds h =
    let both = both_pass (list_all is_digit ds) (leb 1 (length ds) && leb (length ds) 8) h in
    let lengths = both_pass (leb 1 (length ds)) (leb (length ds) 8) both.1 in
    let few : length ds ≤ 8 = let k = lengths.1 in grind (arith, nat_tests) in
    let digits = small_digits ds both.0 in
    let value = digits_value_short (numerals_by_value (AllDigits 10) tells_digits) ds 8 digits few in
    record { digits = digits; some = let k = lengths.0 in grind (arith, nat_tests); below = omega (arith, value) }

pub parsed : {E : Type 0} (ds : List ℕ) (r : Result ℕ E) → is_length ds ≡ true → ParsesUnsigned 32 10 ds r → r ≡ Ok (digits_value 10 ds)
parsed ds r h p = let n = short_number ds h in parse_gives (numerals_by_value (AllDigits 10) tells_digits) 32 ds r p n.digits n.some n.below
