-- The text of a header, as lines of the forms of one.
use Rattle.std.proofs.Common.{◌≡◌, ℕ, ◌<◌, ◌^◌, ◌==◌, Bool, true, false, not, List, [], ◌∷◌, ◌++◌, map, refl, ap, ◌∙◌, arith, append_assoc, codes}
use Rattle.std.specs.List.{list_all}
use Rattle.std.specs.Fmt.{decimal, digits}
use Rattle.std.proofs.lemmas.Bool.Decides.{nat_tests}
use Rattle.cg_svspec.specs.Characters.{is_name_character, is_digit, is_hexadecimal, IsWord}
use Rattle.cg_svspec.specs.Printable.{AllOf}
use Rattle.cg_svspec.proofs.Runs.{each_passes}
use Rattle.cg_svspec.proofs.Numerals.{decimal_digits, hexadecimal_digits}
use Rattle.cg_desc.specs.declared.block.LaidBlock.{LaidBlock}
use Rattle.cg_hdrspec.specs.Header.{constant, IsNumeral, in_decimal, in_hexadecimal, IsLine, Says, comment, defined, valued, Say, no_line, one_line, guard_line, end_line, lines_text, IsHeader}
use Rattle.cg_hdrspec.specs.BlockHeader.{Definition, guard_of, definitions, constants_of, numeral, line, definition_text, definitions_text, header_text}
use Rattle.cg_hdrspec.specs.Laws.{IsNamed}
use Rattle.cg_hdrspec.specs.Whole.{whole_constants, whole_text}
use Rattle.cg_hdrspec.proofs.NamesAreWords.{each_join, each_weaker, word_characters, guard_word}
use Rattle.cg_hdrspec.proofs.Definitions.{IsGood, good_definitions}

-- no character of a name is a line feed
name_on_line : (c : ℕ) → is_name_character c ≡ true → not (c == 10) ≡ true
name_on_line c h = grind (arith, nat_tests)

hexadecimal_on_line : (c : ℕ) → is_hexadecimal c ≡ true → not (c == 10) ≡ true
hexadecimal_on_line c h = grind (arith, nat_tests)

digit_on_line : (c : ℕ) → is_digit c ≡ true → not (c == 10) ≡ true
digit_on_line c h = grind (arith, nat_tests)

-- none of these is
abbrev on_line : ℕ → Bool
on_line c = not (c == 10)

-- a text that is written out, with more behind it
line_join : (a b : List ℕ) → list_all (λ c. not (c == 10)) a ≡ true → IsLine b → IsLine (a ++ b)
line_join a b h e = each_join (λ c. not (c == 10)) a b (each_passes (λ c. not (c == 10)) a h) e

word_line : (w : List ℕ) → IsWord w → IsLine w
word_line w h = each_weaker is_name_character (λ c. not (c == 10)) name_on_line w (word_characters w h)

numeral_line : (hexadecimal : Bool) (n : ℕ) → IsLine (numeral hexadecimal n)
numeral_line true n = line_join (codes "0x") (digits 16 false n) refl (each_weaker is_hexadecimal (λ c. not (c == 10)) hexadecimal_on_line (digits 16 false n) (hexadecimal_digits n))
numeral_line false n = each_weaker is_digit (λ c. not (c == 10)) digit_on_line (decimal n) (decimal_digits n)

-- a numeral stands for its value
numeral_is : (hexadecimal : Bool) (n : ℕ) → n < 2 ^ 64 → IsNumeral (numeral hexadecimal n) n
numeral_is true n small = in_hexadecimal small
numeral_is false n small = in_decimal small

-- ---- a definition's line

definition_line : Definition → List ℕ
definition_line d = codes "#define " ++ (d.name ++ (codes " " ++ numeral d.hexadecimal d.value))

definition_is_line : (d : Definition) → IsGood d → IsLine (definition_line d)
unfolding definition_line
definition_is_line d good =
    line_join (codes "#define ") (d.name ++ (codes " " ++ numeral d.hexadecimal d.value)) refl
    (each_join (λ c. not (c == 10)) d.name (codes " " ++ numeral d.hexadecimal d.value) (word_line d.name good.0)
    (line_join (codes " ") (numeral d.hexadecimal d.value) refl (numeral_line d.hexadecimal d.value)))

definition_says : (d : Definition) → IsGood d → Says (definition_line d) (constant d.name d.value ∷ [])
unfolding definition_line
definition_says d good = valued good.0 (numeral_is d.hexadecimal d.value good.1)

definitions_say : (ds : List Definition) → AllOf IsGood ds → Say (map definition_line ds) (map (λ d. constant d.name d.value) ds)
definitions_say [] all = no_line
definitions_say (d ∷ ds) all = one_line (definition_is_line d all.0) (definition_says d all.0) (definitions_say ds all.1)

-- a line with what stands behind it
line_behind : (l more : List ℕ) → line l ++ more ≡ l ++ (10 ∷ more)
line_behind l more = append_assoc l (10 ∷ []) more

definition_behind : (d : Definition) (more : List ℕ) → definition_text d ++ more ≡ definition_line d ++ (10 ∷ more)
unfolding definition_text definition_line
definition_behind d more = simp append_assoc

-- the definitions and the end, as lines
definitions_lines : (ds : List Definition) → definitions_text ds ++ line (codes "#endif") ≡ lines_text (map definition_line ds ++ end_line ∷ [])
unfolding lines_text
definitions_lines [] = refl
definitions_lines (d ∷ ds) =
    append_assoc (definition_text d) (definitions_text ds) (line (codes "#endif"))
    ∙ definition_behind d (definitions_text ds ++ line (codes "#endif"))
    ∙ ap (λ z. definition_line d ++ (10 ∷ z)) (definitions_lines ds)

-- ---- the header

-- the lines behind the guard's
between_lines : List ℕ → List Definition → List (List ℕ)
between_lines guard ds = (codes "#define " ++ guard) ∷ map definition_line ds

text_is_lines : (guard : List ℕ) (ds : List Definition)
    → whole_text guard ds ≡ lines_text (codes "// Generated by chipgen." ∷ (guard_line guard ∷ (between_lines guard ds ++ end_line ∷ [])))
unfolding lines_text between_lines
text_is_lines guard ds =
    ap (λ z. codes "// Generated by chipgen." ++ (10 ∷ (codes "#ifndef " ++ z)))
    (line_behind guard (codes "#define " ++ (line guard ++ (definitions_text ds ++ line (codes "#endif"))))
    ∙ ap (λ z. guard ++ (10 ∷ (codes "#define " ++ z)))
    (line_behind guard (definitions_text ds ++ line (codes "#endif"))
    ∙ ap (λ z. guard ++ (10 ∷ z)) (definitions_lines ds)))

lines_say : (guard : List ℕ) (ds : List Definition) → IsWord guard → AllOf IsGood ds → Say (codes "// Generated by chipgen." ∷ between_lines guard ds) (whole_constants ds)
unfolding between_lines
lines_say guard ds word good =
    one_line (each_passes (λ c. not (c == 10)) (codes "// Generated by chipgen.") refl) comment
    (one_line (line_join (codes "#define ") guard refl (word_line guard word)) (defined word) (definitions_say ds good))

-- A guard and definitions make a header, with the definitions' constants.
pub whole_is_header : (guard : List ℕ) (ds : List Definition) → IsWord guard → AllOf IsGood ds → IsHeader (whole_text guard ds) (whole_constants ds)
whole_is_header guard ds word good = record {
  first = codes "// Generated by chipgen.";
  guard = guard;
  between = between_lines guard ds;
  is_text = text_is_lines guard ds;
  is_guard = word;
  says = lines_say guard ds word good;
}

-- The header of a block is one, with the block's constants.
pub is_header : (laid : LaidBlock) → IsNamed laid → IsHeader (header_text laid) (constants_of laid)
unfolding header_text constants_of
is_header laid named = whole_is_header (guard_of laid.desc.name) (definitions laid) (guard_word laid.desc.name named.block) (good_definitions laid named)
