-- Characters by name, and the classes of characters that the format speaks of. A character is its number in Unicode.
use Rattle.std.specs.Prelude.{ℕ, Bool, ◌&&◌, ◌||◌, ◌==◌, nat_lt, nat_le, not}

abbrev pub tab : ℕ
tab = 9

abbrev pub line_feed : ℕ
line_feed = 10

abbrev pub carriage_return : ℕ
carriage_return = 13

abbrev pub space : ℕ
space = 32

abbrev pub double_quote : ℕ
double_quote = 34

abbrev pub hash : ℕ
hash = 35

abbrev pub single_quote : ℕ
single_quote = 39

abbrev pub star : ℕ
star = 42

abbrev pub plus : ℕ
plus = 43

abbrev pub comma : ℕ
comma = 44

abbrev pub minus : ℕ
minus = 45

abbrev pub point : ℕ
point = 46

abbrev pub slash : ℕ
slash = 47

abbrev pub zero_digit : ℕ
zero_digit = 48

abbrev pub colon : ℕ
colon = 58

abbrev pub capital_e : ℕ
capital_e = 69

abbrev pub open_bracket : ℕ
open_bracket = 91

abbrev pub backslash : ℕ
backslash = 92

abbrev pub close_bracket : ℕ
close_bracket = 93

abbrev pub small_e : ℕ
small_e = 101

abbrev pub small_u : ℕ
small_u = 117

abbrev pub open_brace : ℕ
open_brace = 123

abbrev pub close_brace : ℕ
close_brace = 125

-- a space or a tab
abbrev pub is_space : ℕ → Bool
is_space c = c == space || c == tab

-- a blank of one character: a space, a tab or a line feed
abbrev pub is_blank : ℕ → Bool
is_blank c = c == space || c == tab || c == line_feed

-- below U+0020 and no tab: such a character has no place in a document, but as a part of a line end
abbrev pub is_control : ℕ → Bool
is_control c = nat_lt c space && not (c == tab)

-- one of , : [ ] { }
abbrev pub is_mark : ℕ → Bool
is_mark c = c == comma || c == colon || c == open_bracket || c == close_bracket || c == open_brace || c == close_brace

-- neither a blank nor a mark, so that it may stand in a key without quotes
abbrev pub is_key : ℕ → Bool
is_key c = nat_lt space c && not (is_mark c)

-- " or '
abbrev pub is_quote : ℕ → Bool
is_quote c = c == double_quote || c == single_quote

-- 0 to 9
abbrev pub is_digit : ℕ → Bool
is_digit c = nat_le 48 c && nat_le c 57
