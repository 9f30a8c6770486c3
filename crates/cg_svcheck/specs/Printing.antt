-- Tests that compute: whether a module is printable.
use Rattle.std.specs.Prelude.{ℕ, ◌-◌, ◌^◌, Bool, true, false, not, ◌&&◌, cond, eqb, leb, ltb, List, [], ◌∷◌}
use Rattle.std.specs.List.{list_all}
use Rattle.cg_svspec.specs.Characters.{is_first, is_name_character, is_keyword}
use Rattle.cg_svspec.specs.Tree.{Expression, net, cut, lit, cat, inv, any, and, or, equal, pick, Expressions, none, more, Port, Parameter, Connection, Entry, wire, drive, assign, inst, Module}

-- a letter or an underscore, then characters of names
abbrev pub is_word : List ℕ → Bool
is_word [] = false
is_word (c ∷ cs) = is_first c && list_all is_name_character cs

-- a word that the grammar does not quote
unfoldable pub is_name : List ℕ → Bool
is_name w = is_word w && not (is_keyword w)

-- a literal of 1 to 32 bits
unfoldable pub is_literal : ℕ → ℕ → Bool
is_literal w v = ltb 0 w && (leb w 32 && ltb v (2 ^ w))

-- the concatenation has a part
abbrev pub has_part : Expressions → Bool
has_part none = false
has_part (more x xs) = true

abbrev mutual
  -- the expression is printable, and its parts are at most so deep
  pub printable_above : ℕ → Expression → Bool
  printable_above d (net n) = is_name n
  printable_above d (cut n m l) = is_name n && (ltb m (2 ^ 16) && ltb l (2 ^ 16))
  printable_above d (lit w v) = is_literal w v
  printable_above d (cat xs) = has_part xs && parts_within d xs
  printable_above d (inv x) = (ltb 0 d && printable_above (d - 1) x)
  printable_above d (any x) = (ltb 0 d && printable_above (d - 1) x)
  printable_above d (and x y) = (ltb 0 d && printable_above (d - 1) x) && (ltb 0 d && printable_above (d - 1) y)
  printable_above d (or x y) = (ltb 0 d && printable_above (d - 1) x) && (ltb 0 d && printable_above (d - 1) y)
  printable_above d (equal x y) = (ltb 0 d && printable_above (d - 1) x) && (ltb 0 d && printable_above (d - 1) y)
  printable_above d (pick c x y) = (ltb 0 d && printable_above (d - 1) c) && ((ltb 0 d && printable_above (d - 1) x) && (ltb 0 d && printable_above (d - 1) y))

  -- each of the parts is printable and at most so deep
  pub parts_within : ℕ → Expressions → Bool
  parts_within d none = true
  parts_within d (more x xs) = (ltb 0 d && printable_above (d - 1) x) && parts_within d xs

-- the expression is printable and at most so deep
abbrev pub printable_within : ℕ → Expression → Bool
printable_within d x = ltb 0 d && printable_above (d - 1) x

-- from 1 to 2^16
unfoldable pub is_width : ℕ → Bool
is_width w = ltb 0 w && leb w (2 ^ 16)

-- a literal, or a plain number
abbrev pub is_number_or_literal : Expression → Bool
is_number_or_literal (lit w v) = cond (eqb w 0) (ltb v (2 ^ 16)) (is_literal w v)
is_number_or_literal x = false

-- an expression of the grammar
unfoldable pub is_expression : Expression → Bool
is_expression x = printable_within 128 x

unfoldable pub is_printable_port : Port → Bool
is_printable_port p = is_width p.width && is_name p.name

unfoldable pub is_printable_parameter : Parameter → Bool
is_printable_parameter p = is_name p.name && is_number_or_literal p.value

unfoldable pub is_printable_connection : Connection → Bool
is_printable_connection c = is_name c.name && is_expression c.value

-- there is a connection
abbrev pub is_some_of : {A : Type 0} → List A → Bool
is_some_of [] = false
is_some_of (x ∷ xs) = true

abbrev pub is_printable_entry : Entry → Bool
is_printable_entry (wire w n) = is_width w && is_name n
is_printable_entry (drive w n x) = is_width w && (is_name n && is_expression x)
is_printable_entry (assign n x) = is_name n && is_expression x
is_printable_entry (inst m ps n cs) =
    is_name m && (list_all is_printable_parameter ps && (is_name n && (is_some_of cs && list_all is_printable_connection cs)))

unfoldable pub is_printable : Module → Bool
is_printable m = is_name m.name && (is_some_of m.ports && (list_all is_printable_port m.ports && list_all is_printable_entry m.entries))
