-- The forms that a value may have: a number, a boolean, a name, a word of a list and others.
use Rattle.std.specs.Prelude.{ℕ, ℤ, pos, negsuc, Bool, true, false, ◌||◌, ◌&&◌, not, nat_le, is_some, length, List, [], ◌∷◌, Option, Some, None, option_and_then, codes, if◌then◌else◌}
use Rattle.std.specs.Str.{bytes_eq}
use Rattle.std.specs.List.{list_any, list_all}
use Rattle.std.specs.Option.{option_map_or}
use Rattle.cg_base.specs.Number.Scan.{number_of}
use Rattle.cg_desc.specs.declared.block.SwAccess.{SwAccess}
use Rattle.cg_desc.specs.declared.block.SwAccess.TheVariants as software_access
use Rattle.cg_desc.specs.declared.block.HwAccess.{HwAccess}
use Rattle.cg_desc.specs.declared.block.HwAccess.TheVariants as hardware_access
use Rattle.cg_hjson.specs.declared.tree.Tree.{Tree}
use Rattle.cg_keys.specs.Values.{object_in, array_in, text_in, int_in, bool_in}
use Rattle.cg_keys.specs.declared.forms.Form.{Form}
use Rattle.cg_keys.specs.declared.forms.Form.TheVariants as form
use Rattle.cg_keys.specs.declared.words.Words.{Words}
use Rattle.cg_keys.specs.declared.words.Words.TheVariants as words
use Rattle.cg_svspec.specs.Characters.{is_first, is_name_character, is_keyword}

-- an integer from 0 on
abbrev pub natural : ℤ → Option ℕ
natural (pos n) = Some n
natural (negsuc n) = None

-- the first, or else the second
abbrev pub or_else : {X : Type 0} → Option X → Option X → Option X
or_else None b = b
or_else (Some a) b = Some a

-- the number that a value is: an integer from 0 on, or a string that is a number
unfoldable pub number_in : Tree → Option ℕ
number_in t = or_else (option_and_then natural (int_in t)) (option_and_then number_of (text_in t))

abbrev pub if_within : ℕ → ℕ → ℕ → Option ℕ
if_within least most n = if nat_le least n && nat_le n most then Some n else None

-- the number that a value is, where it is in this range
unfoldable pub number_within : ℕ → ℕ → Tree → Option ℕ
number_within least most t = option_and_then (if_within least most) (number_in t)

-- the boolean that a string is
abbrev pub truth : List ℕ → Option Bool
truth s = if bytes_eq s (codes "true") then Some true else if bytes_eq s (codes "false") then Some false else None

-- the boolean that a value is: `true` or `false`, or one of these as a string
unfoldable pub boolean_in : Tree → Option Bool
boolean_in t = or_else (bool_in t) (option_and_then truth (text_in t))

-- a letter or an underscore, then letters, digits and underscores
abbrev pub is_word : List ℕ → Bool
is_word [] = false
is_word (c ∷ cs) = is_first c && list_all is_name_character cs

-- a name of at most this many characters: a word that the grammar of hardware does not quote
unfoldable pub is_name : ℕ → List ℕ → Bool
is_name most s = is_word s && (nat_le (length s) most && not (is_keyword s))

-- how software accesses a field, by its word
unfoldable pub software : List ℕ → Option SwAccess
software s =
    if bytes_eq s (codes "ro") then Some software_access.Ro
    else if bytes_eq s (codes "rc") then Some software_access.Rc
    else if bytes_eq s (codes "rw") then Some software_access.Rw
    else if bytes_eq s (codes "r0w1c") then Some software_access.R0w1c
    else if bytes_eq s (codes "rw1s") then Some software_access.Rw1s
    else if bytes_eq s (codes "rw1c") then Some software_access.Rw1c
    else if bytes_eq s (codes "rw0c") then Some software_access.Rw0c
    else if bytes_eq s (codes "wo") then Some software_access.Wo
    else if bytes_eq s (codes "none") then Some software_access.Nothing
    else None

-- how software accesses a window, by its word
unfoldable pub window_access : List ℕ → Option SwAccess
window_access s =
    if bytes_eq s (codes "rw") then Some software_access.Rw
    else if bytes_eq s (codes "ro") then Some software_access.Ro
    else if bytes_eq s (codes "wo") then Some software_access.Wo
    else None

-- how hardware accesses a field, by its word
unfoldable pub hardware : List ℕ → Option HwAccess
hardware s =
    if bytes_eq s (codes "hro") then Some hardware_access.Hro
    else if bytes_eq s (codes "hrw") then Some hardware_access.Hrw
    else if bytes_eq s (codes "hwo") then Some hardware_access.Hwo
    else if bytes_eq s (codes "none") then Some hardware_access.Nothing
    else None

-- a string is one of the words of a list
unfoldable pub is_one_of : Words → List ℕ → Bool
is_one_of words.Software s = is_some (software s)
is_one_of words.Hardware s = is_some (hardware s)
is_one_of words.WindowAccess s = is_some (window_access s)
is_one_of words.Direction s = bytes_eq s (codes "device") || bytes_eq s (codes "host")
is_one_of words.InterruptType s = bytes_eq s (codes "event") || bytes_eq s (codes "status")
is_one_of words.NodeType s = bytes_eq s (codes "host") || bytes_eq s (codes "device")
is_one_of words.Joint s = bytes_eq s (codes "muxed") || (bytes_eq s (codes "direct") || bytes_eq s (codes "manual"))
is_one_of words.Unknown s = bytes_eq s (codes "x")

-- the most characters of a name
abbrev pub name_limit : ℕ
name_limit = 40

-- the most characters of a name where it may be a parameter's
abbrev pub parameter_limit : ℕ
parameter_limit = 80

-- a value has a form
unfoldable pub fits : Form → Tree → Bool
fits form.Text t = is_some (text_in t)
fits form.Name t = option_map_or (is_name name_limit) (text_in t) false
fits form.ParameterName t = option_map_or (is_name parameter_limit) (text_in t) false
fits (form.Number least most) t = is_some (number_within least most t)
fits form.Boolean t = is_some (boolean_in t)
fits form.Items t = is_some (array_in t)
fits form.Object t = is_some (object_in t)
fits (form.Word w) t = option_map_or (is_one_of w) (text_in t) false

-- a value is of a kind that has values of this form: a string may be text, a name, a number, a boolean or a word
unfoldable pub takes : Form → Tree → Bool
takes form.Text t = is_some (text_in t)
takes form.Name t = is_some (text_in t)
takes form.ParameterName t = is_some (text_in t)
takes (form.Number least most) t = is_some (text_in t) || is_some (int_in t)
takes form.Boolean t = is_some (text_in t) || is_some (bool_in t)
takes form.Items t = is_some (array_in t)
takes form.Object t = is_some (object_in t)
takes (form.Word w) t = is_some (text_in t)

abbrev pub is_number_form : Form → Bool
is_number_form (form.Number least most) = true
is_number_form _ = false

abbrev pub is_name_form : Form → Bool
is_name_form form.Name = true
is_name_form form.ParameterName = true
is_name_form _ = false

-- a value has one of these forms
abbrev pub fits_one : List Form → Tree → Bool
fits_one forms t = list_any (λ f. fits f t) forms

-- The rule that a value breaks that has none of these forms: 22 where none of them takes its kind; else 24 where a
-- number is among them; else 25 where a name is; else 22.
unfoldable pub rule_broken : List Form → Tree → ℕ
rule_broken forms t =
    if not (list_any (λ f. takes f t) forms) then 22
    else if list_any is_number_form forms then 24
    else if list_any is_name_form forms then 25
    else 22
