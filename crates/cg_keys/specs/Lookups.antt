-- What stands at a key, where it has the form that is asked for.
use Rattle.std.specs.Prelude.{ℕ, Bool, true, List, Option, Some, None, option_and_then}
use Rattle.std.specs.Option.{option_map_or}
use Rattle.cg_desc.specs.declared.block.SwAccess.{SwAccess}
use Rattle.cg_desc.specs.declared.block.HwAccess.{HwAccess}
use Rattle.cg_desc.specs.declared.place.At.{At}
use Rattle.cg_hjson.specs.declared.tree.Tree.{Tree}
use Rattle.cg_hjson.specs.declared.tree.Member.{Member}
use Rattle.cg_keys.specs.Values.{object_in, text_in}
use Rattle.cg_keys.specs.Table.{value_at}
use Rattle.cg_keys.specs.Forms.{boolean_in, fits_one, hardware, number_within, software, window_access}
use Rattle.cg_keys.specs.declared.forms.Form.{Form}

-- the key is absent, or its value has one of the forms
unfoldable pub is_fit_at : List Form → List ℕ → List Member → Bool
is_fit_at forms key ms = option_map_or (fits_one forms) (value_at key ms) true

-- the string at a key
unfoldable pub text_at : List ℕ → List Member → Option (List ℕ)
text_at key ms = option_and_then text_in (value_at key ms)

-- the members of the object at a key
unfoldable pub object_at : List ℕ → List Member → Option (List Member)
object_at key ms = option_and_then object_in (value_at key ms)

-- the boolean at a key
unfoldable pub boolean_at : List ℕ → List Member → Option Bool
boolean_at key ms = option_and_then boolean_in (value_at key ms)

-- the number at a key, where it is in this range
unfoldable pub number_at : ℕ → ℕ → List ℕ → List Member → Option ℕ
number_at least most key ms = option_and_then (number_within least most) (value_at key ms)

-- how software accesses a field, by the word at a key
unfoldable pub software_at : List ℕ → List Member → Option SwAccess
software_at key ms = option_and_then software (text_at key ms)

-- how hardware accesses a field, by the word at a key
unfoldable pub hardware_at : List ℕ → List Member → Option HwAccess
hardware_at key ms = option_and_then hardware (text_at key ms)

-- how software accesses a window, by the word at a key
unfoldable pub window_access_at : List ℕ → List Member → Option SwAccess
window_access_at key ms = option_and_then window_access (text_at key ms)

abbrev pub place_or : At → Option Tree → At
place_or otherwise None = otherwise
place_or otherwise (Some t) = t.at

-- the place of the value at a key, or else another place
unfoldable pub place_at : List ℕ → List Member → At → At
place_at key ms otherwise = place_or otherwise (value_at key ms)
