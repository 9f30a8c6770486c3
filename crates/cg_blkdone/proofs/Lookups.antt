-- What is read at the keys of a value, by the JSON value that it tells.
use Rattle.std.proofs.Common.{◌≡◌, ℕ, Bool, true, false, List, [], map, Option, Some, None, option_map, option_and_then, is_some, unwrap_or, refl, ap, ◌∙◌}
use Rattle.serde_json.specs.Data.{Data, object}
use Rattle.serde_json.specs.Data as json
use Rattle.serde_json.specs.Find.{as_array, as_bool, as_object, as_str, get}
use Rattle.cg_base.specs.Number.Scan.{number_of as number_in_text}
use Rattle.cg_hjson.specs.declared.tree.Tree.{Tree}
use Rattle.cg_keys.specs.Elements.{elements, items_in}
use Rattle.cg_keys.specs.Forms.{boolean_in, if_within, natural, number_in, number_within, or_else, truth}
use Rattle.cg_keys.specs.Lookups.{boolean_at, number_at, text_at}
use Rattle.cg_keys.specs.Table.{value_at}
use Rattle.cg_keys.specs.Values.{array_in, items_of, members_of, object_in, or_empty}
use Rattle.cg_blkread.specs.Bits.{bits_in, number_or_range}
use Rattle.cg_blkread.specs.declared.raw.Bits.{Bits}
use Rattle.cg_blkdone.specs.Full.{Pair, with_all}
use Rattle.cg_blkdone.proofs.Puts.{found_in_all, last_at}
use Rattle.cg_blkdone.proofs.Told.{array_told, bool_told, found_told, int_told, integer_in, listed, object_told, text_told, told}

-- ---- values

-- the number that a JSON value is, where it is in this range
abbrev pub number_told_in : ℕ → ℕ → Data → Option ℕ
number_told_in least most d = option_and_then (if_within least most) (or_else (option_and_then natural (integer_in d)) (option_and_then number_in_text (as_str d)))

-- the boolean that a JSON value is
abbrev pub boolean_told_in : Data → Option Bool
boolean_told_in d = or_else (as_bool d) (option_and_then truth (as_str d))

-- the bits that a JSON value names
abbrev pub bits_told_in : Data → Option Bits
bits_told_in d = number_or_range (number_told_in 0 31 d) (as_str d)

-- the items of a JSON value
abbrev pub items_told_in : Data → List Data
items_told_in d = or_empty (option_map listed (as_array d))

-- the number of a value
pub number_told : (least most : ℕ) (t : Tree) → number_within least most t ≡ number_told_in least most (told t)
unfolding number_within number_in
number_told least most t = λ i. option_and_then (if_within least most) (or_else (option_and_then natural (int_told t i)) (option_and_then number_in_text (text_told t i)))

-- the boolean of a value
pub boolean_told : (t : Tree) → boolean_in t ≡ boolean_told_in (told t)
unfolding boolean_in
boolean_told t = λ i. or_else (bool_told t i) (option_and_then truth (text_told t i))

-- the bits of a value
pub bits_told : (t : Tree) → bits_in t ≡ bits_told_in (told t)
unfolding bits_in
bits_told t = λ i. number_or_range (number_told 0 31 t i) (text_told t i)

or_empty_map : {X Y : Type 0} (f : X → Y) (o : Option (List X)) → map f (or_empty o) ≡ or_empty (option_map (map f) o)
or_empty_map f None = refl
or_empty_map f (Some xs) = refl

-- the elements of a value
pub items_told : (t : Tree) → map told (items_of t) ≡ items_told_in (told t)
items_told t = or_empty_map told (array_in t) ∙ ap or_empty (array_told t)

-- ---- at keys

-- what a function of a value gives at a key, as one of the JSON value there
at_key : {X : Type 0} (f : Tree → Option X) (g : Data → Option X) → ((t : Tree) → f t ≡ g (told t)) → (o : Option Tree)
    → option_and_then f o ≡ option_and_then g (option_map told o)
at_key f g same None = refl
at_key f g same (Some t) = same t

-- the string at a key
pub text_at_told : (key : List ℕ) (t : Tree) → text_at key (members_of t) ≡ option_and_then as_str (get key (told t))
unfolding text_at
text_at_told key t = at_key _ as_str text_told (value_at key (members_of t)) ∙ ap (option_and_then as_str) (found_told key t)

-- the boolean at a key
pub boolean_at_told : (key : List ℕ) (t : Tree) → boolean_at key (members_of t) ≡ option_and_then boolean_told_in (get key (told t))
unfolding boolean_at
boolean_at_told key t = at_key boolean_in boolean_told_in boolean_told (value_at key (members_of t)) ∙ ap (option_and_then boolean_told_in) (found_told key t)

-- the number at a key
pub number_at_told : (least most : ℕ) (key : List ℕ) (t : Tree) → number_at least most key (members_of t) ≡ option_and_then (number_told_in least most) (get key (told t))
unfolding number_at
number_at_told least most key t =
    at_key (number_within least most) (number_told_in least most) (number_told least most) (value_at key (members_of t))
    ∙ ap (option_and_then (number_told_in least most)) (found_told key t)

-- the bits at a key
pub bits_at_told : (key : List ℕ) (t : Tree) → option_and_then bits_in (value_at key (members_of t)) ≡ option_and_then bits_told_in (get key (told t))
bits_at_told key t = at_key bits_in bits_told_in bits_told (value_at key (members_of t)) ∙ ap (option_and_then bits_told_in) (found_told key t)

-- the items of the list that there is, if there is one
abbrev pub items_told_at : Option Data → List Data
items_told_at None = []
items_told_at (Some d) = items_told_in d

in_items : (o : Option Tree) → map told (items_in o) ≡ items_told_at (option_map told o)
in_items None = refl
in_items (Some t) = items_told t

-- the elements of the list at a key
pub elements_told : (key : List ℕ) (t : Tree) → map told (elements key (members_of t)) ≡ items_told_at (get key (told t))
unfolding elements
elements_told key t = in_items (value_at key (members_of t)) ∙ ap items_told_at (found_told key t)

-- a value that tells what stands at a key
pub record FoundAt (key : List ℕ) (t : Tree) (d : Data) : Type 0 where
  pub value : Tree
  pub there : value_at key (members_of t) ≡ Some value
  pub tells : told value ≡ d

found_in : (key : List ℕ) (t : Tree) (d : Data) (o : Option Tree) → value_at key (members_of t) ≡ o → option_map told o ≡ Some d → FoundAt key t d
found_in key t d None is tells = absurd cc
found_in key t d (Some v) is tells = record { value = v; there = is; tells = ap (λ o. unwrap_or o d) tells }

-- where a JSON value stands at a key, a value stands there that tells it
pub found_at : (key : List ℕ) (t : Tree) (d : Data) → get key (told t) ≡ Some d → FoundAt key t d
found_at key t d there = found_in key t d (value_at key (members_of t)) refl (found_told key t ∙ there)

absent_in : (o : Option Tree) → option_map told o ≡ None → o ≡ None
absent_in None none = refl
absent_in (Some v) none = absurd cc

-- nothing stands there
pub absent_at : (key : List ℕ) (t : Tree) → get key (told t) ≡ None → value_at key (members_of t) ≡ None
absent_at key t none = absent_in (value_at key (members_of t)) (found_told key t ∙ none)

-- ---- completed values

-- a JSON value is an object
abbrev pub is_object : Data → Bool
is_object d = is_some (as_object d)

-- what stands at a key of an object that is completed
pub found_in_completed : (key : List ℕ) (ps : List Pair) (d : Data) → is_object d ≡ true → get key (with_all ps d) ≡ or_else (last_at key ps) (get key d)
unfolding with_all
found_in_completed key ps json.null is = absurd cc
found_in_completed key ps (json.boolean b) is = absurd cc
found_in_completed key ps (json.number n) is = absurd cc
found_in_completed key ps (json.string s) is = absurd cc
found_in_completed key ps (json.array ds) is = absurd cc
found_in_completed key ps (object ms) is = found_in_all key ps ms

-- an object stays one
pub object_stays : (ps : List Pair) (d : Data) → is_object d ≡ true → is_object (with_all ps d) ≡ true
unfolding with_all
object_stays ps json.null is = is
object_stays ps (json.boolean b) is = is
object_stays ps (json.number n) is = is
object_stays ps (json.string s) is = is
object_stays ps (json.array ds) is = is
object_stays ps (object ms) is = is

-- other values stay as they are
pub no_object_stays : (ps : List Pair) (d : Data) → is_object d ≡ false → with_all ps d ≡ d
unfolding with_all
no_object_stays ps json.null is = refl
no_object_stays ps (json.boolean b) is = refl
no_object_stays ps (json.number n) is = refl
no_object_stays ps (json.string s) is = refl
no_object_stays ps (json.array ds) is = refl
no_object_stays ps (object ms) is = absurd cc

none_in : (t : Tree) → is_some (object_in t) ≡ false → members_of t ≡ []
none_in t is = empty (object_in t) is where
  empty : {X : Type 0} (o : Option (List X)) → is_some o ≡ false → or_empty o ≡ []
  empty None is = refl
  empty (Some xs) is = absurd cc

-- and have no members
pub no_members : (t : Tree) → is_object (told t) ≡ false → members_of t ≡ []
no_members t is = none_in t (object_told t ∙ is)
