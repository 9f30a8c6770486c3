-- What stands at the keys of an object that breaks nothing of its table.
use Rattle.std.proofs.Common.{◌≡◌, ℕ, ◌≤◌, Bool, true, false, ◌&&◌, ◌||◌, nat_le, is_some, length, ◌<◌, List, [], ◌∷◌, Option, Some, None, inl, inr, refl, sym, ap, subst, ◌∙◌, arith}
use Rattle.std.specs.Prelude.{unwrap_or, option_and_then, if◌then◌else◌}
use Rattle.std.specs.Option.{option_map_or}
use Rattle.std.proofs.lemmas.Bool.Decides.{nat_tests}
use Rattle.cg_desc.specs.Valid.{IsShortName}
use Rattle.cg_desc.specs.declared.place.At.{At}
use Rattle.cg_finding.specs.Finding.{Among, Finding, finding}
use Rattle.cg_hjson.specs.declared.tree.Tree.{Tree}
use Rattle.cg_hjson.specs.declared.tree.Member.{Member}
use Rattle.cg_keys.specs.Forms.{fits, fits_one, if_within, is_name, name_limit, number_in, number_within, rule_broken}
use Rattle.cg_keys.specs.Lookups.{number_at, text_at}
use Rattle.cg_keys.specs.Table.{Key, value_at}
use Rattle.cg_keys.specs.Elements.{elements, items_in}
use Rattle.cg_keys.specs.Lists.{TooLong, TooShort, WrongElement}
use Rattle.cg_keys.specs.Values.{array_in, items_of, object_in, or_empty, text_in}
use Rattle.cg_keys.specs.Violations.{BreaksTable}
use Rattle.cg_keys.specs.declared.forms.Form.{Form}
use Rattle.cg_keys.specs.declared.forms.Form.TheVariants as form
use Rattle.cg_keys.proofs.NameTests.{is_name_tells}

-- nothing of a table is broken
abbrev pub Whole : At → List Member → List Key → Type 0
Whole opener ms ks = (f : Finding) → ¬ BreaksTable opener ms ks f

-- ---- values by their rows

pub fits_row : (opener : At) (ms : List Member) (ks : List Key) → Whole opener ms ks → (row : Key) → Among row ks → (value : Tree) → value_at row.key ms ≡ Some value
    → fits_one row.forms value ≡ true
fits_row opener ms ks whole row listed value there = by (fits_one row.forms value) refl
  where
    by : (b : Bool) → fits_one row.forms value ≡ b → b ≡ true
    by true fits = refl
    by false unfit = absurd (whole (finding 2 (rule_broken row.forms value) value.at row.key)
        (inr (record { row = row; value = value; listed = listed; there = there; unfit = unfit; says = refl })))

-- a value that is needed, and has one of its forms
pub record Needed (ms : List Member) (key : List ℕ) (forms : List Form) : Type 0 where
  pub value : Tree
  pub there : value_at key ms ≡ Some value
  pub fit : fits_one forms value ≡ true

pub needed_row : (opener : At) (ms : List Member) (ks : List Key) → Whole opener ms ks → (row : Key) → Among row ks → row.needed ≡ true → Needed ms row.key row.forms
needed_row opener ms ks whole row listed needed = by (value_at row.key ms) refl
  where
    by : (v : Option Tree) → value_at row.key ms ≡ v → Needed ms row.key row.forms
    by None absent = absurd (whole (finding 2 21 opener row.key) (inl (record { row = row; listed = listed; needed = needed; absent = absent; says = refl })))
    by (Some value) there = record { value = value; there = there; fit = fits_row opener ms ks whole row listed value there }

-- ---- by forms

or_one : (b : Bool) → (b || false) ≡ true → b ≡ true
or_one true h = refl
or_one false h = h

pub one_form : (f : Form) (t : Tree) → fits_one (f ∷ []) t ≡ true → fits f t ≡ true
one_form f t fit = or_one (fits f t) fit

-- a text that is a name
name_fits : (o : Option (List ℕ)) → option_map_or (is_name name_limit) o false ≡ true → (s : List ℕ) × (o ≡ Some s) × IsShortName s
name_fits None fit = cc
name_fits (Some s) fit = (s, refl, (is_name_tells name_limit s).0 fit)

pub name_there : (ms : List Member) (key : List ℕ) (value : Tree) → value_at key ms ≡ Some value → fits_one (form.Name ∷ []) value ≡ true
    → (s : List ℕ) × (text_at key ms ≡ Some s) × IsShortName s
unfolding fits text_at
name_there ms key value there fit =
    let named = name_fits (text_in value) (one_form form.Name value fit) in
    (named.0, ap (option_and_then text_in) there ∙ named.1, named.2)

pub name_or_empty : (ms : List Member) (key : List ℕ) → Needed ms key (form.Name ∷ []) → IsShortName (unwrap_or (text_at key ms) [])
name_or_empty ms key n =
    let named = name_there ms key n.value n.there n.fit in
    subst (λ o. IsShortName (unwrap_or o [])) (sym named.1) named.2

text_absent : (ms : List Member) (key : List ℕ) → value_at key ms ≡ None → text_at key ms ≡ None
unfolding text_at
text_absent ms key absent = ap (option_and_then text_in) absent

-- a name that may be there, or else another
pub name_or : (ms : List Member) (key other : List ℕ) → ((value : Tree) → value_at key ms ≡ Some value → fits_one (form.Name ∷ []) value ≡ true) → IsShortName other
    → IsShortName (unwrap_or (text_at key ms) other)
name_or ms key other fit short = by (value_at key ms) refl
  where
    by : (v : Option Tree) → value_at key ms ≡ v → IsShortName (unwrap_or (text_at key ms) other)
    by None absent = subst (λ o. IsShortName (unwrap_or o other)) (sym (text_absent ms key absent)) short
    by (Some value) there =
        let named = name_there ms key value there (fit value there) in
        subst (λ o. IsShortName (unwrap_or o other)) (sym named.1) named.2

pub text_there : (ms : List Member) (key : List ℕ) (value : Tree) → value_at key ms ≡ Some value → fits_one (form.Text ∷ []) value ≡ true
    → (s : List ℕ) × (text_in value ≡ Some s) × (text_at key ms ≡ Some s)
unfolding fits text_at
text_there ms key value there fit = by (text_in value) refl (one_form form.Text value fit)
  where
    by : (o : Option (List ℕ)) → text_in value ≡ o → is_some o ≡ true → (s : List ℕ) × (text_in value ≡ Some s) × (option_and_then text_in (value_at key ms) ≡ Some s)
    by None is h = cc
    by (Some s) is h = (s, is, ap (option_and_then text_in) there ∙ is)

-- ---- numbers

within_most : (least most n : ℕ) → unwrap_or (if_within least most n) 0 ≤ most
within_most least most n = by (nat_le least n && nat_le n most) refl
  where
    by : (b : Bool) → (nat_le least n && nat_le n most) ≡ b → unwrap_or (if b then Some n else None) 0 ≤ most
    by true h = grind (arith, nat_tests)
    by false h = omega arith

number_most : (least most : ℕ) (o : Option ℕ) → unwrap_or (option_and_then (if_within least most) o) 0 ≤ most
number_most least most None = omega arith
number_most least most (Some n) = within_most least most n

pub at_most : (least most : ℕ) (v : Option Tree) → unwrap_or (option_and_then (number_within least most) v) 0 ≤ most
unfolding number_within
at_most least most None = omega arith
at_most least most (Some t) = number_most least most (number_in t)

pub number_at_most : (least most : ℕ) (key : List ℕ) (ms : List Member) → unwrap_or (number_at least most key ms) 0 ≤ most
unfolding number_at
number_at_most least most key ms = at_most least most (value_at key ms)

-- ---- lists

few : (n most : ℕ) → (most < n → ⊥) → n ≤ most
few n most no_more = omega (arith, no_more)

-- a list that is not too long
pub few_at : (most : ℕ) (ms : List Member) (key : List ℕ) → ((f : Finding) → ¬ TooLong most ms key f) → length (elements key ms) ≤ most
unfolding elements
few_at most ms key none = by (value_at key ms) refl
  where
    by : (v : Option Tree) → value_at key ms ≡ v → length (items_in v) ≤ most
    by None absent = omega arith
    by (Some list) there =
        let no_more : most < length (items_of list) → ⊥ = λ long. none (finding 2 22 list.at key) (record { list = list; there = there; long = long; says = refl }) in
        few (length (items_of list)) most no_more

-- a list that is not too short
pub some_at : (least : ℕ) (ms : List Member) (key : List ℕ) (list : Tree) (items : List Tree) → value_at key ms ≡ Some list → array_in list ≡ Some items
    → ((f : Finding) → ¬ TooShort least ms key f) → least ≤ length (elements key ms)
unfolding elements
some_at least ms key list items there is none =
    let no_fewer : length items < least → ⊥ = λ short. none (finding 2 22 list.at key) (record { list = list; there = there; items = items; is_list = is; short = short; says = refl }) in
    subst (λ ts. least ≤ length ts) (sym (ap items_in there ∙ ap or_empty is)) (few least (length items) no_fewer)

-- the elements of a list are objects
pub are_objects : (ms : List Member) (key : List ℕ) → ((f : Finding) → ¬ WrongElement form.Object ms key f) → (element : Tree) → Among element (elements key ms)
    → (inner : List Member) × (object_in element ≡ Some inner)
unfolding elements fits
are_objects ms key none element among = by (value_at key ms) refl among
  where
    inside : (o : Option (List Member)) → object_in element ≡ o → (is_some o ≡ false → ⊥) → (inner : List Member) × (object_in element ≡ Some inner)
    inside None is no_way = absurd (no_way refl)
    inside (Some inner) is no_way = (inner, is)

    by : (v : Option Tree) → value_at key ms ≡ v → Among element (items_in v) → (inner : List Member) × (object_in element ≡ Some inner)
    by None absent h = absurd h
    by (Some list) there h =
        inside (object_in element) refl
        (λ unfit. none (finding 2 22 list.at key) (record { list = list; there = there; element = element; among = h; unfit = unfit; says = refl }))
