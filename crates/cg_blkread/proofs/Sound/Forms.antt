-- What a value is where its key is not broken.
use Rattle.std.proofs.Common.{◌≡◌, ℕ, ◌<◌, ◌≤◌, Bool, true, false, ◌||◌, ◌&&◌, is_some, length, List, [], ◌∷◌, Option, Some, None, option_and_then, refl, sym, ap, subst, arith}
use Rattle.std.specs.Prelude.{if◌then◌else◌, nat_le, unwrap_or}
use Rattle.std.specs.Option.{option_map_or}
use Rattle.std.proofs.lemmas.Bool.{false≢true, le-leb, leb-true}
use Rattle.cg_svspec.specs.Characters.{IsName}
use Rattle.cg_svspec.proofs.Runs.{both_pass}
use Rattle.cg_desc.specs.Valid.{IsNameIfAny, IsShortIfAny, IsShortName, IsShortNameIfAny}
use Rattle.cg_desc.specs.declared.place.At.{At}
use Rattle.cg_finding.specs.Finding.{finding}
use Rattle.cg_finding.specs.Rules.{wrong_kind}
use Rattle.cg_hjson.specs.declared.tree.Tree.{Tree}
use Rattle.cg_hjson.specs.declared.tree.Member.{Member}
use Rattle.cg_keys.specs.Elements.{elements, items_in, length_faults, length_wrong, wrong_length}
use Rattle.cg_keys.specs.Forms.{fits, fits_one, if_within, is_name, name_limit, number_in, number_within, rule_broken}
use Rattle.cg_keys.specs.Lookups.{is_fit_at, number_at, text_at}
use Rattle.cg_keys.specs.Table.{at_key, key_faults, may, needs, value_at, value_faults}
use Rattle.cg_keys.specs.Values.{array_in, or_empty, text_in}
use Rattle.cg_keys.specs.declared.forms.Form.{Form}
use Rattle.cg_keys.specs.declared.forms.Form.TheVariants.{Items, Name, Number}
use Rattle.cg_keys.proofs.NameTests.{is_name_tells}
use Rattle.cg_blkread.specs.Raw.{text_or_empty}
use Rattle.cg_blkread.proofs.Sound.Empty.{empty_unless}

or_false : (b : Bool) → (b || false) ≡ true → b ≡ true
or_false true h = refl
or_false false h = cc

-- a value of which nothing is found has the one form that it may have
pub one_form : (key : List ℕ) (form : Form) (t : Tree) → value_faults key (form ∷ []) t ≡ [] → fits form t ≡ true
unfolding value_faults
one_form key form t h = or_false (fits form t) (empty_unless (fits_one (form ∷ []) t) (finding 2 (rule_broken (form ∷ []) t) t.at key) h)

-- a value that has the form of a name is one, of at most 40 characters
name_in : (t : Tree) → fits Name t ≡ true → IsShortName (text_or_empty (text_in t))
unfolding fits
name_in t h = by (text_in t) h where
  by : (o : Option (List ℕ)) → option_map_or (is_name name_limit) o false ≡ true → IsShortName (text_or_empty o)
  by None h = absurd (false≢true h)
  by (Some s) h = (is_name_tells name_limit s).0 h

name_if_any : (t : Tree) → fits Name t ≡ true → IsShortNameIfAny (text_in t)
unfolding fits
name_if_any t h = by (text_in t) h where
  by : (o : Option (List ℕ)) → option_map_or (is_name name_limit) o false ≡ true → IsShortNameIfAny o
  by None h = tt
  by (Some s) h = (is_name_tells name_limit s).0 h

-- what a short name is
pub is_named : (o : Option (List ℕ)) → IsShortNameIfAny o → IsNameIfAny o
is_named None h = tt
is_named (Some s) h = h.0

pub is_short : (o : Option (List ℕ)) → IsShortNameIfAny o → IsShortIfAny o
is_short None h = tt
is_short (Some s) h = h.1

-- a needed name that is not broken is a name
pub needed_short_name : (opener : At) (ms : List Member) (key : List ℕ) → key_faults opener ms (needs key (Name ∷ [])) ≡ [] → IsShortName (text_or_empty (text_at key ms))
unfolding key_faults text_at
needed_short_name opener ms key h = by (value_at key ms) h where
  by : (o : Option Tree) → at_key opener (needs key (Name ∷ [])) o ≡ [] → IsShortName (text_or_empty (option_and_then text_in o))
  by None h = cc
  by (Some t) h = name_in t (one_form key Name t h)

pub needed_name : (opener : At) (ms : List Member) (key : List ℕ) → key_faults opener ms (needs key (Name ∷ [])) ≡ [] → IsName (text_or_empty (text_at key ms))
needed_name opener ms key h = (needed_short_name opener ms key h).0

-- a name that may be absent, and is not broken, is a name where it is there
pub possible_short_name : (opener : At) (ms : List Member) (key : List ℕ) → key_faults opener ms (may key (Name ∷ [])) ≡ [] → IsShortNameIfAny (text_at key ms)
unfolding key_faults text_at
possible_short_name opener ms key h = by (value_at key ms) h where
  by : (o : Option Tree) → at_key opener (may key (Name ∷ [])) o ≡ [] → IsShortNameIfAny (option_and_then text_in o)
  by None h = tt
  by (Some t) h = name_if_any t (one_form key Name t h)

pub possible_name : (opener : At) (ms : List Member) (key : List ℕ) → key_faults opener ms (may key (Name ∷ [])) ≡ [] → IsNameIfAny (text_at key ms)
possible_name opener ms key h = is_named (text_at key ms) (possible_short_name opener ms key h)

-- a needed key that is not broken is there
pub needed_there : (opener : At) (ms : List Member) (key : List ℕ) (forms : List Form) → key_faults opener ms (needs key forms) ≡ [] → is_some (value_at key ms) ≡ true
unfolding key_faults
needed_there opener ms key forms h = by (value_at key ms) h where
  by : (o : Option Tree) → at_key opener (needs key forms) o ≡ [] → is_some o ≡ true
  by None h = cc
  by (Some t) h = refl

-- a value that is not broken fits, needed or not
pub needed_fits : (opener : At) (ms : List Member) (key : List ℕ) (forms : List Form) → key_faults opener ms (needs key forms) ≡ [] → is_fit_at forms key ms ≡ true
unfolding key_faults is_fit_at value_faults
needed_fits opener ms key forms h = by (value_at key ms) h where
  by : (o : Option Tree) → at_key opener (needs key forms) o ≡ [] → option_map_or (fits_one forms) o true ≡ true
  by None h = refl
  by (Some t) h = empty_unless (fits_one forms t) (finding 2 (rule_broken forms t) t.at key) h

pub possible_fits : (opener : At) (ms : List Member) (key : List ℕ) (forms : List Form) → key_faults opener ms (may key forms) ≡ [] → is_fit_at forms key ms ≡ true
unfolding key_faults is_fit_at value_faults
possible_fits opener ms key forms h = by (value_at key ms) h where
  by : (o : Option Tree) → at_key opener (may key forms) o ≡ [] → option_map_or (fits_one forms) o true ≡ true
  by None h = refl
  by (Some t) h = empty_unless (fits_one forms t) (finding 2 (rule_broken forms t) t.at key) h

-- ---- widths

-- from 1 to this
abbrev pub IsWidthTo : ℕ → ℕ → Type 0
IsWidthTo most n = (0 < n) × (n ≤ most)

within_is : (b : Bool) (n : ℕ) → is_some (if b then Some n else None) ≡ true → b ≡ true
within_is true n h = refl
within_is false n h = absurd (false≢true h)

width_of_number : (most : ℕ) (o : Option ℕ) → most ≤ 4294967295 → is_some (option_and_then (if_within 1 most) o) ≡ true
    → IsWidthTo most (unwrap_or (option_and_then (if_within 0 4294967295) o) 1)
width_of_number most None word h = absurd (false≢true h)
width_of_number most (Some n) word h =
    let both = both_pass (nat_le 1 n) (nat_le n most) (within_is (nat_le 1 n && nat_le n most) n h) in
    let least : 1 ≤ n = leb-true 1 n both.0 in
    let within : n ≤ most = leb-true n most both.1 in
    let few : n ≤ 4294967295 = omega arith in
    let is : (nat_le 0 n && nat_le n 4294967295) ≡ true = (λ i. le-leb 0 n (omega arith) i && le-leb n 4294967295 few i) in
    subst (IsWidthTo most) (sym (ap (λ b. unwrap_or (if b then Some n else None) 1) is)) (omega arith, within)

number_fits : (most : ℕ) (t : Tree) → most ≤ 4294967295 → fits (Number 1 most) t ≡ true → IsWidthTo most (unwrap_or (number_within 0 4294967295 t) 1)
unfolding fits number_within
number_fits most t word h = width_of_number most (number_in t) word h

-- a width from 1 to this that may be absent, and then is 1
pub possible_width : (most : ℕ) (opener : At) (ms : List Member) (key : List ℕ) → 1 ≤ most → most ≤ 4294967295
    → key_faults opener ms (may key (Number 1 most ∷ [])) ≡ [] → IsWidthTo most (unwrap_or (number_at 0 4294967295 key ms) 1)
unfolding key_faults number_at
possible_width most opener ms key some word h = by (value_at key ms) h where
  by : (o : Option Tree) → at_key opener (may key (Number 1 most ∷ [])) o ≡ [] → IsWidthTo most (unwrap_or (option_and_then (number_within 0 4294967295) o) 1)
  by None h = (omega arith, some)
  by (Some t) h = number_fits most t word (one_form key (Number 1 most) t h)

-- ---- lengths

-- a list of which nothing is found is not too long
pub at_most : (least most : ℕ) (key : List ℕ) (ms : List Member) → length_faults least most key ms ≡ [] → length (elements key ms) ≤ most
unfolding length_faults elements
at_most least most key ms h = by (value_at key ms) h where
  by_list : (t : Tree) (o : Option (List Tree)) → wrong_length least most key t o ≡ [] → length (or_empty o) ≤ most
  by_list t None h = omega arith
  by_list t (Some ts) h =
      leb-true (length ts) most (both_pass (nat_le least (length ts)) (nat_le (length ts) most)
      (empty_unless (nat_le least (length ts) && nat_le (length ts) most) (wrong_kind t.at key) h)).1

  by : (o : Option Tree) → length_wrong least most key o ≡ [] → length (items_in o) ≤ most
  by None h = omega arith
  by (Some t) h = by_list t (array_in t) h

-- one that is there is not too short
pub at_least : (least most : ℕ) (key : List ℕ) (ms : List Member) → is_some (value_at key ms) ≡ true → is_fit_at (Items ∷ []) key ms ≡ true
    → length_faults least most key ms ≡ [] → least ≤ length (elements key ms)
unfolding length_faults elements is_fit_at fits
at_least least most key ms there fit h = by (value_at key ms) there fit h where
  by_list : (t : Tree) (o : Option (List Tree)) → (is_some o || false) ≡ true → wrong_length least most key t o ≡ [] → least ≤ length (or_empty o)
  by_list t None fit h = cc
  by_list t (Some ts) fit h =
      leb-true least (length ts) (both_pass (nat_le least (length ts)) (nat_le (length ts) most)
      (empty_unless (nat_le least (length ts) && nat_le (length ts) most) (wrong_kind t.at key) h)).0

  by : (o : Option Tree) → is_some o ≡ true → option_map_or (fits_one (Items ∷ [])) o true ≡ true → length_wrong least most key o ≡ [] → least ≤ length (items_in o)
  by None there fit h = cc
  by (Some t) there fit h = by_list t (array_in t) fit h
