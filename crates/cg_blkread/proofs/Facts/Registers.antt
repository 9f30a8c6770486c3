-- What entries break of the rules on keys and the profile, as lists and as facts.
use Rattle.std.proofs.Common.{◌≡◌, ℕ, ◌==◌, Bool, true, false, not, ◌&&◌, ◌||◌, nat_lt, cond, is_some, ◌⊎◌, inl, inr, List, [], ◌∷◌, length, codes, Option, Some, None, option_and_then, refl, ap, subst, arith}
use Rattle.std.proofs.lemmas.Bool.{and_from, and_parts, eqb-true, lt-ltb, ltb-true, or_cases, or_left, or_right}
use Rattle.std.proofs.lemmas.Option.{option_and_then_some}
use Rattle.std.specs.List.{list_all}
use Rattle.std.specs.Option.{option_map_or, unwrap_or}
use Rattle.cg_desc.specs.declared.block.SwAccess.{SwAccess}
use Rattle.cg_desc.specs.declared.block.SwAccess.TheVariants.{Ro, Rw, Wo, Nothing}
use Rattle.cg_hjson.specs.declared.tree.Tree.{Tree}
use Rattle.cg_hjson.specs.declared.tree.Member.{Member}
use Rattle.cg_finding.specs.Finding.{Among, Finding, In, finding}
use Rattle.cg_finding.specs.Rules.{outside_the_profile, wrong_kind}
use Rattle.cg_finding.proofs.Members.{in_unless, unless_has}
use Rattle.cg_finding.proofs.Membership.{all_fails, all_pass, fails_all, pass_all}
use Rattle.cg_keys.specs.Elements.{element_faults, elements, item_faults, list_faults, object_faults}
use Rattle.cg_keys.specs.Forms.{boolean_in, fits, fits_one, rule_broken, software}
use Rattle.cg_keys.specs.Lookups.{boolean_at, is_fit_at}
use Rattle.cg_keys.specs.Table.{Key, table_faults, value_at, value_faults}
use Rattle.cg_keys.specs.Values.{array_in, items_of, members_of, object_in, or_empty, text_in}
use Rattle.cg_keys.specs.Violations.{BreaksTable}
use Rattle.cg_keys.specs.declared.forms.Form.{Form}
use Rattle.cg_keys.specs.declared.forms.Form.TheVariants.{Boolean, Object}
use Rattle.cg_keys.proofs.Relation.{in_table_faults, table_faults_has}
use Rattle.cg_blkread.specs.Bits.{bits_in, width_of}
use Rattle.cg_blkread.specs.Facts.Parts.{HasAt, HasTrueAt}
use Rattle.cg_blkread.specs.Facts.Profile.{CannotBeCompact, Counts, HasFields, HasOtherKind, HasOtherWidth, IsBooleanIfAny, IsWordOf, SoftwareCounts, own, of_register, neither}
use Rattle.cg_blkread.specs.Keys.{compact_outside, fields_are_objects, has_other_kind, has_other_width, kind_that_counts, mubi_outside, outside_if_true, outside_key, takes_mubi}
use Rattle.cg_blkread.specs.declared.raw.Bits.{Bits}
use Rattle.cg_blkread.proofs.Facts.Values.{is_none, none_is}

-- ---- keys that count by their presence, or where they are true

-- a key of an object is there, and this is told at its value
pub record ToldAt (key : List ℕ) (t : Tree) (f : Finding) : Type 0 where
  pub value : Tree
  pub there : HasAt key t value
  pub says : f ≡ outside_the_profile value.at key

pub outside_tells : (key : List ℕ) (t : Tree) (f : Finding) → In f (outside_key (members_of t) key) → ToldAt key t f
unfolding outside_key
outside_tells key t f among = by (value_at key (members_of t)) refl among where
  by : (o : Option Tree) → value_at key (members_of t) ≡ o → In f (option_map_or (λ (v : Tree). finding 2 26 v.at key ∷ []) o []) → ToldAt key t f
  by None is among = absurd among
  by (Some v) is (inl says) = record { value = v; there = is; says = says }
  by (Some v) is (inr rest) = absurd rest

pub outside_has : (key : List ℕ) (t value : Tree) → HasAt key t value → In (outside_the_profile value.at key) (outside_key (members_of t) key)
unfolding outside_key
outside_has key t value there = rw there (inl refl)

-- the same, where the value is true
pub record TrueAt (key : List ℕ) (t : Tree) (f : Finding) : Type 0 where
  pub value : Tree
  pub there : HasTrueAt key t value
  pub says : f ≡ outside_the_profile value.at key

is_true : (o : Option Bool) → unwrap_or o false ≡ true → o ≡ Some true
is_true None h = cc
is_true (Some true) h = refl
is_true (Some false) h = cc

true_in : (key : List ℕ) (t value : Tree) → HasAt key t value → unwrap_or (boolean_at key (members_of t)) false ≡ true → boolean_in value ≡ Some true
unfolding boolean_at
true_in key t value there h =
    is_true (boolean_in value) (subst (λ (o : Option Tree). unwrap_or (option_and_then boolean_in o) false ≡ true) there h)

pub true_at : (key : List ℕ) (t value : Tree) → HasTrueAt key t value → unwrap_or (boolean_at key (members_of t)) false ≡ true
unfolding boolean_at
true_at key t value (there, is) = rw (there, is) refl

pub true_tells : (key : List ℕ) (t : Tree) (f : Finding) → In f (outside_if_true (members_of t) key) → TrueAt key t f
unfolding outside_if_true
true_tells key t f among = by (unwrap_or (boolean_at key (members_of t)) false) refl among where
  by : (b : Bool) → unwrap_or (boolean_at key (members_of t)) false ≡ b → In f (cond b (outside_key (members_of t) key) []) → TrueAt key t f
  by true is among = let told = outside_tells key t f among in record { value = told.value; there = (told.there, true_in key t told.value told.there is); says = told.says }
  by false is among = absurd among

pub true_has : (key : List ℕ) (t value : Tree) → HasTrueAt key t value → In (outside_the_profile value.at key) (outside_if_true (members_of t) key)
unfolding outside_if_true
true_has key t value there = rw (true_at key t value there) (outside_has key t value there.0)

-- what a test lets be looked for
pub in_looked : {X : Type 0} (b : Bool) (x : X) (xs : List X) → Among x (cond b xs []) → (b ≡ true) × Among x xs
in_looked true x xs among = (refl, among)
in_looked false x xs among = absurd among

pub looked_has : {X : Type 0} (b : Bool) (x : X) (xs : List X) → b ≡ true → Among x xs → Among x (cond b xs [])
looked_has true x xs is among = among
looked_has false x xs is among = cc

-- ---- values and their forms

pub value_tells : (key : List ℕ) (forms : List Form) (value : Tree) (f : Finding) → In f (value_faults key forms value)
    → (fits_one forms value ≡ false) × (f ≡ finding 2 (rule_broken forms value) value.at key)
unfolding value_faults
value_tells key forms value f among = in_unless (fits_one forms value) f (finding 2 (rule_broken forms value) value.at key) among

pub value_has : (key : List ℕ) (forms : List Form) (value : Tree) → fits_one forms value ≡ false → In (finding 2 (rule_broken forms value) value.at key) (value_faults key forms value)
unfolding value_faults
value_has key forms value unfit = unless_has (fits_one forms value) _ (finding 2 (rule_broken forms value) value.at key) unfit refl

-- what an object breaks of its table
pub record BreaksOwn (keys : List Key) (t : Tree) (f : Finding) : Type 0 where
  pub members : List Member
  pub is_object : object_in t ≡ Some members
  pub breaks : BreaksTable t.at members keys f

pub object_tells : (keys : List Key) (t : Tree) (f : Finding) → In f (object_faults keys t) → BreaksOwn keys t f
unfolding object_faults
object_tells keys t f among = by (object_in t) refl among where
  by : (o : Option (List Member)) → object_in t ≡ o → In f (elim o as (λ _. List Finding) [ None ↦ [] | Some ms ↦ table_faults t.at ms keys ]) → BreaksOwn keys t f
  by None is among = absurd among
  by (Some ms) is among = record { members = ms; is_object = is; breaks = in_table_faults t.at ms keys f among }

pub object_has : (keys : List Key) (t : Tree) (ms : List Member) (f : Finding) → object_in t ≡ Some ms → BreaksTable t.at ms keys f → In f (object_faults keys t)
unfolding object_faults
object_has keys t ms f is breaks = rw is (table_faults_has t.at ms keys f breaks)

-- ---- lists of objects

fits_object : (t : Tree) → fits Object t ≡ false → object_in t ≡ None
unfolding fits
fits_object t h = is_none (object_in t) h

pub object_unfit : (t : Tree) → object_in t ≡ None → fits Object t ≡ false
unfolding fits
object_unfit t h = none_is (object_in t) h

-- an element of a list is no object, and this is told at the list
pub record NoObject (key : List ℕ) (list : Tree) (f : Finding) : Type 0 where
  pub element : Tree
  pub among : Among element (items_of list)
  pub no_object : object_in element ≡ None
  pub says : f ≡ wrong_kind list.at key

pub list_tells : (key : List ℕ) (list : Tree) (f : Finding) → In f (list_faults Object key list) → NoObject key list f
unfolding list_faults
list_tells key list f among =
    let test = in_unless (list_all (fits Object) (items_of list)) f (wrong_kind list.at key) among in
    let one = all_fails (fits Object) (items_of list) test.0 in
    record { element = one.item; among = one.among; no_object = fits_object one.item one.fails; says = test.1 }

pub list_has : (key : List ℕ) (list element : Tree) → Among element (items_of list) → object_in element ≡ None → In (wrong_kind list.at key) (list_faults Object key list)
unfolding list_faults
list_has key list element among none =
    unless_has (list_all (fits Object) (items_of list)) _ (wrong_kind list.at key) (fails_all (fits Object) (items_of list) element among (object_unfit element none)) refl

-- the list stands at a key
pub record NoObjectAt (key : List ℕ) (t : Tree) (f : Finding) : Type 0 where
  pub list : Tree
  pub there : HasAt key t list
  pub fault : NoObject key list f

pub element_tells : (key : List ℕ) (t : Tree) (f : Finding) → In f (element_faults key (members_of t)) → NoObjectAt key t f
unfolding item_faults
element_tells key t f among = by (value_at key (members_of t)) refl among where
  by : (o : Option Tree) → value_at key (members_of t) ≡ o → In f (elim o as (λ _. List Finding) [ None ↦ [] | Some v ↦ list_faults Object key v ]) → NoObjectAt key t f
  by None is among = absurd among
  by (Some v) is among = record { list = v; there = is; fault = list_tells key v f among }

pub element_has : (key : List ℕ) (t list : Tree) (f : Finding) → HasAt key t list → In f (list_faults Object key list) → In f (element_faults key (members_of t))
unfolding item_faults
element_has key t list f there among = rw there among

-- ---- multi-bit booleans

other_number : (a b : ℕ) → not (a == b) ≡ true → ¬ (a ≡ b)
other_number a b h is = let same : not (b == b) ≡ true = subst (λ n. not (n == b) ≡ true) is h in by (b == b) (eq b) same where
  by : (c : Bool) → c ≡ true → not c ≡ true → ⊥
  by true e h = cc
  by false e h = cc

  eq : (n : ℕ) → (n == n) ≡ true
  eq n = grind arith

is_other_number : (a b : ℕ) → ¬ (a ≡ b) → not (a == b) ≡ true
is_other_number a b other = by (a == b) refl where
  by : (c : Bool) → (a == b) ≡ c → not c ≡ true
  by true e = absurd (other (eqb-true a b e))
  by false e = refl

width_tells : (field : Tree) → has_other_width (option_and_then bits_in (value_at (codes "bits") (members_of field))) ≡ true → HasOtherWidth field
width_tells field h = by (value_at (codes "bits") (members_of field)) refl h where
  by_bits : (value : Tree) (o : Option Bits) → HasAt (codes "bits") field value → bits_in value ≡ o → has_other_width o ≡ true → HasOtherWidth field
  by_bits value None there is h = cc
  by_bits value (Some b) there is h = record { value = value; bits = b; there = there; good = is; other = other_number (width_of b) 4 h }

  by : (o : Option Tree) → value_at (codes "bits") (members_of field) ≡ o → has_other_width (option_and_then bits_in o) ≡ true → HasOtherWidth field
  by None there h = cc
  by (Some value) there h = by_bits value (bits_in value) there refl h

width_has : (field : Tree) → HasOtherWidth field → has_other_width (option_and_then bits_in (value_at (codes "bits") (members_of field))) ≡ true
width_has field w = rw (w.there, w.good) (is_other_number (width_of w.bits) 4 w.other)

-- the kind of a value, where it is the word of one
kind_in : {K : Type 0} (kinds : List ℕ → Option K) (value : Tree) (k : K) → option_and_then kinds (text_in value) ≡ Some k → IsWordOf kinds value k
kind_in kinds value k h = option_and_then_some kinds (text_in value) k h (λ word text kind. (word, text, kind))

in_kind : {K : Type 0} (kinds : List ℕ → Option K) (value : Tree) (k : K) → IsWordOf kinds value k → option_and_then kinds (text_in value) ≡ Some k
in_kind kinds value k (word, text, kind) = rw text kind

pub same_some : {X : Type 0} (x y : X) → Some x ≡ Some y → x ≡ y
same_some x y is = ap (λ o. elim o [ Some z ↦ z | None ↦ x ]) is

-- the kind that counts for a field, by its word at a key
abbrev pub kind_at : {K : Type 0} → (List ℕ → Option K) → K → List ℕ → Tree → Tree → Option K
kind_at kinds otherwise key register field =
    option_map_or (λ t. option_and_then kinds (text_in t)) (value_at key (members_of field))
    (option_map_or (λ t. option_and_then kinds (text_in t)) (value_at key (members_of register)) (Some otherwise))

pub kind_tells_word : {K : Type 0} (kinds : List ℕ → Option K) (otherwise : K) (key : List ℕ) (register field : Tree) (k : K)
    → kind_at kinds otherwise key register field ≡ Some k → Counts kinds otherwise key register field k
kind_tells_word kinds otherwise key register field k h = by (value_at key (members_of field)) (value_at key (members_of register)) refl refl h where
  by : (o p : Option Tree) → value_at key (members_of field) ≡ o → value_at key (members_of register) ≡ p
      → option_map_or (λ t. option_and_then kinds (text_in t)) o (option_map_or (λ t. option_and_then kinds (text_in t)) p (Some otherwise)) ≡ Some k
      → Counts kinds otherwise key register field k
  by (Some v) p is_o is_p h = own v is_o (kind_in kinds v k h)
  by None (Some v) is_o is_p h = of_register v is_o is_p (kind_in kinds v k h)
  by None None is_o is_p h = subst (Counts kinds otherwise key register field) (same_some otherwise k h) (neither is_o is_p)

pub word_tells_kind : {K : Type 0} (kinds : List ℕ → Option K) (otherwise : K) (key : List ℕ) (register field : Tree) (k : K)
    → Counts kinds otherwise key register field k → kind_at kinds otherwise key register field ≡ Some k
word_tells_kind kinds otherwise key register field k (own v there is) = rw there (in_kind kinds v k is)
word_tells_kind kinds otherwise key register field k (of_register v absent there is) = rw (absent, there) (in_kind kinds v k is)
word_tells_kind kinds otherwise key register field _ (neither absent none) = rw (absent, none) refl

pub counts_tells : (register field : Tree) (k : SwAccess) → kind_that_counts (members_of register) (members_of field) ≡ Some k → SoftwareCounts register field k
unfolding kind_that_counts
counts_tells register field k h = kind_tells_word software Nothing (codes "swaccess") register field k h

pub counts_has : (register field : Tree) (k : SwAccess) → SoftwareCounts register field k → kind_that_counts (members_of register) (members_of field) ≡ Some k
unfolding kind_that_counts
counts_has register field k h = word_tells_kind software Nothing (codes "swaccess") register field k h

-- another kind than the three
record OtherKind (k : SwAccess) : Type 0 where
  not_rw : ¬ (k ≡ Rw)
  not_ro : ¬ (k ≡ Ro)
  not_wo : ¬ (k ≡ Wo)

untaken : (k : SwAccess) → takes_mubi k ≡ false → OtherKind k
untaken k h = record {
  not_rw = λ is. let taken : takes_mubi k ≡ true = ap takes_mubi is in cc;
  not_ro = λ is. let taken : takes_mubi k ≡ true = ap takes_mubi is in cc;
  not_wo = λ is. let taken : takes_mubi k ≡ true = ap takes_mubi is in cc;
}

is_untaken : (k : SwAccess) → OtherKind k → not (takes_mubi k) ≡ true
is_untaken Ro other = absurd (other.not_ro refl)
is_untaken Rw other = absurd (other.not_rw refl)
is_untaken Wo other = absurd (other.not_wo refl)
is_untaken k other = refl

pub not_true : (b : Bool) → not b ≡ true → b ≡ false
not_true true h = cc
not_true false h = refl

kind_tells : (register field : Tree) → has_other_kind (kind_that_counts (members_of register) (members_of field)) ≡ true → HasOtherKind register field
kind_tells register field h = by (kind_that_counts (members_of register) (members_of field)) refl h where
  by : (o : Option SwAccess) → kind_that_counts (members_of register) (members_of field) ≡ o → has_other_kind o ≡ true → HasOtherKind register field
  by None is h = cc
  by (Some k) is h =
      let other = untaken k (not_true (takes_mubi k) h) in
      record { kind = k; counts = counts_tells register field k is; not_rw = other.not_rw; not_ro = other.not_ro; not_wo = other.not_wo }

kind_has : (register field : Tree) → HasOtherKind register field → has_other_kind (kind_that_counts (members_of register) (members_of field)) ≡ true
kind_has register field h =
    rw (counts_has register field h.kind h.counts) (is_untaken h.kind (record { not_rw = h.not_rw; not_ro = h.not_ro; not_wo = h.not_wo }))

-- a multi-bit boolean that is outside
pub record MubiTold (register field : Tree) (f : Finding) : Type 0 where
  pub told : TrueAt (codes "mubi") field f
  pub why : HasOtherWidth field ⊎ HasOtherKind register field

pub mubi_tells : (register field : Tree) (f : Finding) → In f (mubi_outside (members_of register) (members_of field)) → MubiTold register field f
unfolding mubi_outside
mubi_tells register field f among =
    let wide : Bool = has_other_width (option_and_then bits_in (value_at (codes "bits") (members_of field))) in
    let other : Bool = has_other_kind (kind_that_counts (members_of register) (members_of field)) in
    let looked = in_looked (wide || other) f (outside_if_true (members_of field) (codes "mubi")) among in
    record {
      told = true_tells (codes "mubi") field f looked.1;
      why = elim (or_cases wide other looked.0) [ inl h ↦ inl (width_tells field h) | inr h ↦ inr (kind_tells register field h) ];
    }

pub mubi_has : (register field value : Tree) → HasTrueAt (codes "mubi") field value → HasOtherWidth field ⊎ HasOtherKind register field
    → In (outside_the_profile value.at (codes "mubi")) (mubi_outside (members_of register) (members_of field))
unfolding mubi_outside
mubi_has register field value there why =
    let wide : Bool = has_other_width (option_and_then bits_in (value_at (codes "bits") (members_of field))) in
    let other : Bool = has_other_kind (kind_that_counts (members_of register) (members_of field)) in
    looked_has (wide || other) _ (outside_if_true (members_of field) (codes "mubi"))
    (elim why [ inl h ↦ or_left wide other (width_has field h) | inr h ↦ or_right wide other (kind_has register field h) ])
    (true_has (codes "mubi") field value there)

-- ---- compacted copies

fields_tell : (m : Tree) → fields_are_objects (members_of m) ≡ true → HasFields m (elements (codes "fields") (members_of m))
unfolding fields_are_objects elements
fields_tell m h = by (value_at (codes "fields") (members_of m)) refl h where
  by_list : (v : Tree) (o : Option (List Tree)) → HasAt (codes "fields") m v → array_in v ≡ o → option_map_or (list_all (fits Object)) o false ≡ true → HasFields m (or_empty o)
  by_list v None there is h = cc
  by_list v (Some fs) there is h =
      record { value = v; there = there; is_list = is; objects = λ f among none. let unfit : fits Object f ≡ false = object_unfit f none in let fit : fits Object f ≡ true = all_pass (fits Object) fs h f among in cc }

  by : (o : Option Tree) → value_at (codes "fields") (members_of m) ≡ o → option_map_or (λ t. option_map_or (list_all (fits Object)) (array_in t) false) o false ≡ true
      → HasFields m (elim o as (λ _. List Tree) [ None ↦ [] | Some v ↦ items_of v ])
  by None there h = cc
  by (Some v) there h = by_list v (array_in v) there refl h

fields_are : (m : Tree) (fs : List Tree) → HasFields m fs → elements (codes "fields") (members_of m) ≡ fs
unfolding elements
fields_are m fs h = rw (h.there, h.is_list) refl

pub object_fits : (t : Tree) → ¬ (object_in t ≡ None) → fits Object t ≡ true
unfolding fits
object_fits t other = by (object_in t) other where
  by : (o : Option (List Member)) → ¬ (o ≡ None) → is_some o ≡ true
  by None other = absurd (other refl)
  by (Some ms) other = refl

fields_have : (m : Tree) (fs : List Tree) → HasFields m fs → fields_are_objects (members_of m) ≡ true
unfolding fields_are_objects
fields_have m fs h = rw (h.there, h.is_list) (pass_all (fits Object) fs (λ f among. object_fits f (h.objects f among)))

-- a value at the key, if there is one, is a boolean
pub boolean_tells : (key : List ℕ) (t : Tree) → is_fit_at (Boolean ∷ []) key (members_of t) ≡ true → IsBooleanIfAny key t
unfolding is_fit_at fits
boolean_tells key t h value there none =
    let fit : (is_some (boolean_in value) || false) ≡ true = subst (λ (o : Option Tree). option_map_or (fits_one (Boolean ∷ [])) o true ≡ true) there h in
    let unfit : is_some (boolean_in value) ≡ false = none_is (boolean_in value) none in
    cc

pub boolean_has : (key : List ℕ) (t : Tree) → IsBooleanIfAny key t → is_fit_at (Boolean ∷ []) key (members_of t) ≡ true
unfolding is_fit_at fits
boolean_has key t told = by (value_at key (members_of t)) refl where
  there : (o : Option Bool) → ¬ (o ≡ None) → (is_some o || false) ≡ true
  there None other = absurd (other refl)
  there (Some b) other = refl

  by : (o : Option Tree) → value_at key (members_of t) ≡ o → option_map_or (fits_one (Boolean ∷ [])) o true ≡ true
  by None is = refl
  by (Some v) is = there (boolean_in v) (told v is)

-- a boolean that is true stands at the key
pub true_there : (key : List ℕ) (t : Tree) → unwrap_or (boolean_at key (members_of t)) false ≡ true → (value : Tree) × HasTrueAt key t value
unfolding boolean_at
true_there key t h = by (value_at key (members_of t)) refl h where
  by : (o : Option Tree) → value_at key (members_of t) ≡ o → unwrap_or (option_and_then boolean_in o) false ≡ true → (value : Tree) × HasTrueAt key t value
  by None is h = cc
  by (Some v) is h = (v, (is, is_true (boolean_in v) h))

pub record CompactTold (m : Tree) (f : Finding) : Type 0 where
  pub told : TrueAt (codes "compact") m f
  pub cannot : CannotBeCompact m

pub compact_tells : (m : Tree) (f : Finding) → In f (compact_outside (members_of m)) → CompactTold m f
unfolding compact_outside
compact_tells m f among =
    let objects : Bool = fields_are_objects (members_of m) in
    let fit : Bool = is_fit_at (Boolean ∷ []) (codes "regwen_multi") (members_of m) in
    let several : Bool = nat_lt 1 (length (elements (codes "fields") (members_of m))) in
    let gated : Bool = unwrap_or (boolean_at (codes "regwen_multi") (members_of m)) false in
    let looked = in_looked (objects && (fit && (several || gated))) f (outside_if_true (members_of m) (codes "compact")) among in
    let first = and_parts objects (fit && (several || gated)) looked.0 in
    let second = and_parts fit (several || gated) first.1 in
    record {
      told = true_tells (codes "compact") m f looked.1;
      cannot = record {
        fields = elements (codes "fields") (members_of m);
        has_fields = fields_tell m first.0;
        gates_told = boolean_tells (codes "regwen_multi") m second.0;
        why = elim (or_cases several gated second.1) [
          | inl h ↦ inl (ltb-true 1 (length (elements (codes "fields") (members_of m))) h)
          | inr h ↦ inr (true_there (codes "regwen_multi") m h)
        ];
      };
    }

pub compact_has : (m value : Tree) → HasTrueAt (codes "compact") m value → CannotBeCompact m → In (outside_the_profile value.at (codes "compact")) (compact_outside (members_of m))
unfolding compact_outside
compact_has m value there cannot =
    let objects : Bool = fields_are_objects (members_of m) in
    let fit : Bool = is_fit_at (Boolean ∷ []) (codes "regwen_multi") (members_of m) in
    let several : Bool = nat_lt 1 (length (elements (codes "fields") (members_of m))) in
    let gated : Bool = unwrap_or (boolean_at (codes "regwen_multi") (members_of m)) false in
    let why : (several || gated) ≡ true = elim cannot.why [
      | inl many ↦ or_left several gated (rw (fields_are m cannot.fields cannot.has_fields) (lt-ltb 1 (length cannot.fields) many))
      | inr one ↦ or_right several gated (true_at (codes "regwen_multi") m one.0 one.1)
    ] in
    looked_has (objects && (fit && (several || gated))) _ (outside_if_true (members_of m) (codes "compact"))
    (and_from objects (fit && (several || gated)) (fields_have m cannot.fields cannot.has_fields) (and_from fit (several || gated) (boolean_has (codes "regwen_multi") m cannot.gates_told) why))
    (true_has (codes "compact") m value there)
