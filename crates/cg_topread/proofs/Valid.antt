-- The description of a top that breaks no rule is valid.
use Rattle.std.proofs.Common.{◌≡◌, ℕ, ◌<◌, ◌≤◌, true, cond, is_some, List, [], ◌∷◌, ◌++◌, map, length, Option, Some, None, inl, inr, refl, sym, ap, subst, ◌∙◌, arith}
use Rattle.std.specs.Prelude.{codes, option_and_then, unwrap_or}
use Rattle.std.proofs.lemmas.List.{length-map}
use Rattle.cg_svspec.specs.Names.{Among}
use Rattle.cg_svspec.specs.Printable.{AllOf}
use Rattle.cg_desc.specs.Top.{IsValidInstance, IsValidTop, IsValidUse}
use Rattle.cg_desc.specs.Valid.{IsShortName}
use Rattle.cg_desc.specs.declared.place.At.{At}
use Rattle.cg_finding.specs.Finding.{Finding}
use Rattle.cg_finding.specs.Rules as rules
use Rattle.cg_hjson.specs.declared.tree.Tree.{Tree}
use Rattle.cg_hjson.specs.declared.tree.Member.{Member}
use Rattle.cg_keys.specs.Elements.{elements, items_in}
use Rattle.cg_keys.specs.Forms.{fits, is_name, name_limit}
use Rattle.cg_keys.specs.Lists.{InElement, InObject, WrongElement}
use Rattle.cg_keys.specs.Lookups.{object_at, text_at}
use Rattle.cg_keys.specs.Table.{may, needs, value_at}
use Rattle.cg_keys.specs.Values.{array_in, items_of, members_of, object_in, or_empty}
use Rattle.cg_keys.specs.declared.forms.Form.TheVariants as form
use Rattle.cg_keys.proofs.Fitting.{Whole, are_objects, few_at, fits_row, name_or, name_or_empty, name_there, needed_row, one_form, some_at}
use Rattle.cg_keys.proofs.NameTests.{is_name_tells}
use Rattle.cg_topread.specs.Described.{hart, instance_in, name_in, names_at, space_in, signal_in, spaces_in, text_or_empty, top_of, use_in}
use Rattle.cg_topread.specs.Listed.{members_at}
use Rattle.cg_topread.specs.Tables.{instance_keys, named_keys, top_keys, use_keys}
use Rattle.cg_topread.specs.Violations as fact
use Rattle.cg_topread.specs.Violations.{BreaksClocks, BreaksInstance, BreaksNamed, BreaksNames, BreaksPinmux, BreaksPinout, BreaksResets, BreaksTop, BreaksUse, TooManyTypes, Violates}
use Rattle.cg_nodes.specs.Listed.{new_names}
use Rattle.cg_topread.specs.Types.{if_name, type_count, type_in, types_in}
use Rattle.cg_topread.proofs.ValidBases.{valid_bases, valid_faces}
use Rattle.cg_topread.proofs.FewTypes.{few_types}

-- nothing of this kind is broken
abbrev None_of : (Finding → Type 0) → Type 0
None_of Breaks = (f : Finding) → ¬ Breaks f

-- ---- lists

all_map : {X Y : Type 0} (P : Y → Type 0) (view : X → Y) (xs : List X) → ((x : X) → Among x xs → P (view x)) → AllOf P (map view xs)
all_map P view [] each = tt
all_map P view (x ∷ xs) each = (each x (inl refl), all_map P view xs (λ y among. each y (inr among)))

all_append : {X : Type 0} (P : X → Type 0) (xs ys : List X) → AllOf P xs → AllOf P ys → AllOf P (xs ++ ys)
all_append P [] ys a b = b
all_append P (x ∷ xs) ys a b = (a.0, all_append P xs ys a.1 b)

-- an element of a list of objects that breaks nothing
record IsSound (Breaks : At → List Member → Finding → Type 0) (t : Tree) : Type 0 where
  pub inner : List Member
  pub object : object_in t ≡ Some inner
  pub whole : None_of (Breaks t.at inner)

sound : (Breaks : At → List Member → Finding → Type 0) (ms : List Member) (key : List ℕ) → None_of (WrongElement form.Object ms key) → None_of (InElement Breaks ms key)
    → (t : Tree) → Among t (elements key ms) → IsSound Breaks t
sound Breaks ms key no_kind no_inner t among =
    let inside = are_objects ms key no_kind t among in
    record { inner = inside.0; object = inside.1; whole = λ f broken. no_inner f (record { element = t; among = among; inner = inside.0; object = inside.1; breaks = broken }) }

same_members : (Breaks : At → List Member → Finding → Type 0) (t : Tree) (s : IsSound Breaks t) → members_of t ≡ s.inner
same_members Breaks t s = ap or_empty s.object

-- what the members of an object at a key have that breaks nothing, where nothing has it too
at_object : (P : List Member → Type 0) (Breaks : At → List Member → Finding → Type 0) (ms : List Member) (key : List ℕ) → None_of (InObject Breaks ms key)
    → P [] → ((opener : At) (inner : List Member) → None_of (Breaks opener inner) → P inner) → P (members_at key ms)
unfolding members_at object_at
at_object P Breaks ms key none empty each = by (value_at key ms) refl
  where
    inside : (t : Tree) → value_at key ms ≡ Some t → (o : Option (List Member)) → object_in t ≡ o → P (or_empty o)
    inside t there None is = empty
    inside t there (Some inner) is = each t.at inner (λ f broken. none f (record { value = t; there = there; inner = inner; object = is; breaks = broken }))

    by : (v : Option Tree) → value_at key ms ≡ v → P (or_empty (option_and_then object_in v))
    by None absent = empty
    by (Some t) there = inside t there (object_in t) refl

-- ---- names

named : (t : Tree) → IsSound BreaksNamed t → IsShortName (name_in t)
unfolding name_in text_or_empty
named t s =
    subst (λ ms. IsShortName (unwrap_or (text_at (codes "name") ms) [])) (sym (same_members BreaksNamed t s))
    (name_or_empty s.inner (codes "name") (needed_row t.at s.inner named_keys s.whole (needs (codes "name") (form.Name ∷ [])) (inl refl) refl))

sound_named : (key : List ℕ) (ms : List Member) → None_of (BreaksNames key ms) → (t : Tree) → Among t (elements key ms) → IsSound BreaksNamed t
sound_named key ms none t among = sound BreaksNamed ms key (λ f w. none f (fact.no_object w)) (λ f w. none f (fact.in_element w)) t among

names_good : (key : List ℕ) (ms : List Member) → None_of (BreaksNames key ms) → AllOf IsShortName (names_at key ms)
unfolding names_at
names_good key ms none = all_map IsShortName name_in (elements key ms) (λ t among. named t (sound_named key ms none t among))

abbrev NamesAreGood : List ℕ → List Member → Type 0
NamesAreGood key ms = AllOf IsShortName (names_at key ms)

no_names : (key : List ℕ) → NamesAreGood key []
unfolding names_at elements value_at
no_names key = tt

-- ---- spaces

hart_is_name : IsShortName hart
unfolding is_name
hart_is_name = (is_name_tells name_limit hart).0 refl

named_space : (ms : List Member) → None_of (BreaksNames (codes "addr_spaces") ms) → (t : Tree) → Among t (elements (codes "addr_spaces") ms) → IsShortName (space_in t).name
unfolding space_in
named_space ms none t among = named t (sound_named (codes "addr_spaces") ms none t among)

listed : (key : List ℕ) (ms : List Member) (list : Tree) → value_at key ms ≡ Some list → (t : Tree) → Among t (items_of list) → Among t (elements key ms)
unfolding elements
listed key ms list there t among = subst (λ (v : Option Tree). Among t (items_in v)) (sym there) among

spaces_good : (opener : At) (ms : List Member) → None_of (BreaksNames (codes "addr_spaces") ms) → AllOf (λ s. IsShortName s.name) (spaces_in opener (value_at (codes "addr_spaces") ms))
spaces_good opener ms none = by (value_at (codes "addr_spaces") ms) refl
  where
    by : (v : Option Tree) → value_at (codes "addr_spaces") ms ≡ v → AllOf (λ s. IsShortName s.name) (spaces_in opener v)
    by None absent = (hart_is_name, tt)
    by (Some list) there =
        all_map (λ s. IsShortName s.name) space_in (items_of list)
        (λ t among. named_space ms none t (listed (codes "addr_spaces") ms list there t among))

spaces_count : (opener : At) (ms : List Member) (P : ℕ → Type 0) → P 1 → ((list : Tree) → value_at (codes "addr_spaces") ms ≡ Some list → P (length (items_of list)))
    → P (length (spaces_in opener (value_at (codes "addr_spaces") ms)))
spaces_count opener ms P one each = by (value_at (codes "addr_spaces") ms) refl
  where
    by : (v : Option Tree) → value_at (codes "addr_spaces") ms ≡ v → P (length (spaces_in opener v))
    by None absent = one
    by (Some list) there = subst P (sym (length-map (items_of list) space_in)) (each list there)

some_items : (list : Tree) → fits form.Items list ≡ true → (items : List Tree) × (array_in list ≡ Some items)
unfolding fits
some_items list fit = by (array_in list) fit
  where
    by : (o : Option (List Tree)) → is_some o ≡ true → (items : List Tree) × (o ≡ Some items)
    by None h = cc
    by (Some items) h = (items, refl)

same_count : (ms : List Member) (key : List ℕ) (list : Tree) (P : ℕ → Type 0) → value_at key ms ≡ Some list → P (length (elements key ms)) → P (length (items_of list))
unfolding elements
same_count ms key list P there p = subst (λ (v : Option Tree). P (length (items_in v))) there p

-- ---- instances and crossbars

instance_good : (t : Tree) → IsSound BreaksInstance t → IsValidInstance (instance_in t)
unfolding instance_in name_in text_or_empty
instance_good t s = record {
  name = subst (λ ms. IsShortName (unwrap_or (text_at (codes "name") ms) [])) (sym same) (name_or_empty s.inner (codes "name") (needed_row t.at s.inner instance_keys whole (needs (codes "name") (form.Name ∷ [])) (inl refl) refl));
  kind = subst (λ ms. IsShortName (unwrap_or (text_at (codes "type") ms) [])) (sym same) (name_or_empty s.inner (codes "type") (needed_row t.at s.inner instance_keys whole (needs (codes "type") (form.Name ∷ [])) (inr (inl refl)) refl));
  base = valid_bases (members_of t) (codes "base_addr");
  bases = valid_faces (members_at (codes "base_addrs") (members_of t));
}
  where
    same : members_of t ≡ s.inner
    same = same_members BreaksInstance t s

    whole : Whole t.at s.inner instance_keys
    whole f broken = s.whole f (fact.keys broken)

use_good : (t : Tree) → IsSound BreaksUse t → IsValidUse (use_in t)
unfolding use_in name_in text_or_empty
use_good t s = record {
  name = subst (λ ms. IsShortName (unwrap_or (text_at (codes "name") ms) [])) (sym same) (name_or_empty s.inner (codes "name") (needed_row t.at s.inner use_keys whole (needs (codes "name") (form.Name ∷ [])) (inl refl) refl));
  space =
      subst (λ ms. IsShortName (unwrap_or (text_at (codes "addr_space") ms) hart)) (sym same)
      (name_or s.inner (codes "addr_space") hart (λ value there. fits_row t.at s.inner use_keys whole (may (codes "addr_space") (form.Name ∷ [])) (inr (inl refl)) value there) hart_is_name);
}
  where
    same : members_of t ≡ s.inner
    same = same_members BreaksUse t s

    whole : Whole t.at s.inner use_keys
    whole f broken = s.whole f (fact.keys broken)

-- ---- types

kind_there : (t : Tree) → IsSound BreaksInstance t → type_in t ≡ Some (instance_in t).kind
unfolding type_in instance_in text_or_empty
kind_there t s =
    let n = needed_row t.at s.inner instance_keys (λ f broken. s.whole f (fact.keys broken)) (needs (codes "type") (form.Name ∷ [])) (inr (inl refl)) refl in
    let kind = name_there s.inner (codes "type") n.value n.there n.fit in
    let text : text_at (codes "type") (members_of t) ≡ Some kind.0 = ap (text_at (codes "type")) (same_members BreaksInstance t s) ∙ kind.1 in
    ap (option_and_then if_name) text
    ∙ ap (λ b. cond b (Some kind.0) None) ((is_name_tells name_limit kind.0).1 kind.2)
    ∙ ap (λ o. Some (unwrap_or o [])) (sym text)

not_many : (n : ℕ) → (64 < n → ⊥) → n ≤ 64
not_many n no_more = omega (arith, no_more)

no_type : type_count [] ≤ 64
unfolding type_count types_in new_names
no_type = omega arith

few_kinds : (ms : List Member) → None_of (TooManyTypes ms) → type_count (elements (codes "module") ms) ≤ 64
unfolding elements
few_kinds ms none = by (value_at (codes "module") ms) refl
  where
    by : (v : Option Tree) → value_at (codes "module") ms ≡ v → type_count (items_in v) ≤ 64
    by None absent = no_type
    by (Some list) there = not_many (type_count (items_of list)) (λ many. none (rules.wrong_kind list.at (codes "module")) (record { list = list; there = there; many = many; says = refl }))

-- ---- the top

abbrev AllSources : List Member → Type 0
AllSources clocks = AllOf IsShortName (names_at (codes "srcs") clocks ++ names_at (codes "derived_srcs") clocks)

clocks_good : (opener : At) (clocks : List Member) → None_of (BreaksClocks opener clocks) → AllSources clocks
clocks_good opener clocks none =
    all_append IsShortName (names_at (codes "srcs") clocks) (names_at (codes "derived_srcs") clocks)
    (names_good (codes "srcs") clocks (λ f broken. none f (fact.sources broken)))
    (names_good (codes "derived_srcs") clocks (λ f broken. none f (fact.derived broken)))

no_clocks : AllSources []
no_clocks = all_append IsShortName (names_at (codes "srcs") []) (names_at (codes "derived_srcs") []) (no_names (codes "srcs")) (no_names (codes "derived_srcs"))

pads_few : (opener : At) (pinout : List Member) → None_of (BreaksPinout opener pinout) → length (names_at (codes "pads") pinout) ≤ 256
unfolding names_at
pads_few opener pinout none =
    subst (λ n. n ≤ 256) (sym (length-map (elements (codes "pads") pinout) name_in)) (few_at 256 pinout (codes "pads") (λ f broken. none f (fact.many_pads broken)))

no_pads : length (names_at (codes "pads") []) ≤ 256
unfolding names_at elements value_at
no_pads = omega arith

signals_few : (opener : At) (pinmux : List Member) → None_of (BreaksPinmux opener pinmux) → length (map signal_in (elements (codes "signals") pinmux)) ≤ 1024
signals_few opener pinmux none =
    subst (λ n. n ≤ 1024) (sym (length-map (elements (codes "signals") pinmux) signal_in)) (few_at 1024 pinmux (codes "signals") (λ f broken. none f (fact.many_signals broken)))

no_signals : length (map signal_in (elements (codes "signals") [])) ≤ 1024
unfolding elements value_at
no_signals = omega arith

top_good : (t : Tree) (file : ℕ) → None_of (BreaksTop t.at (members_of t)) → IsValidTop (top_of file t)
unfolding top_of text_or_empty
top_good t file none = record {
  name = name_or_empty ms (codes "name") (needed_row t.at ms top_keys whole (needs (codes "name") (form.Name ∷ [])) (inl refl) refl);
  sources = at_object AllSources BreaksClocks ms (codes "clocks") (λ f b. none f (fact.in_clocks b)) no_clocks clocks_good;
  resets =
      at_object (NamesAreGood (codes "nodes")) BreaksResets ms (codes "resets") (λ f b. none f (fact.in_resets b)) (no_names (codes "nodes"))
      (λ opener inner whole. names_good (codes "nodes") inner (λ f b. whole f (fact.nodes b)));
  spaces = spaces_good t.at ms (λ f b. none f (fact.spaces b));
  some_space = spaces_count t.at ms (λ n. 0 < n) (omega arith) some;
  few_spaces = spaces_count t.at ms (λ n. n ≤ 8) (omega arith) few;
  instances = all_map IsValidInstance instance_in (elements (codes "module") ms) (λ u among. instance_good u (sound_instance u among));
  few_instances = subst (λ n. n ≤ 256) (sym (length-map (elements (codes "module") ms) instance_in)) (few_at 256 ms (codes "module") (λ f b. none f (fact.many_instances b)));
  few_types = few_types (elements (codes "module") ms) (λ u among. kind_there u (sound_instance u among)) (few_kinds ms (λ f b. none f (fact.many_types b)));
  crossbars = all_map IsValidUse use_in (elements (codes "xbar") ms) (λ u among. use_good u (sound BreaksUse ms (codes "xbar") (λ f b. none f (fact.no_crossbar b)) (λ f b. none f (fact.in_crossbar b)) u among));
  few_crossbars = subst (λ n. n ≤ 16) (sym (length-map (elements (codes "xbar") ms) use_in)) (few_at 16 ms (codes "xbar") (λ f b. none f (fact.many_crossbars b)));
  pads =
      at_object (NamesAreGood (codes "pads")) BreaksPinout ms (codes "pinout") (λ f b. none f (fact.in_pinout b)) (no_names (codes "pads"))
      (λ opener inner whole. names_good (codes "pads") inner (λ f b. whole f (fact.pads b)));
  few_pads = at_object (λ inner. length (names_at (codes "pads") inner) ≤ 256) BreaksPinout ms (codes "pinout") (λ f b. none f (fact.in_pinout b)) no_pads pads_few;
  few_signals =
      at_object (λ inner. length (map signal_in (elements (codes "signals") inner)) ≤ 1024) BreaksPinmux ms (codes "pinmux") (λ f b. none f (fact.in_pinmux b)) no_signals signals_few;
}
  where
    ms : List Member
    ms = members_of t

    whole : Whole t.at ms top_keys
    whole f broken = none f (fact.keys broken)

    sound_instance : (u : Tree) → Among u (elements (codes "module") ms) → IsSound BreaksInstance u
    sound_instance u among = sound BreaksInstance ms (codes "module") (λ f b. none f (fact.no_instance b)) (λ f b. none f (fact.in_instance b)) u among

    some : (list : Tree) → value_at (codes "addr_spaces") ms ≡ Some list → 0 < length (items_of list)
    some list there =
        let fit = fits_row t.at ms top_keys whole (may (codes "addr_spaces") (form.Items ∷ [])) (inr (inr (inr (inl refl)))) list there in
        let items = some_items list (one_form form.Items list fit) in
        let least = some_at 1 ms (codes "addr_spaces") list items.0 there items.1 (λ f b. none f (fact.no_space b)) in
        same_count ms (codes "addr_spaces") list (λ n. 0 < n) there (omega (arith, least))

    few : (list : Tree) → value_at (codes "addr_spaces") ms ≡ Some list → length (items_of list) ≤ 8
    few list there = same_count ms (codes "addr_spaces") list (λ n. n ≤ 8) there (few_at 8 ms (codes "addr_spaces") (λ f b. none f (fact.many_spaces b)))

pub valid_top : (file : ℕ) (t : Tree) → None_of (Violates t) → IsValidTop (top_of file t)
valid_top file t none = top_good t file (λ f broken. none f (fact.top broken))
