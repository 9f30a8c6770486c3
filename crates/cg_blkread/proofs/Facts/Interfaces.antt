-- What interfaces together, and `registers` as a whole, break, as lists and as facts.
use Rattle.std.proofs.Common.{◌≡◌, ℕ, suc, ◌<◌, ◌==◌, Bool, true, false, not, ◌&&◌, ◌||◌, nat_lt, cond, is_some, ◌⊎◌, inl, inr, List, [], ◌∷◌, ◌++◌, length, codes, Option, Some, None, refl, sym, ap, ◌∙◌, subst, arith}
use Rattle.std.proofs.lemmas.Bool.{and_from, and_parts, eqb-true, false_from_ne_true, lt-ltb, ltb-true, not_from_false, or_cases, or_left, or_right}
use Rattle.std.specs.List.{flat_map, list_all, list_any}
use Rattle.std.specs.Option.{option_map_or}
use Rattle.std.specs.Str.{bytes_eq}
use Rattle.cg_desc.specs.declared.place.At.{At}
use Rattle.cg_hjson.specs.declared.tree.Tree.{Tree}
use Rattle.cg_hjson.specs.declared.tree.Member.{Member}
use Rattle.cg_finding.specs.Finding.{Among, Finding, In}
use Rattle.cg_finding.specs.Rules.{missing_key, wrong_kind}
use Rattle.cg_finding.proofs.Members.{flat_map_has, in_either, in_flat_map, in_left, in_right, in_unless, in_when, unless_has, when_has}
use Rattle.cg_finding.proofs.Membership.{all_pass, any_finds, fails_any, finds_any, is_same_text, pass_all, same_text}
use Rattle.cg_keys.specs.Forms.{fits, fits_one}
use Rattle.cg_keys.specs.Lookups.{is_fit_at}
use Rattle.cg_keys.specs.Table.{value_at}
use Rattle.cg_keys.specs.Values.{array_in, items_of, members_of, object_in, or_empty}
use Rattle.cg_keys.specs.declared.forms.Form.{Form}
use Rattle.cg_keys.specs.declared.forms.Form.TheVariants.{Name, Word}
use Rattle.cg_keys.specs.declared.words.Words.TheVariants.{Direction}
use Rattle.cg_blkread.specs.Facts.Interfaces.{AsksForList, BreaksInterfaces, many_devices as many, nameless, one_name, no_list_asked, list_asked, stray_entry, no_list, HasGoodInterfaces, HasStrayEntry, in_list, in_member, IsGoodInterface, TwoHaveOneName}
use Rattle.cg_blkread.specs.Facts.Parts.{HasAt}
use Rattle.cg_blkread.specs.Interfaces.{asks_for_list, at_value, devices, equal_names, first_members, has_same_names, has_stray_entries, hosts, interface_faults, interface_name, interfaces_are_good, is_entry_less, is_good_interface, many_devices, missing_list, missing_lists, nameless_devices, names_device, same_name, shape_faults}
use Rattle.cg_blkread.proofs.Facts.Entries.{first_is, has_object, is_first, no_items}
use Rattle.cg_blkread.proofs.Facts.Registers.{in_looked, looked_has, same_some}
use Rattle.cg_blkread.proofs.Facts.Values.{is_none, none_is}

-- ---- good interfaces

-- what has the form, where the key is there
fit_tells : (form : Form) (key : List ℕ) (t : Tree) → is_fit_at (form ∷ []) key (members_of t) ≡ true → (value : Tree) → HasAt key t value → fits form value ≡ true
unfolding is_fit_at
fit_tells form key t h value there =
    alone (fits form value) (subst (λ (o : Option Tree). option_map_or (fits_one (form ∷ [])) o true ≡ true) there h)
  where
    alone : (b : Bool) → (b || false) ≡ true → b ≡ true
    alone true h = refl
    alone false h = cc

fit_has : (form : Form) (key : List ℕ) (t : Tree) → ((value : Tree) → HasAt key t value → fits form value ≡ true) → is_fit_at (form ∷ []) key (members_of t) ≡ true
unfolding is_fit_at
fit_has form key t fit = by (value_at key (members_of t)) refl where
  by : (o : Option Tree) → value_at key (members_of t) ≡ o → option_map_or (fits_one (form ∷ [])) o true ≡ true
  by None is = refl
  by (Some v) is = or_left (fits form v) false (fit v is)

good_tells : (i : Tree) → is_good_interface i ≡ true → IsGoodInterface i
unfolding is_good_interface
good_tells i h =
    let ms : List Member = members_of i in
    let first = and_parts (is_some (object_in i)) _ h in
    let second = and_parts (is_some (value_at (codes "direction") ms)) _ first.1 in
    let third = and_parts (is_fit_at (Word Direction ∷ []) (codes "direction") ms) (is_fit_at (Name ∷ []) (codes "name") ms) second.1 in
    by (value_at (codes "direction") ms) refl second.0 (fit_tells (Word Direction) (codes "direction") i third.0) (fit_tells Name (codes "name") i third.1)
  where
    by : (o : Option Tree) → value_at (codes "direction") (members_of i) ≡ o → is_some o ≡ true
        → ((value : Tree) → HasAt (codes "direction") i value → fits (Word Direction) value ≡ true)
        → ((value : Tree) → HasAt (codes "name") i value → fits Name value ≡ true) → IsGoodInterface i
    by None is h directions names = cc
    by (Some d) is h directions names = record { direction = d; directed = is; is_direction = directions d is; named = names }

good_has : (i : Tree) → IsGoodInterface i → is_good_interface i ≡ true
unfolding is_good_interface
good_has i good =
    let ms : List Member = members_of i in
    let direction : is_some (value_at (codes "direction") ms) ≡ true = rw good.directed refl in
    let word : is_fit_at (Word Direction ∷ []) (codes "direction") ms ≡ true =
    fit_has (Word Direction) (codes "direction") i (λ value there. same value there) in
    let name : is_fit_at (Name ∷ []) (codes "name") ms ≡ true = fit_has Name (codes "name") i good.named in
    and_from (is_some (object_in i)) _ (has_object (codes "direction") i good.direction good.directed)
    (and_from (is_some (value_at (codes "direction") ms)) _ direction (and_from (is_fit_at (Word Direction ∷ []) (codes "direction") ms) (is_fit_at (Name ∷ []) (codes "name") ms) word name))
  where
    same : (value : Tree) → HasAt (codes "direction") i value → fits (Word Direction) value ≡ true
    same value there =
        let one : value ≡ good.direction = same_some value good.direction (sym there ∙ good.directed) in subst (λ v. fits (Word Direction) v ≡ true) (sym one) good.is_direction

all_good_tells : (t : Tree) → interfaces_are_good (members_of t) ≡ true → HasGoodInterfaces t
unfolding interfaces_are_good
all_good_tells t h = by (value_at (codes "bus_interfaces") (members_of t)) refl h where
  by_list : (v : Tree) (o : Option (List Tree)) → HasAt (codes "bus_interfaces") t v → array_in v ≡ o → option_map_or (list_all is_good_interface) o false ≡ true → HasGoodInterfaces t
  by_list v None there is h = cc
  by_list v (Some is') there is h =
      record { list = v; interfaces = is'; there = there; is_list = is; good = λ i among. good_tells i (all_pass is_good_interface is' h i among) }

  by : (o : Option Tree) → value_at (codes "bus_interfaces") (members_of t) ≡ o → option_map_or (λ v. option_map_or (list_all is_good_interface) (array_in v) false) o false ≡ true
      → HasGoodInterfaces t
  by None there h = cc
  by (Some v) there h = by_list v (array_in v) there refl h

all_good_has : (t : Tree) → HasGoodInterfaces t → interfaces_are_good (members_of t) ≡ true
unfolding interfaces_are_good
all_good_has t good = rw (good.there, good.is_list) (pass_all is_good_interface good.interfaces (λ i among. good_has i (good.good i among)))

-- ---- findings at a key

-- what is told at the value of a key that is there
at_tells : (key : List ℕ) (t : Tree) (g : At → Finding) (f : Finding) → In f (at_value key (members_of t) (λ at. g at ∷ []))
    → (v : Tree) × HasAt key t v × (f ≡ g v.at)
at_tells key t g f among = by (value_at key (members_of t)) refl among where
  by : (o : Option Tree) → value_at key (members_of t) ≡ o → In f (option_map_or (λ (v : Tree). g v.at ∷ []) o []) → (v : Tree) × HasAt key t v × (f ≡ g v.at)
  by None is among = absurd among
  by (Some v) is (inl says) = (v, is, says)
  by (Some v) is (inr rest) = absurd rest

at_has : (key : List ℕ) (t v : Tree) (g : At → Finding) → HasAt key t v → In (g v.at) (at_value key (members_of t) (λ at. g at ∷ []))
at_has key t v g there = rw there (inl refl)

-- ---- one name

same_tells : (a b : Option (List ℕ)) → same_name a b ≡ true → a ≡ b
same_tells None None h = refl
same_tells (Some a) (Some b) h = ap Some (same_text a b h)
same_tells (Some a) None h = cc
same_tells None (Some b) h = cc

same_has : (a b : Option (List ℕ)) → a ≡ b → same_name a b ≡ true
same_has a b is = subst (λ c. same_name a c ≡ true) is (itself a) where
  itself : (a : Option (List ℕ)) → same_name a a ≡ true
  itself None = refl
  itself (Some a) = is_same_text a a refl

two_tell : (is : List Tree) → has_same_names is ≡ true → TwoHaveOneName is
unfolding has_same_names
two_tell [] h = cc
two_tell (t ∷ ts) h =
    elim (or_cases (list_any (λ u. same_name (interface_name t) (interface_name u)) ts) (has_same_names ts) h) [
      | inl here ↦ let found = any_finds (λ u. same_name (interface_name t) (interface_name u)) ts here in record {
        before = [];
        one = t;
        after = ts;
        other = found.item;
        stands = refl;
        later = found.among;
        alike = same_tells (interface_name t) (interface_name found.item) found.passes;
      }
      | inr there ↦ let rest = two_tell ts there in record {
        before = t ∷ rest.before;
        one = rest.one;
        after = rest.after;
        other = rest.other;
        stands = ap (λ us. t ∷ us) rest.stands;
        later = rest.later;
        alike = rest.alike;
      }
    ]

two_have : (before after : List Tree) (one other : Tree) → Among other after → interface_name one ≡ interface_name other → has_same_names (before ++ one ∷ after) ≡ true
unfolding has_same_names
two_have [] after one other later alike =
    or_left (list_any (λ u. same_name (interface_name one) (interface_name u)) after) (has_same_names after)
    (finds_any (λ u. same_name (interface_name one) (interface_name u)) after other later (same_has (interface_name one) (interface_name other) alike))
two_have (t ∷ before) after one other later alike =
    or_right (list_any (λ u. same_name (interface_name t) (interface_name u)) (before ++ one ∷ after)) (has_same_names (before ++ one ∷ after))
    (two_have before after one other later alike)

are_two : (is : List Tree) → TwoHaveOneName is → has_same_names is ≡ true
are_two is two = subst (λ js. has_same_names js ≡ true) (sym two.stands) (two_have two.before two.after two.one two.other two.later two.alike)

-- ---- the shape of `registers`

asks_tells : (ds : List Tree) → asks_for_list ds ≡ true → AsksForList ds
asks_tells [] h = inl refl
asks_tells (d ∷ []) h = inr (d, refl, is_none (interface_name d) (not_true (is_some (interface_name d)) h)) where
  not_true : (b : Bool) → not b ≡ true → b ≡ false
  not_true true h = cc
  not_true false h = refl
asks_tells (d ∷ e ∷ ds) h = cc

asks_has : (ds : List Tree) → AsksForList ds → asks_for_list ds ≡ true
asks_has ds (inl none) = ap asks_for_list none
asks_has ds (inr (d, sole, unnamed)) = rw (sole, unnamed) refl

not_zero : (n : ℕ) → (suc n == 0) ≡ false
not_zero n = false_from_ne_true (suc n == 0) (λ h. let zero : suc n ≡ 0 = eqb-true (suc n) 0 h in absurd (omega arith))

-- a list with an entry
some_entry : (t : Tree) → not (is_entry_less t) ≡ true → (e : Tree) × Among e (items_of t)
some_entry t h = by (array_in t) h where
  by : (o : Option (List Tree)) → not (option_map_or (λ (ts : List Tree). length ts == 0) o true) ≡ true → (e : Tree) × Among e (or_empty o)
  by None h = cc
  by (Some []) h = cc
  by (Some (e ∷ es)) h = (e, inl refl)

has_entry : (t e : Tree) → Among e (items_of t) → not (is_entry_less t) ≡ true
has_entry t e among = by (array_in t) among where
  by : (o : Option (List Tree)) → Among e (or_empty o) → not (option_map_or (λ (ts : List Tree). length ts == 0) o true) ≡ true
  by None among = absurd among
  by (Some []) among = absurd among
  by (Some (d ∷ ds)) among = not_from_false (suc (length ds) == 0) (not_zero (length ds))

-- no device interface has this name
unnamed : (ds : List Tree) (name : List ℕ) → not (names_device ds name) ≡ true → (d : Tree) → Among d ds → ¬ (interface_name d ≡ Some name)
unnamed ds name h d among is =
    let passes : option_map_or (bytes_eq name) (interface_name d) false ≡ true = rw is (is_same_text name name refl) in
    let named : names_device ds name ≡ true = finds_any (λ d. option_map_or (bytes_eq name) (interface_name d) false) ds d among passes in
    let none : not (names_device ds name) ≡ false = ap not named in
    cc

has_unnamed : (ds : List Tree) (name : List ℕ) → ((d : Tree) → Among d ds → ¬ (interface_name d ≡ Some name)) → not (names_device ds name) ≡ true
has_unnamed ds name other =
    not_from_false (names_device ds name) (fails_any (λ d. option_map_or (bytes_eq name) (interface_name d) false) ds (λ d among h. other d among (by (interface_name d) h)))
  where
    by : (o : Option (List ℕ)) → option_map_or (bytes_eq name) o false ≡ true → o ≡ Some name
    by None h = cc
    by (Some n) h = ap Some (sym (same_text name n h))

empty_list : (ds : List Tree) → (length ds == 0) ≡ true → ds ≡ []
empty_list [] h = refl
empty_list (d ∷ ds) h = let zero : suc (length ds) ≡ 0 = eqb-true (suc (length ds)) 0 h in absurd (omega arith)

stray_tells : (ds : List Tree) (t : Tree) → has_stray_entries ds t (object_in t) ≡ true → HasStrayEntry ds t
stray_tells ds t h = by (object_in t) refl h where
  by : (o : Option (List Member)) → object_in t ≡ o → has_stray_entries ds t o ≡ true → HasStrayEntry ds t
  by None is h =
      let parts = and_parts (not (is_entry_less t)) (length ds == 0) h in
      let one = some_entry t parts.0 in
      in_list one.0 (empty_list ds parts.1) one.1
  by (Some ms) is h =
      let found = any_finds (λ (m : Member). not (names_device ds m.key) && not (is_entry_less m.value)) (first_members ms) h in
      let m : Member = found.item in
      let parts = and_parts (not (names_device ds m.key)) (not (is_entry_less m.value)) found.passes in
      let one = some_entry m.value parts.1 in
      in_member one.0 ms m.key m.value is (first_is ms m found.among) (unnamed ds m.key parts.0) one.1

stray_has : (ds : List Tree) (t : Tree) → HasStrayEntry ds t → has_stray_entries ds t (object_in t) ≡ true
stray_has ds t (in_list e none among) = by (object_in t) refl where
  by : (o : Option (List Member)) → object_in t ≡ o → has_stray_entries ds t o ≡ true
  by None is = and_from (not (is_entry_less t)) (length ds == 0) (has_entry t e among) (rw none refl)
  by (Some ms) is = absurd (subst (λ us. Among e us) (no_items t ms is) among)
stray_has ds t (in_member e ms key list is there other among) =
    let m = is_first ms key list there in
    let unknown : not (names_device ds m.member.key) ≡ true = subst (λ k. not (names_device ds k) ≡ true) m.key_is (has_unnamed ds key other) in
    let some : not (is_entry_less m.member.value) ≡ true = subst (λ v. not (is_entry_less v) ≡ true) m.value_is (has_entry list e among) in
    rw is
    (finds_any (λ (m : Member). not (names_device ds m.key) && not (is_entry_less m.value)) (first_members ms) m.member m.among
    (and_from (not (names_device ds m.member.key)) (not (is_entry_less m.member.value)) unknown some))

-- `registers` is of a wrong shape
abbrev is_misshapen : List Tree → Tree → Bool
is_misshapen ds t = (is_some (array_in t) && not (asks_for_list ds)) || ((is_some (object_in t) && asks_for_list ds) || has_stray_entries ds t (object_in t))

there_is : {X : Type 0} (o : Option X) → is_some o ≡ true → (x : X) × (o ≡ Some x)
there_is None h = cc
there_is (Some x) h = (x, refl)

asks_not : (ds : List Tree) → not (asks_for_list ds) ≡ true → ¬ AsksForList ds
asks_not ds h asks = let is : asks_for_list ds ≡ true = asks_has ds asks in let none : not (asks_for_list ds) ≡ false = ap not is in cc

not_asks : (ds : List Tree) → ¬ AsksForList ds → not (asks_for_list ds) ≡ true
not_asks ds other = by (asks_for_list ds) refl where
  by : (b : Bool) → asks_for_list ds ≡ b → not b ≡ true
  by true is = absurd (other (asks_tells ds is))
  by false is = refl

shape_tells : (t : Tree) (f : Finding) → HasGoodInterfaces t → In f (shape_faults (members_of t)) → BreaksInterfaces t f
unfolding shape_faults
shape_tells t f good among = by_value (value_at (codes "registers") (members_of t)) refl among where
  ds : List Tree
  ds = devices (members_of t)

  by_shape : (v : Tree) → HasAt (codes "registers") t v → is_misshapen ds v ≡ true → BreaksInterfaces t (wrong_kind v.at (codes "registers"))
  by_shape v there h =
      elim (or_cases (is_some (array_in v) && not (asks_for_list ds)) _ h) [
        | inl list ↦ let parts = and_parts (is_some (array_in v)) (not (asks_for_list ds)) list in
            let entries = there_is (array_in v) parts.0 in
            no_list_asked good v entries.0 there entries.1 (asks_not ds parts.1)
        | inr rest ↦ elim (or_cases (is_some (object_in v) && asks_for_list ds) (has_stray_entries ds v (object_in v)) rest) [
          | inl object ↦ let parts = and_parts (is_some (object_in v)) (asks_for_list ds) object in
              let lists = there_is (object_in v) parts.0 in
              list_asked good v lists.0 there lists.1 (asks_tells ds parts.1)
          | inr stray ↦ stray_entry good v there (stray_tells ds v stray)
        ]
      ]

  by_value : (o : Option Tree) → value_at (codes "registers") (members_of t) ≡ o
      → In f (option_map_or (λ (v : Tree). cond (is_misshapen ds v) (wrong_kind v.at (codes "registers") ∷ []) []) o []) → BreaksInterfaces t f
  by_value None there among = absurd among
  by_value (Some v) there among =
      let test = in_when (is_misshapen ds v) f (wrong_kind v.at (codes "registers")) among in
      subst (BreaksInterfaces t) (sym test.1) (by_shape v there test.0)

shape_has : (t v : Tree) → HasAt (codes "registers") t v → is_misshapen (devices (members_of t)) v ≡ true
    → In (wrong_kind v.at (codes "registers")) (shape_faults (members_of t))
unfolding shape_faults
shape_has t v there misshapen =
    rw there (when_has (is_misshapen (devices (members_of t)) v) (wrong_kind v.at (codes "registers")) (wrong_kind v.at (codes "registers")) misshapen refl)

is_there : {X : Type 0} (o : Option X) (x : X) → o ≡ Some x → is_some o ≡ true
is_there o x is = rw is refl

-- ---- the lists of named interfaces

missing_tells : (t : Tree) (f : Finding) → HasGoodInterfaces t → In f (missing_lists (members_of t)) → BreaksInterfaces t f
unfolding missing_lists
missing_tells t f good among = by_value (value_at (codes "registers") (members_of t)) refl among where
  ds : List Tree
  ds = devices (members_of t)

  by_name : (v d : Tree) (lists : List Member) (o : Option (List ℕ)) → HasAt (codes "registers") t v → object_in v ≡ Some lists → Among d ds → interface_name d ≡ o
      → In f (missing_list v.at lists o) → BreaksInterfaces t f
  by_name v d lists None there is device named among = absurd among
  by_name v d lists (Some name) there is device named among =
      let test = in_unless (is_some (value_at name lists)) f (missing_key v.at name) among in
      subst (BreaksInterfaces t) (sym test.1) (no_list good v lists d name there is device named (is_none (value_at name lists) test.0))

  by_object : (v : Tree) (o : Option (List Member)) → HasAt (codes "registers") t v → object_in v ≡ o
      → In f (option_map_or (λ lists. flat_map (λ d. missing_list v.at lists (interface_name d)) ds) o []) → BreaksInterfaces t f
  by_object v None there is among = absurd among
  by_object v (Some lists) there is among =
      let one = in_flat_map (λ d. missing_list v.at lists (interface_name d)) ds f among in
      by_name v one.item lists (interface_name one.item) there is one.among refl one.found

  by_value : (o : Option Tree) → value_at (codes "registers") (members_of t) ≡ o
      → In f (option_map_or (λ (v : Tree). option_map_or (λ lists. flat_map (λ d. missing_list v.at lists (interface_name d)) ds) (object_in v) []) o []) → BreaksInterfaces t f
  by_value None there among = absurd among
  by_value (Some v) there among = by_object v (object_in v) there refl among

missing_has : (t v d : Tree) (lists : List Member) (name : List ℕ) → HasAt (codes "registers") t v → object_in v ≡ Some lists → Among d (devices (members_of t))
    → interface_name d ≡ Some name → value_at name lists ≡ None → In (missing_key v.at name) (missing_lists (members_of t))
unfolding missing_lists
missing_has t v d lists name there is device named none =
    let told : In (missing_key v.at name) (missing_list v.at lists (interface_name d)) =
    rw named (unless_has (is_some (value_at name lists)) (missing_key v.at name) (missing_key v.at name) (none_is (value_at name lists) none) refl) in
    rw (there, is) (flat_map_has (λ d. missing_list v.at lists (interface_name d)) (devices (members_of t)) d (missing_key v.at name) device told)

-- ---- the number and the names of interfaces

many_tells : (t : Tree) (f : Finding) → In f (many_devices (members_of t)) → BreaksInterfaces t f
unfolding many_devices
many_tells t f among =
    let count : ℕ = length (devices (members_of t)) in
    let looked = in_looked (nat_lt 8 count) f (at_value (codes "bus_interfaces") (members_of t) (λ at. wrong_kind at (codes "bus_interfaces") ∷ [])) among in
    let told = at_tells (codes "bus_interfaces") t (λ at. wrong_kind at (codes "bus_interfaces")) f looked.1 in
    subst (BreaksInterfaces t) (sym told.2) (many told.0 told.1 (ltb-true 8 count looked.0))

many_has : (t v : Tree) → HasAt (codes "bus_interfaces") t v → 8 < length (devices (members_of t))
    → In (wrong_kind v.at (codes "bus_interfaces")) (many_devices (members_of t))
unfolding many_devices
many_has t v there count =
    looked_has (nat_lt 8 (length (devices (members_of t)))) _ (at_value (codes "bus_interfaces") (members_of t) (λ at. wrong_kind at (codes "bus_interfaces") ∷ []))
    (lt-ltb 8 (length (devices (members_of t))) count) (at_has (codes "bus_interfaces") t v (λ at. wrong_kind at (codes "bus_interfaces")) there)

abbrev nameless_one : Tree → List Finding
nameless_one d = cond (is_some (interface_name d)) [] (missing_key d.at (codes "name") ∷ [])

nameless_tells : (t : Tree) (f : Finding) → HasGoodInterfaces t → In f (nameless_devices (members_of t)) → BreaksInterfaces t f
unfolding nameless_devices
nameless_tells t f good among =
    let ds : List Tree = devices (members_of t) in
    let looked = in_looked (nat_lt 1 (length ds)) f (flat_map nameless_one ds) among in
    let one = in_flat_map nameless_one ds f looked.1 in
    let d : Tree = one.item in
    let test = in_unless (is_some (interface_name d)) f (missing_key d.at (codes "name")) one.found in
    subst (BreaksInterfaces t) (sym test.1) (nameless good d (ltb-true 1 (length ds) looked.0) one.among (is_none (interface_name d) test.0))

nameless_has : (t d : Tree) → 1 < length (devices (members_of t)) → Among d (devices (members_of t)) → interface_name d ≡ None
    → In (missing_key d.at (codes "name")) (nameless_devices (members_of t))
unfolding nameless_devices
nameless_has t d several among none =
    let ds : List Tree = devices (members_of t) in
    let found : Finding = missing_key d.at (codes "name") in
    looked_has (nat_lt 1 (length ds)) found (flat_map nameless_one ds) (lt-ltb 1 (length ds) several)
    (flat_map_has nameless_one ds d found among (unless_has (is_some (interface_name d)) found found (none_is (interface_name d) none) refl))

equal_tells : (t : Tree) (f : Finding) → HasGoodInterfaces t → In f (equal_names (members_of t)) → BreaksInterfaces t f
unfolding equal_names
equal_tells t f good among =
    let ds : Bool = has_same_names (devices (members_of t)) in
    let hs : Bool = has_same_names (hosts (members_of t)) in
    let looked = in_looked (ds || hs) f (at_value (codes "bus_interfaces") (members_of t) (λ at. wrong_kind at (codes "bus_interfaces") ∷ [])) among in
    let told = at_tells (codes "bus_interfaces") t (λ at. wrong_kind at (codes "bus_interfaces")) f looked.1 in
    let two : TwoHaveOneName (devices (members_of t)) ⊎ TwoHaveOneName (hosts (members_of t)) =
    elim (or_cases ds hs looked.0) [ inl h ↦ inl (two_tell (devices (members_of t)) h) | inr h ↦ inr (two_tell (hosts (members_of t)) h) ] in
    subst (BreaksInterfaces t) (sym told.2) (one_name good told.0 told.1 two)

equal_has : (t v : Tree) → HasAt (codes "bus_interfaces") t v → TwoHaveOneName (devices (members_of t)) ⊎ TwoHaveOneName (hosts (members_of t))
    → In (wrong_kind v.at (codes "bus_interfaces")) (equal_names (members_of t))
unfolding equal_names
equal_has t v there two =
    let ds : Bool = has_same_names (devices (members_of t)) in
    let hs : Bool = has_same_names (hosts (members_of t)) in
    looked_has (ds || hs) _ (at_value (codes "bus_interfaces") (members_of t) (λ at. wrong_kind at (codes "bus_interfaces") ∷ []))
    (elim two [ inl d ↦ or_left ds hs (are_two (devices (members_of t)) d) | inr h ↦ or_right ds hs (are_two (hosts (members_of t)) h) ])
    (at_has (codes "bus_interfaces") t v (λ at. wrong_kind at (codes "bus_interfaces")) there)

-- ---- all of it

abbrev together : List Member → List Finding
together ms = nameless_devices ms ++ (equal_names ms ++ (shape_faults ms ++ missing_lists ms))

pub interfaces_tell : (t : Tree) (f : Finding) → In f (interface_faults (members_of t)) → BreaksInterfaces t f
unfolding interface_faults
interfaces_tell t f among =
    let ms : List Member = members_of t in
    elim (in_either f (many_devices ms) (cond (interfaces_are_good ms) (together ms) []) among) [
      | inl h ↦ many_tells t f h
      | inr a ↦ let looked = in_looked (interfaces_are_good ms) f (together ms) a in
          let good = all_good_tells t looked.0 in
          elim (in_either f (nameless_devices ms) _ looked.1) [
            | inl h ↦ nameless_tells t f good h
            | inr b ↦ elim (in_either f (equal_names ms) _ b) [
              | inl h ↦ equal_tells t f good h
              | inr c ↦ elim (in_either f (shape_faults ms) (missing_lists ms) c) [ inl h ↦ shape_tells t f good h | inr h ↦ missing_tells t f good h ]
            ]
          ]
    ]

looked_for : (t : Tree) (f : Finding) → HasGoodInterfaces t → In f (together (members_of t)) → In f (interface_faults (members_of t))
unfolding interface_faults
looked_for t f good among =
    in_right f (many_devices (members_of t)) _ (looked_has (interfaces_are_good (members_of t)) f (together (members_of t)) (all_good_has t good) among)

in_shape : (ms : List Member) (f : Finding) → In f (shape_faults ms) → In f (together ms)
in_shape ms f among = in_right f (nameless_devices ms) _ (in_right f (equal_names ms) _ (in_left f (shape_faults ms) (missing_lists ms) among))

pub interfaces_have : (t : Tree) (f : Finding) → BreaksInterfaces t f → In f (interface_faults (members_of t))
unfolding interface_faults
interfaces_have t _ (many v there count) = in_left _ (many_devices (members_of t)) _ (many_has t v there count)
interfaces_have t _ (nameless good d several device none) =
    looked_for t _ good (in_left _ (nameless_devices (members_of t)) _ (nameless_has t d several device none))
interfaces_have t _ (one_name good v there two) =
    looked_for t _ good (in_right _ (nameless_devices (members_of t)) _ (in_left _ (equal_names (members_of t)) _ (equal_has t v there two)))
interfaces_have t _ (no_list_asked good v entries there is other) =
    let ds : List Tree = devices (members_of t) in
    looked_for t _ good (in_shape (members_of t) _ (shape_has t v there
    (or_left (is_some (array_in v) && not (asks_for_list ds)) _
    (and_from (is_some (array_in v)) (not (asks_for_list ds)) (is_there (array_in v) entries is) (not_asks ds other)))))
interfaces_have t _ (list_asked good v lists there is asks) =
    let ds : List Tree = devices (members_of t) in
    looked_for t _ good (in_shape (members_of t) _ (shape_has t v there
    (or_right (is_some (array_in v) && not (asks_for_list ds)) _ (or_left (is_some (object_in v) && asks_for_list ds) _
    (and_from (is_some (object_in v)) (asks_for_list ds) (is_there (object_in v) lists is) (asks_has ds asks))))))
interfaces_have t _ (stray_entry good v there stray) =
    let ds : List Tree = devices (members_of t) in
    looked_for t _ good (in_shape (members_of t) _ (shape_has t v there
    (or_right (is_some (array_in v) && not (asks_for_list ds)) _ (or_right (is_some (object_in v) && asks_for_list ds) _ (stray_has ds v stray)))))
interfaces_have t _ (no_list good v lists d name there is device named none) =
    looked_for t _ good (in_right _ (nameless_devices (members_of t)) _ (in_right _ (equal_names (members_of t)) _ (in_right _ (shape_faults (members_of t)) _
    (missing_has t v d lists name there is device named none))))
