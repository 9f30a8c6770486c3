-- What is found in the lists at keys, as facts.
use Rattle.std.proofs.Common.{◌≡◌, ◌⊎◌, ℕ, ◌<◌, Bool, true, false, ◌&&◌, nat_le, List, [], length, Option, Some, None, inl, inr, refl, sym, ap, subst, ◌∙◌, arith}
use Rattle.std.specs.Option.{option_map_or}
use Rattle.std.specs.List.{flat_map, list_all}
use Rattle.cg_desc.specs.declared.place.At.{At}
use Rattle.cg_finding.specs.Finding.{Among, Finding, In, finding}
use Rattle.cg_finding.proofs.Members.{flat_map_has, in_flat_map, in_unless, unless_has}
use Rattle.cg_hjson.specs.declared.tree.Tree.{Tree}
use Rattle.cg_hjson.specs.declared.tree.Member.{Member}
use Rattle.cg_keys.specs.Elements.{elements, in_list, in_object, item_faults, length_faults, length_wrong, list_faults, object_faults, wrong_length}
use Rattle.cg_keys.specs.Forms.{fits}
use Rattle.cg_keys.specs.Table.{Key, value_at}
use Rattle.cg_keys.specs.Violations.{BreaksTable}
use Rattle.cg_keys.proofs.Relation.{in_table_faults, table_faults_has}
use Rattle.cg_keys.proofs.FirstMembers.{First, Found, first_is_found, found_is_first}
use Rattle.cg_keys.specs.Values.{array_in, items_of, object_in, or_empty}
use Rattle.cg_keys.specs.declared.forms.Form.{Form}
use Rattle.cg_keys.specs.Lists.{InElement, InMember, InObject, TooLong, TooShort, WrongElement, first_members}
use Rattle.cg_finding.proofs.Membership.{all_fails, fails_all}
use Rattle.std.proofs.lemmas.Bool.Decides.{nat_tests}

-- ---- elements of another form

in_list_fact : (form : Form) (ms : List Member) (key : List ℕ) (f : Finding) (list : Tree) → value_at key ms ≡ Some list → In f (list_faults form key list) → WrongElement form ms key f
unfolding list_faults
in_list_fact form ms key f list there among =
    let unless = in_unless (list_all (fits form) (items_of list)) f (finding 2 22 list.at key) among in
    let one = all_fails (fits form) (items_of list) unless.0 in
    record { list = list; there = there; element = one.item; among = one.among; unfit = one.fails; says = unless.1 }

pub in_item_faults : (form : Form) (ms : List Member) (key : List ℕ) (f : Finding) → In f (item_faults form key ms) → WrongElement form ms key f
unfolding item_faults
in_item_faults form ms key f among = by (value_at key ms) refl among
  where
    by : (v : Option Tree) → value_at key ms ≡ v → In f (in_list form key v) → WrongElement form ms key f
    by None is h = absurd h
    by (Some list) is h = in_list_fact form ms key f list is h

pub list_faults_has : (form : Form) (key : List ℕ) (list element : Tree) (f : Finding) → Among element (items_of list) → fits form element ≡ false
    → f ≡ finding 2 22 list.at key → In f (list_faults form key list)
unfolding list_faults
list_faults_has form key list element f among unfit says =
    unless_has (list_all (fits form) (items_of list)) f (finding 2 22 list.at key) (fails_all (fits form) (items_of list) element among unfit) says

pub item_faults_has : (form : Form) (ms : List Member) (key : List ℕ) (f : Finding) → WrongElement form ms key f → In f (item_faults form key ms)
unfolding item_faults
item_faults_has form ms key f w =
    subst (λ (v : Option Tree). In f (in_list form key v)) (sym w.there) (list_faults_has form key w.list w.element f w.among w.unfit w.says)

-- the same of a value
pub in_list_faults : (form : Form) (ms : List Member) (key : List ℕ) (f : Finding) (list : Tree) → value_at key ms ≡ Some list → In f (list_faults form key list) → WrongElement form ms key f
in_list_faults form ms key f list there among = in_list_fact form ms key f list there among

-- ---- too many elements

within : (n most : ℕ) → (nat_le 0 n && nat_le n most) ≡ false → most < n
within n most h = grind (arith, nat_tests)

without : (n most : ℕ) → most < n → (nat_le 0 n && nat_le n most) ≡ false
without n most h = grind (arith, nat_tests)

pub in_length_faults : (most : ℕ) (ms : List Member) (key : List ℕ) (f : Finding) → In f (length_faults 0 most key ms) → TooLong most ms key f
unfolding length_faults
in_length_faults most ms key f among = by (value_at key ms) refl among
  where
    items : (list : Tree) → value_at key ms ≡ Some list → (o : Option (List Tree)) → array_in list ≡ o → In f (wrong_length 0 most key list o) → TooLong most ms key f
    items list there None is h = absurd h
    items list there (Some ts) is h =
        let unless = in_unless (nat_le 0 (length ts) && nat_le (length ts) most) f (finding 2 22 list.at key) h in
        record {
          list = list;
          there = there;
          long = subst (λ (us : List Tree). most < length us) (sym (ap or_empty is)) (within (length ts) most unless.0);
          says = unless.1;
        }

    by : (v : Option Tree) → value_at key ms ≡ v → In f (length_wrong 0 most key v) → TooLong most ms key f
    by None is h = absurd h
    by (Some list) is h = items list is (array_in list) refl h

pub length_faults_has : (most : ℕ) (ms : List Member) (key : List ℕ) (f : Finding) → TooLong most ms key f → In f (length_faults 0 most key ms)
unfolding length_faults
length_faults_has most ms key f w =
    subst (λ (v : Option Tree). In f (length_wrong 0 most key v)) (sym w.there) (by (array_in w.list) w.long)
  where
    by : (o : Option (List Tree)) → most < length (or_empty o) → In f (wrong_length 0 most key w.list o)
    by None long = absurd (omega arith)
    by (Some ts) long = unless_has (nat_le 0 (length ts) && nat_le (length ts) most) f (finding 2 22 w.list.at key) (without (length ts) most long) w.says

-- ---- too few elements, or too many

either_way : (least n most : ℕ) → (nat_le least n && nat_le n most) ≡ false → (n < least) ⊎ (most < n)
either_way least n most h = by (nat_le least n) refl (nat_le n most) refl h
  where
    by : (a : Bool) → nat_le least n ≡ a → (b : Bool) → nat_le n most ≡ b → (a && b) ≡ false → (n < least) ⊎ (most < n)
    by false is b is_b h = inl (grind (arith, nat_tests))
    by true is false is_b h = inr (grind (arith, nat_tests))
    by true is true is_b h = cc

too_few : (least n most : ℕ) → n < least → (nat_le least n && nat_le n most) ≡ false
too_few least n most h = grind (arith, nat_tests)

too_many : (least n most : ℕ) → most < n → (nat_le least n && nat_le n most) ≡ false
too_many least n most h = ap (λ b. nat_le least n && b) (past n most h) ∙ last (nat_le least n)
  where
    past : (n most : ℕ) → most < n → nat_le n most ≡ false
    past n most h = grind (arith, nat_tests)

    last : (b : Bool) → (b && false) ≡ false
    last true = refl
    last false = refl

pub in_lengths : (least most : ℕ) (ms : List Member) (key : List ℕ) (f : Finding) → In f (length_faults least most key ms) → TooShort least ms key f ⊎ TooLong most ms key f
unfolding length_faults
in_lengths least most ms key f among = by (value_at key ms) refl among
  where
    told : (list : Tree) → value_at key ms ≡ Some list → (ts : List Tree) → array_in list ≡ Some ts → f ≡ finding 2 22 list.at key
        → (length ts < least) ⊎ (most < length ts) → TooShort least ms key f ⊎ TooLong most ms key f
    told list there ts is says (inl short) = inl (record { list = list; there = there; items = ts; is_list = is; short = short; says = says })
    told list there ts is says (inr long) =
        inr (record { list = list; there = there; long = subst (λ (us : List Tree). most < length us) (sym (ap or_empty is)) long; says = says })

    items : (list : Tree) → value_at key ms ≡ Some list → (o : Option (List Tree)) → array_in list ≡ o → In f (wrong_length least most key list o)
        → TooShort least ms key f ⊎ TooLong most ms key f
    items list there None is h = absurd h
    items list there (Some ts) is h =
        let unless = in_unless (nat_le least (length ts) && nat_le (length ts) most) f (finding 2 22 list.at key) h in
        told list there ts is unless.1 (either_way least (length ts) most unless.0)

    by : (v : Option Tree) → value_at key ms ≡ v → In f (length_wrong least most key v) → TooShort least ms key f ⊎ TooLong most ms key f
    by None is h = absurd h
    by (Some list) is h = items list is (array_in list) refl h

pub lengths_have_short : (least most : ℕ) (ms : List Member) (key : List ℕ) (f : Finding) → TooShort least ms key f → In f (length_faults least most key ms)
unfolding length_faults
lengths_have_short least most ms key f w =
    subst (λ (v : Option Tree). In f (length_wrong least most key v)) (sym w.there)
    (subst (λ (o : Option (List Tree)). In f (wrong_length least most key w.list o)) (sym w.is_list)
    (unless_has (nat_le least (length w.items) && nat_le (length w.items) most) f (finding 2 22 w.list.at key) (too_few least (length w.items) most w.short) w.says))

pub lengths_have_long : (least most : ℕ) (ms : List Member) (key : List ℕ) (f : Finding) → TooLong most ms key f → In f (length_faults least most key ms)
unfolding length_faults
lengths_have_long least most ms key f w =
    subst (λ (v : Option Tree). In f (length_wrong least most key v)) (sym w.there) (by (array_in w.list) w.long)
  where
    by : (o : Option (List Tree)) → most < length (or_empty o) → In f (wrong_length least most key w.list o)
    by None long = absurd (omega arith)
    by (Some ts) long = unless_has (nat_le least (length ts) && nat_le (length ts) most) f (finding 2 22 w.list.at key) (too_many least (length ts) most long) w.says

-- ---- tables of objects

pub in_object_keys : (ks : List Key) (f : Finding) (t : Tree) → In f (object_faults ks t) → (inner : List Member) × (object_in t ≡ Some inner) × BreaksTable t.at inner ks f
unfolding object_faults
in_object_keys ks f t among = by (object_in t) refl among
  where
    by : (o : Option (List Member)) → object_in t ≡ o → In f (in_object t.at ks o) → (inner : List Member) × (object_in t ≡ Some inner) × BreaksTable t.at inner ks f
    by None is h = absurd h
    by (Some ms) is h = (ms, is, in_table_faults t.at ms ks f h)

pub object_keys_has : (ks : List Key) (f : Finding) (t : Tree) (inner : List Member) → object_in t ≡ Some inner → BreaksTable t.at inner ks f → In f (object_faults ks t)
unfolding object_faults
object_keys_has ks f t inner is breaks =
    subst (λ (o : Option (List Member)). In f (in_object t.at ks o)) (sym is) (table_faults_has t.at inner ks f breaks)

-- ---- in elements

-- what a fault list of objects says of the objects
abbrev pub Says : (At → List Member → Finding → Type 0) → (Tree → List Finding) → Finding → Type 0
Says Breaks faults f = (t : Tree) → In f (faults t) → (inner : List Member) × (object_in t ≡ Some inner) × Breaks t.at inner f

pub in_elements : (Breaks : At → List Member → Finding → Type 0) (faults : Tree → List Finding) (ms : List Member) (key : List ℕ) (f : Finding)
    → Says Breaks faults f → In f (flat_map faults (elements key ms)) → InElement Breaks ms key f
in_elements Breaks faults ms key f says among =
    let one = in_flat_map faults (elements key ms) f among in
    let inside = says one.item one.found in
    record { element = one.item; among = one.among; inner = inside.0; object = inside.1; breaks = inside.2 }

pub elements_have : (Breaks : At → List Member → Finding → Type 0) (faults : Tree → List Finding) (ms : List Member) (key : List ℕ) (f : Finding)
    → ((t : Tree) (inner : List Member) → object_in t ≡ Some inner → Breaks t.at inner f → In f (faults t)) → InElement Breaks ms key f → In f (flat_map faults (elements key ms))
elements_have Breaks faults ms key f has w = flat_map_has faults (elements key ms) w.element f w.among (has w.element w.inner w.object w.breaks)

-- ---- in objects

pub in_object_at : (Breaks : At → List Member → Finding → Type 0) (faults : Tree → List Finding) (ms : List Member) (key : List ℕ) (f : Finding)
    → Says Breaks faults f → In f (option_map_or faults (value_at key ms) []) → InObject Breaks ms key f
in_object_at Breaks faults ms key f says among = by (value_at key ms) refl among
  where
    by : (v : Option Tree) → value_at key ms ≡ v → In f (option_map_or faults v []) → InObject Breaks ms key f
    by None is h = absurd h
    by (Some value) is h = let inside = says value h in record { value = value; there = is; inner = inside.0; object = inside.1; breaks = inside.2 }

pub object_at_has : (Breaks : At → List Member → Finding → Type 0) (faults : Tree → List Finding) (ms : List Member) (key : List ℕ) (f : Finding)
    → ((t : Tree) (inner : List Member) → object_in t ≡ Some inner → Breaks t.at inner f → In f (faults t)) → InObject Breaks ms key f → In f (option_map_or faults (value_at key ms) [])
object_at_has Breaks faults ms key f has w =
    subst (λ (v : Option Tree). In f (option_map_or faults v [])) (sym w.there) (has w.value w.inner w.object w.breaks)

-- ---- in members

pub in_members : (Breaks : List ℕ → Tree → Finding → Type 0) (faults : Member → List Finding) (ms : List Member) (f : Finding)
    → ((m : Member) → In f (faults m) → Breaks m.key m.value f) → In f (flat_map faults (first_members ms)) → InMember Breaks ms f
in_members Breaks faults ms f says among =
    let one = in_flat_map faults (first_members ms) f among in
    let found : Found [] ms one.item = first_is_found [] ms one.item one.among in
    record { key = one.item.key; value = one.item.value; there = found.there; breaks = says one.item one.found }

pub members_have : (Breaks : List ℕ → Tree → Finding → Type 0) (faults : Member → List Finding) (ms : List Member) (f : Finding)
    → ((m : Member) → Breaks m.key m.value f → In f (faults m)) → InMember Breaks ms f → In f (flat_map faults (first_members ms))
members_have Breaks faults ms f has w =
    let first : First w.key w.value (first_members ms) = found_is_first [] ms w.key w.value refl w.there in
    flat_map_has faults (first_members ms) first.member f first.among
    (has first.member
    (subst (λ (v : Tree). Breaks first.member.key v f) (sym first.value_is) (subst (λ key. Breaks key w.value f) (sym first.key_is) w.breaks)))
