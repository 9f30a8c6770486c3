-- Tables of keys by the JSON value that an object tells.
use Rattle.std.proofs.Common.{◌≡◌, ℕ, Bool, true, false, not, ◌&&◌, ◌||◌, cond, nat_le, length, is_some, List, [], ◌∷◌, map, Option, Some, None, option_map, refl, sym, ap, ◌∙◌}
use Rattle.std.proofs.lemmas.List.{length-map}
use Rattle.std.specs.List.{flat_map, list_all, list_any}
use Rattle.std.specs.Option.{option_map_or}
use Rattle.serde_json.specs.Data.{Data}
use Rattle.serde_json.specs.Find.{as_array, as_str, get}
use Rattle.cg_desc.specs.declared.place.At.{At}
use Rattle.cg_finding.specs.Finding.{Finding, finding}
use Rattle.cg_hjson.specs.declared.tree.Tree.{Tree}
use Rattle.cg_hjson.specs.declared.tree.Member.{Member}
use Rattle.cg_keys.specs.Elements.{each_faults, elements, in_list, in_object, item_faults, items_in, length_faults, length_wrong, list_faults, object_faults, wrong_length}
use Rattle.cg_keys.specs.Forms.{fits, fits_one, is_name, is_one_of, name_limit, parameter_limit, rule_broken}
use Rattle.cg_keys.specs.Table.{Key, at_key, key_faults, table_faults, value_at, value_faults}
use Rattle.cg_keys.specs.Values.{array_in, items_of, members_of, object_in, or_empty}
use Rattle.cg_keys.specs.declared.forms.Form.{Form}
use Rattle.cg_keys.specs.declared.forms.Form.TheVariants as form
use Rattle.cg_blkdone.proofs.Lookups.{boolean_told, boolean_told_in, elements_told, is_object, items_told, items_told_at, items_told_in, number_told, number_told_in}
use Rattle.cg_blkdone.proofs.SoundNone.{is_none, none_of_each, none_unless, none_when}
use Rattle.cg_blkdone.proofs.Told.{array_told, found_told, listed, object_told, text_told, told}

-- ---- forms

-- a JSON value has a form
abbrev pub fits_told : Form → Data → Bool
fits_told form.Text d = is_some (as_str d)
fits_told form.Name d = option_map_or (is_name name_limit) (as_str d) false
fits_told form.ParameterName d = option_map_or (is_name parameter_limit) (as_str d) false
fits_told (form.Number least most) d = is_some (number_told_in least most d)
fits_told form.Boolean d = is_some (boolean_told_in d)
fits_told form.Items d = is_some (as_array d)
fits_told form.Object d = is_object d
fits_told (form.Word w) d = option_map_or (is_one_of w) (as_str d) false

some_mapped : {X Y : Type 0} (f : X → Y) (o : Option X) → is_some (option_map f o) ≡ is_some o
some_mapped f None = refl
some_mapped f (Some x) = refl

-- a value is a list exactly where it tells one
pub list_told : (t : Tree) → is_some (array_in t) ≡ is_some (as_array (told t))
list_told t = sym (some_mapped (map told) (array_in t)) ∙ ap is_some (array_told t) ∙ some_mapped listed (as_array (told t))

-- the form of a value is that of what it tells
pub fits_by_told : (f : Form) (t : Tree) → fits f t ≡ fits_told f (told t)
unfolding fits
fits_by_told form.Text t = ap is_some (text_told t)
fits_by_told form.Name t = ap (λ o. option_map_or (is_name name_limit) o false) (text_told t)
fits_by_told form.ParameterName t = ap (λ o. option_map_or (is_name parameter_limit) o false) (text_told t)
fits_by_told (form.Number least most) t = ap is_some (number_told least most t)
fits_by_told form.Boolean t = ap is_some (boolean_told t)
fits_by_told form.Items t = list_told t
fits_by_told form.Object t = object_told t
fits_by_told (form.Word w) t = ap (λ o. option_map_or (is_one_of w) o false) (text_told t)

-- a JSON value has one of these forms
abbrev pub fits_one_told : List Form → Data → Bool
fits_one_told forms d = list_any (λ f. fits_told f d) forms

-- so does a value that tells it
pub fits_one_by_told : (forms : List Form) (t : Tree) → fits_one forms t ≡ fits_one_told forms (told t)
fits_one_by_told [] t = refl
fits_one_by_told (f ∷ fs) t = λ i. fits_by_told f t i || fits_one_by_told fs t i

-- what is found of a value at a key
pub none_in_value : (key : List ℕ) (forms : List Form) (t : Tree) → is_none (value_faults key forms t) ≡ fits_one_told forms (told t)
unfolding value_faults
none_in_value key forms t = none_unless (fits_one forms t) (finding 2 (rule_broken forms t) t.at key) ∙ fits_one_by_told forms t

-- ---- at keys

-- what a function of a value gives at a key, as one of the JSON value there
pub by_value : {X : Type 0} (f : Tree → X) (g : Data → X) (z : X) → ((t : Tree) → f t ≡ g (told t)) → (o : Option Tree)
    → option_map_or f o z ≡ option_map_or g (option_map told o) z
by_value f g z same None = refl
by_value f g z same (Some t) = same t

-- the same of what stands at a key
pub by_value_at : {X : Type 0} (f : Tree → X) (g : Data → X) (z : X) → ((t : Tree) → f t ≡ g (told t)) → (key : List ℕ) (t : Tree)
    → option_map_or f (value_at key (members_of t)) z ≡ option_map_or g (get key (told t)) z
by_value_at f g z same key t = by_value f g z same (value_at key (members_of t)) ∙ ap (λ o. option_map_or g o z) (found_told key t)

-- something stands at a key exactly where it is told
pub there_told : (key : List ℕ) (t : Tree) → is_some (value_at key (members_of t)) ≡ is_some (get key (told t))
there_told key t = sym (some_mapped told (value_at key (members_of t))) ∙ ap is_some (found_told key t)

-- what stands at a key breaks nothing
abbrev pub key_good : Key → Option Data → Bool
key_good k None = not k.needed
key_good k (Some d) = fits_one_told k.forms d

none_at_key : (opener : At) (k : Key) (o : Option Tree) → is_none (at_key opener k o) ≡ key_good k (option_map told o)
none_at_key opener k None = none_when k.needed (finding 2 21 opener k.key)
none_at_key opener k (Some t) = none_in_value k.key k.forms t

none_of_key : (opener : At) (t : Tree) (k : Key) → is_none (key_faults opener (members_of t) k) ≡ key_good k (get k.key (told t))
unfolding key_faults
none_of_key opener t k = none_at_key opener k (value_at k.key (members_of t)) ∙ ap (key_good k) (found_told k.key t)

-- the object breaks no row of a table
abbrev pub table_good : List Key → Data → Bool
table_good ks d = list_all (λ k. key_good k (get k.key d)) ks

-- what is found by a table
pub none_of_table : (opener : At) (t : Tree) (ks : List Key) → is_none (table_faults opener (members_of t) ks) ≡ table_good ks (told t)
none_of_table opener t ks = none_of_each (key_faults opener (members_of t)) (λ k. key_good k (get k.key (told t))) ks (none_of_key opener t)

-- an object, if it is one, breaks no row of a table
abbrev pub object_good : List Key → Data → Bool
object_good ks d = cond (is_object d) (table_good ks d) true

in_object_by : (opener : At) (ks : List Key) (o : Option (List Member))
    → is_none (in_object opener ks o) ≡ cond (is_some o) (is_none (table_faults opener (or_empty o) ks)) true
in_object_by opener ks None = refl
in_object_by opener ks (Some ms) = refl

-- what is found by a table in a value that may be an object
pub none_of_object : (ks : List Key) (t : Tree) → is_none (object_faults ks t) ≡ object_good ks (told t)
unfolding object_faults
none_of_object ks t = in_object_by t.at ks (object_in t) ∙ (λ i. cond (object_told t i) (none_of_table t.at t ks i) true)

-- ---- lists

-- the elements of the list at a key
abbrev pub elements_of : List ℕ → Data → List Data
elements_of key d = items_told_at (get key d)

-- a test of each value is one of what each tells
pub all_told : (f : Tree → Bool) (g : Data → Bool) (ts : List Tree) → ((t : Tree) → f t ≡ g (told t)) → list_all f ts ≡ list_all g (map told ts)
all_told f g [] same = refl
all_told f g (t ∷ ts) same = λ i. same t i && all_told f g ts same i

-- the same of the items of a list
pub all_items : (f : Tree → Bool) (g : Data → Bool) (t : Tree) → ((t : Tree) → f t ≡ g (told t)) → list_all f (items_of t) ≡ list_all g (items_told_in (told t))
all_items f g t same = all_told f g (items_of t) same ∙ ap (list_all g) (items_told t)

-- the same of the elements of the list at a key
pub all_elements : (f : Tree → Bool) (g : Data → Bool) (key : List ℕ) (t : Tree) → ((t : Tree) → f t ≡ g (told t))
    → list_all f (elements key (members_of t)) ≡ list_all g (elements_of key (told t))
all_elements f g key t same = all_told f g (elements key (members_of t)) same ∙ ap (list_all g) (elements_told key t)

-- what is found of each element of the list at a key
pub none_of_elements : (f : Tree → List Finding) (g : Data → Bool) (key : List ℕ) (t : Tree) → ((t : Tree) → is_none (f t) ≡ g (told t))
    → is_none (flat_map f (elements key (members_of t))) ≡ list_all g (elements_of key (told t))
none_of_elements f g key t same =
    none_of_each f (λ e. is_none (f e)) (elements key (members_of t)) (λ e. refl) ∙ all_elements (λ e. is_none (f e)) g key t same

-- what is found of a list of objects
pub none_of_list : (key : List ℕ) (t : Tree) → is_none (list_faults form.Object key t) ≡ list_all is_object (items_told_in (told t))
unfolding list_faults
none_of_list key t = none_unless (list_all (fits form.Object) (items_of t)) (finding 2 22 t.at key) ∙ all_items (fits form.Object) is_object t (fits_by_told form.Object)

in_list_by : (key : List ℕ) (o : Option Tree) → is_none (in_list form.Object key o) ≡ list_all (fits form.Object) (items_in o)
unfolding list_faults
in_list_by key None = refl
in_list_by key (Some t) = none_unless (list_all (fits form.Object) (items_of t)) (finding 2 22 t.at key)

-- the list at a key, if there is one, is of objects
pub none_of_element_list : (key : List ℕ) (t : Tree) → is_none (item_faults form.Object key (members_of t)) ≡ list_all is_object (elements_of key (told t))
unfolding item_faults elements
none_of_element_list key t = in_list_by key (value_at key (members_of t)) ∙ all_elements (fits form.Object) is_object key t (fits_by_told form.Object)

-- a list of objects, each of which breaks no row of a table
abbrev pub objects_good : List Key → List ℕ → Data → Bool
objects_good ks key d = list_all is_object (elements_of key d) && list_all (object_good ks) (elements_of key d)

-- what is found by a table in each element of the list at a key
pub none_of_each_object : (ks : List Key) (key : List ℕ) (t : Tree) → is_none (each_faults ks (elements key (members_of t))) ≡ list_all (object_good ks) (elements_of key (told t))
none_of_each_object ks key t = none_of_elements (object_faults ks) (object_good ks) key t (none_of_object ks)

-- ---- lengths

-- a list, if it is one, has so many elements
abbrev pub length_good : ℕ → ℕ → Data → Bool
length_good least most d = option_map_or (λ ds. nat_le least (length ds) && nat_le (length ds) most) (option_map listed (as_array d)) true

wrong_by : (least most : ℕ) (key : List ℕ) (t : Tree) (o : Option (List Tree))
    → is_none (wrong_length least most key t o) ≡ option_map_or (λ ds. nat_le least (length ds) && nat_le (length ds) most) (option_map (map told) o) true
wrong_by least most key t None = refl
wrong_by least most key t (Some ts) =
    none_unless (nat_le least (length ts) && nat_le (length ts) most) (finding 2 22 t.at key)
    ∙ sym (ap (λ n. nat_le least n && nat_le n most) (length-map ts told))

length_by : (least most : ℕ) (key : List ℕ) (o : Option Tree) → is_none (length_wrong least most key o) ≡ option_map_or (length_good least most) (option_map told o) true
length_by least most key None = refl
length_by least most key (Some t) =
    wrong_by least most key t (array_in t)
    ∙ ap (λ o. option_map_or (λ ds. nat_le least (length ds) && nat_le (length ds) most) o true) (array_told t)

-- what is found of the length of the list at a key
pub none_of_length : (least most : ℕ) (key : List ℕ) (t : Tree) → is_none (length_faults least most key (members_of t))
    ≡ option_map_or (length_good least most) (get key (told t)) true
unfolding length_faults
none_of_length least most key t = length_by least most key (value_at key (members_of t)) ∙ ap (λ o. option_map_or (length_good least most) o true) (found_told key t)
