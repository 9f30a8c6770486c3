-- A field's name comes twice exactly where it is found.
use Rattle.std.proofs.Common.{◌≡◌, ◌<◌, nat_lt, true, List, [], map, subst}
use Rattle.std.specs.List.{Contains, flat_map, list_any}
use Rattle.std.specs.Str.{str_eq_ignore_ascii_case}
use Rattle.std.proofs.lemmas.Bool.{and_from, and_parts, lt-ltb, ltb-true}
use Rattle.cg_desc.specs.declared.block.FieldDesc.{FieldDesc}
use Rattle.cg_desc.specs.declared.block.Item.{Item}
use Rattle.cg_desc.specs.declared.block.Item.TheVariants.{Reg, Window, SkipTo, Reserved}
use Rattle.cg_finding.specs.Finding.{Among, Finding, In, finding}
use Rattle.cg_finding.proofs.Members.{flat_map_has, in_flat_map, in_when, when_has}
use Rattle.cg_expand.specs.Violations.{FieldNameTwice, Named}
use Rattle.cg_expand.specs.Parts.Faults.{fields_twice}
use Rattle.cg_expand.specs.Parts.Labels.{field_label, is_earlier, labels_twice, twice_among}
use Rattle.cg_finding.proofs.Membership.{any_finds, among_of, contains_of, finds_any, in_map, map_has}

-- a field has the name of another that stands earlier in the file
record FieldTwice (fs : List FieldDesc) (f : Finding) : Type 0 where
  field : FieldDesc
  is_field : Among field fs
  earlier : FieldDesc
  is_earlier : Among earlier fs
  before : earlier.at.byte < field.at.byte
  alike : str_eq_ignore_ascii_case earlier.name field.name ≡ true
  says : f ≡ finding 4 34 field.at field.name

in_fields : (fs : List FieldDesc) (f : Finding) → In f (labels_twice (map field_label fs)) → FieldTwice fs f
unfolding labels_twice twice_among
in_fields fs f among =
    let ls : List Named = map field_label fs in
    let one = in_flat_map (twice_among ls) ls f among in
    let test = in_when (list_any (is_earlier one.item) ls) f (finding 4 34 one.item.at one.item.name) one.found in
    let other = any_finds (is_earlier one.item) ls test.0 in
    let field = in_map field_label fs one.item one.among in
    let earlier = in_map field_label fs other.item other.among in
    let parts = and_parts (nat_lt other.item.at.byte one.item.at.byte) (str_eq_ignore_ascii_case other.item.name one.item.name) other.passes in
    record {
      field = field.source;
      is_field = field.among;
      earlier = earlier.source;
      is_earlier = earlier.among;
      before = subst (λ (l : Named). earlier.source.at.byte < l.at.byte) field.is (subst (λ (l : Named). l.at.byte < one.item.at.byte) earlier.is (ltb-true other.item.at.byte one.item.at.byte parts.0));
      alike = subst (λ (l : Named). str_eq_ignore_ascii_case earlier.source.name l.name ≡ true) field.is (subst (λ (l : Named). str_eq_ignore_ascii_case l.name one.item.name ≡ true) earlier.is parts.1);
      says = subst (λ (l : Named). f ≡ finding 4 34 l.at l.name) field.is test.1;
    }

fields_have : (fs : List FieldDesc) (f : Finding) → FieldTwice fs f → In f (labels_twice (map field_label fs))
unfolding labels_twice twice_among
fields_have fs f twice =
    let ls : List Named = map field_label fs in
    let label : Named = field_label twice.field in
    let earlier : is_earlier label (field_label twice.earlier) ≡ true =
    and_from (nat_lt twice.earlier.at.byte twice.field.at.byte) (str_eq_ignore_ascii_case twice.earlier.name twice.field.name)
    (lt-ltb twice.earlier.at.byte twice.field.at.byte twice.before) twice.alike in
    let any : list_any (is_earlier label) ls ≡ true =
    finds_any (is_earlier label) ls (field_label twice.earlier) (map_has field_label fs twice.earlier twice.is_earlier) earlier in
    flat_map_has (twice_among ls) ls label f (map_has field_label fs twice.field twice.is_field)
    (when_has (list_any (is_earlier label) ls) f (finding 4 34 label.at label.name) any twice.says)

-- no field has a name twice where there is none
no_field : (f : Finding) → In f (labels_twice []) → ⊥
unfolding labels_twice
no_field f among = among

of_item : (items : List Item) (item : Item) (f : Finding) → Contains items item → In f (fields_twice item) → FieldNameTwice items f
of_item items (Reg r) f among found =
    let twice = in_fields r.fields f found in
    record {
      register = r;
      among = among;
      field = twice.field;
      is_field = contains_of r.fields twice.field twice.is_field;
      earlier = twice.earlier;
      is_earlier = contains_of r.fields twice.earlier twice.is_earlier;
      before = twice.before;
      alike = twice.alike;
      says = twice.says;
    }
of_item items (Window w) f among found = absurd (no_field f found)
of_item items (SkipTo to at) f among found = absurd (no_field f found)
of_item items (Reserved words at) f among found = absurd (no_field f found)

-- what is found in the fields of items is a name that comes twice
pub in_items_fields : (items : List Item) (f : Finding) → In f (flat_map fields_twice items) → FieldNameTwice items f
in_items_fields items f among =
    let one = in_flat_map fields_twice items f among in
    of_item items one.item f (contains_of items one.item one.among) one.found

-- a name that comes twice is found
pub items_fields_have : (items : List Item) (f : Finding) → FieldNameTwice items f → In f (flat_map fields_twice items)
items_fields_have items f twice =
    flat_map_has fields_twice items (Reg twice.register) f (among_of items (Reg twice.register) twice.among)
    (fields_have twice.register.fields f (record {
      field = twice.field;
      is_field = among_of twice.register.fields twice.field twice.is_field;
      earlier = twice.earlier;
      is_earlier = among_of twice.register.fields twice.earlier twice.is_earlier;
      before = twice.before;
      alike = twice.alike;
      says = twice.says;
    }))
