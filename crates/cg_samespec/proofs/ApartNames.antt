-- Names of fields that stand at places of their own differ where no rule on names is broken.
use Rattle.std.proofs.Common.{◌≡◌, ℕ, ◌<◌, ◌⊎◌, nat_lt, Bool, true, false, List, [], ◌∷◌, inl, inr, refl, ◌∙◌, arith}
use Rattle.std.proofs.lemmas.Bool.{ltb-true}
use Rattle.std.proofs.lemmas.Bool.Decides.{nat_tests}
use Rattle.std.proofs.lemmas.Cmp.{nat_list_eq_equiv}
use Rattle.std.specs.Str.{str_eq_ignore_ascii_case, str_to_ascii_lowercase}
use Rattle.cg_svspec.specs.Printable.{AllOf}
use Rattle.cg_desc.specs.declared.block.FieldDesc.{FieldDesc}
use Rattle.cg_desc.specs.declared.block.Item.{Item}
use Rattle.cg_desc.specs.declared.block.Item.TheVariants.{Reg, Window, SkipTo, Reserved}
use Rattle.cg_desc.specs.declared.block.RegDesc.{RegDesc}
use Rattle.cg_finding.specs.Finding.{Among, Finding, finding}
use Rattle.cg_expand.specs.Violations.{FieldNameTwice}
use Rattle.cg_finding.proofs.Membership.{contains_of}
use Rattle.cg_samespec.specs.Same.{ItemIsApart, NamesApart}
use Rattle.cg_samespec.proofs.ApartFields.{Differ, PlacesApart}

-- a register's fields stand at places of their own, or have names of their own
abbrev pub IsPlaced : Item → Type 0
IsPlaced (Reg r) = PlacesApart r.fields ⊎ NamesApart r.fields
IsPlaced (Window w) = Unit {0}
IsPlaced (SkipTo to at) = Unit {0}
IsPlaced (Reserved words at) = Unit {0}

-- no field of these items has the name of an earlier one
abbrev pub NoneTwice : List Item → Type 0
NoneTwice items = (f : Finding) → ¬ FieldNameTwice items f

-- two names are the same in both orders
alike_both : (k l : List ℕ) → str_eq_ignore_ascii_case k l ≡ true → str_eq_ignore_ascii_case l k ≡ true
alike_both k l e = nat_list_eq_equiv.symm (str_to_ascii_lowercase l) (str_to_ascii_lowercase k) ∙ e

module _ (items : List Item) (r : RegDesc) (among : Among (Reg r) items) (none : NoneTwice items) where
  -- of two fields of one name the first stands no earlier
  no_earlier : (f g : FieldDesc) → Among f r.fields → Among g r.fields → str_eq_ignore_ascii_case f.name g.name ≡ true → f.at.byte < g.at.byte → ⊥
  no_earlier f g here there alike before = none (finding 4 34 g.at g.name) (record {
    register = r;
    among = contains_of items (Reg r) among;
    field = g;
    is_field = contains_of r.fields g there;
    earlier = f;
    is_earlier = contains_of r.fields f here;
    before = before;
    alike = alike;
    says = refl;
  })

  names_differ : (f g : FieldDesc) → Among f r.fields → Among g r.fields → Differ f g → str_eq_ignore_ascii_case f.name g.name ≡ false
  names_differ f g here there apart = by (str_eq_ignore_ascii_case f.name g.name) refl where
    where_one_is : (b c : Bool) → nat_lt f.at.byte g.at.byte ≡ b → nat_lt g.at.byte f.at.byte ≡ c → str_eq_ignore_ascii_case f.name g.name ≡ true → ⊥
    where_one_is true c first second alike = no_earlier f g here there alike (ltb-true f.at.byte g.at.byte first)
    where_one_is false true first second alike = no_earlier g f there here (alike_both f.name g.name alike) (ltb-true g.at.byte f.at.byte second)
    where_one_is false false first second alike = apart (grind (arith, nat_tests))

    by : (b : Bool) → str_eq_ignore_ascii_case f.name g.name ≡ b → str_eq_ignore_ascii_case f.name g.name ≡ false
    by true alike = absurd (where_one_is (nat_lt f.at.byte g.at.byte) (nat_lt g.at.byte f.at.byte) refl refl alike)
    by false other = other

  all_differ : (f : FieldDesc) (gs : List FieldDesc) → Among f r.fields → ((g : FieldDesc) → Among g gs → Among g r.fields) → AllOf (Differ f) gs
      → AllOf (λ g. str_eq_ignore_ascii_case f.name g.name ≡ false) gs
  all_differ f [] here there apart = tt
  all_differ f (g ∷ gs) here there apart =
      (names_differ f g here (there g (inl refl)) apart.0, all_differ f gs here (λ h among. there h (inr among)) apart.1)

  fields_differ : (fs : List FieldDesc) → ((f : FieldDesc) → Among f fs → Among f r.fields) → PlacesApart fs → NamesApart fs
  fields_differ [] there apart = tt
  fields_differ (f ∷ fs) there apart =
      (all_differ f fs (there f (inl refl)) (λ g among. there g (inr among)) apart.0, fields_differ fs (λ g among. there g (inr among)) apart.1)

  register_differs : IsPlaced (Reg r) → NamesApart r.fields
  register_differs (inl apart) = fields_differ r.fields (λ f among. among) apart
  register_differs (inr names) = names

item_differs : (items : List Item) (item : Item) → Among item items → NoneTwice items → IsPlaced item → ItemIsApart item
item_differs items (Reg r) among none placed = register_differs items r among none placed
item_differs items (Window w) among none placed = tt
item_differs items (SkipTo to at) among none placed = tt
item_differs items (Reserved words at) among none placed = tt

some_differ : (items some : List Item) → ((item : Item) → Among item some → Among item items) → NoneTwice items → AllOf IsPlaced some → AllOf ItemIsApart some
some_differ items [] there none placed = tt
some_differ items (item ∷ some) there none placed =
    (item_differs items item (there item (inl refl)) none placed.0, some_differ items some (λ i among. there i (inr among)) none placed.1)

-- the names of all items are apart
pub items_differ : (items : List Item) → NoneTwice items → AllOf IsPlaced items → AllOf ItemIsApart items
items_differ items none placed = some_differ items items (λ item among. among) none placed
