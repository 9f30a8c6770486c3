-- What shadowed registers break of the rule on the profile, as a list and as facts.
use Rattle.std.proofs.Common.{◌≡◌, true, false, not, ◌&&◌, ◌||◌, is_some, inl, inr, List, [], ◌∷◌, codes, Option, Some, None, refl, ap, subst}
use Rattle.std.proofs.lemmas.Bool.{and_from, and_parts, or_cases, or_left, or_right}
use Rattle.std.specs.List.{list_all, list_any}
use Rattle.std.specs.Option.{option_map_or, unwrap_or}
use Rattle.cg_desc.specs.AccessTable.{hardware_writes}
use Rattle.cg_desc.specs.declared.block.SwAccess.{SwAccess}
use Rattle.cg_desc.specs.declared.block.SwAccess.TheVariants.{Rw}
use Rattle.cg_desc.specs.declared.block.HwAccess.{HwAccess}
use Rattle.cg_desc.specs.declared.block.HwAccess.TheVariants.{Hro, Hrw, Hwo, Nothing}
use Rattle.cg_hjson.specs.declared.tree.Tree.{Tree}
use Rattle.cg_finding.specs.Finding.{Finding, In}
use Rattle.cg_finding.specs.Rules.{outside_the_profile}
use Rattle.cg_finding.proofs.Membership.{all_pass, any_finds, finds_any, pass_all}
use Rattle.cg_keys.specs.Elements.{elements}
use Rattle.cg_keys.specs.Forms.{fits, fits_one, hardware}
use Rattle.cg_keys.specs.Lookups.{boolean_at, is_fit_at}
use Rattle.cg_keys.specs.Table.{value_at}
use Rattle.cg_keys.specs.Values.{array_in, members_of, object_in}
use Rattle.cg_keys.specs.declared.forms.Form.TheVariants.{Boolean, Items, Object}
use Rattle.cg_blkread.specs.Facts.Parts.{HasAt, HasTrueAt, IsFieldOf}
use Rattle.cg_blkread.specs.Facts.Profile.{CanBeJudged, CannotBeShadowed, HardwareCounts, SoftwareCounts}
use Rattle.cg_blkread.specs.Keys.{can_be_judged, cannot_be_shadowed, hardware_that_counts, is_other_than_rw, is_rw, is_written_by_hardware, kind_that_counts, kinds_are_told, outside_if_true, shadow_outside, takes_other_values}
use Rattle.cg_blkread.proofs.Facts.Registers.{TrueAt, boolean_has, boolean_tells, counts_has, counts_tells, in_looked, kind_tells_word, looked_has, not_true, object_fits, object_unfit, true_at, true_has, true_tells, true_there, word_tells_kind}
use Rattle.cg_blkread.proofs.Facts.Values.{none_is}

-- ---- kinds

hardware_tells : (register field : Tree) (k : HwAccess) → hardware_that_counts (members_of register) (members_of field) ≡ Some k → HardwareCounts register field k
unfolding hardware_that_counts
hardware_tells register field k h = kind_tells_word hardware Hro (codes "hwaccess") register field k h

hardware_has : (register field : Tree) (k : HwAccess) → HardwareCounts register field k → hardware_that_counts (members_of register) (members_of field) ≡ Some k
unfolding hardware_that_counts
hardware_has register field k h = word_tells_kind hardware Hro (codes "hwaccess") register field k h

-- there is something
record There {X : Type 0} (o : Option X) : Type 0 where
  item : X
  is : o ≡ Some item

some_there : {X : Type 0} (o : Option X) → is_some o ≡ true → There o
some_there None h = cc
some_there (Some x) h = record { item = x; is = refl }

there_some : {X : Type 0} (o : Option X) (x : X) → o ≡ Some x → is_some o ≡ true
there_some o x is = ap is_some is

-- ---- what is asked has its form

-- the kinds that count for a field
record KindsTold (register field : Tree) : Type 0 where
  object : ¬ (object_in field ≡ None)
  software : (kind : SwAccess) × SoftwareCounts register field kind
  hardware : (kind : HwAccess) × HardwareCounts register field kind

kinds_tell : (register field : Tree) → kinds_are_told (members_of register) field ≡ true → KindsTold register field
unfolding kinds_are_told
kinds_tell register field h =
    let first = and_parts (fits Object field) _ h in
    let second = and_parts (is_some (kind_that_counts (members_of register) (members_of field))) _ first.1 in
    let s = some_there (kind_that_counts (members_of register) (members_of field)) second.0 in
    let k = some_there (hardware_that_counts (members_of register) (members_of field)) second.1 in
    record {
      object = λ none. let unfit : fits Object field ≡ false = object_unfit field none in let fit : fits Object field ≡ true = first.0 in cc;
      software = (s.item, counts_tells register field s.item s.is);
      hardware = (k.item, hardware_tells register field k.item k.is);
    }

kinds_have : (register field : Tree) → KindsTold register field → kinds_are_told (members_of register) field ≡ true
unfolding kinds_are_told
kinds_have register field told =
    and_from (fits Object field) _ (object_fits field told.object)
    (and_from (is_some (kind_that_counts (members_of register) (members_of field))) (is_some (hardware_that_counts (members_of register) (members_of field)))
    (there_some _ told.software.0 (counts_has register field told.software.0 told.software.1))
    (there_some _ told.hardware.0 (hardware_has register field told.hardware.0 told.hardware.1)))

list_tells : (key : List _) (t : Tree) → is_fit_at (Items ∷ []) key (members_of t) ≡ true → (value : Tree) → HasAt key t value → ¬ (array_in value ≡ None)
unfolding is_fit_at fits
list_tells key t h value there none =
    let fit : (is_some (array_in value) || false) ≡ true = subst (λ (o : Option Tree). option_map_or (fits_one (Items ∷ [])) o true ≡ true) there h in
    let unfit : is_some (array_in value) ≡ false = none_is (array_in value) none in
    cc

list_has : (key : List _) (t : Tree) → ((value : Tree) → HasAt key t value → ¬ (array_in value ≡ None)) → is_fit_at (Items ∷ []) key (members_of t) ≡ true
unfolding is_fit_at fits
list_has key t told = by (value_at key (members_of t)) refl where
  there : (o : Option (List Tree)) → ¬ (o ≡ None) → (is_some o || false) ≡ true
  there None other = absurd (other refl)
  there (Some ts) other = refl

  by : (o : Option Tree) → value_at key (members_of t) ≡ o → option_map_or (fits_one (Items ∷ [])) o true ≡ true
  by None is = refl
  by (Some v) is = there (array_in v) (told v is)

judged_tells : (r : Tree) → can_be_judged (members_of r) ≡ true → CanBeJudged r
unfolding can_be_judged
judged_tells r h =
    let fields : List Tree = elements (codes "fields") (members_of r) in
    let first = and_parts (is_fit_at (Boolean ∷ []) (codes "hwext") (members_of r)) _ h in
    let second = and_parts (is_fit_at (Items ∷ []) (codes "fields") (members_of r)) _ first.1 in
    let told : (field : Tree) → IsFieldOf r field → KindsTold r field =
    λ field own. kinds_tell r field (all_pass (kinds_are_told (members_of r)) fields second.1 field own) in
    record {
      hwext = boolean_tells (codes "hwext") r first.0;
      fields = list_tells (codes "fields") r second.0;
      objects = λ field own. (told field own).object;
      software_kinds = λ field own. (told field own).software;
      hardware_kinds = λ field own. (told field own).hardware;
    }

judged_has : (r : Tree) → CanBeJudged r → can_be_judged (members_of r) ≡ true
unfolding can_be_judged
judged_has r judged =
    let fields : List Tree = elements (codes "fields") (members_of r) in
    and_from (is_fit_at (Boolean ∷ []) (codes "hwext") (members_of r)) _ (boolean_has (codes "hwext") r judged.hwext)
    (and_from (is_fit_at (Items ∷ []) (codes "fields") (members_of r)) (list_all (kinds_are_told (members_of r)) fields) (list_has (codes "fields") r judged.fields)
    (pass_all (kinds_are_told (members_of r)) fields
    (λ field own. kinds_have r field (record { object = judged.objects field own; software = judged.software_kinds field own; hardware = judged.hardware_kinds field own }))))

-- ---- why a register cannot be shadowed

other_than_rw : (k : SwAccess) → is_rw k ≡ false → ¬ (k ≡ Rw)
other_than_rw k h is = let plain : is_rw k ≡ true = ap is_rw is in cc

is_other : (k : SwAccess) → ¬ (k ≡ Rw) → not (is_rw k) ≡ true
is_other Rw other = absurd (other refl)
is_other k other = refl

software_why : (r field : Tree) (o : Option SwAccess) → kind_that_counts (members_of r) (members_of field) ≡ o → is_other_than_rw o ≡ true → IsFieldOf r field → CannotBeShadowed r
software_why r field None is h own = cc
software_why r field (Some k) is h own = CannotBeShadowed.other_software field k own (counts_tells r field k is) (other_than_rw k (not_true (is_rw k) h))

hardware_why : (r field : Tree) (o : Option HwAccess) → hardware_that_counts (members_of r) (members_of field) ≡ o → is_written_by_hardware o ≡ true → IsFieldOf r field
    → CannotBeShadowed r
hardware_why r field None is h own = cc
hardware_why r field (Some k) is h own =
    CannotBeShadowed.written_by_hardware field k own (hardware_tells r field k is)
    (λ same. let reads : hardware_writes k ≡ false = ap hardware_writes same in cc) (λ same. let nothing : hardware_writes k ≡ false = ap hardware_writes same in cc)

writes : (k : HwAccess) → ¬ (k ≡ Hro) → ¬ (k ≡ Nothing) → hardware_writes k ≡ true
writes Hro reads nothing = absurd (reads refl)
writes Hrw reads nothing = refl
writes Hwo reads nothing = refl
writes Nothing reads nothing = absurd (nothing refl)

why_tells : (r : Tree) → cannot_be_shadowed (members_of r) ≡ true → CannotBeShadowed r
unfolding cannot_be_shadowed takes_other_values
why_tells r h =
    elim (or_cases (unwrap_or (boolean_at (codes "hwext") (members_of r)) false) _ h) [
      | inl external ↦ let one = true_there (codes "hwext") r external in CannotBeShadowed.external one.0 one.1
      | inr some ↦
          let one = any_finds (takes_other_values (members_of r)) (elements (codes "fields") (members_of r)) some in
          elim (or_cases (is_other_than_rw (kind_that_counts (members_of r) (members_of one.item))) _ one.passes) [
            | inl software ↦ software_why r one.item (kind_that_counts (members_of r) (members_of one.item)) refl software one.among
            | inr hardware ↦ hardware_why r one.item (hardware_that_counts (members_of r) (members_of one.item)) refl hardware one.among
          ]
    ]

some_takes : (r field : Tree) → IsFieldOf r field → takes_other_values (members_of r) field ≡ true → cannot_be_shadowed (members_of r) ≡ true
unfolding cannot_be_shadowed
some_takes r field own h =
    or_right (unwrap_or (boolean_at (codes "hwext") (members_of r)) false) (list_any (takes_other_values (members_of r)) (elements (codes "fields") (members_of r)))
    (finds_any (takes_other_values (members_of r)) (elements (codes "fields") (members_of r)) field own h)

why_has : (r : Tree) → CannotBeShadowed r → cannot_be_shadowed (members_of r) ≡ true
unfolding cannot_be_shadowed takes_other_values
why_has r (CannotBeShadowed.external value there) =
    or_left (unwrap_or (boolean_at (codes "hwext") (members_of r)) false) (list_any (takes_other_values (members_of r)) (elements (codes "fields") (members_of r)))
    (true_at (codes "hwext") r value there)
why_has r (CannotBeShadowed.other_software field kind own counts other) =
    some_takes r field own
    (or_left (is_other_than_rw (kind_that_counts (members_of r) (members_of field))) (is_written_by_hardware (hardware_that_counts (members_of r) (members_of field)))
    (rw (counts_has r field kind counts) (is_other kind other)))
why_has r (CannotBeShadowed.written_by_hardware field kind own counts reads nothing) =
    some_takes r field own
    (or_right (is_other_than_rw (kind_that_counts (members_of r) (members_of field))) (is_written_by_hardware (hardware_that_counts (members_of r) (members_of field)))
    (rw (hardware_has r field kind counts) (writes kind reads nothing)))

-- ---- shadowed registers

-- a register that is shadowed, though it cannot be so
pub record ShadowTold (r : Tree) (f : Finding) : Type 0 where
  pub told : TrueAt (codes "shadowed") r f
  pub judged : CanBeJudged r
  pub cannot : CannotBeShadowed r

pub shadow_tells : (r : Tree) (f : Finding) → In f (shadow_outside (members_of r)) → ShadowTold r f
unfolding shadow_outside
shadow_tells r f among =
    let looked = in_looked (can_be_judged (members_of r) && cannot_be_shadowed (members_of r)) f (outside_if_true (members_of r) (codes "shadowed")) among in
    let both = and_parts (can_be_judged (members_of r)) (cannot_be_shadowed (members_of r)) looked.0 in
    record { told = true_tells (codes "shadowed") r f looked.1; judged = judged_tells r both.0; cannot = why_tells r both.1 }

pub shadow_has : (r value : Tree) → HasTrueAt (codes "shadowed") r value → CanBeJudged r → CannotBeShadowed r
    → In (outside_the_profile value.at (codes "shadowed")) (shadow_outside (members_of r))
unfolding shadow_outside
shadow_has r value there judged cannot =
    looked_has (can_be_judged (members_of r) && cannot_be_shadowed (members_of r)) _ (outside_if_true (members_of r) (codes "shadowed"))
    (and_from (can_be_judged (members_of r)) (cannot_be_shadowed (members_of r)) (judged_has r judged) (why_has r cannot))
    (true_has (codes "shadowed") r value there)
