-- The automatic registers: their names differ, and their fields have the names of interrupts and alerts.
use Rattle.std.proofs.Common.{ℕ, ◌≡◌, ◌+◌, Bool, true, false, ◌&&◌, ◌||◌, ◌⊎◌, cond, List, [], ◌∷◌, ◌++◌, map, Option, append-nil, inl, inr, refl, sym, ap, ◌∙◌, subst}
use Rattle.std.specs.List.{flat_map}
use Rattle.std.specs.Option.{option_map_or}
use Rattle.std.specs.Str.{str_eq_ignore_ascii_case}
use Rattle.std.proofs.lemmas.Bool.{and_from, and_parts}
use Rattle.std.proofs.lemmas.Grind.{flat_map-append}
use Rattle.std.proofs.lemmas.List.{map-append}
use Rattle.cg_desc.specs.declared.block.SwAccess.{SwAccess}
use Rattle.cg_desc.specs.declared.block.SwAccess.TheVariants.{Rw, Wo}
use Rattle.cg_desc.specs.declared.block.HwAccess.{HwAccess}
use Rattle.cg_desc.specs.declared.block.HwAccess.TheVariants.{Hro, Hrw}
use Rattle.cg_desc.specs.declared.block.Item.{Item}
use Rattle.cg_desc.specs.declared.block.IntrDesc.{IntrDesc}
use Rattle.cg_desc.specs.declared.block.AlertDesc.{AlertDesc}
use Rattle.cg_desc.specs.declared.block.BlockDesc.{BlockDesc}
use Rattle.cg_desc.specs.Items.{alert_fields, alert_registers, automatic_items, has_some, interrupt_fields, interrupt_registers, state_access}
use Rattle.cg_finding.specs.Finding.{Finding, In}
use Rattle.cg_finding.proofs.Members.{in_either, in_left, in_right}
use Rattle.cg_expand.specs.Violations.{Named, name_of}
use Rattle.cg_expand.specs.Parts.Automatic.{automatic_with}
use Rattle.cg_expand.specs.Parts.Faults.{fields_twice, none_known}
use Rattle.cg_expand.specs.Parts.Labels.{alert_label, field_label, interrupt_label, labels_twice}
use Rattle.cg_expand.specs.Parts.Names.{also, known_twice, names_twice}
use Rattle.cg_expand.proofs.KnownNames.{same_known}

-- ---- with all fields

pub with_fields : (b : BlockDesc) → automatic_with true b ≡ automatic_items b
unfolding automatic_with interrupt_registers alert_registers
with_fields b = refl

-- ---- names

-- what names break depends on names alone
names_by : (known : List ℕ → Bool) (xs ys : List Item) → map name_of xs ≡ map name_of ys → names_twice known xs ≡ names_twice known ys
unfolding names_twice
names_by known [] [] same = refl
names_by known [] (y ∷ ys) same = cc
names_by known (x ∷ xs) [] same = cc
names_by known (x ∷ xs) (y ∷ ys) same =
    let first : name_of x ≡ name_of y = cc in
    let others : map name_of xs ≡ map name_of ys = cc in
    let rest : names_twice (also x known) xs ≡ names_twice (also y known) ys =
    names_by (also x known) xs ys others ∙ same_known (also x known) (also y known) ys (λ q. ap (λ (o : Option Named). option_map_or (λ n. str_eq_ignore_ascii_case n.name q) o false || known q) first) in
    λ i. option_map_or (known_twice known) (first i) [] ++ rest i

-- a view of two lists, each of which may be left out
view_over_two : {Y : Type 0} (view : Item → Y) (p q : Bool) (xs xs' ys ys' : List Item) → map view xs ≡ map view xs' → map view ys ≡ map view ys'
    → map view (cond p xs [] ++ cond q ys []) ≡ map view (cond p xs' [] ++ cond q ys' [])
view_over_two view true true xs xs' ys ys' d e = map-append view xs ys ∙ (λ i. d i ++ e i) ∙ sym (map-append view xs' ys')
view_over_two view true false xs xs' ys ys' d e = map-append view xs [] ∙ (λ i. d i ++ []) ∙ sym (map-append view xs' [])
view_over_two view false true xs xs' ys ys' d e = e
view_over_two view false false xs xs' ys ys' d e = refl

-- with fields or without, the registers have the same names
same_names : (b : BlockDesc) → map name_of (automatic_with false b) ≡ map name_of (automatic_items b)
unfolding automatic_with interrupt_registers alert_registers
same_names b = view_over_two name_of (b.auto_intr && has_some b.intrs) (b.auto_alert && has_some b.alerts) _ _ _ _ refl refl

pub names_with : (wanted : Bool) (known : List ℕ → Bool) (b : BlockDesc) (items : List Item)
    → names_twice known (automatic_with wanted b ++ items) ≡ names_twice known (automatic_items b ++ items)
names_with true known b items = ap (λ xs. names_twice known (xs ++ items)) (with_fields b)
names_with false known b items =
    names_by known (automatic_with false b ++ items) (automatic_items b ++ items)
    (map-append name_of (automatic_with false b) items ∙ ap (λ ns. ns ++ map name_of items) (same_names b) ∙ sym (map-append name_of (automatic_items b) items))

-- no two have the same name
names_differ_by : (b : BlockDesc) (p q : Bool) → names_twice none_known (cond p (interrupt_registers b) [] ++ cond q (alert_registers b) []) ≡ []
unfolding names_twice known_twice interrupt_registers alert_registers
names_differ_by b true true = refl
names_differ_by b true false = refl
names_differ_by b false true = refl
names_differ_by b false false = refl

pub names_differ : (b : BlockDesc) → names_twice none_known (automatic_items b) ≡ []
names_differ b = names_differ_by b (b.auto_intr && has_some b.intrs) (b.auto_alert && has_some b.alerts)

-- ---- fields

-- what two lists break, each of which may be left out
faults_over_two : (p q : Bool) (xs ys : List Item)
    → flat_map fields_twice (cond p xs [] ++ cond q ys []) ≡ cond p (flat_map fields_twice xs) [] ++ cond q (flat_map fields_twice ys) []
faults_over_two true true xs ys = flat_map-append fields_twice xs ys
faults_over_two true false xs ys = flat_map-append fields_twice xs []
faults_over_two false true xs ys = refl
faults_over_two false false xs ys = refl

-- registers without fields break nothing by their fields' names
none_by : (p q : Bool) (xs ys : List Finding) → xs ≡ [] → ys ≡ [] → cond p xs [] ++ cond q ys [] ≡ []
none_by true true xs ys d e = λ i. d i ++ e i
none_by true false xs ys d e = λ i. d i ++ []
none_by false true xs ys d e = e
none_by false false xs ys d e = refl

without_fields : (b : BlockDesc) → flat_map fields_twice (automatic_with false b) ≡ []
unfolding automatic_with labels_twice
without_fields b =
    faults_over_two (b.auto_intr && has_some b.intrs) (b.auto_alert && has_some b.alerts) _ _
    ∙ none_by (b.auto_intr && has_some b.intrs) (b.auto_alert && has_some b.alerts) _ _ refl refl

pub in_fields_with : (wanted : Bool) (b : BlockDesc) (f : Finding) → In f (flat_map fields_twice (automatic_with wanted b)) → In f (flat_map fields_twice (automatic_items b))
in_fields_with true b f among = subst (λ xs. In f (flat_map fields_twice xs)) (with_fields b) among
in_fields_with false b f among = absurd (subst (In f) (without_fields b) among)

-- the names of the fields, and their places
interrupt_labels : (sw : IntrDesc → SwAccess) (hw : HwAccess) (lsb : ℕ) (is : List IntrDesc) → map field_label (interrupt_fields sw hw lsb is) ≡ map interrupt_label is
unfolding interrupt_fields
interrupt_labels sw hw lsb [] = refl
interrupt_labels sw hw lsb (i ∷ is) = ap (λ ls. interrupt_label i ∷ ls) (interrupt_labels sw hw (lsb + i.width) is)

alert_labels : (lsb : ℕ) (as' : List AlertDesc) → map field_label (alert_fields lsb as') ≡ map alert_label as'
unfolding alert_fields
alert_labels lsb [] = refl
alert_labels lsb (a ∷ as') = ap (λ ls. alert_label a ∷ ls) (alert_labels (lsb + 1) as')

-- what the names of all interrupts, and of all alerts, break
abbrev pub interrupt_names : BlockDesc → List Finding
interrupt_names b = labels_twice (map interrupt_label b.intrs)

abbrev pub alert_names : BlockDesc → List Finding
alert_names b = labels_twice (map alert_label b.alerts)

interrupt_registers_are : (b : BlockDesc) → flat_map fields_twice (interrupt_registers b) ≡ interrupt_names b ++ (interrupt_names b ++ (interrupt_names b ++ []))
unfolding interrupt_registers
interrupt_registers_are b = λ i.
    labels_twice (interrupt_labels state_access Hrw 0 b.intrs i) ++ (labels_twice (interrupt_labels (λ j. Rw) Hro 0 b.intrs i) ++ (labels_twice (interrupt_labels (λ j. Wo) Hro 0 b.intrs i) ++ []))

alert_registers_are : (b : BlockDesc) → flat_map fields_twice (alert_registers b) ≡ alert_names b ++ []
unfolding alert_registers
alert_registers_are b = λ i. labels_twice (alert_labels 0 b.alerts i) ++ []

automatic_are : (b : BlockDesc) → flat_map fields_twice (automatic_items b)
    ≡ cond (b.auto_intr && has_some b.intrs) (interrupt_names b ++ (interrupt_names b ++ (interrupt_names b ++ []))) [] ++ cond (b.auto_alert && has_some b.alerts) (alert_names b ++ []) []
automatic_are b =
    faults_over_two (b.auto_intr && has_some b.intrs) (b.auto_alert && has_some b.alerts) (interrupt_registers b) (alert_registers b)
    ∙ (λ i. cond (b.auto_intr && has_some b.intrs) (interrupt_registers_are b i) [] ++ cond (b.auto_alert && has_some b.alerts) (alert_registers_are b i) [])

-- what stands in one of three lists that are alike, and an empty one
in_three : (f : Finding) (xs : List Finding) → In f (xs ++ (xs ++ (xs ++ []))) → In f xs
in_three f xs among =
    elim (in_either f xs (xs ++ (xs ++ [])) among) [
      | inl here ↦ here
      | inr more ↦ elim (in_either f xs (xs ++ []) more) [ inl here ↦ here | inr last ↦ subst (In f) (append-nil xs) last ]
    ]

in_cond : (p : Bool) (f : Finding) (xs : List Finding) → In f (cond p xs []) → (p ≡ true) × In f xs
in_cond true f xs among = (refl, among)
in_cond false f xs among = absurd among

cond_has : (p : Bool) (f : Finding) (xs : List Finding) → p ≡ true → In f xs → In f (cond p xs [])
cond_has true f xs is among = among
cond_has false f xs is among = cc

-- what is found in automatic registers is found in the names of interrupts or alerts
pub in_automatic : (b : BlockDesc) (f : Finding) → In f (flat_map fields_twice (automatic_items b))
    → ((b.auto_intr ≡ true) × In f (interrupt_names b)) ⊎ ((b.auto_alert ≡ true) × In f (alert_names b))
in_automatic b f among =
    let p : Bool = b.auto_intr && has_some b.intrs in
    let q : Bool = b.auto_alert && has_some b.alerts in
    elim (in_either f (cond p (interrupt_names b ++ (interrupt_names b ++ (interrupt_names b ++ []))) []) (cond q (alert_names b ++ []) []) (subst (In f) (automatic_are b) among)) [
      | inl here ↦ let test = in_cond p f _ here in inl ((and_parts b.auto_intr (has_some b.intrs) test.0).0, in_three f (interrupt_names b) test.1)
      | inr there ↦ let test = in_cond q f _ there in inr ((and_parts b.auto_alert (has_some b.alerts) test.0).0, subst (In f) (append-nil (alert_names b)) test.1)
    ]

-- and the reverse
some_interrupt : (is : List IntrDesc) (f : Finding) → In f (labels_twice (map interrupt_label is)) → has_some is ≡ true
unfolding labels_twice
some_interrupt [] f among = absurd among
some_interrupt (i ∷ is) f among = refl

some_alert : (as' : List AlertDesc) (f : Finding) → In f (labels_twice (map alert_label as')) → has_some as' ≡ true
unfolding labels_twice
some_alert [] f among = absurd among
some_alert (a ∷ as') f among = refl

pub interrupt_found : (b : BlockDesc) (f : Finding) → b.auto_intr ≡ true → In f (interrupt_names b) → In f (flat_map fields_twice (automatic_items b))
interrupt_found b f wanted among =
    let p : Bool = b.auto_intr && has_some b.intrs in
    let q : Bool = b.auto_alert && has_some b.alerts in
    let there : p ≡ true = and_from b.auto_intr (has_some b.intrs) wanted (some_interrupt b.intrs f among) in
    subst (In f) (sym (automatic_are b))
    (in_left f (cond p (interrupt_names b ++ (interrupt_names b ++ (interrupt_names b ++ []))) []) (cond q (alert_names b ++ []) [])
    (cond_has p f _ there (in_left f (interrupt_names b) (interrupt_names b ++ (interrupt_names b ++ [])) among)))

pub alert_found : (b : BlockDesc) (f : Finding) → b.auto_alert ≡ true → In f (alert_names b) → In f (flat_map fields_twice (automatic_items b))
alert_found b f wanted among =
    let p : Bool = b.auto_intr && has_some b.intrs in
    let q : Bool = b.auto_alert && has_some b.alerts in
    let there : q ≡ true = and_from b.auto_alert (has_some b.alerts) wanted (some_alert b.alerts f among) in
    subst (In f) (sym (automatic_are b))
    (in_right f (cond p (interrupt_names b ++ (interrupt_names b ++ (interrupt_names b ++ []))) []) (cond q (alert_names b ++ []) [])
    (cond_has q f _ there (in_left f (alert_names b) [] among)))
