-- What a block breaks of the rules on keys, kinds and the profile, as lists and as facts.
use Rattle.std.proofs.Common.{◌≡◌, ℕ, ◌<◌, ◌≤◌, ◌==◌, Bool, true, false, ◌&&◌, nat_le, cond, ◌⊎◌, inl, inr, List, [], ◌++◌, length, codes, Option, Some, None, refl, sym, ap, ◌∙◌, subst, arith}
use Rattle.std.proofs.lemmas.Bool.{and_cases, and_left, and_right, eqb-true, false_from_ne_true, leb-true}
use Rattle.std.proofs.lemmas.Bool.Decides.{nat_tests}
use Rattle.std.specs.List.{flat_map}
use Rattle.std.specs.Option.{option_and_then, option_map_or}
use Rattle.std.specs.Str.{bytes_eq}
use Rattle.cg_hjson.specs.declared.tree.Tree.{Tree}
use Rattle.cg_hjson.specs.declared.tree.Member.{Member}
use Rattle.cg_finding.specs.Finding.{Among, Finding, In}
use Rattle.cg_finding.specs.Rules.{outside_the_profile, wrong_kind}
use Rattle.cg_finding.proofs.Members.{in_either, in_flat_map, in_left, in_right, in_unless, unless_has}
use Rattle.cg_finding.proofs.Membership.{is_other_text, other_text}
use Rattle.cg_keys.specs.Duplicates.{duplicate_faults}
use Rattle.cg_keys.specs.Elements.{each_faults, element_faults, elements, length_faults, length_wrong, object_faults, wrong_length}
use Rattle.cg_keys.specs.Forms.{number_within}
use Rattle.cg_keys.specs.Lookups.{number_at, text_at}
use Rattle.cg_keys.specs.Table.{Key, table_faults, value_at}
use Rattle.cg_keys.specs.Values.{array_in, members_of, text_in}
use Rattle.cg_blkread.specs.Facts.Keys.{BreaksKeys, HasTable, IsLimited, ListsObjects, ListsOnlyObjects}
use Rattle.cg_blkread.specs.Facts.Parts.{HasAt}
use Rattle.cg_blkread.specs.Facts.Profile.{BreaksProfile}
use Rattle.cg_blkread.specs.Interfaces.{entry_lists, interface_faults, interfaces}
use Rattle.cg_blkread.specs.Keys.{entry_list_faults, key_faults, lengths_faults, lists_faults, objects_faults, outside_key, protocol_outside, width_outside}
use Rattle.cg_blkread.specs.Tables.{alert_keys, block_keys, clocking_keys, interface_keys, interrupt_keys, parameter_keys, pin_keys}
use Rattle.cg_blkread.proofs.Facts.Registers.{same_some, element_tells, object_tells, outside_has, outside_tells}

-- ---- lists of objects

-- a list of objects at a key
pub objects_tell : (t : Tree) (key : List ℕ) (keys : List Key) (f : Finding) → ListsObjects key keys → In f (objects_faults key keys (members_of t)) → BreaksKeys t f
unfolding objects_faults
objects_tell t key keys f lists among =
    elim (in_either f (element_faults key (members_of t)) (each_faults keys (elements key (members_of t))) among) [
      | inl h ↦ let told = element_tells key t f h in
          subst (BreaksKeys t) (sym told.fault.says) (BreaksKeys.no_object told.list told.fault.element (ListsOnlyObjects.listed lists told.there) told.fault.among told.fault.no_object)
      | inr h ↦ let one = in_flat_map (object_faults keys) (elements key (members_of t)) f h in
          let told = object_tells keys one.item f one.found in
          BreaksKeys.of_object one.item told.members (HasTable.listed one.item lists one.among) told.is_object told.breaks
    ]

pub objects_have : (t : Tree) (key : List ℕ) (keys : List Key) (f : Finding) → In f (element_faults key (members_of t)) ⊎ In f (each_faults keys (elements key (members_of t)))
    → In f (objects_faults key keys (members_of t))
unfolding objects_faults
objects_have t key keys f (inl h) = in_left f (element_faults key (members_of t)) (each_faults keys (elements key (members_of t))) h
objects_have t key keys f (inr h) = in_right f (element_faults key (members_of t)) (each_faults keys (elements key (members_of t))) h

-- ---- lengths of lists

not_least : (least n : ℕ) → nat_le least n ≡ false → n < least
not_least least n h = grind (arith, nat_tests)

is_not_least : (least n : ℕ) → n < least → nat_le least n ≡ false
is_not_least least n h = false_from_ne_true (nat_le least n) (λ is. let least_is : least ≤ n = leb-true least n is in absurd (omega arith))

length_tells : (t : Tree) (key : List ℕ) (least most : ℕ) (f : Finding) → IsLimited key least most → In f (length_faults least most key (members_of t)) → BreaksKeys t f
unfolding length_faults
length_tells t key least most f limited among = by (value_at key (members_of t)) refl among where
  by_list : (v : Tree) (o : Option (List Tree)) → HasAt key t v → array_in v ≡ o → In f (wrong_length least most key v o) → BreaksKeys t f
  by_list v None there is among = absurd among
  by_list v (Some ts) there is among =
      let test = in_unless (nat_le least (length ts) && nat_le (length ts) most) f (wrong_kind v.at key) among in
      let why : (length ts < least) ⊎ (most < length ts) =
      elim (and_cases (nat_le least (length ts)) (nat_le (length ts) most) test.0) [ inl h ↦ inl (not_least least (length ts) h) | inr h ↦ inr (not_least (length ts) most h) ] in
      subst (BreaksKeys t) (sym test.1) (BreaksKeys.wrong_length least most v ts limited there is why)

  by : (o : Option Tree) → value_at key (members_of t) ≡ o → In f (length_wrong least most key o) → BreaksKeys t f
  by None there among = absurd among
  by (Some v) there among = by_list v (array_in v) there refl among

length_has : (t v : Tree) (key : List ℕ) (least most : ℕ) (ts : List Tree) → HasAt key t v → array_in v ≡ Some ts → (length ts < least) ⊎ (most < length ts)
    → In (wrong_kind v.at key) (length_faults least most key (members_of t))
unfolding length_faults
length_has t v key least most ts there is why =
    let fails : (nat_le least (length ts) && nat_le (length ts) most) ≡ false = elim why [
      | inl short ↦ and_left (nat_le least (length ts)) (nat_le (length ts) most) (is_not_least least (length ts) short)
      | inr long ↦ and_right (nat_le least (length ts)) (nat_le (length ts) most) (is_not_least (length ts) most long)
    ] in
    rw (there, is) (unless_has (nat_le least (length ts) && nat_le (length ts) most) (wrong_kind v.at key) (wrong_kind v.at key) fails refl)

pub lengths_tell : (t : Tree) (f : Finding) → In f (lengths_faults (members_of t)) → BreaksKeys t f
unfolding lengths_faults
lengths_tell t f among =
    elim (in_either f (length_faults 1 64 (codes "clocking") (members_of t)) _ among) [
      | inl h ↦ length_tells t (codes "clocking") 1 64 f IsLimited.clocks h
      | inr a ↦ elim (in_either f (length_faults 0 64 (codes "available_input_list") (members_of t)) _ a) [
        | inl h ↦ length_tells t (codes "available_input_list") 0 64 f IsLimited.inputs h
        | inr b ↦ elim (in_either f (length_faults 0 64 (codes "available_output_list") (members_of t)) _ b) [
          | inl h ↦ length_tells t (codes "available_output_list") 0 64 f IsLimited.outputs h
          | inr h ↦ length_tells t (codes "available_inout_list") 0 64 f IsLimited.inouts h
        ]
      ]
    ]

pub lengths_have : (t v : Tree) (key : List ℕ) (least most : ℕ) (ts : List Tree) → IsLimited key least most → HasAt key t v → array_in v ≡ Some ts
    → (length ts < least) ⊎ (most < length ts) → In (wrong_kind v.at key) (lengths_faults (members_of t))
unfolding lengths_faults
lengths_have t v _ _ _ ts IsLimited.clocks there is why =
    in_left _ (length_faults 1 64 (codes "clocking") (members_of t)) _ (length_has t v (codes "clocking") 1 64 ts there is why)
lengths_have t v _ _ _ ts IsLimited.inputs there is why =
    in_right _ (length_faults 1 64 (codes "clocking") (members_of t)) _ (in_left _ (length_faults 0 64 (codes "available_input_list") (members_of t)) _
    (length_has t v (codes "available_input_list") 0 64 ts there is why))
lengths_have t v _ _ _ ts IsLimited.outputs there is why =
    in_right _ (length_faults 1 64 (codes "clocking") (members_of t)) _ (in_right _ (length_faults 0 64 (codes "available_input_list") (members_of t)) _
    (in_left _ (length_faults 0 64 (codes "available_output_list") (members_of t)) _ (length_has t v (codes "available_output_list") 0 64 ts there is why)))
lengths_have t v _ _ _ ts IsLimited.inouts there is why =
    in_right _ (length_faults 1 64 (codes "clocking") (members_of t)) _ (in_right _ (length_faults 0 64 (codes "available_input_list") (members_of t)) _
    (in_right _ (length_faults 0 64 (codes "available_output_list") (members_of t)) _ (length_has t v (codes "available_inout_list") 0 64 ts there is why)))

-- ---- all lists of objects

pub lists_tell : (t : Tree) (f : Finding) → In f (lists_faults (members_of t)) → BreaksKeys t f
unfolding lists_faults
lists_tell t f among =
    let ms : List Member = members_of t in
    elim (in_either f (objects_faults (codes "clocking") clocking_keys ms) _ among) [
      | inl h ↦ objects_tell t (codes "clocking") clocking_keys f ListsObjects.clocks h
      | inr a ↦ elim (in_either f (objects_faults (codes "bus_interfaces") interface_keys ms) _ a) [
        | inl h ↦ objects_tell t (codes "bus_interfaces") interface_keys f ListsObjects.interfaces h
        | inr b ↦ elim (in_either f (objects_faults (codes "interrupt_list") interrupt_keys ms) _ b) [
          | inl h ↦ objects_tell t (codes "interrupt_list") interrupt_keys f ListsObjects.interrupts h
          | inr c ↦ elim (in_either f (objects_faults (codes "alert_list") alert_keys ms) _ c) [
            | inl h ↦ objects_tell t (codes "alert_list") alert_keys f ListsObjects.alerts h
            | inr d ↦ elim (in_either f (objects_faults (codes "param_list") parameter_keys ms) _ d) [
              | inl h ↦ objects_tell t (codes "param_list") parameter_keys f ListsObjects.parameters h
              | inr e ↦ pins t f e
            ]
          ]
        ]
      ]
    ]
  where
    pins : (t : Tree) (f : Finding)
        → In f (objects_faults (codes "available_input_list") pin_keys (members_of t)
        ++ (objects_faults (codes "available_output_list") pin_keys (members_of t) ++ objects_faults (codes "available_inout_list") pin_keys (members_of t)))
        → BreaksKeys t f
    pins t f among =
        elim (in_either f (objects_faults (codes "available_input_list") pin_keys (members_of t)) _ among) [
          | inl h ↦ objects_tell t (codes "available_input_list") pin_keys f ListsObjects.inputs h
          | inr a ↦ elim (in_either f (objects_faults (codes "available_output_list") pin_keys (members_of t)) _ a) [
            | inl h ↦ objects_tell t (codes "available_output_list") pin_keys f ListsObjects.outputs h
            | inr h ↦ objects_tell t (codes "available_inout_list") pin_keys f ListsObjects.inouts h
          ]
        ]

pub lists_have : (t : Tree) (key : List ℕ) (keys : List Key) (f : Finding) → ListsObjects key keys → In f (objects_faults key keys (members_of t)) → In f (lists_faults (members_of t))
unfolding lists_faults
lists_have t _ _ f ListsObjects.clocks h = in_left f (objects_faults (codes "clocking") clocking_keys (members_of t)) _ h
lists_have t _ _ f ListsObjects.interfaces h =
    in_right f (objects_faults (codes "clocking") clocking_keys (members_of t)) _ (in_left f (objects_faults (codes "bus_interfaces") interface_keys (members_of t)) _ h)
lists_have t _ _ f ListsObjects.interrupts h =
    in_right f (objects_faults (codes "clocking") clocking_keys (members_of t)) _ (in_right f (objects_faults (codes "bus_interfaces") interface_keys (members_of t)) _
    (in_left f (objects_faults (codes "interrupt_list") interrupt_keys (members_of t)) _ h))
lists_have t _ _ f ListsObjects.alerts h =
    in_right f (objects_faults (codes "clocking") clocking_keys (members_of t)) _ (in_right f (objects_faults (codes "bus_interfaces") interface_keys (members_of t)) _
    (in_right f (objects_faults (codes "interrupt_list") interrupt_keys (members_of t)) _ (in_left f (objects_faults (codes "alert_list") alert_keys (members_of t)) _ h)))
lists_have t _ _ f ListsObjects.parameters h =
    in_right f (objects_faults (codes "clocking") clocking_keys (members_of t)) _ (in_right f (objects_faults (codes "bus_interfaces") interface_keys (members_of t)) _
    (in_right f (objects_faults (codes "interrupt_list") interrupt_keys (members_of t)) _ (in_right f (objects_faults (codes "alert_list") alert_keys (members_of t)) _
    (in_left f (objects_faults (codes "param_list") parameter_keys (members_of t)) _ h))))
lists_have t _ _ f ListsObjects.inputs h =
    in_right f (objects_faults (codes "clocking") clocking_keys (members_of t)) _ (in_right f (objects_faults (codes "bus_interfaces") interface_keys (members_of t)) _
    (in_right f (objects_faults (codes "interrupt_list") interrupt_keys (members_of t)) _ (in_right f (objects_faults (codes "alert_list") alert_keys (members_of t)) _
    (in_right f (objects_faults (codes "param_list") parameter_keys (members_of t)) _ (in_left f (objects_faults (codes "available_input_list") pin_keys (members_of t)) _ h)))))
lists_have t _ _ f ListsObjects.outputs h =
    in_right f (objects_faults (codes "clocking") clocking_keys (members_of t)) _ (in_right f (objects_faults (codes "bus_interfaces") interface_keys (members_of t)) _
    (in_right f (objects_faults (codes "interrupt_list") interrupt_keys (members_of t)) _ (in_right f (objects_faults (codes "alert_list") alert_keys (members_of t)) _
    (in_right f (objects_faults (codes "param_list") parameter_keys (members_of t)) _ (in_right f (objects_faults (codes "available_input_list") pin_keys (members_of t)) _
    (in_left f (objects_faults (codes "available_output_list") pin_keys (members_of t)) _ h))))))
lists_have t _ _ f ListsObjects.inouts h =
    in_right f (objects_faults (codes "clocking") clocking_keys (members_of t)) _ (in_right f (objects_faults (codes "bus_interfaces") interface_keys (members_of t)) _
    (in_right f (objects_faults (codes "interrupt_list") interrupt_keys (members_of t)) _ (in_right f (objects_faults (codes "alert_list") alert_keys (members_of t)) _
    (in_right f (objects_faults (codes "param_list") parameter_keys (members_of t)) _ (in_right f (objects_faults (codes "available_input_list") pin_keys (members_of t)) _
    (in_right f (objects_faults (codes "available_output_list") pin_keys (members_of t)) _ h))))))

-- ---- the width of registers and the protocol of interfaces

pub width_tells : (t : Tree) (f : Finding) → In f (width_outside (members_of t)) → BreaksProfile t f
unfolding width_outside number_at
width_tells t f among = by (value_at (codes "regwidth") (members_of t)) refl among where
  by_number : (v : Tree) (o : Option ℕ) → HasAt (codes "regwidth") t v → number_within 0 4294967295 v ≡ o
      → In f (option_map_or (λ (n : ℕ). cond (n == 32) [] (outside_key (members_of t) (codes "regwidth"))) o []) → BreaksProfile t f
  by_number v None there is among = absurd among
  by_number v (Some n) there is among = by_test (n == 32) refl among where
    by_test : (b : Bool) → (n == 32) ≡ b → In f (cond b [] (outside_key (members_of t) (codes "regwidth"))) → BreaksProfile t f
    by_test true e among = absurd among
    by_test false e among =
        let told = outside_tells (codes "regwidth") t f among in
        let same : told.value ≡ v = same_some told.value v (sym told.there ∙ there) in
        let other : ¬ (n ≡ 32) = λ is32. let test : (n == 32) ≡ true = rw is32 refl in cc in
        subst (BreaksProfile t) (sym told.says)
        (BreaksProfile.width told.value n told.there (ap (number_within 0 4294967295) same ∙ is) other)

  by : (o : Option Tree) → value_at (codes "regwidth") (members_of t) ≡ o
      → In f (option_map_or (λ (n : ℕ). cond (n == 32) [] (outside_key (members_of t) (codes "regwidth"))) (option_and_then (number_within 0 4294967295) o) []) → BreaksProfile t f
  by None there among = absurd among
  by (Some v) there among = by_number v (number_within 0 4294967295 v) there refl among

pub width_has : (t v : Tree) (n : ℕ) → HasAt (codes "regwidth") t v → number_within 0 4294967295 v ≡ Some n → ¬ (n ≡ 32)
    → In (outside_the_profile v.at (codes "regwidth")) (width_outside (members_of t))
unfolding width_outside number_at
width_has t v n there is other =
    let fails : (n == 32) ≡ false = false_from_ne_true (n == 32) (λ h. other (eqb-true n 32 h)) in
    let found : In (outside_the_profile v.at (codes "regwidth")) (outside_key (members_of t) (codes "regwidth")) = outside_has (codes "regwidth") t v there in
    rw (there, is, fails) found

pub protocol_tells : (t i : Tree) (f : Finding) → Among i (interfaces (members_of t)) → In f (protocol_outside i) → BreaksProfile t f
unfolding protocol_outside text_at
protocol_tells t i f stands among = by (value_at (codes "protocol") (members_of i)) refl among where
  by_text : (v : Tree) (o : Option (List ℕ)) → HasAt (codes "protocol") i v → text_in v ≡ o
      → In f (option_map_or (λ p. cond (bytes_eq p (codes "tlul")) [] (outside_key (members_of i) (codes "protocol"))) o []) → BreaksProfile t f
  by_text v None there is among = absurd among
  by_text v (Some p) there is among = by_test (bytes_eq p (codes "tlul")) refl among where
    by_test : (b : Bool) → bytes_eq p (codes "tlul") ≡ b → In f (cond b [] (outside_key (members_of i) (codes "protocol"))) → BreaksProfile t f
    by_test true e among = absurd among
    by_test false e among =
        let told = outside_tells (codes "protocol") i f among in
        let same : told.value ≡ v = same_some told.value v (sym told.there ∙ there) in
        subst (BreaksProfile t) (sym told.says)
        (BreaksProfile.protocol i told.value p stands told.there (ap text_in same ∙ is) (other_text p (codes "tlul") e))

  by : (o : Option Tree) → value_at (codes "protocol") (members_of i) ≡ o
      → In f (option_map_or (λ p. cond (bytes_eq p (codes "tlul")) [] (outside_key (members_of i) (codes "protocol"))) (option_and_then text_in o) []) → BreaksProfile t f
  by None there among = absurd among
  by (Some v) there among = by_text v (text_in v) there refl among

pub protocol_has : (i v : Tree) (p : List ℕ) → HasAt (codes "protocol") i v → text_in v ≡ Some p → ¬ (p ≡ codes "tlul")
    → In (outside_the_profile v.at (codes "protocol")) (protocol_outside i)
unfolding protocol_outside text_at
protocol_has i v p there is other =
    let fails : bytes_eq p (codes "tlul") ≡ false = is_other_text p (codes "tlul") other in
    let found : In (outside_the_profile v.at (codes "protocol")) (outside_key (members_of i) (codes "protocol")) = outside_has (codes "protocol") i v there in
    rw (there, is, fails) found

-- ---- the parts of all that is listed

pub data PartOf (t : Tree) (f : Finding) : Type 0 where
  duplicates : In f (duplicate_faults t) → PartOf t f
  table : In f (table_faults t.at (members_of t) block_keys) → PartOf t f
  lengths : In f (lengths_faults (members_of t)) → PartOf t f
  lists : In f (lists_faults (members_of t)) → PartOf t f
  width : In f (width_outside (members_of t)) → PartOf t f
  protocols : In f (flat_map protocol_outside (interfaces (members_of t))) → PartOf t f
  together : In f (interface_faults (members_of t)) → PartOf t f
  entries : In f (flat_map entry_list_faults (entry_lists (members_of t))) → PartOf t f

pub part_of : (t : Tree) (f : Finding) → In f (key_faults t) → PartOf t f
unfolding key_faults
part_of t f among =
    let ms : List Member = members_of t in
    elim (in_either f (duplicate_faults t) _ among) [
      | inl h ↦ duplicates h
      | inr a ↦ elim (in_either f (table_faults t.at ms block_keys) _ a) [
        | inl h ↦ table h
        | inr b ↦ elim (in_either f (lengths_faults ms) _ b) [
          | inl h ↦ lengths h
          | inr c ↦ elim (in_either f (lists_faults ms) _ c) [
            | inl h ↦ lists h
            | inr d ↦ elim (in_either f (width_outside ms) _ d) [
              | inl h ↦ width h
              | inr e ↦ elim (in_either f (flat_map protocol_outside (interfaces ms)) _ e) [
                | inl h ↦ protocols h
                | inr g ↦ elim (in_either f (interface_faults ms) (flat_map entry_list_faults (entry_lists ms)) g) [ inl h ↦ together h | inr h ↦ entries h ]
              ]
            ]
          ]
        ]
      ]
    ]

pub part_listed : (t : Tree) (f : Finding) → PartOf t f → In f (key_faults t)
unfolding key_faults
part_listed t f part = by part where
  ms : List Member
  ms = members_of t

  by : PartOf t f → In f (key_faults t)
  by (duplicates h) = in_left f (duplicate_faults t) _ h
  by (table h) = in_right f (duplicate_faults t) _ (in_left f (table_faults t.at ms block_keys) _ h)
  by (lengths h) = in_right f (duplicate_faults t) _ (in_right f (table_faults t.at ms block_keys) _ (in_left f (lengths_faults ms) _ h))
  by (lists h) =
      in_right f (duplicate_faults t) _ (in_right f (table_faults t.at ms block_keys) _ (in_right f (lengths_faults ms) _ (in_left f (lists_faults ms) _ h)))
  by (width h) =
      in_right f (duplicate_faults t) _ (in_right f (table_faults t.at ms block_keys) _ (in_right f (lengths_faults ms) _ (in_right f (lists_faults ms) _
      (in_left f (width_outside ms) _ h))))
  by (protocols h) =
      in_right f (duplicate_faults t) _ (in_right f (table_faults t.at ms block_keys) _ (in_right f (lengths_faults ms) _ (in_right f (lists_faults ms) _
      (in_right f (width_outside ms) _ (in_left f (flat_map protocol_outside (interfaces ms)) _ h)))))
  by (together h) =
      in_right f (duplicate_faults t) _ (in_right f (table_faults t.at ms block_keys) _ (in_right f (lengths_faults ms) _ (in_right f (lists_faults ms) _
      (in_right f (width_outside ms) _ (in_right f (flat_map protocol_outside (interfaces ms)) _ (in_left f (interface_faults ms) (flat_map entry_list_faults (entry_lists ms)) h))))))
  by (entries h) =
      in_right f (duplicate_faults t) _ (in_right f (table_faults t.at ms block_keys) _ (in_right f (lengths_faults ms) _ (in_right f (lists_faults ms) _
      (in_right f (width_outside ms) _ (in_right f (flat_map protocol_outside (interfaces ms)) _ (in_right f (interface_faults ms) (flat_map entry_list_faults (entry_lists ms)) h))))))
