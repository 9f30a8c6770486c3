-- What the values of a block break, as lists and as facts.
use Rattle.std.proofs.Common.{◌≡◌, true, false, inl, inr, List, map, codes, refl, sym, ap, ◌∙◌, subst}
use Rattle.std.proofs.lemmas.Bool.{false_from_ne_true}
use Rattle.cg_hjson.specs.declared.tree.Tree.{Tree}
use Rattle.cg_hjson.specs.declared.tree.Member.{Member}
use Rattle.cg_finding.specs.Finding.{Among, Finding, In}
use Rattle.cg_finding.specs.Rules as rules
use Rattle.cg_finding.proofs.Members.{flat_map_has, in_either, in_flat_map, in_left, in_right, in_unless, unless_has}
use Rattle.cg_finding.proofs.Membership.{in_map, map_has}
use Rattle.cg_keys.specs.Values.{items_of, members_of}
use Rattle.cg_blkread.specs.Facts.Parts.{HasAt, HasNot, IsEntry, IsMultireg, IsRegister, IsSingle, IsWindow, copied, single}
use Rattle.cg_blkread.specs.Facts.Values as value
use Rattle.cg_blkread.specs.Facts.Values.{BreaksValues, HasRegister}
use Rattle.cg_blkread.specs.Interfaces.{EntryList, entry_lists}
use Rattle.cg_blkread.specs.Raw.{Parameter, parameters, raw_entry, raw_multireg, raw_register, raw_window, number_or_zero}
use Rattle.cg_blkread.specs.Reads.{raw_entries, value_faults}
use Rattle.cg_blkread.specs.Values.{bad_count, entry_values, is_count_to, register_values}
use Rattle.cg_blkread.specs.declared.raw.RawEntry.{RawEntry}
use Rattle.cg_blkread.specs.declared.raw.RawEntry.TheVariants as entry
use Rattle.cg_blkread.specs.declared.raw.RawRegister.{RawRegister}
use Rattle.cg_blkread.proofs.Facts.Entries.{Kind, is_listed, kind_of, listed_is, multireg, register, reservation, skip, window}
use Rattle.cg_blkread.proofs.Facts.Values.{PartOf, bad_field, bad_found, count_is, empty_found, is_count, no_field, outside_found, overlap_found, overlapping, register_has, register_tells, stray, wide_field, wide_found}

-- an entry, as it is written, stands in the list of them
raw_has : (t e : Tree) → IsEntry t e → Among (raw_entry (parameters (members_of t)) e) (raw_entries (members_of t))
unfolding raw_entries
raw_has t e is =
    let ms : List Member = members_of t in
    flat_map_has (λ (l : EntryList). map (raw_entry (parameters ms)) (items_of l.value)) (entry_lists ms) (record { key = is.key; value = is.list }) _
    (is_listed t is.key is.list is.listed) (map_has (raw_entry (parameters ms)) (items_of is.list) e is.among)

-- an entry that is written is one of the block
record FromEntry (t : Tree) (x : RawEntry) : Type 0 where
  entry : Tree
  is_entry : IsEntry t entry
  is : x ≡ raw_entry (parameters (members_of t)) entry

raw_is : (t : Tree) (x : RawEntry) → Among x (raw_entries (members_of t)) → FromEntry t x
unfolding raw_entries
raw_is t x among =
    let ms : List Member = members_of t in
    let list = in_flat_map (λ (l : EntryList). map (raw_entry (parameters ms)) (items_of l.value)) (entry_lists ms) x among in
    let one = in_map (raw_entry (parameters ms)) (items_of list.item.value) x list.found in
    record {
      entry = one.source;
      is_entry = record { key = list.item.key; list = list.item.value; listed = listed_is t list.item list.among; among = one.among };
      is = one.is;
    }

raw_is_multireg : (ps : List Parameter) (e m : Tree) → HasAt (codes "multireg") e m → raw_entry ps e ≡ entry.Multireg (raw_multireg ps m)
unfolding raw_entry
raw_is_multireg ps e m there = rw there refl

raw_is_window : (ps : List Parameter) (e w : Tree) → HasNot (codes "multireg") e → HasAt (codes "window") e w → raw_entry ps e ≡ entry.Window (raw_window ps w)
unfolding raw_entry
raw_is_window ps e w none there = rw (none, there) refl

raw_is_skip : (ps : List Parameter) (e s : Tree) → HasNot (codes "multireg") e → HasNot (codes "window") e → HasAt (codes "skipto") e s
    → raw_entry ps e ≡ entry.SkipTo (number_or_zero s) s.at
unfolding raw_entry
raw_is_skip ps e s none no_window there = rw (none, no_window, there) refl

raw_is_reservation : (ps : List Parameter) (e r : Tree) → HasNot (codes "multireg") e → HasNot (codes "window") e → HasNot (codes "skipto") e → HasAt (codes "reserved") e r
    → raw_entry ps e ≡ entry.Reserved (number_or_zero r) r.at
unfolding raw_entry
raw_is_reservation ps e r none no_window no_skip there = rw (none, no_window, no_skip, there) refl

raw_is_register : (ps : List Parameter) (e : Tree) → HasNot (codes "multireg") e → HasNot (codes "window") e → HasNot (codes "skipto") e → HasNot (codes "reserved") e
    → raw_entry ps e ≡ entry.Register (raw_register e)
unfolding raw_entry
raw_is_register ps e none no_window no_skip no_reservation = rw (none, no_window, no_skip, no_reservation) refl

-- what an entry's values break
entry_tells : (t e : Tree) (f : Finding) → IsEntry t e → In f (entry_values (raw_entry (parameters (members_of t)) e)) → BreaksValues t f
unfolding entry_values raw_multireg
entry_tells t e f is among = by (kind_of e) among where
  ps : List Parameter
  ps = parameters (members_of t)

  by : Kind e → In f (entry_values (raw_entry ps e)) → BreaksValues t f
  by (multireg m there) among =
      let has : IsMultireg t m = record { entry = e; is_entry = is; there = there } in
      let raw = raw_multireg ps m in
      elim (in_either f (register_values raw.register) (bad_count raw) (subst (λ x. In f (entry_values x)) (raw_is_multireg ps e m there) among)) [
        | inl h ↦ register_tells t raw.register f (m, copied has, refl) h
        | inr h ↦ let test = in_unless (is_count_to 4096 raw.count) f (rules.bad_count raw.count_at raw.register.name) h in
            subst (BreaksValues t) (sym test.1)
            (value.count raw (m, has, refl) (λ good. let passes : is_count_to 4096 raw.count ≡ true = is_count 4096 raw.count good in cc))
      ]
  by (window w none there) among =
      let has : IsWindow t w = record { entry = e; is_entry = is; no_multireg = none; there = there } in
      let raw = raw_window ps w in
      let test = in_unless (is_count_to 4194304 raw.items) f (rules.bad_window raw.items_at raw.name) (subst (λ x. In f (entry_values x)) (raw_is_window ps e w none there) among) in
      subst (BreaksValues t) (sym test.1)
      (value.words raw (w, has, refl) (λ good. let passes : is_count_to 4194304 raw.items ≡ true = is_count 4194304 raw.items good in cc))
  by (skip s none no_window there) among = absurd (subst (λ x. In f (entry_values x)) (raw_is_skip ps e s none no_window there) among)
  by (reservation r none no_window no_skip there) among =
      absurd (subst (λ x. In f (entry_values x)) (raw_is_reservation ps e r none no_window no_skip there) among)
  by (register none no_window no_skip no_reservation) among =
      let has : IsSingle t e = record { is_entry = is; no_multireg = none; no_window = no_window; no_skip = no_skip; no_reservation = no_reservation } in
      register_tells t (raw_register e) f (e, single has, refl)
      (subst (λ x. In f (entry_values x)) (raw_is_register ps e none no_window no_skip no_reservation) among)

pub values_tell : (t : Tree) (f : Finding) → In f (value_faults t) → BreaksValues t f
unfolding value_faults
values_tell t f among =
    let one = in_flat_map entry_values (raw_entries (members_of t)) f among in
    let from = raw_is t one.item one.among in
    entry_tells t from.entry f from.is_entry (subst (λ x. In f (entry_values x)) from.is one.found)

-- what an entry breaks is listed
value_found : (t e : Tree) (f : Finding) (x : RawEntry) → IsEntry t e → raw_entry (parameters (members_of t)) e ≡ x → In f (entry_values x) → In f (value_faults t)
unfolding value_faults
value_found t e f x is raw among =
    flat_map_has entry_values (raw_entries (members_of t)) (raw_entry (parameters (members_of t)) e) f (raw_has t e is) (subst (λ y. In f (entry_values y)) (sym raw) among)

-- what a register breaks is listed
register_found : (t r : Tree) (f : Finding) → IsRegister t r → In f (register_values (raw_register r)) → In f (value_faults t)
unfolding entry_values raw_multireg
register_found t r f (single is) among =
    value_found t r f _ is.is_entry (raw_is_register (parameters (members_of t)) r is.no_multireg is.no_window is.no_skip is.no_reservation) among
register_found t r f (copied is) among =
    let raw = raw_multireg (parameters (members_of t)) r in
    value_found t is.entry f _ is.is_entry (raw_is_multireg (parameters (members_of t)) is.entry r is.there) (in_left f (register_values raw.register) (bad_count raw) among)

part_found : (t : Tree) (r : RawRegister) (f : Finding) → HasRegister t r → PartOf r f → In f (value_faults t)
part_found t r f (tree, is, raw) part = register_found t tree f is (subst (λ s. In f (register_values s)) raw (register_has r f part))

pub values_have : (t : Tree) (f : Finding) → BreaksValues t f → In f (value_faults t)
unfolding entry_values
values_have t _ (value.bad r f has among none) = part_found t r _ has (bad_field (bad_found r f among none))
values_have t _ (value.overlap r before after f g k has splits among first second) =
    part_found t r _ has (overlapping (overlap_found r before after f g k splits among first second))
values_have t _ (value.wide r f b v has among bits resval past) = part_found t r _ has (wide_field (wide_found r f b v among bits resval past))
values_have t _ (value.outside r v k has all resval below one free) = part_found t r _ has (stray (outside_found r v k all resval below one free))
values_have t _ (value.empty r has none) = part_found t r _ has (no_field (empty_found r none))
values_have t _ (value.count m (tree, is, raw) bad) =
    let f : Finding = rules.bad_count m.count_at m.register.name in
    let fails : is_count_to 4096 m.count ≡ false = false_from_ne_true (is_count_to 4096 m.count) (λ h. bad (count_is 4096 m.count h)) in
    value_found t is.entry f (entry.Multireg m) is.is_entry (raw_is_multireg (parameters (members_of t)) is.entry tree is.there ∙ ap entry.Multireg (sym raw))
    (in_right f (register_values m.register) (bad_count m) (unless_has (is_count_to 4096 m.count) f f fails refl))
values_have t _ (value.words w (tree, is, raw) bad) =
    let f : Finding = rules.bad_window w.items_at w.name in
    let fails : is_count_to 4194304 w.items ≡ false = false_from_ne_true (is_count_to 4194304 w.items) (λ h. bad (count_is 4194304 w.items h)) in
    value_found t is.entry f (entry.Window w) is.is_entry (raw_is_window (parameters (members_of t)) is.entry tree is.no_multireg is.there ∙ ap entry.Window (sym raw))
    (unless_has (is_count_to 4194304 w.items) f f fails refl)
