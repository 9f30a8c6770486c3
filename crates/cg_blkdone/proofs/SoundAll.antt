-- The tree of a completed description breaks no rule on keys and values.
use Rattle.std.proofs.Common.{◌≡◌, ◌==◌, Bool, true, false, not, ◌&&◌, ◌||◌, cond, codes, is_some, List, [], ◌∷◌, map, Option, Some, None, option_map, option_and_then, refl, sym, ap, ◌∙◌, subst}
use Rattle.std.proofs.lemmas.Bool.{and_parts}
use Rattle.std.specs.List.{list_all}
use Rattle.std.specs.Option.{option_map_or}
use Rattle.serde_json.specs.Data.{Data}
use Rattle.serde_json.specs.Find.{as_array, get}
use Rattle.cg_finding.specs.Finding.{Finding}
use Rattle.cg_hjson.specs.Json.{KeysDiffer}
use Rattle.cg_hjson.specs.Views.{tree_of}
use Rattle.cg_hjson.specs.declared.tree.Tree.{Tree}
use Rattle.cg_keys.specs.Duplicates.{duplicate_faults}
use Rattle.cg_keys.specs.Elements.{elements}
use Rattle.cg_keys.specs.Lookups.{number_at}
use Rattle.cg_keys.specs.Table.{needs, table_faults, value_at}
use Rattle.cg_keys.specs.Values.{members_of, object_in}
use Rattle.cg_keys.specs.declared.forms.Form.TheVariants.{Items, Name, Object}
use Rattle.cg_blkread.specs.Interfaces.{EntryList, devices, lists_in}
use Rattle.cg_blkread.specs.Keys.{key_faults, outside_key, width_outside}
use Rattle.cg_blkread.specs.Raw.{Parameter, parameter_of, parameters}
use Rattle.cg_blkread.specs.Reads.{Violates, value_faults}
use Rattle.cg_blkread.proofs.Facts.Listed.{nothing_broken, nothing_listed}
use Rattle.cg_blkread.specs.Tables.{block_keys}
use Rattle.cg_blkread.proofs.Sound.Empty.{empty_parts}
use Rattle.cg_blkdone.specs.Completed.{CompletedIsSound, IsReadBlock, Says}
use Rattle.cg_blkdone.specs.Full.{full_block, full_parameter, with_all}
use Rattle.cg_blkdone.specs.Full.{lists_in as completed_lists}
use Rattle.cg_blkdone.proofs.FullNeat.{full_neat}
use Rattle.cg_blkdone.proofs.CompletedLists.{pairwise}
use Rattle.cg_blkdone.proofs.Lookups.{elements_told, found_at, is_object, number_at_told, number_told_in}
use Rattle.cg_blkdone.proofs.Once.{members_once, part_differs}
use Rattle.cg_blkdone.proofs.Parts.{parameter_read}
use Rattle.cg_blkdone.proofs.SoundBlock.{BlockIsGood, block_stays, full_is, pairs_with, parameters_put, registers_put, same_devices, same_goodness, same_named, same_names_good, width_put}
use Rattle.cg_blkdone.proofs.SoundEntries.{list_good}
use Rattle.cg_blkdone.proofs.SoundEntry.{is_fine_list, list_stays}
use Rattle.cg_blkdone.proofs.SoundInterfaces.{all_good, all_named, devices_by_told, devices_told, few_devices, interfaces_told, names_good, protocol_good}
use Rattle.cg_blkdone.proofs.SoundKeys.{sound_keys_differ}
use Rattle.cg_blkdone.proofs.SoundNone.{empty_is_none, is_none, none_is_empty, not_false}
use Rattle.cg_blkdone.proofs.SoundParted.{keys_good, lengths_good, list_values, lists_good, none_of_all_values, none_of_keys, shape_good, together_good}
use Rattle.cg_blkdone.proofs.SoundRepeats.{none_twice}
use Rattle.cg_blkdone.proofs.SoundShape.{ListsStay, is_misshapen, lists_pass, lists_stay}
use Rattle.cg_blkdone.proofs.SoundTables.{elements_of, key_good, none_of_table, table_good}
use Rattle.cg_blkdone.proofs.Told.{found_told, told}
use Rattle.cg_blkdone.proofs.Whole.{differ_by, told_by}

-- ---- nothing is found

record NoneFound (t : Tree) : Type 0 where
  keys : is_none (key_faults t) ≡ true
  values : is_none (value_faults t) ≡ true

none_found : (t : Tree) → ((f : Finding) → ¬ Violates t f) → NoneFound t
none_found t sound = let both = nothing_listed t sound in record { keys = ap is_none both.0; values = ap is_none both.1 }

-- ---- the registers of a block

-- a list or an object that stands at `registers`
record HasRegisters (t : Tree) : Type 0 where
  r : Tree
  there : value_at (codes "registers") (members_of t) ≡ Some r
  either : (is_object (told r) || is_some (as_array (told r))) ≡ true

registers_by : (t : Tree) (o : Option Tree) → value_at (codes "registers") (members_of t) ≡ o
    → key_good (needs (codes "registers") (Items ∷ Object ∷ [])) (option_map told o) ≡ true → HasRegisters t
registers_by t None is row = absurd cc
registers_by t (Some r) is row = record { r = r; there = is; either = turned (is_some (as_array (told r))) (is_object (told r)) row } where
  turned : (a b : Bool) → (a || (b || false)) ≡ true → (b || a) ≡ true
  turned a true h = refl
  turned true false h = refl
  turned false false h = absurd cc

registers_row : (t : Tree) → table_good block_keys (told t) ≡ true → key_good (needs (codes "registers") (Items ∷ Object ∷ [])) (get (codes "registers") (told t)) ≡ true
registers_row t table =
    let name = and_parts (key_good (needs (codes "name") (Name ∷ [])) (get (codes "name") (told t))) _ table in
    let clocking = and_parts (key_good (needs (codes "clocking") (Items ∷ [])) (get (codes "clocking") (told t))) _ name.1 in
    let interfaces = and_parts (key_good (needs (codes "bus_interfaces") (Items ∷ [])) (get (codes "bus_interfaces") (told t))) _ clocking.1 in
    (and_parts (key_good (needs (codes "registers") (Items ∷ Object ∷ [])) (get (codes "registers") (told t))) _ interfaces.1).0

has_registers : (t : Tree) → table_good block_keys (told t) ≡ true → HasRegisters t
has_registers t table =
    registers_by t (value_at (codes "registers") (members_of t)) refl
    (ap (key_good (needs (codes "registers") (Items ∷ Object ∷ []))) (found_told (codes "registers") t) ∙ registers_row t table)

-- the first row of the rules on keys asks for registers, before it is known where they are
table_found : (t : Tree) → key_faults t ≡ [] → table_good block_keys (told t) ≡ true
unfolding key_faults
table_found t h =
    let first = empty_parts (duplicate_faults t) _ h in
    sym (none_of_table t.at t block_keys) ∙ empty_is_none _ (empty_parts (table_faults t.at (members_of t) block_keys) _ first.1).0

-- ---- what is found of t is nothing

-- the rules on the keys of t, each by itself
record EachGood (t r : Tree) : Type 0 where
  block : BlockIsGood (told t)
  named : cond (all_good (told t)) (all_named (told t) && (names_good (told t) && shape_good t r)) true ≡ true
  lists : lists_pass list_good r (object_in r) ≡ true

each_good : (t r : Tree) → keys_good t r ≡ true → EachGood t r
each_good t r good =
    let d : Data = told t in
    let a = and_parts (is_none (duplicate_faults t)) _ good in
    let b = and_parts (table_good block_keys d) _ a.1 in
    let c = and_parts (lengths_good d) _ b.1 in
    let e = and_parts (lists_good d) _ c.1 in
    let f = and_parts (is_none (width_outside (members_of t))) _ e.1 in
    let g = and_parts (list_all protocol_good (interfaces_told d)) _ f.1 in
    let h = and_parts (together_good t r) (lists_pass list_good r (object_in r)) g.1 in
    let l1 = and_parts _ _ c.0 in
    let l2 = and_parts _ _ l1.1 in
    let l3 = and_parts _ _ l2.1 in
    let o1 = and_parts _ _ e.0 in
    let o2 = and_parts _ _ o1.1 in
    let o3 = and_parts _ _ o2.1 in
    let o4 = and_parts _ _ o3.1 in
    let o5 = and_parts _ _ o4.1 in
    let o6 = and_parts _ _ o5.1 in
    let o7 = and_parts _ _ o6.1 in
    let t1 = and_parts (few_devices d) _ h.0 in
    record {
      block = record {
        table = b.0;
        clocks = l1.0;
        inputs = l2.0;
        outputs = l3.0;
        inouts = l3.1;
        clocking = o1.0;
        interfaces = o2.0;
        interrupts = o3.0;
        alerts = o4.0;
        parameters = o5.0;
        input_pins = o6.0;
        output_pins = o7.0;
        inout_pins = o7.1;
        protocols = g.0;
        few = t1.0;
      };
      named = t1.1;
      lists = h.1;
    }

-- two tests of lists are one, and one is two
both_pass : (p q : Data → Bool) (ls : List EntryList) → list_all (λ (l : EntryList). p (told l.value)) ls ≡ true → list_all (λ (l : EntryList). q (told l.value)) ls ≡ true
    → list_all (λ (l : EntryList). p (told l.value) && q (told l.value)) ls ≡ true
both_pass p q [] a b = refl
both_pass p q (l ∷ ls) a b =
    let x = and_parts (p (told l.value)) _ a in
    let y = and_parts (q (told l.value)) _ b in
    λ i. (x.0 i && y.0 i) && both_pass p q ls x.1 y.1 i

first_passes : (p q : Data → Bool) (ls : List EntryList) → list_all (λ (l : EntryList). p (told l.value) && q (told l.value)) ls ≡ true
    → list_all (λ (l : EntryList). p (told l.value)) ls ≡ true
first_passes p q [] h = refl
first_passes p q (l ∷ ls) h =
    let both = and_parts (p (told l.value) && q (told l.value)) _ h in λ i. (and_parts (p (told l.value)) (q (told l.value)) both.0).0 i && first_passes p q ls both.1 i

second_passes : (p q : Data → Bool) (ls : List EntryList) → list_all (λ (l : EntryList). p (told l.value) && q (told l.value)) ls ≡ true
    → list_all (λ (l : EntryList). q (told l.value)) ls ≡ true
second_passes p q [] h = refl
second_passes p q (l ∷ ls) h =
    let both = and_parts (p (told l.value) && q (told l.value)) _ h in λ i. (and_parts (p (told l.value)) (q (told l.value)) both.0).1 i && second_passes p q ls both.1 i

-- ---- nor of u

-- what is asked of the names and lists together, where all interfaces are good
named_by : (b : Bool) (named names shape again more other : Bool) → again ≡ named → more ≡ names → (shape ≡ true → other ≡ true)
    → cond b (named && (names && shape)) true ≡ true → cond b (again && (more && other)) true ≡ true
named_by false named names shape again more other x y step h = refl
named_by true named names shape again more other x y step h =
    let a = and_parts named (names && shape) h in
    let b = and_parts names shape a.1 in
    λ i. (x ∙ a.0) i && ((y ∙ b.0) i && step b.1 i)

module _ (t u r v : Tree) (there : value_at (codes "registers") (members_of t) ≡ Some r) (good : EachGood t r)
    (values : lists_pass (list_values (parameters (members_of t))) r (object_in r) ≡ true)
    (done : told u ≡ with_all (pairs_with (members_of t) (Some r)) (told t)) (differ : KeysDiffer (tree_of u))
    (again : value_at (codes "registers") (members_of u) ≡ Some v) where
  block_good : BlockIsGood (told u)
  block_good = subst BlockIsGood (sym done) (block_stays t r good.block)

  width_is : number_at 0 4294967295 (codes "regwidth") (members_of u) ≡ Some 32
  width_is =
      number_at_told 0 4294967295 (codes "regwidth") u ∙ ap (λ d. option_and_then (number_told_in 0 4294967295) (get (codes "regwidth") d)) done
      ∙ ap (option_and_then (number_told_in 0 4294967295)) (width_put t r good.block)

  width_good : is_none (width_outside (members_of u)) ≡ true
  unfolding width_outside
  width_good = ap (λ o. is_none (option_map_or (λ n. cond (n == 32) [] (outside_key (members_of u) (codes "regwidth"))) o [])) width_is

  devices_same : map told (devices (members_of u)) ≡ map told (devices (members_of t))
  devices_same = devices_by_told u ∙ ap devices_told done ∙ same_devices t r good.block ∙ sym (devices_by_told t)

  parameters_same : parameters (members_of u) ≡ parameters (members_of t)
  unfolding parameters
  parameters_same =
      pairwise full_parameter parameter_of parameter_read (elements (codes "param_list") (members_of t)) (elements (codes "param_list") (members_of u))
      (elements_told (codes "param_list") u ∙ ap (elements_of (codes "param_list")) done ∙ parameters_put t r good.block)

  lists_kept : ListsStay (is_fine_list (parameters (members_of t))) (devices (members_of t)) (devices (members_of u)) r v → shape_good t r ≡ true → shape_good u v ≡ true
  lists_kept stay h =
      let both = and_parts (not (is_misshapen (devices (members_of t)) r (object_in r))) _ h in
      λ i. not (stay.shape (not_false (is_misshapen (devices (members_of t)) r (object_in r)) both.0) i) && stay.missing both.1 i

  named_good : ListsStay (is_fine_list (parameters (members_of t))) (devices (members_of t)) (devices (members_of u)) r v
      → cond (all_good (told u)) (all_named (told u) && (names_good (told u) && shape_good u v)) true ≡ true
  named_good stay =
      ap (λ b. cond b (all_named (told u) && (names_good (told u) && shape_good u v)) true) (ap all_good done ∙ same_goodness t r good.block)
      ∙ named_by (all_good (told t)) (all_named (told t)) (names_good (told t)) (shape_good t r) (all_named (told u)) (names_good (told u)) (shape_good u v)
      (ap all_named done ∙ same_named t r good.block) (ap names_good done ∙ same_names_good t r good.block) (lists_kept stay) good.named

  fine_lists : lists_pass (is_fine_list (parameters (members_of t))) r (object_in r) ≡ true
  fine_lists = both_pass list_good (list_values (parameters (members_of t))) (lists_in r (object_in r)) good.lists values

  still_none : ListsStay (is_fine_list (parameters (members_of t))) (devices (members_of t)) (devices (members_of u)) r v → NoneFound u
  still_none stay =
      let b = block_good in
      let fine = stay.pass fine_lists in
      let lists : lists_pass list_good v (object_in v) ≡ true = first_passes list_good (list_values (parameters (members_of t))) (lists_in v (object_in v)) fine in
      let own = second_passes list_good (list_values (parameters (members_of t))) (lists_in v (object_in v)) fine in
      record {
        keys = none_of_keys u v again
            ∙ (λ i. none_twice u differ i && (b.table i && ((b.clocks i && (b.inputs i && (b.outputs i && b.inouts i)))
            && ((b.clocking i && (b.interfaces i && (b.interrupts i && (b.alerts i && (b.parameters i && (b.input_pins i && (b.output_pins i && b.inout_pins i)))))))
            && (width_good i && (b.protocols i && ((b.few i && named_good stay i) && lists i)))))));
        values = none_of_all_values u v again ∙ ap (λ params. lists_pass (list_values params) v (object_in v)) parameters_same ∙ own;
      }

completed_none : (t u : Tree) → IsReadBlock t → Says u (full_block t) → NoneFound u
completed_none t u read says =
    let found = none_found t read.sound in
    let has = has_registers t (table_found t (none_is_empty (key_faults t) found.keys)) in
    let r : Tree = has.r in
    let good : EachGood t r = each_good t r (sym (none_of_keys t r has.there) ∙ found.keys) in
    let values = sym (none_of_all_values t r has.there) ∙ found.values in
    let done : told u ≡ with_all (pairs_with (members_of t) (Some r)) (told t) = told_by u (full_block t) says (full_neat t) ∙ full_is t r has.there in
    let differ : KeysDiffer (tree_of u) = differ_by u (full_block t) says (full_neat t) in
    let lists = found_at (codes "registers") u (completed_lists r (object_in r)) (ap (get (codes "registers")) done ∙ registers_put t r good.block) in
    let v : Tree = lists.value in
    let once = members_once r (part_differs (codes "registers") t r (sound_keys_differ t read.sound) has.there) in
    let params : List Parameter = parameters (members_of t) in
    let same = devices_same t u r v has.there good values done differ lists.there in
    let stay = lists_stay (is_fine_list params) (list_stays params) (devices (members_of t)) (devices (members_of u)) same r v has.either once lists.tells in
    still_none t u r v has.there good values done differ lists.there stay

-- it breaks no rule
pub completed_sound : CompletedIsSound
completed_sound t u read says f = let none = completed_none t u read says in nothing_broken u (none_is_empty (key_faults u) none.keys) (none_is_empty (value_faults u) none.values) f
