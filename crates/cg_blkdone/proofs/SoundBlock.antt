-- A completed block breaks no rule on its own keys, its interfaces and its lists.
use Rattle.std.proofs.Common.{◌≡◌, ℕ, nat_le, nat_lt, Bool, true, false, ◌&&◌, ◌||◌, cond, is_some, length, codes, List, [], ◌∷◌, map, Option, Some, None, option_map, arith, refl, ap, ◌∙◌}
use Rattle.std.proofs.lemmas.List.{length-map}
use Rattle.std.specs.List.{filter, list_all}
use Rattle.std.specs.Option.{option_map_or}
use Rattle.serde_json.specs.Data.{Data, Items as JsonItems, boolean}
use Rattle.serde_json.specs.Data as json
use Rattle.serde_json.specs.Find.{as_array, get}
use Rattle.serde_json.specs.View.{items_of as json_items}
use Rattle.cg_hjson.specs.declared.tree.Tree.{Tree}
use Rattle.cg_hjson.specs.declared.tree.Member.{Member}
use Rattle.cg_keys.specs.Elements.{elements}
use Rattle.cg_keys.specs.Table.{Key, value_at}
use Rattle.cg_keys.specs.Values.{members_of, object_in, or_empty}
use Rattle.cg_keys.specs.declared.forms.Form.TheVariants.{Items, Object}
use Rattle.cg_blkread.specs.Raw.{is_true}
use Rattle.cg_blkread.specs.Tables.{alert_keys, block_keys, clocking_keys, interface_keys, interrupt_keys, parameter_keys, pin_keys}
use Rattle.cg_blkdone.specs.Full.{Pair, block_pairs, entries_pairs, full_alert, full_block, full_interrupt, full_lists, full_parameter, full_pin, list_of, list_pair, lists_in, number_of, pair, said_with, with_all}
use Rattle.cg_blkdone.proofs.FieldLists.{listed_items}
use Rattle.cg_blkdone.proofs.Lookups.{elements_told, is_object, items_told_at, object_stays}
use Rattle.cg_blkdone.proofs.Puts.{last_at}
use Rattle.cg_blkdone.proofs.SoundCompleted.{Puts, has_put, keeps, table_stays, word_fits}
use Rattle.cg_blkdone.proofs.SoundEntries.{length_by_told}
use Rattle.cg_blkdone.proofs.SoundInterfaces.{all_good as interfaces_good, all_named, devices_told, few_devices, good_told, interfaces_told, is_device_told, is_host_told, name_told, names_good, protocol_good, same_names}
use Rattle.cg_blkdone.proofs.SoundParts.{Stays, all_good, alert_stays, interrupt_stays, parameter_stays, parts_stay, pin_stays}
use Rattle.cg_blkdone.proofs.SoundTables.{elements_of, fits_one_told, length_good, objects_good, table_good}
use Rattle.cg_blkdone.proofs.Told.{listed, object_told, told}

-- ---- what is put

-- what is put into a block whose lists of entries stand in this value
abbrev pub pairs_with : List Member → Option Tree → List Pair
pairs_with ms o =
    list_pair (codes "interrupt_list") full_interrupt ms
    ∷ list_pair (codes "alert_list") full_alert ms
    ∷ pair (codes "no_auto_intr_regs") (boolean (is_true (codes "no_auto_intr_regs") ms))
    ∷ pair (codes "no_auto_alert_regs") (boolean (is_true (codes "no_auto_alert_regs") ms))
    ∷ list_pair (codes "param_list") full_parameter ms
    ∷ pair (codes "regwidth") (number_of 32)
    ∷ list_pair (codes "available_input_list") full_pin ms
    ∷ list_pair (codes "available_output_list") full_pin ms
    ∷ list_pair (codes "available_inout_list") full_pin ms
    ∷ full_lists o

-- the completed block, by the value that stands at `registers`
pub full_is : (t r : Tree) → value_at (codes "registers") (members_of t) ≡ Some r → full_block t ≡ with_all (pairs_with (members_of t) (Some r)) (told t)
unfolding full_block block_pairs
full_is t r there = ap (λ o. with_all (pairs_with (members_of t) o) (told t)) there

lists_fit_by : (r : Tree) (b : Bool) → is_object (told r) ≡ b → (o : Option (List Member)) → is_some o ≡ b → fits_one_told (Items ∷ Object ∷ []) (lists_in r o) ≡ true
lists_fit_by r b is None some = refl
lists_fit_by r false is (Some ms) some = absurd cc
lists_fit_by r true is (Some ms) some =
    ap (λ c. is_some (as_array (said_with (entries_pairs ms) r)) || (c || false)) (object_stays (entries_pairs ms) (told r) is)
    ∙ either (is_some (as_array (said_with (entries_pairs ms) r))) where
      either : (b : Bool) → (b || true) ≡ true
      either true = refl
      either false = refl

block_puts : (ms : List Member) (r : Tree) → fits_one_told (Items ∷ Object ∷ []) (lists_in r (object_in r)) ≡ true → Puts block_keys (pairs_with ms (Some r))
unfolding full_lists
block_puts ms r fit = (tt, (tt, (tt, (fit, (refl, (refl, (refl, (refl, (refl, (word_fits [] 32 (omega arith), (refl, (refl, (refl, tt)))))))))))))

-- what is asked of a block by itself
pub record BlockIsGood (d : Data) : Type 0 where
  pub table : table_good block_keys d ≡ true
  pub clocks : option_map_or (length_good 1 64) (get (codes "clocking") d) true ≡ true
  pub inputs : option_map_or (length_good 0 64) (get (codes "available_input_list") d) true ≡ true
  pub outputs : option_map_or (length_good 0 64) (get (codes "available_output_list") d) true ≡ true
  pub inouts : option_map_or (length_good 0 64) (get (codes "available_inout_list") d) true ≡ true
  pub clocking : objects_good clocking_keys (codes "clocking") d ≡ true
  pub interfaces : objects_good interface_keys (codes "bus_interfaces") d ≡ true
  pub interrupts : objects_good interrupt_keys (codes "interrupt_list") d ≡ true
  pub alerts : objects_good alert_keys (codes "alert_list") d ≡ true
  pub parameters : objects_good parameter_keys (codes "param_list") d ≡ true
  pub input_pins : objects_good pin_keys (codes "available_input_list") d ≡ true
  pub output_pins : objects_good pin_keys (codes "available_output_list") d ≡ true
  pub inout_pins : objects_good pin_keys (codes "available_inout_list") d ≡ true
  pub protocols : list_all protocol_good (interfaces_told d) ≡ true
  pub few : few_devices d ≡ true

items_many : (o : Option Data) → option_map_or (length_good 0 64) o true ≡ true → (nat_le 0 (length (items_told_at o)) && nat_le (length (items_told_at o)) 64) ≡ true
items_many None h = refl
items_many (Some e) h = by (as_array e) h where
  by : (a : Option JsonItems) → option_map_or (λ ds. nat_le 0 (length ds) && nat_le (length ds) 64) (option_map listed a) true ≡ true
      → (nat_le 0 (length (or_empty (option_map listed a))) && nat_le (length (or_empty (option_map listed a))) 64) ≡ true
  by None h = refl
  by (Some ds) h = h

root_is : (d : Data) → table_good block_keys d ≡ true → is_object d ≡ true
root_is json.null h = absurd cc
root_is (boolean b) h = absurd cc
root_is (json.number n) h = absurd cc
root_is (json.string s) h = absurd cc
root_is (json.array ds) h = absurd cc
root_is (json.object ms) h = refl

module _ (t r : Tree) (good : BlockIsGood (told t)) where
  abbrev ps : List Pair
  ps = pairs_with (members_of t) (Some r)

  abbrev d : Data
  d = told t

  abbrev full : Data
  full = with_all ps d

  pub is : is_object d ≡ true
  is = root_is d good.table

  -- a list of parts that is put there
  listed_at : (ks : List Key) (key : List ℕ) (fill : Tree → Data) → Stays ks fill → last_at key ps ≡ Some (list_of (map fill (elements key (members_of t))))
      → objects_good ks key d ≡ true
      → objects_good ks key full ≡ true
  listed_at ks key fill stays put own =
      let xs : List Tree = elements key (members_of t) in
      let there : elements_of key full ≡ map fill xs = ap items_told_at (has_put key ps d (list_of (map fill xs)) is put) ∙ listed_items (map fill xs) in
      ap (all_good ks) there ∙ parts_stay ks fill stays xs (ap (all_good ks) (elements_told key t) ∙ own)

  kept_at : (ks : List Key) (key : List ℕ) → last_at key ps ≡ None → objects_good ks key d ≡ true → objects_good ks key full ≡ true
  kept_at ks key none own = ap (λ o. all_good ks (items_told_at o)) (keeps key ps d is none) ∙ own

  many_at : (key : List ℕ) → last_at key ps ≡ Some (list_of (map full_pin (elements key (members_of t)))) → option_map_or (length_good 0 64) (get key d) true ≡ true
      → option_map_or (length_good 0 64) (get key full) true ≡ true
  many_at key put own =
      let xs : List Tree = elements key (members_of t) in
      let many : length (listed (json_items (map full_pin xs))) ≡ length (elements_of key d) = ap length (listed_items (map full_pin xs))
      ∙ length-map xs full_pin ∙ length_by_told key t in
      ap (λ o. option_map_or (length_good 0 64) o true) (has_put key ps d (list_of (map full_pin xs)) is put)
      ∙ ap (λ n. nat_le 0 n && nat_le n 64) many ∙ items_many (get key d) own

  pub same_interfaces : get (codes "bus_interfaces") full ≡ get (codes "bus_interfaces") d
  unfolding full_lists
  same_interfaces = keeps (codes "bus_interfaces") ps d is refl

  pub registers_put : get (codes "registers") full ≡ Some (lists_in r (object_in r))
  unfolding full_lists
  registers_put = has_put (codes "registers") ps d (lists_in r (object_in r)) is refl

  pub width_put : get (codes "regwidth") full ≡ Some (number_of 32)
  unfolding full_lists
  width_put = has_put (codes "regwidth") ps d (number_of 32) is refl

  pub parameters_put : elements_of (codes "param_list") full ≡ map full_parameter (elements (codes "param_list") (members_of t))
  unfolding full_lists
  parameters_put =
      ap items_told_at (has_put (codes "param_list") ps d (list_of (map full_parameter (elements (codes "param_list") (members_of t)))) is refl)
      ∙ listed_items (map full_parameter (elements (codes "param_list") (members_of t)))

  -- a completed block is good by itself
  pub block_stays : BlockIsGood full
  unfolding full_lists
  block_stays = record {
    table = table_stays block_keys ps d is (block_puts (members_of t) r (lists_fit_by r (is_object (told r)) refl (object_in r) (object_told r))) good.table;
    clocks = ap (λ o. option_map_or (length_good 1 64) o true) (keeps (codes "clocking") ps d is refl) ∙ good.clocks;
    inputs = many_at (codes "available_input_list") refl good.inputs;
    outputs = many_at (codes "available_output_list") refl good.outputs;
    inouts = many_at (codes "available_inout_list") refl good.inouts;
    clocking = kept_at clocking_keys (codes "clocking") refl good.clocking;
    interfaces = kept_at interface_keys (codes "bus_interfaces") refl good.interfaces;
    interrupts = listed_at interrupt_keys (codes "interrupt_list") full_interrupt interrupt_stays refl good.interrupts;
    alerts = listed_at alert_keys (codes "alert_list") full_alert alert_stays refl good.alerts;
    parameters = listed_at parameter_keys (codes "param_list") full_parameter parameter_stays refl good.parameters;
    input_pins = listed_at pin_keys (codes "available_input_list") full_pin pin_stays refl good.input_pins;
    output_pins = listed_at pin_keys (codes "available_output_list") full_pin pin_stays refl good.output_pins;
    inout_pins = listed_at pin_keys (codes "available_inout_list") full_pin pin_stays refl good.inout_pins;
    protocols = ap (λ o. list_all protocol_good (items_told_at o)) same_interfaces ∙ good.protocols;
    few = ap (λ o. cond (nat_lt 8 (length (filter is_device_told (items_told_at o)))) (option_map_or (λ (e : Data). false) o true) true) same_interfaces ∙ good.few;
  }

  -- the names of its interfaces are what they were
  pub same_named : all_named full ≡ all_named d
  same_named = ap (λ o. cond (nat_lt 1 (length (filter is_device_told (items_told_at o)))) (list_all (λ e. is_some (name_told e)) (filter is_device_told (items_told_at o))) true) same_interfaces

  pub same_names_good : names_good full ≡ names_good d
  same_names_good =
      ap (λ o. cond (same_names (filter is_device_told (items_told_at o))
      || same_names (filter is_host_told (items_told_at o))) (option_map_or (λ (e : Data). false) o true) true) same_interfaces

  pub same_goodness : interfaces_good full ≡ interfaces_good d
  same_goodness = ap (λ o. option_map_or (λ e. option_map_or (list_all good_told) (option_map listed (as_array e)) false) o false) same_interfaces

  pub same_devices : devices_told full ≡ devices_told d
  same_devices = ap (λ o. filter is_device_told (items_told_at o)) same_interfaces
