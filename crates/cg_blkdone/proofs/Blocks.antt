-- A completed block is the same block, and complete.
use Rattle.std.proofs.Common.{◌≡◌, ℕ, true, false, not, List, [], ◌∷◌, ◌++◌, map, Option, Some, None, option_map, unwrap_or, cond, bytes_eq, codes, refl, sym, ap, ◌∙◌, subst}
use Rattle.serde_json.specs.Data.{Data, boolean}
use Rattle.serde_json.specs.Find.{get}
use Rattle.cg_desc.specs.declared.block.HostFace.{HostFace}
use Rattle.cg_desc.specs.declared.block.IoDir.TheVariants.{In, InOut, Out}
use Rattle.cg_hjson.specs.Json.{KeysDiffer}
use Rattle.cg_hjson.specs.Views.{tree_of}
use Rattle.cg_hjson.specs.declared.tree.Member.{Member}
use Rattle.cg_hjson.specs.declared.tree.Tree.{Tree}
use Rattle.cg_keys.specs.Elements.{elements}
use Rattle.cg_keys.specs.Forms.{or_else}
use Rattle.cg_keys.specs.Table.{value_at}
use Rattle.cg_keys.specs.Values.{members_of, object_in}
use Rattle.cg_blkread.specs.Described.{entry_list_of, alert_desc, block_of, clock_desc, entries_in, face_desc, interrupt_desc, list_of_value, pin_desc, pins_of}
use Rattle.cg_blkread.specs.Interfaces.{devices, hosts, interface_name, interfaces, is_device, is_host}
use Rattle.cg_blkread.specs.Raw.{is_true, parameter_of, parameters, text_or_empty}
use Rattle.cg_blkdone.specs.Full.{Pair, block_pairs, full_alert, full_block, full_interrupt, full_lists, full_parameter, full_pin, list_of, list_pair, lists_in, number_of, pair}
use Rattle.cg_blkdone.specs.Places.{alert_unplaced, block_unplaced, entry_unplaced, face_unplaced, interrupt_unplaced, start}
use Rattle.cg_blkdone.proofs.Completion.{Completed, HasAt, KeepsAt, boolean_has, completed_twice, stands_at, text_kept}
use Rattle.cg_blkdone.proofs.FieldLists.{first_same, listed_items, rest_same}
use Rattle.cg_blkdone.proofs.Interfaces.{RegistersCompleted, lists_named, lists_twice, map_twice, no_registers, registers_same, same_entries, some_registers}
use Rattle.cg_blkdone.proofs.CompletedLists.{pairwise}
use Rattle.cg_blkdone.proofs.Lookups.{FoundAt, absent_at, elements_told, found_at, is_object, items_told_at}
use Rattle.cg_blkdone.proofs.Once.{members_once, part_differs}
use Rattle.cg_blkdone.proofs.Parts.{alert_described, clock_described, filter_same, interrupt_described, interrupt_twice, named_same, parameter_read, parameter_twice, pin_described, pin_twice, text_is_same}
use Rattle.cg_blkdone.proofs.Puts.{last_at, last_in_both, none_either}
use Rattle.cg_blkdone.proofs.Told.{found_told, told}

-- ---- what is put at a block's keys

abbrev certain_pairs : List Member → List Pair
certain_pairs ms =
    list_pair (codes "interrupt_list") full_interrupt ms
    ∷ list_pair (codes "alert_list") full_alert ms
    ∷ pair (codes "no_auto_intr_regs") (boolean (is_true (codes "no_auto_intr_regs") ms))
    ∷ pair (codes "no_auto_alert_regs") (boolean (is_true (codes "no_auto_alert_regs") ms))
    ∷ list_pair (codes "param_list") full_parameter ms
    ∷ pair (codes "regwidth") (number_of 32)
    ∷ list_pair (codes "available_input_list") full_pin ms
    ∷ list_pair (codes "available_output_list") full_pin ms
    ∷ list_pair (codes "available_inout_list") full_pin ms
    ∷ []

abbrev lists_put : Option Tree → Option Data
lists_put o = option_map (λ t. lists_in t (object_in t)) o

last_in_lists : (key : List ℕ) (o : Option Tree) → last_at key (full_lists o) ≡ cond (bytes_eq key (codes "registers")) (lists_put o) None
unfolding full_lists
last_in_lists key None = none_either (bytes_eq key (codes "registers"))
last_in_lists key (Some t) = refl

last_in_block : (key : List ℕ) (ms : List Member)
    → last_at key (block_pairs ms) ≡ or_else (cond (bytes_eq key (codes "registers")) (lists_put (value_at (codes "registers") ms)) None) (last_at key (certain_pairs ms))
unfolding block_pairs
last_in_block key ms =
    last_in_both key (certain_pairs ms) (full_lists (value_at (codes "registers") ms))
    ∙ ap (λ o. or_else o (last_at key (certain_pairs ms))) (last_in_lists key (value_at (codes "registers") ms))

-- ---- the same blocks but for places

module _ (t u : Tree) (done : Completed (block_pairs (members_of t)) t u) (is : is_object (told t) ≡ true)
    (differ : KeysDiffer (tree_of t)) (again : KeysDiffer (tree_of u)) where
  abbrev old : List Member
  old = members_of t

  abbrev new : List Member
  new = members_of u

  at : (key : List ℕ) → get key (told u)
      ≡ or_else (or_else (cond (bytes_eq key (codes "registers")) (lists_put (value_at (codes "registers") old)) None) (last_at key (certain_pairs old))) (get key (told t))
  at key = stands_at (block_pairs old) t u done is key ∙ ap (λ o. or_else o (get key (told t))) (last_in_block key old)

  -- a list that is completed, and one that is kept
  list_completed : (key : List ℕ) (full : Tree → Data) → HasAt key u (list_of (map full (elements key old))) → map told (elements key new) ≡ map full (elements key old)
  list_completed key full has = elements_told key u ∙ ap items_told_at has ∙ listed_items (map full (elements key old))

  list_kept : (key : List ℕ) → KeepsAt key t u → map told (elements key new) ≡ map told (elements key old)
  list_kept key keeps = elements_told key u ∙ ap items_told_at keeps ∙ sym (elements_told key t)

  flag_same : (key : List ℕ) → HasAt key u (boolean (is_true key old)) → is_true key new ≡ is_true key old
  flag_same key has = ap (λ o. unwrap_or o false) (boolean_has key u (boolean (is_true key old)) has)

  interrupts : map told (elements (codes "interrupt_list") new) ≡ map full_interrupt (elements (codes "interrupt_list") old)
  interrupts = list_completed (codes "interrupt_list") full_interrupt (at (codes "interrupt_list"))

  alerts : map told (elements (codes "alert_list") new) ≡ map told (elements (codes "alert_list") old)
  unfolding full_alert
  alerts = list_completed (codes "alert_list") full_alert (at (codes "alert_list"))

  parameters_told : map told (elements (codes "param_list") new) ≡ map full_parameter (elements (codes "param_list") old)
  parameters_told = list_completed (codes "param_list") full_parameter (at (codes "param_list"))

  inputs : map told (elements (codes "available_input_list") new) ≡ map full_pin (elements (codes "available_input_list") old)
  inputs = list_completed (codes "available_input_list") full_pin (at (codes "available_input_list"))

  outputs : map told (elements (codes "available_output_list") new) ≡ map full_pin (elements (codes "available_output_list") old)
  outputs = list_completed (codes "available_output_list") full_pin (at (codes "available_output_list"))

  inouts : map told (elements (codes "available_inout_list") new) ≡ map full_pin (elements (codes "available_inout_list") old)
  inouts = list_completed (codes "available_inout_list") full_pin (at (codes "available_inout_list"))

  -- ---- interfaces

  buses : map told (interfaces new) ≡ map told (interfaces old)
  unfolding interfaces
  buses = list_kept (codes "bus_interfaces") (at (codes "bus_interfaces"))

  devices_same : map told (devices new) ≡ map told (devices old)
  unfolding devices
  devices_same = filter_same is_device (text_is_same (codes "direction") (codes "device")) (interfaces old) (interfaces new) buses

  hosts_same : map told (hosts new) ≡ map told (hosts old)
  unfolding hosts
  hosts_same = filter_same is_host (text_is_same (codes "direction") (codes "host")) (interfaces old) (interfaces new) buses

  parameters_same : parameters new ≡ parameters old
  unfolding parameters
  parameters_same = pairwise full_parameter parameter_of parameter_read (elements (codes "param_list") old) (elements (codes "param_list") new) parameters_told

  registers_by : (o : Option Tree) → value_at (codes "registers") old ≡ o → get (codes "registers") (told u) ≡ or_else (or_else (lists_put o) None) (get (codes "registers") (told t))
      → RegistersCompleted o (value_at (codes "registers") new)
  registers_by None none there =
      let absent : get (codes "registers") (told t) ≡ None = sym (found_told (codes "registers") t) ∙ ap (option_map told) none in
      subst (RegistersCompleted None) (sym (absent_at (codes "registers") u (there ∙ absent))) no_registers
  registers_by (Some r) one there =
      let found : FoundAt (codes "registers") u (lists_in r (object_in r)) = found_at (codes "registers") u (lists_in r (object_in r)) there in
      let same = registers_same r found.value found.tells (members_once r (part_differs (codes "registers") t r differ one))
      (members_once found.value (part_differs (codes "registers") u found.value again found.there)) in
      subst (RegistersCompleted (Some r)) (sym found.there) (some_registers same)

  registers : RegistersCompleted (value_at (codes "registers") old) (value_at (codes "registers") new)
  registers = registers_by (value_at (codes "registers") old) refl (at (codes "registers"))

  face_same : (d e : Tree) → told e ≡ told d → face_unplaced (face_desc new e) ≡ face_unplaced (face_desc old d)
  unfolding face_desc entry_list_of
  face_same d e same =
      let name = named_same d e same in
      let lists = lists_named (value_at (codes "registers") old) (value_at (codes "registers") new) registers in
      let entries =
      (λ i. map entry_unplaced (entries_in (parameters_same i) (list_of_value (value_at (codes "registers") new) (name i))))
      ∙ same_entries (parameters old) (list_of_value (value_at (codes "registers") old) (interface_name d)) (list_of_value (value_at (codes "registers") new) (interface_name d))
      (lists (interface_name d)) in
      λ i. record { name = name i; entries = entries i; at = start }

  faces : map face_unplaced (map (face_desc new) (devices new)) ≡ map face_unplaced (map (face_desc old) (devices old))
  faces =
      map_twice (face_desc new) face_unplaced (devices new)
      ∙ pairs_of (devices old) (devices new) devices_same
      ∙ sym (map_twice (face_desc old) face_unplaced (devices old)) where
        pairs_of : (ds es : List Tree) → map told es ≡ map told ds → map (λ e. face_unplaced (face_desc new e)) es ≡ map (λ d. face_unplaced (face_desc old d)) ds
        pairs_of [] [] same = refl
        pairs_of [] (e ∷ es) same = absurd cc
        pairs_of (d ∷ ds) [] same = absurd cc
        pairs_of (d ∷ ds) (e ∷ es) same =
            let one = face_same d e (first_same _ _ _ _ same) in
            let more = pairs_of ds es (rest_same _ _ _ _ same) in
            λ i. one i ∷ more i

  -- ---- the whole

  pins : pins_of new ≡ pins_of old
  unfolding pins_of
  pins =
      let input_list = pairwise full_pin (pin_desc In) (pin_described In) (elements (codes "available_input_list") old) (elements (codes "available_input_list") new) inputs in
      let output_list = pairwise full_pin (pin_desc Out) (pin_described Out) (elements (codes "available_output_list") old) (elements (codes "available_output_list") new) outputs in
      let both = pairwise full_pin (pin_desc InOut) (pin_described InOut) (elements (codes "available_inout_list") old) (elements (codes "available_inout_list") new) inouts in
      λ i. input_list i ++ (output_list i ++ both i)

  interrupts_described : map interrupt_unplaced (map interrupt_desc (elements (codes "interrupt_list") new)) ≡ map interrupt_unplaced (map interrupt_desc (elements (codes "interrupt_list") old))
  interrupts_described =
      map_twice interrupt_desc interrupt_unplaced (elements (codes "interrupt_list") new)
      ∙ pairwise full_interrupt (λ t. interrupt_unplaced (interrupt_desc t)) interrupt_described (elements (codes "interrupt_list") old) (elements (codes "interrupt_list") new) interrupts
      ∙ sym (map_twice interrupt_desc interrupt_unplaced (elements (codes "interrupt_list") old))

  alerts_described : map alert_unplaced (map alert_desc (elements (codes "alert_list") new)) ≡ map alert_unplaced (map alert_desc (elements (codes "alert_list") old))
  alerts_described =
      map_twice alert_desc alert_unplaced (elements (codes "alert_list") new)
      ∙ pairwise told (λ t. alert_unplaced (alert_desc t)) alert_described (elements (codes "alert_list") old) (elements (codes "alert_list") new) alerts
      ∙ sym (map_twice alert_desc alert_unplaced (elements (codes "alert_list") old))

  clocks : map clock_desc (elements (codes "clocking") new) ≡ map clock_desc (elements (codes "clocking") old)
  clocks = pairwise told clock_desc clock_described (elements (codes "clocking") old) (elements (codes "clocking") new) (list_kept (codes "clocking") (at (codes "clocking")))

  abbrev host : Tree → HostFace
  host h = record { name = interface_name h }

  hosts_described : map host (hosts new) ≡ map host (hosts old)
  hosts_described = pairwise told host (λ h g same i. record { name = named_same h g same i }) (hosts old) (hosts new) hosts_same

  -- the same block but for places
  pub block_described : (file : ℕ) → block_unplaced (block_of file u) ≡ block_unplaced (block_of file t)
  unfolding block_unplaced block_of
  block_described file = λ i. record {
    file = file;
    name = text_or_empty (text_kept (codes "name") t u (at (codes "name")) i);
    clocking = clocks i;
    faces = faces i;
    hosts = hosts_described i;
    intrs = interrupts_described i;
    intrs_at = start;
    alerts = alerts_described i;
    alerts_at = start;
    auto_intr = not (flag_same (codes "no_auto_intr_regs") (at (codes "no_auto_intr_regs")) i);
    auto_alert = not (flag_same (codes "no_auto_alert_regs") (at (codes "no_auto_alert_regs")) i);
    ios = pins i;
    at = start;
  }

  -- the same values at its keys
  pairs_same : block_pairs new ≡ block_pairs old
  unfolding block_pairs full_alert
  pairs_same =
      let interrupt_list = pairwise full_interrupt full_interrupt interrupt_twice (elements (codes "interrupt_list") old) (elements (codes "interrupt_list") new) interrupts in
      let parameter_list = pairwise full_parameter full_parameter parameter_twice (elements (codes "param_list") old) (elements (codes "param_list") new) parameters_told in
      let input_list = pairwise full_pin full_pin pin_twice (elements (codes "available_input_list") old) (elements (codes "available_input_list") new) inputs in
      let output_list = pairwise full_pin full_pin pin_twice (elements (codes "available_output_list") old) (elements (codes "available_output_list") new) outputs in
      let both = pairwise full_pin full_pin pin_twice (elements (codes "available_inout_list") old) (elements (codes "available_inout_list") new) inouts in
      let lists = lists_twice (value_at (codes "registers") old) (value_at (codes "registers") new) registers in
      λ i.
      pair (codes "interrupt_list") (list_of (interrupt_list i))
      ∷ pair (codes "alert_list") (list_of (alerts i))
      ∷ pair (codes "no_auto_intr_regs") (boolean (flag_same (codes "no_auto_intr_regs") (at (codes "no_auto_intr_regs")) i))
      ∷ pair (codes "no_auto_alert_regs") (boolean (flag_same (codes "no_auto_alert_regs") (at (codes "no_auto_alert_regs")) i))
      ∷ pair (codes "param_list") (list_of (parameter_list i))
      ∷ pair (codes "regwidth") (number_of 32)
      ∷ pair (codes "available_input_list") (list_of (input_list i))
      ∷ pair (codes "available_output_list") (list_of (output_list i))
      ∷ pair (codes "available_inout_list") (list_of (both i))
      ∷ lists i

  -- complete
  pub block_twice : full_block u ≡ full_block t
  unfolding full_block
  block_twice = completed_twice (block_pairs old) (block_pairs new) t u done pairs_same
