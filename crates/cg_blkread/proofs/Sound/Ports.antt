-- The clocks, the hosts and the pins of a block of which nothing is found are valid.
use Rattle.std.proofs.Common.{◌≡◌, ℕ, ◌<◌, ◌≤◌, true, codes, length, List, [], ◌∷◌, ◌++◌, map, refl, arith}
use Rattle.std.proofs.lemmas.List.{length-map}
use Rattle.cg_svspec.specs.Printable.{AllOf}
use Rattle.cg_desc.specs.Valid.{AreValidPins, HostsDiffer, IsShortIfAny, IsShortNameIfAny, IsValidClock, IsValidPin}
use Rattle.cg_desc.specs.declared.block.IoDir.{IoDir}
use Rattle.cg_desc.specs.declared.block.IoDir.TheVariants.{In, Out, InOut}
use Rattle.cg_finding.specs.Finding.{Finding}
use Rattle.cg_hjson.specs.declared.tree.Tree.{Tree}
use Rattle.cg_hjson.specs.declared.tree.Member.{Member}
use Rattle.cg_keys.specs.Elements.{elements, length_faults}
use Rattle.cg_keys.specs.Table.{key_faults as table_row, table_faults}
use Rattle.cg_keys.specs.Values.{members_of}
use Rattle.cg_keys.specs.declared.forms.Form.TheVariants.{Items}
use Rattle.cg_blkread.specs.Described.{block_of, clock_desc, face_desc, pin_desc, pins_of}
use Rattle.cg_blkread.specs.Interfaces.{devices, equal_names, hosts, interface_faults, interface_name, interfaces_are_good, is_device, is_host, many_devices, missing_lists, nameless_devices, shape_faults}
use Rattle.cg_blkread.specs.Keys.{key_faults, lengths_faults, objects_faults}
use Rattle.cg_blkread.specs.Tables.{clocking_keys, pin_keys}
use Rattle.cg_blkread.proofs.Sound.Empty.{all_from, empty_parts}
use Rattle.cg_blkread.proofs.Sound.Faces.{host_of, hosts_apart, interfaces_good, short_names}
use Rattle.cg_blkread.proofs.Sound.Forms.{at_least, at_most, is_short, needed_fits, needed_short_name, needed_there, possible_short_name, possible_width}
use Rattle.cg_blkread.proofs.Sound.Keys.{interfaces_there, looked_for, none_found, none_in_lists}
use Rattle.cg_blkread.proofs.Sound.Objects.{all_mapped, listed_tables}

-- ---- lengths

-- the lengths of lists, of which nothing is found
record Lengths (ms : List Member) : Type 0 where
  clocks : length_faults 1 64 (codes "clocking") ms ≡ []
  inputs : length_faults 0 64 (codes "available_input_list") ms ≡ []
  outputs : length_faults 0 64 (codes "available_output_list") ms ≡ []
  inouts : length_faults 0 64 (codes "available_inout_list") ms ≡ []

lengths : (ms : List Member) → lengths_faults ms ≡ [] → Lengths ms
unfolding lengths_faults
lengths ms h =
    let a = empty_parts (length_faults 1 64 (codes "clocking") ms) _ h in
    let b = empty_parts (length_faults 0 64 (codes "available_input_list") ms) _ a.1 in
    let c = empty_parts (length_faults 0 64 (codes "available_output_list") ms) _ b.1 in
    record { clocks = a.0; inputs = b.0; outputs = c.0; inouts = c.1 }

-- ---- clocks

clock_valid : (t : Tree) → table_faults t.at (members_of t) clocking_keys ≡ [] → IsValidClock (clock_desc t)
unfolding clock_desc
clock_valid t h =
    let clock = empty_parts (table_row t.at (members_of t) _) _ h in
    let reset = empty_parts (table_row t.at (members_of t) _) _ clock.1 in
    record {
      clock = needed_short_name t.at (members_of t) (codes "clock") clock.0;
      reset = possible_short_name t.at (members_of t) (codes "reset") reset.0;
    }

pub clocks_valid : (file : ℕ) (t : Tree) → key_faults t ≡ [] → AllOf IsValidClock (block_of file t).clocking
unfolding block_of
clocks_valid file t h =
    let ts : List Tree = elements (codes "clocking") (members_of t) in
    all_mapped IsValidClock clock_desc ts
    (all_from (λ c. table_faults c.at (members_of c) clocking_keys ≡ []) (λ c. IsValidClock (clock_desc c)) ts clock_valid
    (listed_tables (codes "clocking") clocking_keys (members_of t) (none_in_lists (members_of t) (none_found t h).lists).clocks))

pub some_clock : (file : ℕ) (t : Tree) → key_faults t ≡ [] → 0 < length (block_of file t).clocking
unfolding block_of
some_clock file t h =
    let ms : List Member = members_of t in
    let name = empty_parts (table_row t.at ms _) _ (none_found t h).table in
    let row = (empty_parts (table_row t.at ms _) _ name.1).0 in
    let least : 1 ≤ length (elements (codes "clocking") ms) =
    at_least 1 64 (codes "clocking") ms (needed_there t.at ms (codes "clocking") (Items ∷ []) row) (needed_fits t.at ms (codes "clocking") (Items ∷ []) row)
    (lengths ms (none_found t h).lengths).clocks in
    rw (length-map (elements (codes "clocking") ms) clock_desc) (omega arith)

pub few_clocks : (file : ℕ) (t : Tree) → key_faults t ≡ [] → length (block_of file t).clocking ≤ 64
unfolding block_of
few_clocks file t h =
    rw (length-map (elements (codes "clocking") (members_of t)) clock_desc) (at_most 1 64 (codes "clocking") (members_of t) (lengths (members_of t) (none_found t h).lengths).clocks)

-- ---- interfaces

pub short_faces : (file : ℕ) (t : Tree) → key_faults t ≡ [] → AllOf (λ f. IsShortIfAny f.name) (block_of file t).faces
unfolding block_of face_desc devices
short_faces file t h =
    let ms : List Member = members_of t in
    all_mapped (λ f. IsShortIfAny f.name) (face_desc ms) (devices ms)
    (all_from (λ d. IsShortNameIfAny (interface_name d)) (λ d. IsShortIfAny (interface_name d)) (devices ms) (λ d is. is_short (interface_name d) is)
    (short_names ms is_device (none_in_lists ms (none_found t h).lists).interfaces))

pub hosts_valid : (file : ℕ) (t : Tree) → key_faults t ≡ [] → AllOf (λ h. IsShortNameIfAny h.name) (block_of file t).hosts
unfolding block_of hosts
hosts_valid file t h =
    all_mapped (λ h. IsShortNameIfAny h.name) host_of (hosts (members_of t))
    (short_names (members_of t) is_host (none_in_lists (members_of t) (none_found t h).lists).interfaces)

pub hosts_differ : (file : ℕ) (t : Tree) → key_faults t ≡ [] → HostsDiffer (block_of file t).hosts
unfolding block_of interface_faults
hosts_differ file t h =
    let ms : List Member = members_of t in
    let there = interfaces_there t h in
    let good : interfaces_are_good ms ≡ true = interfaces_good ms there.there there.fit (none_in_lists ms (none_found t h).lists).interfaces in
    let rest : List Finding = nameless_devices ms ++ (equal_names ms ++ (shape_faults ms ++ missing_lists ms)) in
    let looked : rest ≡ [] = looked_for (interfaces_are_good ms) rest good (empty_parts (many_devices ms) _ (none_found t h).together).1 in
    hosts_apart ms there.there (empty_parts (equal_names ms) _ (empty_parts (nameless_devices ms) _ looked).1).0

-- ---- pins

pin_valid : (dir : IoDir) (t : Tree) → table_faults t.at (members_of t) pin_keys ≡ [] → IsValidPin dir (pin_desc dir t)
unfolding pin_desc
pin_valid dir t h =
    let name = empty_parts (table_row t.at (members_of t) _) _ h in
    let width = possible_width 64 t.at (members_of t) (codes "width") (omega arith) (omega arith) (empty_parts (table_row t.at (members_of t) _) _ name.1).0 in
    record { name = needed_short_name t.at (members_of t) (codes "name") name.0; some_bit = width.0; few_bits = width.1; direction = refl }

-- the pins of one list
listed_pins : (dir : IoDir) (key : List ℕ) (ms : List Member) → objects_faults key pin_keys ms ≡ [] → AllOf (IsValidPin dir) (map (pin_desc dir) (elements key ms))
listed_pins dir key ms h =
    all_mapped (IsValidPin dir) (pin_desc dir) (elements key ms)
    (all_from (λ p. table_faults p.at (members_of p) pin_keys ≡ []) (λ p. IsValidPin dir (pin_desc dir p)) (elements key ms) (pin_valid dir) (listed_tables key pin_keys ms h))

few_pins : (dir : IoDir) (key : List ℕ) (ms : List Member) → length_faults 0 64 key ms ≡ [] → length (map (pin_desc dir) (elements key ms)) ≤ 64
few_pins dir key ms h = rw (length-map (elements key ms) (pin_desc dir)) (at_most 0 64 key ms h)

pub pins_valid : (file : ℕ) (t : Tree) → key_faults t ≡ [] → AreValidPins (block_of file t).ios
unfolding block_of pins_of
pins_valid file t h =
    let ms : List Member = members_of t in
    let lists = none_in_lists ms (none_found t h).lists in
    let long = lengths ms (none_found t h).lengths in
    record {
      inputs = map (pin_desc In) (elements (codes "available_input_list") ms);
      outputs = map (pin_desc Out) (elements (codes "available_output_list") ms);
      inouts = map (pin_desc InOut) (elements (codes "available_inout_list") ms);
      stand = refl;
      valid_inputs = listed_pins In (codes "available_input_list") ms lists.inputs;
      valid_outputs = listed_pins Out (codes "available_output_list") ms lists.outputs;
      valid_inouts = listed_pins InOut (codes "available_inout_list") ms lists.inouts;
      few_inputs = few_pins In (codes "available_input_list") ms long.inputs;
      few_outputs = few_pins Out (codes "available_output_list") ms long.outputs;
      few_inouts = few_pins InOut (codes "available_inout_list") ms long.inouts;
    }
