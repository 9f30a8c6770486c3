-- What a block is where it breaks no rule on keys, kinds and the profile.
use Rattle.std.proofs.Common.{◌≡◌, ℕ, ◌≤◌, Bool, true, cond, codes, is_some, length, List, [], ◌∷◌, ◌++◌, sym, ap, ◌∙◌, arith}
use Rattle.std.specs.List.{flat_map}
use Rattle.cg_svspec.specs.Characters.{IsName}
use Rattle.cg_svspec.specs.Printable.{AllOf}
use Rattle.cg_desc.specs.Valid.{InterfacesDiffer, IsNameIfAny, IsValidAlert, IsValidInterrupt}
use Rattle.cg_finding.specs.Finding.{Finding}
use Rattle.cg_hjson.specs.declared.tree.Tree.{Tree}
use Rattle.cg_hjson.specs.declared.tree.Member.{Member}
use Rattle.cg_keys.specs.Duplicates.{duplicate_faults}
use Rattle.cg_keys.specs.Elements.{elements}
use Rattle.cg_keys.specs.Lookups.{is_fit_at}
use Rattle.cg_keys.specs.Table.{key_faults as table_row, table_faults, value_at}
use Rattle.cg_keys.specs.Values.{items_of, members_of}
use Rattle.cg_keys.specs.declared.forms.Form.TheVariants.{Items}
use Rattle.cg_blkread.specs.Described.{alert_desc, block_of, interrupt_desc}
use Rattle.cg_blkread.specs.Interfaces.{EntryList, devices, entry_lists, equal_names, interface_faults, interface_name, interfaces, interfaces_are_good, many_devices, missing_lists, nameless_devices, shape_faults}
use Rattle.cg_blkread.specs.Keys.{entry_list_faults, key_faults, lengths_faults, lists_faults, objects_faults, protocol_outside, width_outside}
use Rattle.cg_blkread.specs.Tables.{alert_keys, block_keys, clocking_keys, interface_keys, interrupt_keys, parameter_keys, pin_keys}
use Rattle.cg_blkread.proofs.Sound.Empty.{all_from, empty_each, empty_parts}
use Rattle.cg_blkread.proofs.Sound.EntryNames.{list_named}
use Rattle.cg_blkread.proofs.Sound.Faces.{at_most_eight, interfaces_good, names_apart, names_if_any}
use Rattle.cg_blkread.proofs.Sound.Forms.{needed_fits, needed_name, needed_short_name, needed_there, possible_width}
use Rattle.cg_blkread.proofs.Sound.Objects.{all_mapped, listed_tables}
use Rattle.cg_blkread.proofs.Sound.Words.{EntryWords}

-- the parts of the rules on keys, of none of which anything is found
pub record NoneFound (t : Tree) : Type 0 where
  pub table : table_faults t.at (members_of t) block_keys ≡ []
  pub lengths : lengths_faults (members_of t) ≡ []
  pub lists : lists_faults (members_of t) ≡ []
  pub together : interface_faults (members_of t) ≡ []
  pub entries : flat_map entry_list_faults (entry_lists (members_of t)) ≡ []

pub none_found : (t : Tree) → key_faults t ≡ [] → NoneFound t
unfolding key_faults
none_found t h =
    let ms : List Member = members_of t in
    let a = empty_parts (duplicate_faults t) _ h in
    let b = empty_parts (table_faults t.at ms block_keys) _ a.1 in
    let c = empty_parts (lengths_faults ms) _ b.1 in
    let d = empty_parts (lists_faults ms) _ c.1 in
    let e = empty_parts (width_outside ms) _ d.1 in
    let f = empty_parts (flat_map protocol_outside (interfaces ms)) _ e.1 in
    let g = empty_parts (interface_faults ms) (flat_map entry_list_faults (entry_lists ms)) f.1 in
    record { table = b.0; lengths = c.0; lists = d.0; together = g.0; entries = g.1 }

-- ---- the table of a block

pub block_name : (file : ℕ) (t : Tree) → key_faults t ≡ [] → IsName (block_of file t).name
unfolding block_of
block_name file t h = needed_name t.at (members_of t) (codes "name") (empty_parts (table_row t.at (members_of t) _) _ (none_found t h).table).0

pub record InterfacesThere (ms : List Member) : Type 0 where
  pub there : is_some (value_at (codes "bus_interfaces") ms) ≡ true
  pub fit : is_fit_at (Items ∷ []) (codes "bus_interfaces") ms ≡ true

pub interfaces_there : (t : Tree) → key_faults t ≡ [] → InterfacesThere (members_of t)
interfaces_there t h =
    let name = empty_parts (table_row t.at (members_of t) _) _ (none_found t h).table in
    let clocking = empty_parts (table_row t.at (members_of t) _) _ name.1 in
    let row = (empty_parts (table_row t.at (members_of t) _) _ clocking.1).0 in
    record {
      there = needed_there t.at (members_of t) (codes "bus_interfaces") (Items ∷ []) row;
      fit = needed_fits t.at (members_of t) (codes "bus_interfaces") (Items ∷ []) row;
    }

-- ---- the lists of a block

pub record NoneInLists (ms : List Member) : Type 0 where
  pub clocks : objects_faults (codes "clocking") clocking_keys ms ≡ []
  pub interfaces : objects_faults (codes "bus_interfaces") interface_keys ms ≡ []
  pub interrupts : objects_faults (codes "interrupt_list") interrupt_keys ms ≡ []
  pub alerts : objects_faults (codes "alert_list") alert_keys ms ≡ []
  pub inputs : objects_faults (codes "available_input_list") pin_keys ms ≡ []
  pub outputs : objects_faults (codes "available_output_list") pin_keys ms ≡ []
  pub inouts : objects_faults (codes "available_inout_list") pin_keys ms ≡ []

pub none_in_lists : (ms : List Member) → lists_faults ms ≡ [] → NoneInLists ms
unfolding lists_faults
none_in_lists ms h =
    let a = empty_parts (objects_faults (codes "clocking") clocking_keys ms) _ h in
    let b = empty_parts (objects_faults (codes "bus_interfaces") interface_keys ms) _ a.1 in
    let c = empty_parts (objects_faults (codes "interrupt_list") interrupt_keys ms) _ b.1 in
    let d = empty_parts (objects_faults (codes "alert_list") alert_keys ms) _ c.1 in
    let e = empty_parts (objects_faults (codes "param_list") parameter_keys ms) _ d.1 in
    let f = empty_parts (objects_faults (codes "available_input_list") pin_keys ms) _ e.1 in
    let g = empty_parts (objects_faults (codes "available_output_list") pin_keys ms) _ f.1 in
    record { clocks = a.0; interfaces = b.0; interrupts = c.0; alerts = d.0; inputs = f.0; outputs = g.0; inouts = g.1 }

interrupt_valid : (t : Tree) → table_faults t.at (members_of t) interrupt_keys ≡ [] → IsValidInterrupt (interrupt_desc t)
unfolding interrupt_desc
interrupt_valid t h =
    let name = empty_parts (table_row t.at (members_of t) _) _ h in
    let kind = empty_parts (table_row t.at (members_of t) _) _ name.1 in
    let width = possible_width 32 t.at (members_of t) (codes "width") (omega arith) (omega arith) (empty_parts (table_row t.at (members_of t) _) _ kind.1).0 in
    record { name = (needed_name t.at (members_of t) (codes "name") name.0).0; some_bit = width.0; few_bits = width.1 }

pub interrupts_valid : (file : ℕ) (t : Tree) → key_faults t ≡ [] → AllOf IsValidInterrupt (block_of file t).intrs
unfolding block_of
interrupts_valid file t h =
    let ts : List Tree = elements (codes "interrupt_list") (members_of t) in
    all_mapped IsValidInterrupt interrupt_desc ts
    (all_from (λ i. table_faults i.at (members_of i) interrupt_keys ≡ []) (λ i. IsValidInterrupt (interrupt_desc i)) ts interrupt_valid
    (listed_tables (codes "interrupt_list") interrupt_keys (members_of t) (none_in_lists (members_of t) (none_found t h).lists).interrupts))

alert_valid : (t : Tree) → table_faults t.at (members_of t) alert_keys ≡ [] → IsValidAlert (alert_desc t)
unfolding alert_desc
alert_valid t h = (needed_name t.at (members_of t) (codes "name") (empty_parts (table_row t.at (members_of t) _) _ h).0).0

pub alerts_valid : (file : ℕ) (t : Tree) → key_faults t ≡ [] → AllOf IsValidAlert (block_of file t).alerts
unfolding block_of
alerts_valid file t h =
    let ts : List Tree = elements (codes "alert_list") (members_of t) in
    all_mapped IsValidAlert alert_desc ts
    (all_from (λ a. table_faults a.at (members_of a) alert_keys ≡ []) (λ a. IsValidAlert (alert_desc a)) ts alert_valid
    (listed_tables (codes "alert_list") alert_keys (members_of t) (none_in_lists (members_of t) (none_found t h).lists).alerts))

-- ---- names of at most 40 characters

pub short_block_name : (file : ℕ) (t : Tree) → key_faults t ≡ [] → length (block_of file t).name ≤ 40
unfolding block_of
short_block_name file t h =
    (needed_short_name t.at (members_of t) (codes "name") (empty_parts (table_row t.at (members_of t) _) _ (none_found t h).table).0).1

pub short_interrupts : (file : ℕ) (t : Tree) → key_faults t ≡ [] → AllOf (λ i. length i.name ≤ 40) (block_of file t).intrs
unfolding block_of interrupt_desc
short_interrupts file t h =
    let ts : List Tree = elements (codes "interrupt_list") (members_of t) in
    all_mapped (λ i. length i.name ≤ 40) interrupt_desc ts
    (all_from (λ i. table_faults i.at (members_of i) interrupt_keys ≡ []) (λ i. length (interrupt_desc i).name ≤ 40) ts
    (λ i none. (needed_short_name i.at (members_of i) (codes "name") (empty_parts (table_row i.at (members_of i) _) _ none).0).1)
    (listed_tables (codes "interrupt_list") interrupt_keys (members_of t) (none_in_lists (members_of t) (none_found t h).lists).interrupts))

pub short_alerts : (file : ℕ) (t : Tree) → key_faults t ≡ [] → AllOf (λ a. length a.name ≤ 40) (block_of file t).alerts
unfolding block_of alert_desc
short_alerts file t h =
    let ts : List Tree = elements (codes "alert_list") (members_of t) in
    all_mapped (λ a. length a.name ≤ 40) alert_desc ts
    (all_from (λ a. table_faults a.at (members_of a) alert_keys ≡ []) (λ a. length (alert_desc a).name ≤ 40) ts
    (λ a none. (needed_short_name a.at (members_of a) (codes "name") (empty_parts (table_row a.at (members_of a) _) _ none).0).1)
    (listed_tables (codes "alert_list") alert_keys (members_of t) (none_in_lists (members_of t) (none_found t h).lists).alerts))

-- ---- interfaces

pub face_names : (t : Tree) → key_faults t ≡ [] → AllOf (λ d. IsNameIfAny (interface_name d)) (devices (members_of t))
face_names t h = names_if_any (members_of t) (none_in_lists (members_of t) (none_found t h).lists).interfaces

pub few_faces : (file : ℕ) (t : Tree) → key_faults t ≡ [] → length (block_of file t).faces ≤ 8
unfolding block_of interface_faults
few_faces file t h = at_most_eight (members_of t) (interfaces_there t h).there (empty_parts (many_devices (members_of t)) _ (none_found t h).together).0

-- what a test lets be looked for is not found
pub looked_for : (b : Bool) (fs : List Finding) → b ≡ true → cond b fs [] ≡ [] → fs ≡ []
looked_for b fs is h = ap (λ c. cond c fs []) (sym is) ∙ h

pub faces_differ : (file : ℕ) (t : Tree) → key_faults t ≡ [] → InterfacesDiffer (block_of file t).faces
unfolding block_of interface_faults
faces_differ file t h =
    let ms : List Member = members_of t in
    let there = interfaces_there t h in
    let good : interfaces_are_good ms ≡ true = interfaces_good ms there.there there.fit (none_in_lists ms (none_found t h).lists).interfaces in
    let rest : List Finding = nameless_devices ms ++ (equal_names ms ++ (shape_faults ms ++ missing_lists ms)) in
    let looked : rest ≡ [] = looked_for (interfaces_are_good ms) rest good (empty_parts (many_devices ms) _ (none_found t h).together).1 in
    names_apart ms there.there (empty_parts (equal_names ms) _ (empty_parts (nameless_devices ms) _ looked).1).0

-- ---- entries

pub entry_names : (t : Tree) → key_faults t ≡ [] → AllOf (λ (l : EntryList). AllOf EntryWords (items_of l.value)) (entry_lists (members_of t))
entry_names t h =
    all_from (λ l. entry_list_faults l ≡ []) (λ (l : EntryList). AllOf EntryWords (items_of l.value)) (entry_lists (members_of t)) list_named
    (empty_each entry_list_faults (entry_lists (members_of t)) (none_found t h).entries)
