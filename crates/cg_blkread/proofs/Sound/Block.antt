-- The description of a block of which nothing is found is valid.
use Rattle.std.proofs.Common.{ℕ, ◌≡◌, [], None}
use Rattle.cg_desc.specs.Valid.{IsNameIfAny, IsValidBlock, IsValidInterface}
use Rattle.cg_hjson.specs.declared.tree.Tree.{Tree}
use Rattle.cg_keys.specs.Values.{members_of}
use Rattle.cg_finding.specs.Finding.{first_of}
use Rattle.cg_finding.proofs.Firsts.{none_is_empty}
use Rattle.cg_blkread.specs.Described.{block_of, face_desc}
use Rattle.cg_blkread.specs.Interfaces.{devices, interface_name}
use Rattle.cg_blkread.specs.Keys.{key_faults}
use Rattle.cg_blkread.specs.Reads.{value_faults}
use Rattle.cg_blkread.proofs.Sound.Empty.{all_from}
use Rattle.cg_blkread.proofs.Sound.Keys.{alerts_valid, block_name, entry_names, face_names, faces_differ, few_faces, interrupts_valid, short_alerts, short_block_name, short_interrupts}
use Rattle.cg_blkread.proofs.Sound.Objects.{all_mapped}
use Rattle.cg_blkread.proofs.Sound.Ports.{clocks_valid, few_clocks, hosts_differ, hosts_valid, pins_valid, short_faces, some_clock}
use Rattle.cg_blkread.proofs.Sound.Values.{valid_interface_entries}

-- an interface with a good name, in whose entries nothing is found
valid_interface : (t d : Tree) → key_faults t ≡ [] → value_faults t ≡ [] → IsNameIfAny (interface_name d) → IsValidInterface (face_desc (members_of t) d)
unfolding face_desc
valid_interface t d keys values name = record {
  name = name;
  entries = valid_interface_entries t d (entry_names t keys) values;
}

-- where nothing comes first of the rules on keys, nor of those on values
pub valid_block : (file : ℕ) (t : Tree) → first_of (key_faults t) ≡ None → first_of (value_faults t) ≡ None → IsValidBlock (block_of file t)
unfolding block_of
valid_block file t no_key no_value =
    let keys : key_faults t ≡ [] = none_is_empty (key_faults t) no_key in
    let values : value_faults t ≡ [] = none_is_empty (value_faults t) no_value in
    record {
      name = block_name file t keys;
      interrupts = interrupts_valid file t keys;
      alerts = alerts_valid file t keys;
      interfaces = all_mapped IsValidInterface (face_desc (members_of t)) (devices (members_of t))
          (all_from (λ d. IsNameIfAny (interface_name d)) (λ d. IsValidInterface (face_desc (members_of t) d)) (devices (members_of t))
          (λ d name. valid_interface t d keys values name) (face_names t keys));
      interfaces_differ = faces_differ file t keys;
      few_interfaces = few_faces file t keys;
      short_name = short_block_name file t keys;
      clocks = clocks_valid file t keys;
      some_clock = some_clock file t keys;
      few_clocks = few_clocks file t keys;
      short_interrupts = short_interrupts file t keys;
      short_alerts = short_alerts file t keys;
      short_interfaces = short_faces file t keys;
      hosts = hosts_valid file t keys;
      hosts_differ = hosts_differ file t keys;
      pins = pins_valid file t keys;
    }
