-- The tree of a completed description describes the same block but for places, and completing it changes nothing.
use Rattle.std.proofs.Common.{◌≡◌, ℕ, not, map, codes, ap, sym, subst}
use Rattle.cg_hjson.specs.declared.tree.Tree.{Tree}
use Rattle.cg_keys.specs.Elements.{elements}
use Rattle.cg_keys.specs.Lookups.{text_at}
use Rattle.cg_keys.specs.Values.{members_of}
use Rattle.cg_blkread.specs.Described.{alert_desc, block_of, clock_desc, face_desc, interrupt_desc, pins_of}
use Rattle.cg_blkread.specs.Interfaces.{devices, hosts, interface_name}
use Rattle.cg_blkread.specs.Raw.{is_true, text_or_empty}
use Rattle.cg_blkdone.specs.Completed.{AreSame, Completes, IsReadBlock, Says}
use Rattle.cg_blkdone.specs.Full.{block_pairs, full_block}
use Rattle.cg_blkdone.specs.Places.{alert_unplaced, block_unplaced, face_unplaced, interrupt_unplaced, start}
use Rattle.cg_blkdone.proofs.Blocks.{block_described, block_twice}
use Rattle.cg_blkdone.proofs.Completion.{Completed, by_object, completed_twice}
use Rattle.cg_blkdone.proofs.FullNeat.{full_neat}
use Rattle.cg_blkdone.proofs.SoundKeys.{sound_keys_differ}
use Rattle.cg_blkdone.proofs.Whole.{differ_by, told_by}

-- blocks with the same members
described_by_members : (file : ℕ) (t u : Tree) → members_of u ≡ members_of t → AreSame (block_of file u) (block_of file t)
unfolding block_unplaced block_of
described_by_members file t u same = λ i. record {
  file = file;
  name = text_or_empty (text_at (codes "name") (same i));
  clocking = map clock_desc (elements (codes "clocking") (same i));
  faces = map face_unplaced (map (face_desc (same i)) (devices (same i)));
  hosts = map (λ h. record { name = interface_name h }) (hosts (same i));
  intrs = map interrupt_unplaced (map interrupt_desc (elements (codes "interrupt_list") (same i)));
  intrs_at = start;
  alerts = map alert_unplaced (map alert_desc (elements (codes "alert_list") (same i)));
  alerts_at = start;
  auto_intr = not (is_true (codes "no_auto_intr_regs") (same i));
  auto_alert = not (is_true (codes "no_auto_alert_regs") (same i));
  ios = pins_of (same i);
  at = start;
}

-- the tree describes the same block, and is complete
pub completes : (t u : Tree) → IsReadBlock t → Says u (full_block t) → Completes t u
unfolding full_block
completes t u read says =
    let neat = full_neat t in
    let done : Completed (block_pairs (members_of t)) t u = told_by u (full_block t) says neat in
    let differ = sound_keys_differ t read.sound in
    let again = differ_by u (full_block t) says neat in
    let twice : full_block u ≡ full_block t =
    by_object (block_pairs (members_of t)) t u done (λ is. block_twice t u done is differ again)
    (λ same. completed_twice (block_pairs (members_of t)) (block_pairs (members_of u)) t u done (ap block_pairs same)) in
    record {
      describes = λ file. by_object (block_pairs (members_of t)) t u done (λ is. block_described t u done is differ again file) (described_by_members file t u);
      same = twice;
      is_complete = subst (Says u) (sym twice) says;
    }
