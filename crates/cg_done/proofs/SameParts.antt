-- Completed instances, crossbars and signals are the same, and complete.
use Rattle.std.proofs.Common.{◌≡◌, ℕ, true, List, [], ◌∷◌, ◌++◌, option_map, unwrap_or, codes, refl, sym, ap, ◌∙◌}
use Rattle.std.specs.Option.{option_map_or}
use Rattle.serde_json.specs.Data.{string}
use Rattle.serde_json.specs.Find.{get}
use Rattle.cg_hjson.specs.declared.tree.Member.{Member}
use Rattle.cg_hjson.specs.declared.tree.Tree.{Tree}
use Rattle.cg_keys.specs.Forms.{or_else}
use Rattle.cg_keys.specs.Lookups.{text_at}
use Rattle.cg_keys.specs.Table.{value_at}
use Rattle.cg_keys.specs.Values.{members_of}
use Rattle.cg_topread.specs.Described.{bases_in, faces_bases, hart, instance_in, joint_of, name_in, pairs_of, signal_in, text_or_empty, use_in}
use Rattle.cg_topread.specs.InOrder.{by_keys, put_all}
use Rattle.cg_topread.specs.Listed.{members_at}
use Rattle.cg_blkdone.specs.Full.{Pair, pair, pair_if}
use Rattle.cg_blkdone.specs.Places.{start}
use Rattle.cg_blkdone.proofs.Completion.{Completed, by_object, completed_twice, stands_at, text_has, text_kept}
use Rattle.cg_blkdone.proofs.EachMember.{SameBy}
use Rattle.cg_blkdone.proofs.Lookups.{is_object}
use Rattle.cg_blkdone.proofs.Told.{told}
use Rattle.cg_done.specs.FullTop.{full_base, full_bases, full_instance, full_signal, full_use, instance_pairs, no_ports, use_pairs}
use Rattle.cg_done.specs.Places.{instance_unplaced, signal_unplaced, use_unplaced}
use Rattle.cg_done.proofs.Differ.{Differs, differs_at}
use Rattle.cg_done.proofs.Lasts.{instance_at, last_base, last_bases, last_in_instance}
use Rattle.cg_done.proofs.SameBases.{same_base, same_bases}
use Rattle.cg_done.proofs.SameLists.{alike_if, full_if, read_at, same_by, same_pairs, value_again}

-- ---- instances

-- what two instances have alike
pub record SameInstance (t u : Tree) : Type 0 where
  pub described : instance_unplaced (instance_in u) ≡ instance_unplaced (instance_in t)
  pub pairs : instance_pairs (members_of u) ≡ instance_pairs (members_of t)

instance_by_members : (t u : Tree) → members_of u ≡ members_of t → SameInstance t u
unfolding instance_in name_in
instance_by_members t u same = record {
  described = λ i. record {
    name = text_or_empty (codes "name") (same i);
    kind = text_or_empty (codes "type") (same i);
    clocks = pairs_of (codes "clock") (members_at (codes "clock_srcs") (same i));
    resets = pairs_of (codes "name") (members_at (codes "reset_connections") (same i));
    base = option_map_or bases_in (value_at (codes "base_addr") (same i)) [];
    bases = faces_bases (members_at (codes "base_addrs") (same i));
    at = start;
  };
  pairs = ap instance_pairs same;
}

no_faces : faces_bases [] ≡ []
unfolding faces_bases by_keys put_all
no_faces = refl

module _ (t u : Tree) (old : Differs t) (new : Differs u) (done : Completed (instance_pairs (members_of t)) t u) (is : is_object (told t) ≡ true) where
  abbrev before : List Member
  before = members_of t

  abbrev after : List Member
  after = members_of u

  there : (key : List ℕ) → get key (told u) ≡ or_else (instance_at key before) (get key (told t))
  there key = stands_at (instance_pairs before) t u done is key ∙ ap (λ o. or_else o (get key (told t))) (last_in_instance key before)

  base_there : SameBy full_base (value_at (codes "base_addr") before) (value_at (codes "base_addr") after)
  base_there =
      same_by full_base (codes "base_addr") t u
      (stands_at (instance_pairs before) t u done is (codes "base_addr") ∙ ap (λ o. or_else o (get (codes "base_addr") (told t))) (last_base before))

  bases_there : SameBy full_bases (value_at (codes "base_addrs") before) (value_at (codes "base_addrs") after)
  bases_there =
      same_by full_bases (codes "base_addrs") t u
      (stands_at (instance_pairs before) t u done is (codes "base_addrs") ∙ ap (λ o. or_else o (get (codes "base_addrs") (told t))) (last_bases before))

  base : option_map_or bases_in (value_at (codes "base_addr") after) [] ≡ option_map_or bases_in (value_at (codes "base_addr") before) []
  base =
      alike_if full_base bases_in [] (value_at (codes "base_addr") before) (value_at (codes "base_addr") after) base_there
      (λ v w at_v at_w tells. (same_base v w (differs_at t (codes "base_addr") v old at_v) (differs_at u (codes "base_addr") w new at_w) tells).bases)

  bases : faces_bases (members_at (codes "base_addrs") after) ≡ faces_bases (members_at (codes "base_addrs") before)
  bases =
      read_at faces_bases (codes "base_addrs") after no_faces
      ∙ alike_if full_bases (λ v. faces_bases (members_of v)) [] (value_at (codes "base_addrs") before) (value_at (codes "base_addrs") after) bases_there
      (λ v w at_v at_w tells. (same_bases v w (differs_at t (codes "base_addrs") v old at_v) (differs_at u (codes "base_addrs") w new at_w) tells).bases)
      ∙ sym (read_at faces_bases (codes "base_addrs") before no_faces)

  full_one : option_map full_base (value_at (codes "base_addr") after) ≡ option_map full_base (value_at (codes "base_addr") before)
  full_one =
      full_if full_base (value_at (codes "base_addr") before) (value_at (codes "base_addr") after) base_there
      (λ v w at_v at_w tells. (same_base v w (differs_at t (codes "base_addr") v old at_v) (differs_at u (codes "base_addr") w new at_w) tells).full)

  full_each : option_map full_bases (value_at (codes "base_addrs") after) ≡ option_map full_bases (value_at (codes "base_addrs") before)
  full_each =
      full_if full_bases (value_at (codes "base_addrs") before) (value_at (codes "base_addrs") after) bases_there
      (λ v w at_v at_w tells. (same_bases v w (differs_at t (codes "base_addrs") v old at_v) (differs_at u (codes "base_addrs") w new at_w) tells).full)

  instance_pairs_same : instance_pairs after ≡ instance_pairs before
  unfolding instance_pairs
  instance_pairs_same =
      let clocks = value_again no_ports (codes "clock_srcs") t u (there (codes "clock_srcs")) in
      let resets = value_again no_ports (codes "reset_connections") t u (there (codes "reset_connections")) in
      λ i.
      pair (codes "clock_srcs") (clocks i) ∷ pair (codes "reset_connections") (resets i)
      ∷ (pair_if (codes "base_addr") (full_one i) ++ pair_if (codes "base_addrs") (full_each i))

  same_object : SameInstance t u
  unfolding instance_in name_in text_or_empty
  same_object =
      let clocks = same_pairs (codes "clock") (codes "clock_srcs") t u (there (codes "clock_srcs")) in
      let resets = same_pairs (codes "name") (codes "reset_connections") t u (there (codes "reset_connections")) in
      record {
        described = λ i. record {
          name = unwrap_or (text_kept (codes "name") t u (there (codes "name")) i) [];
          kind = unwrap_or (text_kept (codes "type") t u (there (codes "type")) i) [];
          clocks = clocks i;
          resets = resets i;
          base = base i;
          bases = bases i;
          at = start;
        };
        pairs = instance_pairs_same;
      }

-- a completed instance is the same
pub same_instance : (t u : Tree) → Differs t → Differs u → Completed (instance_pairs (members_of t)) t u → SameInstance t u
same_instance t u old new done = by_object (instance_pairs (members_of t)) t u done (same_object t u old new done) (instance_by_members t u)

-- it is described alike
pub instance_described : (t u : Tree) → Differs t → Differs u → told u ≡ full_instance t → instance_unplaced (instance_in u) ≡ instance_unplaced (instance_in t)
unfolding full_instance
instance_described t u old new done = (same_instance t u old new done).described

-- and complete
pub instance_twice : (t u : Tree) → Differs t → Differs u → told u ≡ full_instance t → full_instance u ≡ full_instance t
unfolding full_instance
instance_twice t u old new done =
    completed_twice (instance_pairs (members_of t)) (instance_pairs (members_of u)) t u done (same_instance t u old new done).pairs

-- ---- crossbars

record SameUse (t u : Tree) : Type 0 where
  described : use_unplaced (use_in u) ≡ use_unplaced (use_in t)
  pairs : use_pairs (members_of u) ≡ use_pairs (members_of t)

use_by_members : (t u : Tree) → members_of u ≡ members_of t → SameUse t u
unfolding use_in name_in
use_by_members t u same = record {
  described = λ i. record {
    name = text_or_empty (codes "name") (same i);
    space = unwrap_or (text_at (codes "addr_space") (same i)) hart;
    clocks = pairs_of (codes "clock") (members_at (codes "clock_srcs") (same i));
    at = start;
  };
  pairs = ap use_pairs same;
}

use_of_object : (t u : Tree) → Completed (use_pairs (members_of t)) t u → is_object (told t) ≡ true → SameUse t u
unfolding use_in use_pairs name_in text_or_empty
use_of_object t u done is =
    let there = stands_at (use_pairs (members_of t)) t u done is in
    let space = ap (λ o. unwrap_or o hart) (text_has (codes "addr_space") u (string (unwrap_or (text_at (codes "addr_space") (members_of t)) hart)) (there (codes "addr_space"))) in
    let clocks = same_pairs (codes "clock") (codes "clock_srcs") t u (there (codes "clock_srcs")) in
    let again = value_again no_ports (codes "clock_srcs") t u (there (codes "clock_srcs")) in
    record {
      described = λ i. record {
        name = unwrap_or (text_kept (codes "name") t u (there (codes "name")) i) [];
        space = space i;
        clocks = clocks i;
        at = start;
      };
      pairs = λ i. pair (codes "addr_space") (string (space i)) ∷ pair (codes "clock_srcs") (again i) ∷ [];
    }

same_use : (t u : Tree) → Completed (use_pairs (members_of t)) t u → SameUse t u
same_use t u done = by_object (use_pairs (members_of t)) t u done (use_of_object t u done) (use_by_members t u)

-- a completed crossbar is described alike
pub use_described : (t u : Tree) → told u ≡ full_use t → use_unplaced (use_in u) ≡ use_unplaced (use_in t)
unfolding full_use
use_described t u done = (same_use t u done).described

-- and complete
pub use_twice : (t u : Tree) → told u ≡ full_use t → full_use u ≡ full_use t
unfolding full_use
use_twice t u done = completed_twice (use_pairs (members_of t)) (use_pairs (members_of u)) t u done (same_use t u done).pairs

-- ---- signals

abbrev port_in : List Member → List ℕ
port_in ms = unwrap_or (text_at (codes "port") ms) []

abbrev signal_pairs : Tree → List Pair
signal_pairs t = pair (codes "port") (string (port_in (members_of t))) ∷ []

record SameSignal (t u : Tree) : Type 0 where
  described : signal_unplaced (signal_in u) ≡ signal_unplaced (signal_in t)
  port : port_in (members_of u) ≡ port_in (members_of t)

signal_by_members : (t u : Tree) → members_of u ≡ members_of t → SameSignal t u
unfolding signal_in
signal_by_members t u same = record {
  described = λ i. record {
    inst = text_or_empty (codes "instance") (same i);
    port = text_or_empty (codes "port") (same i);
    joint = joint_of (text_or_empty (codes "connection") (same i));
    pad = text_at (codes "pad") (same i);
    at = start;
  };
  port = ap port_in same;
}

signal_of_object : (t u : Tree) → Completed (signal_pairs t) t u → is_object (told t) ≡ true → SameSignal t u
unfolding signal_in text_or_empty
signal_of_object t u done is =
    let there = stands_at (signal_pairs t) t u done is in
    let port = ap (λ o. unwrap_or o []) (text_has (codes "port") u (string (port_in (members_of t))) (there (codes "port"))) in
    record {
      described = λ i. record {
        inst = unwrap_or (text_kept (codes "instance") t u (there (codes "instance")) i) [];
        port = port i;
        joint = joint_of (unwrap_or (text_kept (codes "connection") t u (there (codes "connection")) i) []);
        pad = text_kept (codes "pad") t u (there (codes "pad")) i;
        at = start;
      };
      port = port;
    }

same_signal : (t u : Tree) → Completed (signal_pairs t) t u → SameSignal t u
same_signal t u done = by_object (signal_pairs t) t u done (signal_of_object t u done) (signal_by_members t u)

-- a completed signal is described alike
pub signal_described : (t u : Tree) → told u ≡ full_signal t → signal_unplaced (signal_in u) ≡ signal_unplaced (signal_in t)
unfolding full_signal
signal_described t u done = (same_signal t u done).described

-- and complete
pub signal_twice : (t u : Tree) → told u ≡ full_signal t → full_signal u ≡ full_signal t
unfolding full_signal
signal_twice t u done = completed_twice (signal_pairs t) (signal_pairs u) t u done (λ i. pair (codes "port") (string ((same_signal t u done).port i)) ∷ [])
