-- A top's completed description is neat: a document that says it tells it.
use Rattle.std.proofs.Common.{List, [], ◌∷◌, Option, Some, None, option_map, codes, ℕ}
use Rattle.serde_json.specs.Data.{Data}
use Rattle.cg_hjson.specs.Views.{tree_of}
use Rattle.cg_hjson.specs.declared.tree.Member.{Member}
use Rattle.cg_hjson.specs.declared.tree.Tree.{Tree}
use Rattle.cg_keys.specs.Table.{value_at}
use Rattle.cg_keys.specs.Values.{members_of, object_in}
use Rattle.cg_blkdone.specs.Full.{pair_if}
use Rattle.cg_blkdone.specs.Parts.{each_pair}
use Rattle.cg_blkdone.proofs.FullNeat.{completed, list_at, number_neat}
use Rattle.cg_blkdone.proofs.Neat.{IsNeat, AreNeat, AreNeatItems, PairsNeat, list_neat, pairs_neat, told_neat}
use Rattle.cg_done.specs.FullTop.{as_it_stands, bases_by, full_base, full_bases, full_clocks, full_instance, full_pinmux, full_pinout, full_signal, full_top, full_use, instance_pairs, no_ports, one_space, top_pairs, use_pairs, value_or}
use Rattle.cg_done.specs.Parts.{plain_base}

-- what is there, or else a neat value
value_neat : (default : Data) (o : Option Tree) → IsNeat default → IsNeat (value_or default o)
value_neat default None neat = neat
value_neat default (Some t) neat = told_neat (tree_of t)

no_ports_neat : IsNeat no_ports
unfolding IsNeat AreNeat
no_ports_neat = tt

one_space_neat : IsNeat one_space
unfolding IsNeat AreNeat AreNeatItems
one_space_neat = ((tt, tt, tt), tt)

-- a pair that may be missing
if_there : (key : List ℕ) (full : Tree → Data) (o : Option Tree) → ((t : Tree) → IsNeat (full t)) → PairsNeat (pair_if key (option_map full o))
if_there key full None neat = tt
if_there key full (Some t) neat = (neat t, tt)

-- each member's value, completed
each_neat : (full : Tree → Data) (ms : List Member) → ((t : Tree) → IsNeat (full t)) → PairsNeat (each_pair full ms)
each_neat full [] neat = tt
each_neat full (m ∷ ms) neat = (neat m.value, each_neat full ms neat)

-- ---- base addresses

plain_neat : (t : Tree) → IsNeat (plain_base t)
plain_neat t = number_neat _

bases_neat : (t : Tree) (o : Option (List Member)) → IsNeat (bases_by t o)
bases_neat t None = plain_neat t
bases_neat t (Some ms) = completed (each_pair plain_base ms) t (each_neat plain_base ms plain_neat)

base_neat : (t : Tree) → IsNeat (full_base t)
unfolding full_base
base_neat t = bases_neat t (object_in t)

each_base_neat : (t : Tree) → IsNeat (full_bases t)
unfolding full_bases
each_base_neat t = completed (each_pair full_base (members_of t)) t (each_neat full_base (members_of t) base_neat)

-- ---- instances, crossbars and signals

instance_neat : (t : Tree) → IsNeat (full_instance t)
unfolding full_instance instance_pairs
instance_neat t =
    let ms = members_of t in
    let bases = pairs_neat (pair_if (codes "base_addr") (option_map full_base (value_at (codes "base_addr") ms))) _
    (if_there (codes "base_addr") full_base (value_at (codes "base_addr") ms) base_neat) (if_there (codes "base_addrs") full_bases (value_at (codes "base_addrs") ms) each_base_neat) in
    completed (instance_pairs ms) t
    (value_neat no_ports (value_at (codes "clock_srcs") ms) no_ports_neat, (value_neat no_ports (value_at (codes "reset_connections") ms) no_ports_neat, bases))

use_neat : (t : Tree) → IsNeat (full_use t)
unfolding full_use use_pairs IsNeat
use_neat t = completed (use_pairs (members_of t)) t (tt, (value_neat no_ports (value_at (codes "clock_srcs") (members_of t)) no_ports_neat, tt))

signal_neat : (t : Tree) → IsNeat (full_signal t)
unfolding full_signal IsNeat
signal_neat t = completed _ t (tt, tt)

stands_neat : (t : Tree) → IsNeat (as_it_stands t)
stands_neat t = told_neat (tree_of t)

-- ---- the top

clocks_neat : (t : Tree) → IsNeat (full_clocks t)
unfolding full_clocks
clocks_neat t = completed _ t (list_neat _ (list_at (codes "derived_srcs") (members_of t) as_it_stands stands_neat), tt)

pinout_neat : (t : Tree) → IsNeat (full_pinout t)
unfolding full_pinout
pinout_neat t = completed _ t (list_neat _ (list_at (codes "pads") (members_of t) as_it_stands stands_neat), tt)

pinmux_neat : (t : Tree) → IsNeat (full_pinmux t)
unfolding full_pinmux
pinmux_neat t = completed _ t (list_neat _ (list_at (codes "signals") (members_of t) full_signal signal_neat), tt)

top_pairs_neat : (ms : List Member) → PairsNeat (top_pairs ms)
unfolding top_pairs
top_pairs_neat ms =
    let instances = list_neat _ (list_at (codes "module") ms full_instance instance_neat) in
    let crossbars = list_neat _ (list_at (codes "xbar") ms full_use use_neat) in
    let clocks = if_there (codes "clocks") full_clocks (value_at (codes "clocks") ms) clocks_neat in
    let pinout = if_there (codes "pinout") full_pinout (value_at (codes "pinout") ms) pinout_neat in
    let pinmux = if_there (codes "pinmux") full_pinmux (value_at (codes "pinmux") ms) pinmux_neat in (
      value_neat one_space (value_at (codes "addr_spaces") ms) one_space_neat,
      (
        instances,
        (
          crossbars,
          pairs_neat (pair_if (codes "clocks") (option_map full_clocks (value_at (codes "clocks") ms))) _ clocks
              (pairs_neat (pair_if (codes "pinout") (option_map full_pinout (value_at (codes "pinout") ms))) _ pinout pinmux),
        ),
      ),
    )

-- the whole
pub full_neat : (t : Tree) → IsNeat (full_top t)
unfolding full_top
full_neat t = completed (top_pairs (members_of t)) t (top_pairs_neat (members_of t))
