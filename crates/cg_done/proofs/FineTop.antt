-- The completed description of a top is a value that a document can say, and at most 64 deep.
use Rattle.std.proofs.Common.{◌≡◌, ℕ, suc, List, [], ◌∷◌, ◌++◌, map, Option, Some, None, option_map, codes, refl, subst, arith}
use Rattle.std.specs.Prelude.{All}
use Rattle.std.specs.Str.{IsUtf8}
use Rattle.std.proofs.lemmas.List.Elements.{All-head, All-tail}
use Rattle.serde_json.specs.Data.{Data}
use Rattle.cg_hjson.specs.Json.{json_of}
use Rattle.cg_hjson.specs.Views.{tree_of}
use Rattle.cg_hjson.specs.declared.tree.Tree.{Tree}
use Rattle.cg_hjson.specs.declared.tree.Member.{Member}
use Rattle.cg_jsonspec.specs.Said.{IsSayable, AreSayable, AreSayableMembers}
use Rattle.cg_keys.specs.Elements.{elements}
use Rattle.cg_keys.specs.Forms.{number_within}
use Rattle.cg_keys.specs.Lookups.{text_at}
use Rattle.cg_keys.specs.Table.{value_at}
use Rattle.cg_keys.specs.Values.{members_of, object_in, or_empty}
use Rattle.cg_topread.specs.Described.{base_in, hart}
use Rattle.cg_blkdone.specs.Full.{list_of, pair_if}
use Rattle.cg_blkdone.specs.Parts.{each_pair}
use Rattle.cg_blkdone.proofs.Fine.{FinePairs, IsFine, a_word, fine_with, list_fine}
use Rattle.cg_blkdone.proofs.FineBlock.{one_pair}
use Rattle.cg_blkdone.proofs.FineParts.{both_fine, each_fine, number_fine, or_small, or_utf8, string_fine}
use Rattle.cg_blkdone.proofs.FineTrees.{IsFineMember, IsFineTree, fine_at, fine_elements, fine_members, number_small, says_fine, text_utf8}
use Rattle.cg_done.specs.FullTop.{as_it_stands, bases_by, full_base, full_bases, full_clocks, full_instance, full_pinmux, full_pinout, full_signal, full_top, full_use, instance_pairs, no_ports, one_space, top_pairs, use_pairs, value_or}
use Rattle.cg_done.specs.Parts.{plain_base}

-- ---- values that may be missing

-- what is there, or else a fine value
value_fine : (n : ℕ) (default : Data) (o : Option Tree) → IsFine n default → ((v : Tree) → o ≡ Some v → IsFineTree n v) → IsFine n (value_or default o)
value_fine n default None fine h = fine
value_fine n default (Some v) fine h = says_fine n v (h v refl)

no_ports_fine : (n : ℕ) → IsFine (suc n) no_ports
unfolding IsSayable AreSayableMembers
no_ports_fine n = (tt, omega arith)

one_space_fine : (n : ℕ) → IsFine (suc (suc n)) one_space
unfolding IsSayable AreSayable AreSayableMembers
one_space_fine n = (((a_word (codes "name") refl, a_word hart refl, tt), tt), omega arith)

-- a pair that may be missing
if_there : (n : ℕ) (key : List ℕ) (full : Tree → Data) (o : Option Tree) → IsUtf8 key → ((v : Tree) → o ≡ Some v → IsFine n (full v)) → FinePairs n (pair_if key (option_map full o))
if_there n key full None u h = tt
if_there n key full (Some v) u h = (u, h v refl, tt)

-- ---- base addresses

plain_fine : (n : ℕ) (t : Tree) → IsFine n (plain_base t)
unfolding base_in
plain_fine n t = number_fine n _ (or_small (number_within 0 4294967295 t) 0 (number_small t) (omega arith))

-- each member's value, completed
each_value_fine : (m n : ℕ) (full : Tree → Data) (ms : List Member) → ((t : Tree) → IsFineTree m t → IsFine n (full t)) → All (IsFineMember m) ms → FinePairs n (each_pair full ms)
each_value_fine m n full [] by h = tt
each_value_fine m n full (x ∷ ms) by h =
    let first = All-head (IsFineMember m) x ms h in
    (first.key, by x.value first.value, each_value_fine m n full ms by (All-tail (IsFineMember m) x ms h))

bases_fine : (n : ℕ) (t : Tree) (o : Option (List Member)) → object_in t ≡ o → IsFineTree (suc n) t → IsFine (suc n) (bases_by t o)
bases_fine n t None is h = plain_fine (suc n) t
bases_fine n t (Some ms) is h =
    let members = subst (λ (o : Option (List Member)). All (IsFineMember n) (or_empty o)) is (fine_members n t h) in
    fine_with n (each_pair plain_base ms) (json_of (tree_of t)) (each_value_fine n n plain_base ms (λ u fine. plain_fine n u) members) (says_fine (suc n) t h)

base_fine : (n : ℕ) (t : Tree) → IsFineTree (suc n) t → IsFine (suc n) (full_base t)
unfolding full_base
base_fine n t h = bases_fine n t (object_in t) refl h

each_base_fine : (n : ℕ) (t : Tree) → IsFineTree (suc (suc n)) t → IsFine (suc (suc n)) (full_bases t)
unfolding full_bases
each_base_fine n t h =
    let m = suc n in
    fine_with m (each_pair full_base (members_of t)) (json_of (tree_of t)) (each_value_fine m m full_base (members_of t) (base_fine n) (fine_members m t h)) (says_fine (suc m) t h)

-- ---- instances, crossbars and signals

-- the sources at a key
sources_fine : (n : ℕ) (t : Tree) (key : List ℕ) → IsFineTree (suc (suc n)) t → IsFine (suc n) (value_or no_ports (value_at key (members_of t)))
sources_fine n t key h = value_fine (suc n) no_ports (value_at key (members_of t)) (no_ports_fine n) (λ v is. fine_at (suc n) t key v h is)

instance_fine : (n : ℕ) (t : Tree) → IsFineTree (suc (suc (suc n))) t → IsFine (suc (suc (suc n))) (full_instance t)
unfolding full_instance instance_pairs
instance_fine n t h =
    let m = suc (suc n) in
    let ms = members_of t in
    let base = if_there m (codes "base_addr") full_base (value_at (codes "base_addr") ms) (a_word (codes "base_addr") refl)
    (λ v is. base_fine (suc n) v (fine_at m t (codes "base_addr") v h is)) in
    let bases = if_there m (codes "base_addrs") full_bases (value_at (codes "base_addrs") ms) (a_word (codes "base_addrs") refl)
    (λ v is. each_base_fine n v (fine_at m t (codes "base_addrs") v h is)) in
    fine_with m (instance_pairs ms) (json_of (tree_of t)) (
      a_word (codes "clock_srcs") refl,
      sources_fine (suc n) t (codes "clock_srcs") h,
      (
        a_word (codes "reset_connections") refl,
        sources_fine (suc n) t (codes "reset_connections") h,
        both_fine m (pair_if (codes "base_addr") (option_map full_base (value_at (codes "base_addr") ms)))
            (pair_if (codes "base_addrs") (option_map full_bases (value_at (codes "base_addrs") ms))) base bases,
      ),
    )
    (says_fine (suc m) t h)

use_fine : (n : ℕ) (t : Tree) → IsFineTree (suc (suc n)) t → IsFine (suc (suc n)) (full_use t)
unfolding full_use use_pairs
use_fine n t h =
    let m = suc n in
    fine_with m (use_pairs (members_of t)) (json_of (tree_of t)) (
      a_word (codes "addr_space") refl,
      string_fine m _ (or_utf8 (text_at (codes "addr_space") (members_of t)) hart (text_utf8 m t (codes "addr_space") h) (a_word hart refl)),
      (a_word (codes "clock_srcs") refl, sources_fine n t (codes "clock_srcs") h, tt),
    )
    (says_fine (suc m) t h)

signal_fine : (n : ℕ) (t : Tree) → IsFineTree (suc n) t → IsFine (suc n) (full_signal t)
unfolding full_signal
signal_fine n t h =
    one_pair n (codes "port") _ t (a_word (codes "port") refl)
    (string_fine n _ (or_utf8 (text_at (codes "port") (members_of t)) [] (text_utf8 n t (codes "port") h) (a_word [] refl))) h

-- ---- the top

-- the list at a key
listed : (n : ℕ) (t : Tree) (key : List ℕ) (full : Tree → Data) → ((u : Tree) → IsFineTree n u → IsFine n (full u)) → IsFineTree (suc (suc n)) t
    → IsFine (suc n) (list_of (map full (elements key (members_of t))))
listed n t key full by h = list_fine n (map full (elements key (members_of t))) (each_fine n n full (elements key (members_of t)) by (fine_elements n t key h))

clocks_fine : (n : ℕ) (t : Tree) → IsFineTree (suc (suc n)) t → IsFine (suc (suc n)) (full_clocks t)
unfolding full_clocks
clocks_fine n t h = one_pair (suc n) (codes "derived_srcs") _ t (a_word (codes "derived_srcs") refl) (listed n t (codes "derived_srcs") as_it_stands (says_fine n) h) h

pinout_fine : (n : ℕ) (t : Tree) → IsFineTree (suc (suc n)) t → IsFine (suc (suc n)) (full_pinout t)
unfolding full_pinout
pinout_fine n t h = one_pair (suc n) (codes "pads") _ t (a_word (codes "pads") refl) (listed n t (codes "pads") as_it_stands (says_fine n) h) h

pinmux_fine : (n : ℕ) (t : Tree) → IsFineTree (suc (suc (suc n))) t → IsFine (suc (suc (suc n))) (full_pinmux t)
unfolding full_pinmux
pinmux_fine n t h =
    one_pair (suc (suc n)) (codes "signals") _ t (a_word (codes "signals") refl) (listed (suc n) t (codes "signals") full_signal (signal_fine n) h) h

spaces_fine : (t : Tree) → IsFineTree 64 t → IsFine 63 (value_or one_space (value_at (codes "addr_spaces") (members_of t)))
spaces_fine t h =
    value_fine 63 one_space (value_at (codes "addr_spaces") (members_of t)) (one_space_fine 61) (λ v is. fine_at 63 t (codes "addr_spaces") v h is)

sections_fine : (t : Tree) → IsFineTree 64 t → FinePairs 63
    (pair_if (codes "clocks") (option_map full_clocks (value_at (codes "clocks") (members_of t)))
    ++ (pair_if (codes "pinout") (option_map full_pinout (value_at (codes "pinout") (members_of t)))
    ++ pair_if (codes "pinmux") (option_map full_pinmux (value_at (codes "pinmux") (members_of t)))))
sections_fine t h =
    let ms = members_of t in
    let clocks = if_there 63 (codes "clocks") full_clocks (value_at (codes "clocks") ms) (a_word (codes "clocks") refl)
    (λ v is. clocks_fine 61 v (fine_at 63 t (codes "clocks") v h is)) in
    let pinout = if_there 63 (codes "pinout") full_pinout (value_at (codes "pinout") ms) (a_word (codes "pinout") refl)
    (λ v is. pinout_fine 61 v (fine_at 63 t (codes "pinout") v h is)) in
    let pinmux = if_there 63 (codes "pinmux") full_pinmux (value_at (codes "pinmux") ms) (a_word (codes "pinmux") refl)
    (λ v is. pinmux_fine 60 v (fine_at 63 t (codes "pinmux") v h is)) in
    both_fine 63 (pair_if (codes "clocks") (option_map full_clocks (value_at (codes "clocks") ms))) _ clocks
    (both_fine 63 (pair_if (codes "pinout") (option_map full_pinout (value_at (codes "pinout") ms))) _ pinout pinmux)

-- the whole top
pub top_fine : (t : Tree) → IsFineTree 64 t → IsFine 64 (full_top t)
unfolding full_top top_pairs
top_fine t h =
    fine_with 63 (top_pairs (members_of t)) (json_of (tree_of t)) (
      a_word (codes "addr_spaces") refl,
      spaces_fine t h,
      (
        a_word (codes "module") refl,
        listed 62 t (codes "module") full_instance (instance_fine 59) h,
        (a_word (codes "xbar") refl, listed 62 t (codes "xbar") full_use (use_fine 60) h, sections_fine t h),
      ),
    )
    (says_fine 64 t h)
