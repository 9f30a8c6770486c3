-- A completed top is the same top, and complete.
use Rattle.std.proofs.Common.{◌≡◌, ℕ, true, List, [], ◌∷◌, ◌++◌, map, unwrap_or, codes, refl, sym, ap, ◌∙◌}
use Rattle.std.specs.Option.{option_map_or}
use Rattle.serde_json.specs.Data.{Data}
use Rattle.serde_json.specs.Find.{get}
use Rattle.cg_hjson.specs.declared.tree.Member.{Member}
use Rattle.cg_hjson.specs.declared.tree.Tree.{Tree}
use Rattle.cg_keys.specs.Elements.{elements}
use Rattle.cg_keys.specs.Forms.{or_else}
use Rattle.cg_keys.specs.Table.{value_at}
use Rattle.cg_keys.specs.Values.{members_of}
use Rattle.cg_topread.specs.Described.{instance_in, names_at, signal_in, text_or_empty, top_of, use_in}
use Rattle.cg_topread.specs.Listed.{members_at}
use Rattle.cg_blkdone.specs.Full.{list_of, pair, pair_if}
use Rattle.cg_blkdone.specs.Places.{start}
use Rattle.cg_blkdone.proofs.Completion.{Completed, completed_twice, stands_at, text_kept}
use Rattle.cg_blkdone.proofs.CompletedLists.{pairwise}
use Rattle.cg_blkdone.proofs.EachMember.{SameBy}
use Rattle.cg_blkdone.proofs.Interfaces.{map_twice}
use Rattle.cg_blkdone.proofs.Lookups.{is_object, items_told_at}
use Rattle.cg_blkdone.proofs.SoundTables.{by_value_at}
use Rattle.cg_blkdone.proofs.Told.{told}
use Rattle.cg_done.specs.Completed.{AreSame}
use Rattle.cg_done.specs.FullTop.{full_clocks, full_instance, full_pinmux, full_pinout, full_top, full_use, one_space, top_pairs}
use Rattle.cg_done.specs.Places.{instance_unplaced, signal_unplaced, top_unplaced, use_unplaced}
use Rattle.cg_done.proofs.Differ.{Differs, elements_differ}
use Rattle.cg_done.proofs.Lasts.{last_clocks, last_in_top, last_pinmux, last_pinout, top_at}
use Rattle.cg_done.proofs.SameLists.{alike_if, full_if, list_has, name_told, names_by_told, no_names, pairwise_if, read_at, same_by, value_again}
use Rattle.cg_done.proofs.SameParts.{instance_described, instance_twice, use_described, use_twice}
use Rattle.cg_done.proofs.SameSections.{same_clocks, same_pads, same_signals, same_spaces, signals_of}

-- ---- names of the object at a key

-- by what it tells
names_at_told : (key name : List ℕ) (t : Tree) → names_at key (members_at name (members_of t))
    ≡ option_map_or (λ d. map name_told (items_told_at (get key d))) (get name (told t)) []
names_at_told key name t =
    read_at (names_at key) name (members_of t) (no_names key)
    ∙ by_value_at (λ v. names_at key (members_of v)) (λ d. map name_told (items_told_at (get key d))) [] (names_by_told key) name t

-- of a value that is completed where it is there
names_completed : (full : Tree → Data) (key name : List ℕ) (t u : Tree) → SameBy full (value_at name (members_of t)) (value_at name (members_of u))
    → ((v w : Tree) → told w ≡ full v → names_at key (members_of w) ≡ names_at key (members_of v))
    → names_at key (members_at name (members_of u)) ≡ names_at key (members_at name (members_of t))
names_completed full key name t u same alike =
    read_at (names_at key) name (members_of u) (no_names key)
    ∙ alike_if full (λ v. names_at key (members_of v)) [] (value_at name (members_of t)) (value_at name (members_of u)) same (λ v w at_v at_w tells. alike v w tells)
    ∙ sym (read_at (names_at key) name (members_of t) (no_names key))

-- ---- a top that is an object

module _ (t u : Tree) (old : Differs t) (new : Differs u) (done : Completed (top_pairs (members_of t)) t u) (is : is_object (told t) ≡ true) where
  abbrev before : List Member
  before = members_of t

  abbrev after : List Member
  after = members_of u

  there : (key : List ℕ) → get key (told u) ≡ or_else (top_at key before) (get key (told t))
  there key = stands_at (top_pairs before) t u done is key ∙ ap (λ o. or_else o (get key (told t))) (last_in_top key before)

  clocks_there : SameBy full_clocks (value_at (codes "clocks") before) (value_at (codes "clocks") after)
  clocks_there = same_by full_clocks (codes "clocks") t u
      (stands_at (top_pairs before) t u done is (codes "clocks") ∙ ap (λ o. or_else o (get (codes "clocks") (told t))) (last_clocks before))

  pinout_there : SameBy full_pinout (value_at (codes "pinout") before) (value_at (codes "pinout") after)
  pinout_there = same_by full_pinout (codes "pinout") t u
      (stands_at (top_pairs before) t u done is (codes "pinout") ∙ ap (λ o. or_else o (get (codes "pinout") (told t))) (last_pinout before))

  pinmux_there : SameBy full_pinmux (value_at (codes "pinmux") before) (value_at (codes "pinmux") after)
  pinmux_there = same_by full_pinmux (codes "pinmux") t u
      (stands_at (top_pairs before) t u done is (codes "pinmux") ∙ ap (λ o. or_else o (get (codes "pinmux") (told t))) (last_pinmux before))

  instances_told : map told (elements (codes "module") after) ≡ map full_instance (elements (codes "module") before)
  instances_told = list_has (codes "module") u (map full_instance (elements (codes "module") before)) (there (codes "module"))

  crossbars_told : map told (elements (codes "xbar") after) ≡ map full_use (elements (codes "xbar") before)
  crossbars_told = list_has (codes "xbar") u (map full_use (elements (codes "xbar") before)) (there (codes "xbar"))

  sources : names_at (codes "srcs") (members_at (codes "clocks") after) ≡ names_at (codes "srcs") (members_at (codes "clocks") before)
  sources = names_completed full_clocks (codes "srcs") (codes "clocks") t u clocks_there (λ v w tells. (same_clocks v w tells).sources)

  derived : names_at (codes "derived_srcs") (members_at (codes "clocks") after) ≡ names_at (codes "derived_srcs") (members_at (codes "clocks") before)
  derived = names_completed full_clocks (codes "derived_srcs") (codes "clocks") t u clocks_there (λ v w tells. (same_clocks v w tells).derived)

  resets : names_at (codes "nodes") (members_at (codes "resets") after) ≡ names_at (codes "nodes") (members_at (codes "resets") before)
  resets =
      names_at_told (codes "nodes") (codes "resets") u ∙ ap (λ o. option_map_or (λ d. map name_told (items_told_at (get (codes "nodes") d))) o []) (there (codes "resets"))
      ∙ sym (names_at_told (codes "nodes") (codes "resets") t)

  pads : names_at (codes "pads") (members_at (codes "pinout") after) ≡ names_at (codes "pads") (members_at (codes "pinout") before)
  pads = names_completed full_pinout (codes "pads") (codes "pinout") t u pinout_there (λ v w tells. (same_pads v w tells).pads)

  instances : map instance_unplaced (map instance_in (elements (codes "module") after)) ≡ map instance_unplaced (map instance_in (elements (codes "module") before))
  instances =
      map_twice instance_in instance_unplaced (elements (codes "module") after)
      ∙ pairwise_if Differs full_instance (λ v. instance_unplaced (instance_in v)) instance_described (elements (codes "module") before) (elements (codes "module") after)
      (elements_differ t (codes "module") old) (elements_differ u (codes "module") new) instances_told
      ∙ sym (map_twice instance_in instance_unplaced (elements (codes "module") before))

  crossbars : map use_unplaced (map use_in (elements (codes "xbar") after)) ≡ map use_unplaced (map use_in (elements (codes "xbar") before))
  crossbars =
      map_twice use_in use_unplaced (elements (codes "xbar") after)
      ∙ pairwise full_use (λ v. use_unplaced (use_in v)) use_described (elements (codes "xbar") before) (elements (codes "xbar") after) crossbars_told
      ∙ sym (map_twice use_in use_unplaced (elements (codes "xbar") before))

  signals : map signal_unplaced (map signal_in (signals_of (members_at (codes "pinmux") after)))
      ≡ map signal_unplaced (map signal_in (signals_of (members_at (codes "pinmux") before)))
  unfolding elements value_at
  signals =
      read_at (λ ms. map signal_unplaced (map signal_in (signals_of ms))) (codes "pinmux") after refl
      ∙ alike_if full_pinmux (λ v. map signal_unplaced (map signal_in (signals_of (members_of v)))) [] (value_at (codes "pinmux") before) (value_at (codes "pinmux") after) pinmux_there
      (λ v w at_v at_w tells. (same_signals v w tells).signals)
      ∙ sym (read_at (λ ms. map signal_unplaced (map signal_in (signals_of ms))) (codes "pinmux") before refl)

  -- the same top but for places
  pub top_described : (file : ℕ) → AreSame (top_of file u) (top_of file t)
  unfolding top_unplaced top_of text_or_empty
  top_described file =
      let spaces = same_spaces t u (there (codes "addr_spaces")) in
      λ i. record {
        file = file;
        name = unwrap_or (text_kept (codes "name") t u (there (codes "name")) i) [];
        sources = sources i ++ derived i;
        resets = resets i;
        spaces = spaces i;
        insts = instances i;
        xbars = crossbars i;
        pads = pads i;
        signals = signals i;
        at = start;
      }

  instances_twice : map full_instance (elements (codes "module") after) ≡ map full_instance (elements (codes "module") before)
  instances_twice =
      pairwise_if Differs full_instance full_instance instance_twice (elements (codes "module") before) (elements (codes "module") after)
      (elements_differ t (codes "module") old) (elements_differ u (codes "module") new) instances_told

  crossbars_twice : map full_use (elements (codes "xbar") after) ≡ map full_use (elements (codes "xbar") before)
  crossbars_twice = pairwise full_use full_use use_twice (elements (codes "xbar") before) (elements (codes "xbar") after) crossbars_told

  -- the same values at its keys
  pairs_same : top_pairs after ≡ top_pairs before
  unfolding top_pairs
  pairs_same =
      let spaces = value_again one_space (codes "addr_spaces") t u (there (codes "addr_spaces")) in
      let clocks = full_if full_clocks (value_at (codes "clocks") before) (value_at (codes "clocks") after) clocks_there (λ v w at_v at_w tells. (same_clocks v w tells).full) in
      let pinout = full_if full_pinout (value_at (codes "pinout") before) (value_at (codes "pinout") after) pinout_there (λ v w at_v at_w tells. (same_pads v w tells).full) in
      let pinmux = full_if full_pinmux (value_at (codes "pinmux") before) (value_at (codes "pinmux") after) pinmux_there (λ v w at_v at_w tells. (same_signals v w tells).full) in
      λ i.
      pair (codes "addr_spaces") (spaces i)
      ∷ pair (codes "module") (list_of (instances_twice i))
      ∷ pair (codes "xbar") (list_of (crossbars_twice i))
      ∷ (pair_if (codes "clocks") (clocks i) ++ (pair_if (codes "pinout") (pinout i) ++ pair_if (codes "pinmux") (pinmux i)))

  -- complete
  pub top_twice : full_top u ≡ full_top t
  unfolding full_top
  top_twice = completed_twice (top_pairs before) (top_pairs after) t u done pairs_same
