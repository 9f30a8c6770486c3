-- The completed sections and address spaces of a top are the same, and complete.
use Rattle.std.proofs.Common.{◌≡◌, ℕ, List, [], ◌∷◌, map, Option, Some, None, codes, refl, sym, ap, ◌∙◌}
use Rattle.serde_json.specs.Data.{Data}
use Rattle.cg_desc.specs.declared.place.At.{At}
use Rattle.cg_desc.specs.declared.top.SpaceDesc.{SpaceDesc}
use Rattle.cg_hjson.specs.declared.tree.Member.{Member}
use Rattle.cg_hjson.specs.declared.tree.Tree.{Tree}
use Rattle.cg_keys.specs.Elements.{elements}
use Rattle.cg_keys.specs.Table.{value_at}
use Rattle.cg_keys.specs.Values.{items_of, members_of}
use Rattle.cg_topread.specs.Described.{name_in, names_at, signal_in, space_in, spaces_in}
use Rattle.cg_blkdone.specs.Full.{Pair, list_of, list_pair, pair}
use Rattle.cg_blkdone.specs.Places.{start}
use Rattle.cg_blkdone.proofs.Completion.{Completed, HasAt, by_object, completed_twice, stands_at}
use Rattle.cg_blkdone.proofs.CompletedLists.{pairwise}
use Rattle.cg_blkdone.proofs.Interfaces.{map_twice}
use Rattle.cg_blkdone.proofs.Lookups.{FoundAt, found_at, items_told, items_told_at, items_told_in}
use Rattle.cg_blkdone.proofs.Told.{told}
use Rattle.cg_done.specs.FullTop.{as_it_stands, full_clocks, full_pinmux, full_pinout, full_signal, one_space, value_or}
use Rattle.cg_done.specs.Places.{signal_unplaced, space_unplaced}
use Rattle.cg_done.proofs.SameLists.{list_has, name_by_told, name_told, names_by_told}
use Rattle.cg_done.proofs.SameParts.{signal_described, signal_twice}

-- ---- a list of names

-- what completing puts there
abbrev named_pairs : List ℕ → List Member → List Pair
named_pairs key ms = list_pair key as_it_stands ms ∷ []

-- two objects have the same names in their lists
pub record SameNames (key : List ℕ) (t u : Tree) : Type 0 where
  pub names : names_at key (members_of u) ≡ names_at key (members_of t)
  pub pairs : named_pairs key (members_of u) ≡ named_pairs key (members_of t)

-- so they have where their lists tell the same
same_names : (key : List ℕ) (t u : Tree) → map told (elements key (members_of u)) ≡ map told (elements key (members_of t)) → SameNames key t u
unfolding names_at
same_names key t u same = record {
  names = pairwise told name_in (λ v w tells. name_by_told w ∙ ap name_told tells ∙ sym (name_by_told v)) (elements key (members_of t)) (elements key (members_of u)) same;
  pairs = ap (λ ds. pair key (list_of ds) ∷ []) same;
}

names_by_members : (key : List ℕ) (t u : Tree) → members_of u ≡ members_of t → SameNames key t u
names_by_members key t u same = record { names = ap (names_at key) same; pairs = ap (named_pairs key) same }

-- ---- clocks and pads

-- what two sections of clocks have alike
pub record SameClocks (t u : Tree) : Type 0 where
  pub sources : names_at (codes "srcs") (members_of u) ≡ names_at (codes "srcs") (members_of t)
  pub derived : names_at (codes "derived_srcs") (members_of u) ≡ names_at (codes "derived_srcs") (members_of t)
  pub full : full_clocks u ≡ full_clocks t

-- completed clocks are the same
pub same_clocks : (t u : Tree) → told u ≡ full_clocks t → SameClocks t u
unfolding full_clocks
same_clocks t u done =
    let ps : List Pair = named_pairs (codes "derived_srcs") (members_of t) in
    by_object ps t u done
    (λ is.
    let there = stands_at ps t u done is in
    let derived = same_names (codes "derived_srcs") t u (list_has (codes "derived_srcs") u (map told (elements (codes "derived_srcs") (members_of t))) (there (codes "derived_srcs"))) in
    record {
      sources = names_by_told (codes "srcs") u ∙ ap (λ o. map name_told (items_told_at o)) (there (codes "srcs")) ∙ sym (names_by_told (codes "srcs") t);
      derived = derived.names;
      full = completed_twice ps (named_pairs (codes "derived_srcs") (members_of u)) t u done derived.pairs;
    })
    (λ same.
    let derived = names_by_members (codes "derived_srcs") t u same in
    record {
      sources = ap (names_at (codes "srcs")) same;
      derived = derived.names;
      full = completed_twice ps (named_pairs (codes "derived_srcs") (members_of u)) t u done derived.pairs;
    })

-- what two sections of pads have alike
pub record SamePads (t u : Tree) : Type 0 where
  pub pads : names_at (codes "pads") (members_of u) ≡ names_at (codes "pads") (members_of t)
  pub full : full_pinout u ≡ full_pinout t

-- completed pads are the same
pub same_pads : (t u : Tree) → told u ≡ full_pinout t → SamePads t u
unfolding full_pinout
same_pads t u done =
    let ps : List Pair = named_pairs (codes "pads") (members_of t) in
    let same : SameNames (codes "pads") t u = by_object ps t u done
    (λ is. same_names (codes "pads") t u (list_has (codes "pads") u (map told (elements (codes "pads") (members_of t))) (stands_at ps t u done is (codes "pads"))))
    (names_by_members (codes "pads") t u) in
    record { pads = same.names; full = completed_twice ps (named_pairs (codes "pads") (members_of u)) t u done same.pairs }

-- ---- signals

-- the signals of a section
abbrev pub signals_of : List Member → List Tree
signals_of ms = elements (codes "signals") ms

abbrev pinmux_pairs : List Member → List Pair
pinmux_pairs ms = list_pair (codes "signals") full_signal ms ∷ []

-- what two sections of signals have alike
pub record SameSignals (t u : Tree) : Type 0 where
  pub signals : map signal_unplaced (map signal_in (signals_of (members_of u))) ≡ map signal_unplaced (map signal_in (signals_of (members_of t)))
  pub full : full_pinmux u ≡ full_pinmux t

signals_by : (t u : Tree) → Completed (pinmux_pairs (members_of t)) t u → map told (signals_of (members_of u)) ≡ map full_signal (signals_of (members_of t)) → SameSignals t u
unfolding full_pinmux
signals_by t u done same = record {
  signals = map_twice signal_in signal_unplaced (signals_of (members_of u))
      ∙ pairwise full_signal (λ s. signal_unplaced (signal_in s)) signal_described (signals_of (members_of t)) (signals_of (members_of u)) same
      ∙ sym (map_twice signal_in signal_unplaced (signals_of (members_of t)));
  full = completed_twice (pinmux_pairs (members_of t)) (pinmux_pairs (members_of u)) t u done
      (ap (λ ds. pair (codes "signals") (list_of ds) ∷ []) (pairwise full_signal full_signal signal_twice (signals_of (members_of t)) (signals_of (members_of u)) same));
}

-- completed signals are the same
pub same_signals : (t u : Tree) → told u ≡ full_pinmux t → SameSignals t u
unfolding full_pinmux
same_signals t u done =
    by_object (pinmux_pairs (members_of t)) t u done
    (λ is. signals_by t u done
    (list_has (codes "signals") u (map full_signal (signals_of (members_of t))) (stands_at (pinmux_pairs (members_of t)) t u done is (codes "signals"))))
    (λ same. record {
      signals = ap (λ ms. map signal_unplaced (map signal_in (signals_of ms))) same;
      full = completed_twice (pinmux_pairs (members_of t)) (pinmux_pairs (members_of u)) t u done (ap pinmux_pairs same);
    })

-- ---- address spaces

abbrev space_told : Data → SpaceDesc
space_told d = record { name = name_told d; at = start }

spaces_of_all : (ts : List Tree) → map space_unplaced (map space_in ts) ≡ map space_told (map told ts)
unfolding space_in
spaces_of_all [] = refl
spaces_of_all (t ∷ ts) = λ i. record { name = name_by_told t i; at = start } ∷ spaces_of_all ts i

listed_spaces : (t : Tree) → map space_unplaced (map space_in (items_of t)) ≡ map space_told (items_told_in (told t))
listed_spaces t = spaces_of_all (items_of t) ∙ ap (map space_told) (items_told t)

either_spaces : (opener : At) (o : Option Tree) → map space_told (items_told_in (value_or one_space o)) ≡ map space_unplaced (spaces_in opener o)
either_spaces opener None = refl
either_spaces opener (Some v) = sym (listed_spaces v)

-- the address spaces of a completed top are the same
pub same_spaces : (t u : Tree) → HasAt (codes "addr_spaces") u (value_or one_space (value_at (codes "addr_spaces") (members_of t)))
    → map space_unplaced (spaces_in u.at (value_at (codes "addr_spaces") (members_of u))) ≡ map space_unplaced (spaces_in t.at (value_at (codes "addr_spaces") (members_of t)))
same_spaces t u has =
    let found : FoundAt (codes "addr_spaces") u (value_or one_space (value_at (codes "addr_spaces") (members_of t))) = found_at (codes "addr_spaces") u _ has in
    ap (λ o. map space_unplaced (spaces_in u.at o)) found.there ∙ listed_spaces found.value ∙ ap (λ d. map space_told (items_told_in d)) found.tells
    ∙ either_spaces t.at (value_at (codes "addr_spaces") (members_of t))
