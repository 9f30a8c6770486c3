-- The tree of a completed description breaks no rule on keys and values.
use Rattle.std.proofs.Common.{◌≡◌, ℕ, true, List, Option, option_map, codes, sym, ap, ◌∙◌}
use Rattle.std.specs.Option.{option_map_or}
use Rattle.serde_json.specs.Data.{Data}
use Rattle.serde_json.specs.Find.{get}
use Rattle.cg_hjson.specs.declared.tree.Member.{Member}
use Rattle.cg_hjson.specs.declared.tree.Tree.{Tree}
use Rattle.cg_keys.specs.Duplicates.{duplicate_faults}
use Rattle.cg_keys.specs.Forms.{or_else}
use Rattle.cg_keys.specs.Table.{table_faults, value_at}
use Rattle.cg_keys.specs.Values.{members_of}
use Rattle.cg_topread.specs.Listed.{at_key, clocks_faults, crossbars_faults, instances_faults, pinmux_faults, pinout_faults, resets_faults, sections_faults, spaces_faults, top_faults}
use Rattle.cg_topread.specs.Tables.{top_keys}
use Rattle.cg_blkdone.proofs.Completion.{Completed, stands_at}
use Rattle.cg_blkdone.proofs.Lookups.{is_object}
use Rattle.cg_blkdone.proofs.Puts.{last_at}
use Rattle.cg_blkdone.proofs.SoundCompleted.{table_stays}
use Rattle.cg_blkdone.proofs.SoundNone.{empty_is_none, is_none, none_by_both, none_is_empty}
use Rattle.cg_blkdone.proofs.SoundRepeats.{none_twice}
use Rattle.cg_blkdone.proofs.SoundTables.{none_of_table, table_good}
use Rattle.cg_blkdone.proofs.Told.{told}
use Rattle.cg_blkdone.proofs.Whole.{differ_by, told_by}
use Rattle.cg_done.specs.Completed.{CompletedTopIsSound}
use Rattle.cg_done.specs.FullTop.{full_clocks, full_pinmux, full_pinout, full_top, top_pairs}
use Rattle.cg_done.proofs.Differ.{Differs}
use Rattle.cg_done.proofs.Lasts.{last_clocks, last_in_top, last_pinmux, last_pinout, top_at}
use Rattle.cg_done.proofs.ReadTops.{keys_once, none_in_both, root_object}
use Rattle.cg_done.proofs.SoundLists.{crossbars_stay, instances_stay}
use Rattle.cg_done.proofs.SoundSections.{clocks_good, clocks_stay, none_at_key, none_of_clocks, none_of_pads, none_of_resets, none_of_signals, none_of_spaces, pads_good, pads_stay, resets_good, section_stays, signals_good, signals_stay, spaces_good, spaces_stay}
use Rattle.cg_done.proofs.SoundTable.{top_puts}
use Rattle.cg_done.proofs.TopNeat.{full_neat}
use Rattle.cg_done.proofs.TopNone.{nothing_broken, nothing_found}

module _ (t u : Tree) (old : Differs t) (new : Differs u) (done : Completed (top_pairs (members_of t)) t u) (is : is_object (told t) ≡ true) where
  abbrev before : List Member
  before = members_of t

  abbrev after : List Member
  after = members_of u

  stands : (key : List ℕ) (o : Option Data) → last_at key (top_pairs before) ≡ o → get key (told u) ≡ or_else o (get key (told t))
  stands key o last = stands_at (top_pairs before) t u done is key ∙ ap (λ p. or_else p (get key (told t))) last

  put : (key : List ℕ) → get key (told u) ≡ or_else (top_at key before) (get key (told t))
  put key = stands key (top_at key before) (last_in_top key before)

  -- ---- the table

  table_none : is_none (table_faults t.at before top_keys) ≡ true → is_none (table_faults u.at after top_keys) ≡ true
  table_none none =
      let rows : table_good top_keys (told t) ≡ true = sym (none_of_table t.at t top_keys) ∙ none in
      none_of_table u.at u top_keys ∙ ap (table_good top_keys) done ∙ table_stays top_keys (top_pairs before) (told t) is (top_puts t rows) rows

  -- ---- sections

  clocks_none : is_none (at_key clocks_faults (codes "clocks") before) ≡ true → is_none (at_key clocks_faults (codes "clocks") after) ≡ true
  clocks_none none =
      none_at_key clocks_faults clocks_good none_of_clocks (codes "clocks") u
      ∙ section_stays full_clocks clocks_good clocks_stay (codes "clocks") t (get (codes "clocks") (told u))
      (stands (codes "clocks") (option_map full_clocks (value_at (codes "clocks") before)) (last_clocks before))
      (sym (none_at_key clocks_faults clocks_good none_of_clocks (codes "clocks") t) ∙ none)

  resets_none : is_none (at_key resets_faults (codes "resets") before) ≡ true → is_none (at_key resets_faults (codes "resets") after) ≡ true
  resets_none none =
      none_at_key resets_faults resets_good none_of_resets (codes "resets") u ∙ ap (λ o. option_map_or resets_good o true) (put (codes "resets"))
      ∙ sym (none_at_key resets_faults resets_good none_of_resets (codes "resets") t) ∙ none

  pads_none : is_none (at_key pinout_faults (codes "pinout") before) ≡ true → is_none (at_key pinout_faults (codes "pinout") after) ≡ true
  pads_none none =
      none_at_key pinout_faults pads_good none_of_pads (codes "pinout") u
      ∙ section_stays full_pinout pads_good pads_stay (codes "pinout") t (get (codes "pinout") (told u))
      (stands (codes "pinout") (option_map full_pinout (value_at (codes "pinout") before)) (last_pinout before))
      (sym (none_at_key pinout_faults pads_good none_of_pads (codes "pinout") t) ∙ none)

  signals_none : is_none (at_key pinmux_faults (codes "pinmux") before) ≡ true → is_none (at_key pinmux_faults (codes "pinmux") after) ≡ true
  signals_none none =
      none_at_key pinmux_faults signals_good none_of_signals (codes "pinmux") u
      ∙ section_stays full_pinmux signals_good signals_stay (codes "pinmux") t (get (codes "pinmux") (told u))
      (stands (codes "pinmux") (option_map full_pinmux (value_at (codes "pinmux") before)) (last_pinmux before))
      (sym (none_at_key pinmux_faults signals_good none_of_signals (codes "pinmux") t) ∙ none)

  sections_none : is_none (sections_faults before) ≡ true → is_none (sections_faults after) ≡ true
  unfolding sections_faults
  sections_none none =
      let clocks = none_in_both (at_key clocks_faults (codes "clocks") before) _ none in
      let resets = none_in_both (at_key resets_faults (codes "resets") before) _ clocks.1 in
      let rest = none_in_both (at_key pinout_faults (codes "pinout") before) (at_key pinmux_faults (codes "pinmux") before) resets.1 in
      none_by_both (at_key clocks_faults (codes "clocks") after) _ true true (clocks_none clocks.0)
      (none_by_both (at_key resets_faults (codes "resets") after) _ true true (resets_none resets.0)
      (none_by_both (at_key pinout_faults (codes "pinout") after) (at_key pinmux_faults (codes "pinmux") after) true true (pads_none rest.0) (signals_none rest.1)))

  -- ---- the whole

  spaces_none : is_none (spaces_faults before) ≡ true → is_none (spaces_faults after) ≡ true
  spaces_none none = none_of_spaces u ∙ ap spaces_good (put (codes "addr_spaces")) ∙ spaces_stay t (sym (none_of_spaces t) ∙ none)

  top_none : is_none (top_faults t) ≡ true → is_none (top_faults u) ≡ true
  unfolding top_faults
  top_none none =
      let repeats = none_in_both (duplicate_faults t) _ none in
      let table = none_in_both (table_faults t.at before top_keys) _ repeats.1 in
      let sections = none_in_both (sections_faults before) _ table.1 in
      let spaces = none_in_both (spaces_faults before) _ sections.1 in
      let parts = none_in_both (instances_faults before) (crossbars_faults before) spaces.1 in
      none_by_both (duplicate_faults u) _ true true (none_twice u new)
      (none_by_both (table_faults u.at after top_keys) _ true true (table_none table.0)
      (none_by_both (sections_faults after) _ true true (sections_none sections.0)
      (none_by_both (spaces_faults after) _ true true (spaces_none spaces.0)
      (none_by_both (instances_faults after) (crossbars_faults after) true true (instances_stay t u old new (put (codes "module")) parts.0)
      (crossbars_stay t u old new (put (codes "xbar")) parts.1)))))

-- it breaks no rule
pub completed_sound : CompletedTopIsSound
unfolding full_top
completed_sound t u read says f =
    let neat = full_neat t in
    let done : Completed (top_pairs (members_of t)) t u = told_by u (full_top t) says neat in
    let none : is_none (top_faults u) ≡ true =
    top_none t u (keys_once t read) (differ_by u (full_top t) says neat) done (root_object t read) (empty_is_none (top_faults t) (nothing_found t read.sound)) in
    nothing_broken u (none_is_empty (top_faults u) none) f
