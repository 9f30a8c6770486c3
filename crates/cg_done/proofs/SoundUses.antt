-- Completed crossbars break no rule.
use Rattle.std.proofs.Common.{◌≡◌, ℕ, true, false, List, [], ◌∷◌, Option, Some, None, option_and_then, unwrap_or, codes, inl, inr, refl, sym, ap, ◌∙◌, subst}
use Rattle.std.specs.Option.{option_map_or}
use Rattle.serde_json.specs.Data.{Data}
use Rattle.serde_json.specs.Find.{as_str, get}
use Rattle.cg_hjson.specs.declared.tree.Tree.{Tree}
use Rattle.cg_keys.specs.Elements.{object_faults}
use Rattle.cg_keys.specs.Forms.{is_name, name_limit}
use Rattle.cg_keys.specs.Lookups.{text_at}
use Rattle.cg_keys.specs.Table.{may}
use Rattle.cg_keys.specs.Values.{members_of}
use Rattle.cg_keys.specs.declared.forms.Form.TheVariants.{Name, Object}
use Rattle.cg_topread.specs.Described.{hart}
use Rattle.cg_topread.specs.Listed.{members_at, sources_faults, use_faults}
use Rattle.cg_topread.specs.Tables.{clock_source_keys, use_keys}
use Rattle.cg_blkdone.specs.Full.{Pair, with_all}
use Rattle.cg_blkdone.proofs.Completion.{by_either}
use Rattle.cg_blkdone.proofs.Lookups.{found_in_completed, is_object, no_object_stays, text_at_told}
use Rattle.cg_blkdone.proofs.SoundCompleted.{Puts, name_fits, object_completed, only_form, table_of}
use Rattle.cg_blkdone.proofs.SoundFields.{row_good}
use Rattle.cg_blkdone.proofs.SoundNone.{is_none, none_by_both}
use Rattle.cg_blkdone.proofs.SoundTables.{key_good, none_of_object, object_good, table_good}
use Rattle.cg_blkdone.proofs.Told.{told}
use Rattle.cg_done.specs.FullTop.{full_use, no_ports, use_pairs}
use Rattle.cg_done.proofs.ReadTops.{none_in_both}
use Rattle.cg_done.proofs.SoundJudged.{At, at_holds, at_says, value_fits, value_stays}
use Rattle.cg_done.proofs.SoundParts.{sources_judged}
use Rattle.cg_done.proofs.SoundSources.{EachTold, SourceGood, nothing_told}

-- a crossbar breaks nothing
record UseGood (d : Data) : Type 0 where
  table : object_good use_keys d ≡ true
  clocks : At (codes "clock_srcs") (EachTold (SourceGood clock_source_keys)) d

use_says : (t : Tree) → is_none (use_faults t) ≡ true → UseGood (told t)
unfolding use_faults
use_says t none =
    let both = none_in_both (object_faults use_keys t) _ none in
    record {
      table = sym (none_of_object use_keys t) ∙ both.0;
      clocks = at_says _ _ (sources_judged clock_source_keys) (codes "clock_srcs") t both.1;
    }

use_holds : (t : Tree) → UseGood (told t) → is_none (use_faults t) ≡ true
unfolding use_faults
use_holds t good =
    none_by_both (object_faults use_keys t) (sources_faults clock_source_keys (members_at (codes "clock_srcs") (members_of t))) true true
    (none_of_object use_keys t ∙ good.table) (at_holds _ _ (sources_judged clock_source_keys) (codes "clock_srcs") t good.clocks)

hart_is_name : is_name name_limit hart ≡ true
unfolding is_name
hart_is_name = refl

-- the name that counts is a name
space_by : (o : Option Data) → key_good (may (codes "addr_space") (Name ∷ [])) o ≡ true → is_name name_limit (unwrap_or (option_and_then as_str o) hart) ≡ true
space_by None h = hart_is_name
space_by (Some e) h = by (as_str e) (only_form Name e h) where
  by : (s : Option (List ℕ)) → option_map_or (is_name name_limit) s false ≡ true → is_name name_limit (unwrap_or s hart) ≡ true
  by None h = absurd cc
  by (Some s) h = h

use_puts : (t : Tree) → table_good use_keys (told t) ≡ true → Puts use_keys (use_pairs (members_of t))
unfolding use_pairs
use_puts t rows =
    let space = may (codes "addr_space") (Name ∷ []) in
    let clocks = may (codes "clock_srcs") (Object ∷ []) in
    let named : is_name name_limit (unwrap_or (text_at (codes "addr_space") (members_of t)) hart) ≡ true =
    ap (λ o. is_name name_limit (unwrap_or o hart)) (text_at_told (codes "addr_space") t)
    ∙ space_by (get (codes "addr_space") (told t)) (row_good use_keys space (told t) (inr (inl refl)) rows) in
    let space_put = name_fits (unwrap_or (text_at (codes "addr_space") (members_of t)) hart) named in
    let clocks_put = value_fits clocks no_ports t refl (row_good use_keys clocks (told t) (inr (inr (inl refl))) rows) in
    (tt, (space_put, (clocks_put, tt)))

use_good : (t : Tree) → is_object (told t) ≡ true → UseGood (told t) → UseGood (full_use t)
unfolding full_use use_pairs
use_good t is good =
    let ps : List Pair = use_pairs (members_of t) in
    record {
      table = object_completed use_keys ps (told t) is (use_puts t (table_of use_keys (told t) is good.table)) good.table;
      clocks = value_stays no_ports _ (codes "clock_srcs") t (with_all ps (told t)) (found_in_completed (codes "clock_srcs") ps (told t) is)
          (nothing_told _ no_ports (λ key. refl)) good.clocks;
    }

-- of a completed crossbar nothing is found where nothing is of the crossbar
pub use_stays : (t u : Tree) → told u ≡ full_use t → is_none (use_faults t) ≡ true → is_none (use_faults u) ≡ true
unfolding full_use
use_stays t u done none = use_holds u (subst UseGood (sym done) (by_either (is_object (told t))
    (λ is. use_good t is (use_says t none))
    (λ is. subst UseGood (sym (no_object_stays (use_pairs (members_of t)) (told t) is)) (use_says t none))))
