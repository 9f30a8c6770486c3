-- The module of a top is well formed, and has a valuation.
use Rattle.std.proofs.Common.{List, [], false, flat_map, inl, inr, refl, subst, sym, ℕ, ◌++◌, ◌∷◌, ◌≡◌}
use Rattle.std.specs.Str.{bytes_eq}
use Rattle.cg_desc.proofs.Numbered.{item_among}
use Rattle.cg_desc.specs.Merged.{IsMerged}
use Rattle.cg_desc.specs.declared.block.LaidBlock.{LaidBlock}
use Rattle.cg_desc.specs.declared.top.MergedTop.{MergedTop}
use Rattle.cg_svspec.proofs.Exists.{module_has_valuation}
use Rattle.cg_svspec.proofs.NamesLemmas.{differ_across}
use Rattle.cg_svspec.proofs.WellCounts.{balanced_drivers_differ, balanced_inputs_free, balanced_outputs_driven, balanced_wires_driven}
use Rattle.cg_svspec.specs.Names.{Among, Differ, module_names}
use Rattle.cg_svspec.specs.Value.{flop_name}
use Rattle.cg_svspec.specs.WellFormed.{WellFormed, fifo_name, join_name, split_name}
use Rattle.cg_topspec.proofs.ApartNames.{no_clash}
use Rattle.cg_topspec.proofs.Behind.{block_among}
use Rattle.cg_topspec.proofs.Built.{Built}
use Rattle.cg_topspec.proofs.FittingTop.{entries_fit}
use Rattle.cg_topspec.proofs.ListLemmas.{in_back, in_front, in_map}
use Rattle.cg_topspec.proofs.PrintedTop.{top_module_is_printable}
use Rattle.cg_topspec.proofs.Texts.{other_name}
use Rattle.cg_topspec.proofs.TopBalance.{top_balanced}
use Rattle.cg_topspec.proofs.TopDrivers.{AreNoParts}
use Rattle.cg_topspec.proofs.Usable.{IsGood}
use Rattle.cg_topspec.proofs.Whole.{names_differ_in}
use Rattle.cg_topspec.specs.Clashes.{clash_lists, crossbar_module_names, known_modules, port_lists, register_names, type_names}
use Rattle.cg_topspec.specs.Top.{block_of}
use Rattle.cg_topspec.specs.TopModule.{top_module, top_module_name}
use Rattle.cg_topspec.specs.WellFormed.{TopModuleHasValuation, TopModuleIsWellFormed}

-- the types are no known parts
no_parts : (m : MergedTop) → IsMerged m → Differ (known_modules m) → AreNoParts m
unfolding known_modules
no_parts m merged differ i less =
    let at = block_among m merged i less in
    let name = (block_of m i).desc.name in
    let there : Among name (type_names m) = in_map (λ (b : LaidBlock). b.desc.name) m.blocks (block_of m i) (item_among m.blocks at.0 (block_of m i) at.2) in
    let known : List (List ℕ) = flop_name ∷ split_name ∷ join_name ∷ fifo_name ∷ top_module_name m ∷ [] in
    let behind : Among name (crossbar_module_names m ++ (type_names m ++ flat_map register_names m.blocks)) = in_back name (crossbar_module_names m) _
    (in_front name (type_names m) _ there) in
    let other : (part : List ℕ) → Among part known → bytes_eq name part ≡ false = λ part a.
    other_name name part (λ e. differ_across name known _ differ (subst (λ n. Among n known) (sym e) a) behind) in
    rw (
      other flop_name (inl refl),
      other split_name (inr (inl refl)),
      other join_name (inr (inr (inl refl))),
      other fifo_name
          (inr (inr (inr (inl refl)))),
    ) refl

well_formed : (top : Built) → IsGood top → WellFormed (top_module top.merged top.numbers top.ties top.pins)
unfolding top_module
well_formed top good =
    let balanced = top_balanced top good.fits.merged good.fits.ties_are good.names good.types in
    record {
      printable = top_module_is_printable top.merged top.numbers top.ties top.pins good.fits good.few;
      names_differ = good.names;
      entries_fit = entries_fit top good;
      drivers_differ = balanced_drivers_differ (top_module top.merged top.numbers top.ties top.pins) balanced good.names;
      outputs_driven = balanced_outputs_driven (top_module top.merged top.numbers top.ties top.pins) balanced;
      wires_driven = balanced_wires_driven (top_module top.merged top.numbers top.ties top.pins) balanced;
      inputs_free = balanced_inputs_free (top_module top.merged top.numbers top.ties top.pins) balanced good.names;
    }

pub top_module_is_well_formed : TopModuleIsWellFormed
unfolding clash_lists
top_module_is_well_formed m numbers ties pins fits few none_twice =
    let top : Built = record { merged = m; numbers = numbers; ties = ties; pins = pins } in
    let any = no_clash (clash_lists m numbers ties pins) none_twice in
    let names : Differ (module_names (top_module m numbers ties pins)) = any (module_names (top_module m numbers ties pins))
    (inr (inr (in_back _ (port_lists m ties) _ (inl refl)))) in
    well_formed top (record { fits = fits; few = few; names = names_differ_in top names; types = no_parts m fits.merged (any (known_modules m) (inl refl)) })

pub a_valuation_exists : TopModuleHasValuation
a_valuation_exists m numbers ties pins fits few none_twice =
    module_has_valuation (top_module m numbers ties pins) (top_module_is_well_formed m numbers ties pins fits few none_twice)
