-- All that is written, or the first name that comes twice in it.
use Rattle.std.proofs.Common.{◌≡◌, ℕ, List, [], ◌∷◌, ◌++◌, Option, Some, None, Result, Ok, Err, refl, sym, ap, subst, ◌∙◌}
use Rattle.cg_desc.specs.declared.fault.DescFault.{DescFault}
use Rattle.cg_desc.specs.declared.fault.DescFault.TheVariants as refusal
use Rattle.cg_desc.specs.declared.fault.Fault.{Fault}
use Rattle.cg_manifest.specs.Manifest.{manifest_of}
use Rattle.cg_outputs.specs.Inner.{put_outputs}
use Rattle.cg_outputs.specs.declared.out_file.OutFile.{OutFile}
use Rattle.cg_design.specs.Files.{numbered}
use Rattle.cg_design.specs.Laws.{MergedIsOne}
use Rattle.cg_chip.specs.Inner.{HasTexts, names_fault, texts_of}
use Rattle.cg_chip.specs.Laws.{ChipIsOne}
use Rattle.cg_chip.specs.Violations.{Builds, IsComputed}
use Rattle.cg_chip.specs.declared.chip.Chip.{Chip}
use Rattle.cg_chip.proofs.Clashes.{names_apart, names_first, top_apart}
use Rattle.cg_chip.proofs.Telling.{Told}
use Rattle.cg_chip.proofs.Texts.{texts_are}

module _ (merged_one : MergedIsOne) (chip_one : ChipIsOne) (c : Chip) (has : HasTexts c) (given : List (Option (List ℕ))) (computed : IsComputed (numbered given) c) where
  -- a name comes twice
  pub refused : (e : DescFault) → Told e (names_fault c) → Builds (Err e) (numbered given)
  refused (refusal.Fault f) tells = names_first given c computed merged_one chip_one f tells
  refused refusal.Memory tells = tt

  -- none does, and the manifest stands behind the texts
  pub built : (texts outputs : List OutFile) → names_fault c ≡ None → texts ≡ put_outputs [] (texts_of c) → outputs ≡ texts ++ manifest_of c.source.merged.top.name texts ∷ []
      → Builds (Ok outputs) (numbered given)
  built texts outputs apart made with_manifest = record {
    unbroken = names_apart given c computed merged_one chip_one apart;
    chip = c;
    is_chip = computed.is_chip;
    written = record {
      texts = put_outputs [] (texts_of c);
      are_texts = texts_are c has.ranges_count has.trees_count (top_apart c apart);
      with_manifest = with_manifest ∙ ap (λ os. os ++ manifest_of c.source.merged.top.name os ∷ []) made;
    };
  }
