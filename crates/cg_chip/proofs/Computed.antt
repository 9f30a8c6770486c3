-- What is computed of a merged top, or refused, is what its files say.
use Rattle.std.proofs.Common.{◌≡◌, ◌≤◌, ℕ, List, length, map, Result, Ok, Err, refl, sym, ap, subst, ◌∙◌, arith}
use Rattle.std.proofs.lemmas.List.{length-map}
use Rattle.cg_clkrst.specs.Violations.{IsTied, Ties, Violates as BreaksSources}
use Rattle.cg_clkrst.specs.declared.tie.Tie.{Tie}
use Rattle.cg_desc.specs.Merged.{IsMerged}
use Rattle.cg_desc.specs.declared.crossbar.XbarDesc.{XbarDesc}
use Rattle.cg_desc.specs.declared.fault.DescFault.{DescFault}
use Rattle.cg_desc.specs.declared.fault.DescFault.TheVariants as refusal
use Rattle.cg_desc.specs.declared.fault.Fault.{Fault}
use Rattle.cg_desc.specs.declared.top.MergedTop.{MergedTop}
use Rattle.cg_desc.specs.declared.top.XbarUse.{XbarUse}
use Rattle.cg_files.specs.Files.{File}
use Rattle.cg_irq.specs.Violations.{IsNumbering, Numbers, Violates as BreaksNumbers}
use Rattle.cg_irq.specs.declared.bits.IrqMap.{IrqMap}
use Rattle.cg_jsonspec.specs.Laws.{DocumentsAreSayable}
use Rattle.cg_pinmux.specs.Violations.{IsPinned, Pins, Violates as BreaksPins}
use Rattle.cg_pinmux.specs.declared.map.PinMap.{PinMap}
use Rattle.cg_space.specs.Violations.{NoViolation}
use Rattle.cg_topspec.specs.WellFormed.{FewBitsFollow}
use Rattle.cg_design.specs.Laws.{MergedIsOne}
use Rattle.cg_design.specs.Violations.{IsSourceOf}
use Rattle.cg_design.specs.declared.together.DesignSource.{DesignSource}
use Rattle.cg_chip.specs.Chip.{AreRangesOfAll, IsChip}
use Rattle.cg_chip.specs.Inner.{AllFit, HasTexts}
use Rattle.cg_chip.specs.Violations.{Computes, IsComputed}
use Rattle.cg_chip.specs.declared.chip.Chip.{Chip}
use Rattle.cg_chip.specs.declared.chip.XbarRanges.{XbarRanges}
use Rattle.cg_chip.proofs.Described.{blocks_described, read, top_described}
use Rattle.cg_chip.proofs.Phases.{IsSound, numbers_first, pins_first, sources_first}

-- a valid merged top has the crossbars that it lists, which are few
pub few_crossbars : (m : MergedTop) → IsMerged m → length m.xbars ≤ 16
few_crossbars m merged =
    let few = merged.top.few_crossbars in
    let same : length m.xbars ≡ length m.top.xbars =
    sym (length-map m.xbars (λ (x : XbarDesc). x.name)) ∙ ap length merged.files.crossbars ∙ length-map m.top.xbars (λ (u : XbarUse). u.name) in
    omega (arith, few, same)

module _ (one : MergedIsOne) (files : List File) (source : DesignSource) (spaced : NoViolation source.merged) (is : IsSourceOf files source) where
  sound : IsSound files source.merged
  sound = record { spaced = record { merged = is.merged; spaced = spaced }; unbroken = is.unbroken }

  -- too many interrupts or alerts
  pub numbers_refused : (e : DescFault) → Numbers (Err e) source.merged → Computes (Err e) files
  numbers_refused (refusal.Fault f) first = numbers_first one files source.merged sound f first
  numbers_refused refusal.Memory first = tt

  -- clocks and resets without a source
  pub sources_refused : (irq : IrqMap) (e : DescFault) → IsNumbering source.merged irq → Ties (Err e) source.merged → Computes (Err e) files
  sources_refused irq (refusal.Fault f) numbering first = sources_first one files source.merged sound numbering.unbroken f first
  sources_refused irq refusal.Memory numbering first = tt

  -- signals that fit no pin
  pub pins_refused : (irq : IrqMap) (ties : List Tie) (e : DescFault) → IsNumbering source.merged irq → IsTied source.merged ties → Pins (Err e) source.merged → Computes (Err e) files
  pins_refused irq ties (refusal.Fault f) numbering tied first = pins_first one files source.merged sound numbering.unbroken tied.unbroken f first
  pins_refused irq ties refusal.Memory numbering tied first = tt

-- nothing is broken
pub computed : (files : List File) (c : Chip) → NoViolation c.source.merged → IsSourceOf files c.source → AreRangesOfAll c.source.merged c.ranges → IsNumbering c.source.merged c.irq
    → IsTied c.source.merged c.ties → IsPinned c.source.merged c.pins → IsComputed files c
computed files c spaced is ranges numbering tied pinned = record {
  is_chip = record { merged = is.merged; trees = is.trees; spaced = spaced; ranges = ranges; numbers = numbering; ties = tied; pins = pinned };
  unbroken = is.unbroken;
}

-- and texts can be made of it
pub has_texts : DocumentsAreSayable → FewBitsFollow → (files : List File) (c : Chip) → IsMerged c.source.merged → IsSourceOf files c.source → AreRangesOfAll c.source.merged c.ranges
    → AllFit c.source.merged.xbars c.ranges → IsNumbering c.source.merged c.irq → IsTied c.source.merged c.ties → IsPinned c.source.merged c.pins → HasTexts c
has_texts sayable few files c merged is ranges fit numbering tied pinned = record {
  fits = record { merged = merged; numbers_are = numbering.are_its; ties_are = tied.are_its; pins_are = pinned.are_its };
  few = few c.source.merged c.irq c.pins merged numbering pinned;
  read = read files c.source.merged c.source.tree c.source.blocks is.merged is.trees sayable;
  described = top_described files c.source.merged c.source.tree c.source.blocks is.merged is.trees;
  ranges_count = ranges.count;
  ranges = fit;
  trees_count = is.trees.count;
  blocks = blocks_described files c.source.merged c.source.tree c.source.blocks is.merged is.trees;
}
