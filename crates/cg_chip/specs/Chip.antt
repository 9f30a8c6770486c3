-- A top with all that is computed of it before a text is written: ranges, numbers, sources and pins.
use Rattle.std.specs.Prelude.{◌≡◌, ℕ, List, length, slice_get, Some}
use Rattle.cg_clkrst.specs.Violations.{IsTied}
use Rattle.cg_desc.specs.declared.top.MergedTop.{MergedTop}
use Rattle.cg_files.specs.Files.{File}
use Rattle.cg_irq.specs.Violations.{IsNumbering}
use Rattle.cg_pinmux.specs.Violations.{IsPinned}
use Rattle.cg_space.specs.Answers.{AreNodeRanges}
use Rattle.cg_space.specs.Violations.{NoViolation}
use Rattle.cg_design.specs.Design.{AreMerged, AreTrees}
use Rattle.cg_chip.specs.declared.chip.Chip.{Chip}
use Rattle.cg_chip.specs.declared.chip.XbarRanges.{XbarRanges}

-- the ranges of the nodes of each crossbar
pub record AreRangesOfAll (m : MergedTop) (all : List XbarRanges) : Type 0 where
  pub count : length all ≡ length m.xbars
  pub each : (x : ℕ) (ranges : XbarRanges) → slice_get all x ≡ Some ranges → AreNodeRanges m x ranges.ranges

-- The files describe this top, whose ranges are apart, with these trees, ranges, numbers, sources and pins, of which none breaks a rule.
pub record IsChip (files : List File) (c : Chip) : Type 0 where
  pub merged : AreMerged files c.source.merged
  pub trees : AreTrees files c.source.merged c.source.tree c.source.blocks
  pub spaced : NoViolation c.source.merged
  pub ranges : AreRangesOfAll c.source.merged c.ranges
  pub numbers : IsNumbering c.source.merged c.irq
  pub ties : IsTied c.source.merged c.ties
  pub pins : IsPinned c.source.merged c.pins
