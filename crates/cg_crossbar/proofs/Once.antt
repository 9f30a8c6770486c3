-- A file is of one good crossbar at most, and then breaks nothing.
use Rattle.std.proofs.Common.{◌≡◌, ℕ, List, Some, None, sym, ap, ◌∙◌, subst}
use Rattle.cg_desc.specs.declared.crossbar.XbarDesc.{XbarDesc}
use Rattle.cg_finding.specs.Finding.{Finding, in_file}
use Rattle.cg_files.specs.Files.{File}
use Rattle.cg_crossbar.specs.Outputs.{clash_of, written_ranges}
use Rattle.cg_crossbar.specs.Breaks.{description, ranges, clash}
use Rattle.cg_crossbar.specs.Laws.{GoodFileBreaksNothing, GoodFileIsOne}
use Rattle.cg_crossbar.proofs.FirstOnes.{InRanges, same, sound}
use Rattle.cg_crossbar.proofs.Ranges.{spaced_unbroken}
use Rattle.cg_crossbar.proofs.Valid.{described_is_valid}

pub good_unbroken : GoodFileBreaksNothing
good_unbroken file x _ good (description {f} broken) = sound file x f good.describes broken
good_unbroken file x _ good (ranges {f} y is broken) =
    spaced_unbroken x good.spaced (described_is_valid file x good.describes) (in_file file.number f) (subst (λ z. InRanges file z f) (same file y x is good.describes) broken)
good_unbroken file x _ good (clash {name} y is spaced comes) =
    let e : Some name ≡ None = sym comes ∙ ap (λ z. clash_of z (written_ranges z)) (same file y x is good.describes) ∙ good.no_clash in cc

pub good_one : GoodFileIsOne
good_one file x y good also = same file x y good.describes also.describes
