-- What is written of files that break nothing has its meaning, by the laws of its parts.
use Rattle.cg_topspec.specs.Fits.{FitsTop}
use Rattle.cg_topspec.specs.WellFormed.{FewBitsFollow, HasFewBits}
use Rattle.cg_chip.specs.Laws.{WhatIsWrittenMeans}
use Rattle.cg_chip.proofs.MeaningClashes.{HasNoClash, all_apart, no_clash}
use Rattle.cg_chip.proofs.MeaningModules.{finds_each, has_modules}
use Rattle.cg_chip.proofs.MeaningOrder.{are_in_order, found_in_any, in_order}
use Rattle.cg_chip.proofs.MeaningTexts.{TextLaws, headers_agree, texts_stand}
use Rattle.cg_chip.proofs.MeaningTop.{MeetsLaws, TopLaws, clocks_exist, clocks_mean, nets_mean, requests_reach}

pub written_means : FewBitsFollow → TopLaws → TextLaws → WhatIsWrittenMeans
written_means few_follow top_laws text_laws files c is unbroken =
    let few : HasFewBits c.irq c.pins = few_follow c.source.merged c.irq c.pins is.merged.merged is.numbers is.pins in
    let none : HasNoClash c = no_clash files c is unbroken in
    let fits : FitsTop c.source.merged c.irq c.ties c.pins =
    record { merged = is.merged.merged; numbers_are = is.numbers.are_its; ties_are = is.ties.are_its; pins_are = is.pins.are_its } in
    let meets : MeetsLaws c =
    record {
      fits = fits;
      few = few;
      spaced = is.spaced;
      no_clash = none.lists;
      behind = in_order c;
      are_behind = are_in_order c is.trees.count;
      modules = found_in_any c is.trees.count (finds_each c.source.merged c.irq c.ties c.pins c.ranges is.ranges none.lists)
          (has_modules c.source.merged c.irq c.ties c.pins c.ranges is.ranges none.lists (all_apart c none));
    } in
    record {
      texts = texts_stand text_laws files c is few none fits;
      requests = requests_reach top_laws c meets;
      clocks = clocks_mean top_laws c meets;
      clocks_exist = clocks_exist top_laws c meets;
      nets = nets_mean top_laws c meets;
      headers = headers_agree text_laws files c is few none;
    }
