use Rattle.cg_desc.specs.Merged.{of_top}
use Rattle.cg_chip.proofs.Computed.{few_crossbars, has_texts, numbers_refused, pins_refused, sources_refused}
use Rattle.cg_chip.proofs.chip.chip_of.Goals as goal

pub numbers-requires : goal.numbers-requires
numbers-requires c = record { has_blocks = c.merged_has_blocks.ensures c.args.source.merged (of_top c.requires.merged) }

-- too many interrupts or alerts
pub returns-in-Err-clause-computes : goal.returns-in-Err-clause-computes
returns-in-Err-clause-computes c = λ files is. numbers_refused c.files_are_of_one_top.ensures.merged files c.args.source c.requires.unbroken is c.in-Err.refused c.in-Err.ensures

pub ties-requires-clause-has_blocks : goal.ties-requires-clause-has_blocks
ties-requires-clause-has_blocks c = c.merged_has_blocks.ensures c.args.source.merged (of_top c.requires.merged)

pub ties-requires-clause-few_crossbars : goal.ties-requires-clause-few_crossbars
ties-requires-clause-few_crossbars c = c.requires.merged.top.few_crossbars

pub pins-requires-clause-has_blocks : goal.pins-requires-clause-has_blocks
pins-requires-clause-has_blocks c = c.merged_has_blocks.ensures c.args.source.merged (of_top c.requires.merged)

pub pins-requires-clause-few_pads : goal.pins-requires-clause-few_pads
pins-requires-clause-few_pads c = c.requires.merged.top.few_pads

pub ranges_of-requires-clause-few : goal.ranges_of-requires-clause-few
ranges_of-requires-clause-few c = few_crossbars c.args.source.merged c.requires.merged

-- clocks and resets without a source
pub returns-in-Err-ties-clause-computes : goal.returns-in-Err-ties-clause-computes
returns-in-Err-ties-clause-computes c = λ files is.
    sources_refused c.files_are_of_one_top.ensures.merged files c.args.source c.requires.unbroken is c.in-Ok.irq c.in-Err-ties.refused c.in-Ok.ensures c.in-Err-ties.ensures

-- signals that fit no pin
pub returns-in-Err-pins-clause-computes : goal.returns-in-Err-pins-clause-computes
returns-in-Err-pins-clause-computes c = λ files is.
    pins_refused c.files_are_of_one_top.ensures.merged files c.args.source c.requires.unbroken is c.in-Ok.irq c.in-Ok-ties.ties c.in-Err-pins.refused c.in-Ok.ensures c.in-Ok-ties.ensures
    c.in-Err-pins.ensures

-- nothing is broken, and texts can be made
pub returns-in-Ok-ranges_of-clause-has_texts : goal.returns-in-Ok-ranges_of-clause-has_texts
returns-in-Ok-ranges_of-clause-has_texts c = λ files is.
    has_texts c.documents_are_sayable.ensures c.few_bits_follow.ensures files _ c.requires.merged is c.in-Ok-ranges_of.ensures.are c.in-Ok-ranges_of.ensures.fit c.in-Ok.ensures c.in-Ok-ties.ensures
    c.in-Ok-pins.ensures
