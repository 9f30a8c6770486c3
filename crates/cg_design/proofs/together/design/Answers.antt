use Rattle.cg_design.proofs.Designing.{all_merged, its_blocks, its_crossbars, its_files, told_by_file, told_by_merge, told_by_ranges}
use Rattle.cg_design.proofs.together.design.Goals as goal

-- a file breaks something by itself
pub returns-in-Err-clause-merges : goal.returns-in-Err-clause-merges
returns-in-Err-clause-merges c own describes size =
    told_by_file c.args.source.top c.args.types.now c.args.size c.args.others.now c.requires.count c.as_slice-listed.result.now c.as_slice.result.now c.as_slice-listed.ensures c.as_slice.ensures
    own c.args.source.tree c.requires.types describes size c.in-Err.refused c.in-Err.ensures

-- none does: they can be merged
pub merge-requires-clause-files : goal.merge-requires-clause-files
merge-requires-clause-files c =
    its_files c.args.source.top c.args.types.now c.args.size c.args.others.now c.requires.count c.as_slice-listed.result.now c.as_slice.result.now c.as_slice-listed.ensures c.as_slice.ensures
    c.in-Ok.others c.in-Ok-parted.parts.1 c.in-Ok.ensures c.in-Ok-parted.ensures.1 c.requires.types

pub merge-requires-clause-valid_crossbars : goal.merge-requires-clause-valid_crossbars
merge-requires-clause-valid_crossbars c =
    its_crossbars c.args.source.top c.args.types.now c.args.size c.args.others.now c.requires.count c.as_slice-listed.result.now c.as_slice.result.now c.as_slice-listed.ensures c.as_slice.ensures
    c.in-Ok.others c.in-Ok-parted.parts.1 c.in-Ok.ensures c.in-Ok-parted.ensures.1

pub merge-requires-clause-valid_blocks : goal.merge-requires-clause-valid_blocks
merge-requires-clause-valid_blocks c =
    its_blocks c.args.source.top c.args.types.now c.args.size c.args.others.now c.requires.count c.as_slice-listed.result.now c.as_slice.result.now c.as_slice-listed.ensures c.as_slice.ensures
    c.in-Ok.others c.in-Ok-parted.parts.1 c.in-Ok.ensures c.in-Ok-parted.ensures.1

-- they break something together
pub returns-in-Err-merge-clause-merges : goal.returns-in-Err-merge-clause-merges
returns-in-Err-merge-clause-merges c own describes size =
    told_by_merge c.args.source.top c.args.types.now c.args.size c.args.others.now c.requires.count c.as_slice-listed.result.now c.as_slice.result.now c.as_slice-listed.ensures c.as_slice.ensures
    own c.args.source.tree c.requires.types describes size c.in-Ok.others c.in-Ok-parted.parts.1 c.in-Ok.ensures c.in-Ok-parted.ensures.1 c.in-Err-merge.refused c.in-Err-merge.ensures

-- in their ranges
pub returns-in-Err-check-clause-merges : goal.returns-in-Err-check-clause-merges
returns-in-Err-check-clause-merges c own describes size =
    told_by_ranges c.args.source.top c.args.types.now c.args.size c.args.others.now c.requires.count c.as_slice-listed.result.now c.as_slice.result.now c.as_slice-listed.ensures c.as_slice.ensures
    own c.args.source.tree c.requires.types describes size c.in-Ok.others c.in-Ok-parted.parts.1 c.in-Ok.ensures c.in-Ok-parted.ensures.1 c.in-Ok-merge.merged c.in-Ok-merge.ensures c.in-Err-check.refused
    c.in-Err-check.ensures

-- or nothing
pub returns-in-Ok-check-clause-merges : goal.returns-in-Ok-check-clause-merges
returns-in-Ok-check-clause-merges c own describes size =
    all_merged c.args.source.top c.args.types.now c.args.size c.args.others.now c.requires.count c.as_slice-listed.result.now c.as_slice.result.now c.as_slice-listed.ensures c.as_slice.ensures
    own c.args.source.tree c.requires.types describes size c.in-Ok.others c.in-Ok-parted.parts.1 c.in-Ok.ensures c.in-Ok-parted.ensures.1 c.in-Ok-merge.merged c.in-Ok-merge.ensures c.in-Ok-parted.parts.0
    c.in-Ok-parted.ensures.0 c.in-Ok-check.ensures.0
