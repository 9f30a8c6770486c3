use Rattle.cg_chip.proofs.OneBuild.{build_is_one}
use Rattle.cg_chip.proofs.OneChip.{OneOfEach, chip_is_one}
use Rattle.cg_chip.proofs.files_are_of_one_build.Goals as goal

-- by the laws of files, of merged tops, and of what is computed of them
pub returns-clause-chip : goal.returns-clause-chip
returns-clause-chip c = chip_is_one (record {
  tree = c.a_file_has_one_tree.ensures.one;
  merged = c.files_are_of_one_top.ensures.merged;
  numbering = c.numbering_is_one.ensures.one;
  ties = c.ties_are_one.ensures;
  pins = c.pins_are_one.ensures;
})

-- and by that of outputs
pub returns-clause-build : goal.returns-clause-build
returns-clause-build c = build_is_one c.outputs_are_one_list.ensures (returns-clause-chip c)
