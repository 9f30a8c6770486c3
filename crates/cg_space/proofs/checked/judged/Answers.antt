use Rattle.cg_space.specs.Inner.Tables.{AreTables}
use Rattle.cg_space.proofs.Checking.{no_circle, no_violation, refused_circle, refused_ranges}
use Rattle.cg_space.proofs.Merged.{is_sound}
use Rattle.cg_space.proofs.checked.judged.Goals as goal

pub marks_of-requires : goal.marks_of-requires
marks_of-requires c = is_sound c.args.top.now c.requires

pub check_circles-requires-clause-sound : goal.check_circles-requires-clause-sound
check_circles-requires-clause-sound c = is_sound c.args.top.now c.requires

pub returns-in-Err-check_circles : goal.returns-in-Err-check_circles
returns-in-Err-check_circles c = refused_circle c.args.top.now (AreTables c.args.top.now) c.in-Err-check_circles.fault c.in-Err-check_circles.ensures

pub tables_of-requires-clause-sound : goal.tables_of-requires-clause-sound
tables_of-requires-clause-sound c = is_sound c.args.top.now c.requires

pub tables_of-requires-clause-free : goal.tables_of-requires-clause-free
tables_of-requires-clause-free c = no_circle c.args.top.now c.in-Ok-check_circles.ensures

pub check_ranges-requires-clause-sound : goal.check_ranges-requires-clause-sound
check_ranges-requires-clause-sound c = is_sound c.args.top.now c.requires

pub check_ranges-requires-clause-free : goal.check_ranges-requires-clause-free
check_ranges-requires-clause-free c = no_circle c.args.top.now c.in-Ok-check_circles.ensures

pub returns-in-Ok-check_ranges : goal.returns-in-Ok-check_ranges
returns-in-Ok-check_ranges c = (no_violation c.args.top.now (no_circle c.args.top.now c.in-Ok-check_circles.ensures) c.in-Ok-check_ranges.ensures, c.in-Ok-tables_of.ensures)

pub returns : goal.returns
returns c =
    refused_ranges c.args.top.now (AreTables c.args.top.now) c.in-Err-check_ranges.fault (no_circle c.args.top.now c.in-Ok-check_circles.ensures) c.in-Err-check_ranges.ensures
