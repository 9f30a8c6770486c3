use Rattle.cg_files.specs.Files.{some_file}
use Rattle.cg_block.proofs.FirstOnes.{file_first, unit_found}
use Rattle.cg_block.proofs.unit.read_block.Goals as goal

-- the file has a tree: its unit, or the first that the tree breaks
pub returns-in-Ok : goal.returns-in-Ok
returns-in-Ok c =
    let unit = c.unit_of.ensures in
    unit_found (some_file c.args.file c.args.before c.args.bytes.now) c.in-Ok.tree c.unit_of.result c.in-Ok.ensures unit.finds unit.tree unit.modules unit.header

-- it has none
pub returns-in-Err : goal.returns-in-Err
returns-in-Err c = file_first (some_file c.args.file c.args.before c.args.bytes.now) c.in-Err.refusal c.in-Err.ensures
