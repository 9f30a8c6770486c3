use Rattle.cg_merge.proofs.NodeEnds.{merged_of}
use Rattle.cg_merge.proofs.merging.judged.Goals as goal

pub returns-in-Ok : goal.returns-in-Ok
returns-in-Ok c =
    let none = rw c.in-Ok-None.field-0-is at c.in-Ok-None.ensures in
    merged_of c.args.top c.requires none c.in-Ok.ends c.in-Ok.ensures
