use Rattle.cg_desc.specs.Merged.{design_of}
use Rattle.cg_merge.proofs.TopRules.{tells_space}
use Rattle.cg_merge.proofs.top_rules.first_in_space.Goals as goal

pub returns : goal.returns
returns c =
    rw (c.when.ensures, c.bad_space.ensures, c.has_space.ensures, c.as_slice.ensures, c.as_str-name.ensures)
    (tells_space (design_of c.args.top.now) c.args.number c.args.space.now c.requires)
