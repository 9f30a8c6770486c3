use Rattle.std.proofs.Common.{sym}
use Rattle.cg_desc.specs.Merged.{design_of}
use Rattle.cg_merge.proofs.NodeEnds.{joined_is, none_joined}
use Rattle.cg_merge.proofs.ends.nested_end.Goals as goal

pub returns-in-Some : goal.returns-in-Some
returns-in-Some c =
    let place = rw (c.as_slice.ensures, c.as_str.ensures, c.in-Some.is) at c.joined.ensures.place in
    joined_is (design_of c.args.top.now) c.args.outer.now c.args.node.now c.requires.nested c.in-Some.xbar (sym place)

pub returns-in-None : goal.returns-in-None
returns-in-None c =
    let place = rw (c.as_slice.ensures, c.as_str.ensures, c.in-None.is) at c.joined.ensures.place in
    none_joined (design_of c.args.top.now) c.args.outer.now c.args.node.now c.requires.nested (sym place)
