use Rattle.std.proofs.Common.{sym}
use Rattle.cg_desc.specs.Merged.{design_of}
use Rattle.cg_merge.proofs.NodeRules.{decides_spelled_before, tells_plain}
use Rattle.cg_merge.proofs.TopRules.{decides_either}
use Rattle.cg_merge.proofs.nodes.first_in_plain.Goals as goal

pub returns : goal.returns
returns c x n before =
    let spelled = decides_spelled_before (design_of c.args.top.now) x c.args.before.now.xbars.now before.crossbars c.args.node.now c.requires.plain in
    let same = rw c.as_str-name.ensures at c.spelled_before.ensures in
    let found = rw (sym same) at spelled in
    rw (c.earlier_of.ensures, c.when-again.ensures, c.when-unknown.ensures, c.node_twice_in_top.ensures, c.unknown_node_in_top.ensures, c.as_str-name.ensures)
    (tells_plain (design_of c.args.top.now) x n c.args.node.now c.requires.plain _ c.is_unknown.result (decides_either c.spelled_before.result c.repeats_one.result found (c.repeats_one.ensures x n before))
    c.is_unknown.ensures)
