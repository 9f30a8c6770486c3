use Rattle.cg_desc.specs.Merged.{design_of}
use Rattle.cg_merge.proofs.NodeRules.{tells_nested}
use Rattle.cg_merge.proofs.Partners.{decides_alone}
use Rattle.cg_merge.proofs.nodes.first_in_nested.Goals as goal

pub returns : goal.returns
returns c n =
    let alone = decides_alone (design_of c.args.top.now) c.args.xbar c.args.node.now c.args.outer.now c.requires.there c.requires.nested in
    let joined = rw (c.as_slice.ensures, c.as_str.ensures) at c.joins_one-joined.ensures in
    rw (c.earlier_of.ensures, c.when-alone.ensures, c.when-apart.ensures, c.unknown_node_in_top.ensures, c.bad_space.ensures, c.as_str-name.ensures, joined)
    (tells_nested (design_of c.args.top.now) c.args.xbar n c.args.node.now c.requires.nested _ c.elsewhere.result alone c.elsewhere.ensures)
