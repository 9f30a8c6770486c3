use Rattle.std.proofs.Common.{◌≡◌, Some, None, sym, ap, ◌∙◌}
use Rattle.std.specs.Option.{option_copied}
use Rattle.cg_desc.specs.FoundBase.{block_of}
use Rattle.cg_desc.proofs.FoundBases.{block_is}
use Rattle.cg_merge.proofs.Repeats.{decides_repeats, repeats_none}
use Rattle.cg_merge.proofs.interfaces.repeats_in.Goals as goal

pub returns-in-Some : goal.returns-in-Some
returns-in-Some c x n before =
    let found : block_of c.args.top.now c.args.number ≡ Some c.in-Some.block.now = sym c.block_of.ensures ∙ ap option_copied c.in-Some.is in
    let of = block_is c.args.top.now c.requires.read.files c.requires.read.kinds c.args.number c.args.inst.now c.in-Some.block.now c.requires.there found in
    rw (c.repeats_face.ensures, c.repeats_host.ensures)
    (decides_repeats c.args.top.now c.requires.read x n c.args.number c.args.before.now.xbars.now c.args.before.now.nodes.now before c.args.node.now c.args.inst.now c.in-Some.block.now of)

pub returns-in-None : goal.returns-in-None
returns-in-None c x n before =
    let none : block_of c.args.top.now c.args.number ≡ None = sym c.block_of.ensures ∙ ap option_copied c.in-None.is in
    repeats_none c.args.top.now c.requires.read x n c.args.number c.args.node.now none
