use Rattle.std.proofs.Common.{◌≡◌, Some, None, sym, ap, ◌∙◌}
use Rattle.std.specs.Option.{option_copied}
use Rattle.cg_desc.specs.FoundBase.{block_of}
use Rattle.cg_desc.proofs.FoundBases.{block_is}
use Rattle.cg_merge.proofs.NodeEnds.{ends_in, ends_nowhere, if_ok}
use Rattle.cg_merge.proofs.ends.end_in.Goals as goal

pub returns-in-Some : goal.returns-in-Some
returns-in-Some c =
    let found : block_of c.args.top.now c.args.number ≡ Some c.in-Some.block.now = sym c.block_of.ensures ∙ ap option_copied c.in-Some.is in
    let of = block_is c.args.top.now c.requires.read.files c.requires.read.kinds c.args.number c.args.inst.now c.in-Some.block.now c.requires.there found in
    let made = rw c.interface_of.ensures at c.end_for.ensures in
    if_ok _ _ c.end_for.result (λ o is. ends_in c.args.top.now c.requires.read c.args.number c.args.node.now c.args.inst.now c.in-Some.block.now of o is) made

pub returns-in-None : goal.returns-in-None
returns-in-None c =
    let none : block_of c.args.top.now c.args.number ≡ None = sym c.block_of.ensures ∙ ap option_copied c.in-None.is in
    ends_nowhere c.args.top.now c.requires.read c.args.number c.args.node.now none
