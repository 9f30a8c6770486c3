use Rattle.std.proofs.Common.{◌≡◌, Some, None, false, refl, sym, ap, ◌∙◌}
use Rattle.std.specs.Option.{option_copied}
use Rattle.cg_desc.specs.FoundBase.{block_of}
use Rattle.cg_desc.specs.declared.block.LaidFace.{LaidFace}
use Rattle.cg_desc.proofs.FoundBases.{block_is}
use Rattle.cg_merge.proofs.Repeats.{decides_named, named_none}
use Rattle.cg_merge.proofs.interfaces.names_in.Goals as goal

pub returns-in-Some : goal.returns-in-Some
returns-in-Some c =
    let found : block_of c.args.top.now c.args.number ≡ Some c.in-Some.block.now = sym c.block_of.ensures ∙ ap option_copied c.in-Some.is in
    let of = block_is c.args.top.now c.requires.read.files c.requires.read.kinds c.args.number c.args.inst.now c.in-Some.block.now c.requires.there found in
    rw c.means_face.ensures
    (decides_named c.args.top.now c.requires.read false c.args.number c.args.node.now c.args.inst.now c.in-Some.block.now of (λ (face : LaidFace). face.name) c.in-Some.block.now.faces refl)

pub returns-in-None : goal.returns-in-None
returns-in-None c =
    let none : block_of c.args.top.now c.args.number ≡ None = sym c.block_of.ensures ∙ ap option_copied c.in-None.is in
    named_none c.args.top.now c.requires.read false c.args.number c.args.node.now none
