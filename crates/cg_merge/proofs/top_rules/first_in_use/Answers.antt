use Rattle.std.proofs.Common.{refl}
use Rattle.cg_desc.specs.Merged.{design_of}
use Rattle.cg_merge.proofs.TopRules.{tells_use}
use Rattle.cg_merge.proofs.top_rules.first_in_use.Goals as goal

pub returns : goal.returns
returns c =
    let space = rw c.as_str.ensures at c.first_unlisted-space.ensures in
    rw c.earlier_of.ensures
    (tells_use (design_of c.args.top.now) c.args.number c.args.listed.now c.requires space
    (rw (c.when.ensures, c.instance_twice.ensures, c.has_instance.ensures, c.has_crossbar.ensures, c.as_slice.ensures, c.as_slice-2.ensures, c.as_str-name.ensures) refl))
