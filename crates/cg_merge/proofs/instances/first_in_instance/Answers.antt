use Rattle.std.proofs.Common.{refl, ◌≤◌, length, arith}
use Rattle.cg_merge.proofs.InstanceRules.{tells_instance}
use Rattle.cg_merge.proofs.instances.first_in_instance.Goals as goal

pub overflow_cast-number : goal.overflow_cast-number
overflow_cast-number c = let few = c.requires.read.top.few_instances in let within = c.requires.within in omega arith

pub returns : goal.returns
returns c =
    let within : c.args.number ≤ length c.args.top.now.top.insts = omega (arith, c.requires.within) in
    rw (c.earlier_of-2.ensures, c.earlier_of.ensures, c.earlier_of-bases.ensures, c.when-missing.ensures, c.base_missing.ensures, c.as_str-name.ensures)
    (tells_instance c.args.top.now c.args.number c.args.inst.now within c.lacks_base.result
    (rw (c.when-twice.ensures, c.instance_twice.ensures, c.has_instance.ensures, c.as_slice.ensures, c.as_str-name.ensures) refl)
    c.first_in_bases.ensures c.first_in_face_bases.ensures (c.lacks_base.ensures c.args.inst.now c.requires.there))
