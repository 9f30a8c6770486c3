use Rattle.std.proofs.Common.{◌≡◌, drop}
use Rattle.cg_desc.specs.Gates.{register_among}
use Rattle.cg_layout.proofs.gates.register_among.Given as goal

-- the items that are left have the register, or no item has it
abbrev pub invariant-loop-item : goal.invariant-loop-item
invariant-loop-item l = register_among (drop l.item-index l.items) l.name ≡ register_among l.items l.name
