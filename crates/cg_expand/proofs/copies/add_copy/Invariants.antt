use Rattle.std.proofs.Common.{◌≡◌, ◌++◌, ◌*◌, drop, map}
use Rattle.cg_desc.specs.Items.{copy_bits}
use Rattle.cg_expand.specs.Parts.Copies.{moved}
use Rattle.cg_expand.proofs.copies.add_copy.Given as goal

-- the fields so far, and then those of the copy that are left, are all
abbrev pub invariant-loop-field : goal.invariant-loop-field
invariant-loop-field l = record {
  shift : l.shift ≡ copy_bits l.multireg.reg.fields * l.place;
  fields : l.fields ++ map (moved l.number l.shift) (drop l.field-index l.field-items) ≡ l.fn.fields ++ map (moved l.number l.shift) l.multireg.reg.fields;
}
