use Rattle.std.proofs.Common.{◌≡◌, ◌++◌, drop, map}
use Rattle.std.specs.List.{flat_map}
use Rattle.cg_hdrspec.specs.BlockHeader.{field_definitions}
use Rattle.cg_blkhdr.specs.Small.{FieldsAreSmall}
use Rattle.cg_blkhdr.specs.Views.{definition_of}
use Rattle.cg_blkhdr.proofs.definitions.add_fields.Given as goal

-- the definitions so far, and then those of the fields that are left, are all definitions
abbrev pub invariant-loop-field : goal.invariant-loop-field
invariant-loop-field l = record {
  definitions : map definition_of l.definitions ++ flat_map (field_definitions l.register) (drop l.field-index l.fields)
      ≡ map definition_of l.fn.definitions ++ flat_map (field_definitions l.register) l.fields;
  small : FieldsAreSmall (drop l.field-index l.fields);
}
