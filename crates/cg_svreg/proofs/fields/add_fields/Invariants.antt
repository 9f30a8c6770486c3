use Rattle.std.proofs.Common.{◌≡◌, ◌++◌, drop, map}
use Rattle.cg_sv.specs.Views.{entry_of}
use Rattle.cg_regspec.specs.RegisterModule.{fields_entries}
use Rattle.cg_svreg.specs.Narrow.{FieldsAreNarrow}
use Rattle.cg_svreg.proofs.fields.add_fields.Given as goal

-- the entries so far, and then those of the fields that are left, are all entries
abbrev pub invariant-loop-field : goal.invariant-loop-field
invariant-loop-field l = record {
  entries : map entry_of l.entries ++ fields_entries l.number l.register (drop l.field-index l.fields)
      ≡ map entry_of l.fn.entries ++ fields_entries l.number l.register l.fields;
  narrow : FieldsAreNarrow (drop l.field-index l.fields);
}
