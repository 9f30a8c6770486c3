use Rattle.std.proofs.Common.{◌≡◌, ◌++◌, map}
use Rattle.std.specs.Iterator.Adapters.{zip_first, zip_second}
use Rattle.std.specs.Slice.Iter.{iter_rest}
use Rattle.serde_json.specs.View.{view}
use Rattle.cg_blkdone.specs.Parts.{AreKept, fields_with}
use Rattle.cg_blkdone.proofs.fields.full_fields.Given as goal

abbrev pub invariant-loop-field : goal.invariant-loop-field
invariant-loop-field l =
    (map view l.list.items ++ fields_with l.register_resval (iter_rest (zip_first l.field-iterator)) (iter_rest (zip_second l.field-iterator)) ≡ fields_with l.register_resval l.fields l.items)
    × AreKept (iter_rest (zip_second l.field-iterator))
