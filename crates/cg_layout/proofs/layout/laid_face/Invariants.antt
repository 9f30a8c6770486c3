use Rattle.std.proofs.Common.{◌≡◌, length}
use Rattle.std.specs.Vec.Iter.{into_iter_items, into_iter_len}
use Rattle.cg_layout.proofs.Laying.{IsLaying}
use Rattle.cg_layout.proofs.layout.laid_face.Given as goal

-- the rows so far, and how many items are left
abbrev pub invariant-loop-item : goal.invariant-loop-item
invariant-loop-item l = record {
  laying : IsLaying l.fn.items l.low l.top (into_iter_items l.item-iterator) l.rows;
  counted : into_iter_len l.item-iterator ≡ length (into_iter_items l.item-iterator);
}
