use Rattle.cg_space.proofs.Covering.{coverage_add, on_ok}
use Rattle.cg_space.proofs.coverage.Coverage.add.Goals as goal

pub returns : goal.returns
returns c =
    on_ok c.append_if.result c.append_if.ensures (λ appends. λ rs ss p q.
    coverage_add rs ss c.args.self.now c.args.other.now c.in_ok-cells.cells c.share-shared.result c.append_if.new.ranges p q c.in_ok-cells.ensures.region
    (rw (c.as_slice.ensures, c.as_slice-2.ensures) at c.in_ok-cells.ensures.covers) (rw (c.as_slice-3.ensures, c.as_slice-4.ensures) at c.share-shared.ensures)
    (rw c.as_slice-5.ensures at appends))
