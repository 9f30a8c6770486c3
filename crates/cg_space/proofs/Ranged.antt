-- In a top that breaks none of the rules on ranges each device has ranges of good shape.
use Rattle.std.proofs.Common.{◌≡◌, ℕ, ◌+◌, ◌≤◌, ◌^◌, List, [], ◌∷◌, get_or, sym, subst}
use Rattle.cg_svspec.specs.Printable.{AllOf}
use Rattle.cg_desc.specs.Merged.{EndAt, NodeAt}
use Rattle.cg_desc.specs.Ranges.{IsRange}
use Rattle.cg_desc.specs.Reach.{interface, outside}
use Rattle.cg_desc.specs.declared.crossbar.NodeDesc.{NodeDesc}
use Rattle.cg_desc.specs.declared.crossbar.Range.{Range}
use Rattle.cg_desc.specs.declared.top.MergedTop.{MergedTop}
use Rattle.cg_desc.specs.declared.top.NodeEnd.TheVariants.{Face, Outside}
use Rattle.cg_space.specs.Violations.{NoViolation}
use Rattle.cg_space.specs.Inner.Leaves.{FaceFits, HaveAllRanges}
use Rattle.cg_space.specs.Inner.Sound.{IsDeviceAt, IsSound}
use Rattle.cg_space.specs.Inner.Tables.{AreTables}
use Rattle.cg_space.specs.declared.coverage.Coverage.{Coverage}
use Rattle.cg_desc.proofs.Numbered.{item_at}
use Rattle.cg_space.proofs.OneList.{has_once}
use Rattle.cg_space.proofs.OneRow.{EachHas}
use Rattle.cg_space.proofs.Sound.{xbar_within}
use Rattle.cg_space.proofs.Spacing.{clean}
use Rattle.cg_space.proofs.Tabling.{in_table}

pub tables_ranged : (m : MergedTop) (tables : List (List Coverage)) → NoViolation m → AreTables m tables → HaveAllRanges m
tables_ranged m tables none are x n device =
    let table = are.each x (xbar_within m x n (device.0, device.1)) in
    let c = item_at (get_or tables x []) n (in_table m x n (get_or tables x []) table device) in
    let kept = clean m x n c.0 none device ((table.each n c.0 c.1).device device) in
    (c.0.ranges, kept.has, kept.good)

pub each_has : (m : MergedTop) → HaveAllRanges m → EachHas m
each_has m have x n device = let own = have x n device in (own.0, own.1)

pub face_ends : (m : MergedTop) (x n i f : ℕ) → IsSound m → HaveAllRanges m → IsDeviceAt m x n → EndAt m x n (Face i f) → FaceFits m i f
face_ends m x n i f sound have device stands range is =
    let own = have x n device in
    let here : Range = record { base = is.base; size = is.face.size } in
    let same : own.0 ≡ here ∷ [] = has_once m sound x n own.0 (here ∷ []) own.1 (interface i f is.base is.face stands is.face_is is.base_is) in
    let good : AllOf IsRange (here ∷ []) = subst (λ (rs : List Range). AllOf IsRange rs) same own.2 in
    subst (λ (r : Range). r.base + r.size ≤ 2 ^ 32) (sym is.is) good.0.ends

pub outside_shapes : (m : MergedTop) (x n : ℕ) (node : NodeDesc) → IsSound m → HaveAllRanges m → IsDeviceAt m x n → NodeAt m x n node → EndAt m x n Outside → AllOf IsRange node.ranges
outside_shapes m x n node sound have device at stands =
    let own = have x n device in
    let same : own.0 ≡ node.ranges = has_once m sound x n own.0 node.ranges own.1 (outside node at stands) in
    subst (λ (rs : List Range). AllOf IsRange rs) same own.2
