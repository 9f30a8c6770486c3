-- The rows of a host, device by device.
use Rattle.std.proofs.Common.{◌≡◌, ◌↔◌, ℕ, ◌+◌, ◌-◌, ◌<◌, List, [], inl, inr, true, Some, length, get_or, slice_get, refl, sym, ap, ◌∙◌, subst, arith}
use Rattle.std.specs.List.{Contains}
use Rattle.std.specs.List.Sorted.{IsPermutation}
use Rattle.std.proofs.lemmas.List.Sorted.{Contains-permutation, IsPermutation-sym}
use Rattle.std.proofs.lemmas.Option.{get_or_from_slice_get, slice_get_within, slice_get-get_or}
use Rattle.cg_svspec.specs.Names.{Among}
use Rattle.cg_svspec.specs.Printable.{AllOf}
use Rattle.cg_desc.specs.Merged.{BaseIs, EndAt, FaceAt, IsMerged, NodeAt}
use Rattle.cg_desc.proofs.FoundBases.{base_once}
use Rattle.cg_desc.specs.Reach.{ConnectsAt, IsInnerHost, IsPlain, Reaches}
use Rattle.cg_desc.specs.Target.{row_end}
use Rattle.cg_desc.specs.declared.block.Item.{Item}
use Rattle.cg_desc.specs.declared.block.Item.TheVariants.{Reg, Window, SkipTo, Reserved}
use Rattle.cg_desc.specs.declared.block.LaidFace.{LaidFace}
use Rattle.cg_desc.specs.declared.crossbar.NodeDesc.{NodeDesc}
use Rattle.cg_desc.specs.declared.top.MergedTop.{MergedTop}
use Rattle.cg_desc.specs.declared.top.NodeEnd.{NodeEnd}
use Rattle.cg_desc.specs.declared.top.NodeEnd.TheVariants.{Face, Xbar, Outside}
use Rattle.cg_space.specs.Rows.{IsMapHost, IsRow, row_of}
use Rattle.cg_space.specs.Violations.{NoViolation}
use Rattle.cg_space.specs.Inner.Leaves.{Adds, AtPlace, AtSome, Below, FirstsDiffer, IsFaceRow, IsLeafRow, IsRangeRow, IsRowBehind, IsRowFor, IsRowVia, ReachesVia, face_row, row_place}
use Rattle.cg_space.specs.Inner.Sound.{IsDeviceAt, IsSound}
use Rattle.cg_space.specs.declared.row.HostId.{HostId}
use Rattle.cg_space.specs.declared.row.Row.{Row}
use Rattle.cg_space.proofs.LaidRows.{some_words}
use Rattle.cg_space.proofs.Looking.{among_at, at_among}
use Rattle.cg_space.proofs.Mapping.{outside_size, reached_device, row_fits}
use Rattle.cg_space.proofs.OneRow.{EachHas, Holds, one_reached}
use Rattle.cg_space.proofs.Sound.{one_end, one_face, one_node}
use Rattle.cg_space.proofs.Tabling.{to_devices}
use Rattle.cg_space.proofs.Growing.{adds_at, adds_next}

-- a row of what host k of crossbar y reaches, for a host
pub record Reached (m : MergedTop) (host : HostId) (y k : ℕ) (row : Row) : Type 0 where
  pub z : ℕ
  pub e : ℕ
  pub reaches : Reaches m y k z e
  pub leaf : IsLeafRow m host z e row

-- ---- over its devices

pub behind_of : (m : MergedTop) (host : HostId) (y k : ℕ) (node : NodeDesc) (row : Row) → NodeAt m y k node → Reached m host y k row → IsRowBehind m host y node.to row
behind_of m host y k node row at reached = by reached.z reached.e reached.reaches reached.leaf where
  by : (z e : ℕ) → Reaches m y k z e → IsLeafRow m host z e row → IsRowBehind m host y node.to row
  by z e (Reaches.straight end c stands plain) leaf =
      let there = among_at node.to e (subst (λ (n : NodeDesc). Among e n.to) (one_node m y k c.host node c.is at) c.connects) in
      (there.0, (e, there.1, record { z = y; e = e; via = ReachesVia.plain end stands plain; leaf = leaf }))
  by z e (Reaches.nested d x l inner c stands is on) leaf =
      let there = among_at node.to d (subst (λ (n : NodeDesc). Among d n.to) (one_node m y k c.host node c.is at) c.connects) in
      (there.0, (d, there.1, record { z = z; e = e; via = ReachesVia.nested x l inner stands is on; leaf = leaf }))

pub behind_to : (m : MergedTop) (host : HostId) (y k : ℕ) (node : NodeDesc) (row : Row) → NodeAt m y k node → node.host ≡ true → IsRowBehind m host y node.to row → Reached m host y k row
behind_to m host y k node row at is_host behind =
    by behind.1.2.z behind.1.2.e behind.1.2.via behind.1.2.leaf where
      d : ℕ
      d = behind.1.0

      c : ConnectsAt m y k d
      c = record { host = node; is = at; is_host = is_host; connects = at_among node.to behind.0 d behind.1.1 }

      by : (z e : ℕ) → ReachesVia m y d z e → IsLeafRow m host z e row → Reached m host y k row
      by z e (ReachesVia.plain end stands plain) leaf = record { z = y; e = d; reaches = Reaches.straight end c stands plain; leaf = leaf }
      by z e (ReachesVia.nested x l inner stands is on) leaf = record { z = z; e = e; reaches = Reaches.nested d x l inner c stands is on; leaf = leaf }

-- ---- over one device, by what it stands for

pub via_face : (m : MergedTop) (host : HostId) (x d i f : ℕ) (row : Row) → EndAt m x d (Face i f) → IsFaceRow m host i f row → IsRowVia m host x d row
via_face m host x d i f row stands r = record { z = x; e = d; via = ReachesVia.plain (Face i f) stands tt; leaf = IsLeafRow.of_face i f stands r }

pub face_via : (m : MergedTop) (host : HostId) (x d i f : ℕ) (row : Row) → EndAt m x d (Face i f) → IsRowVia m host x d row → IsFaceRow m host i f row
face_via m host x d i f row stands v = by v.z v.e v.via v.leaf where
  of : IsLeafRow m host x d row → IsFaceRow m host i f row
  of (IsLeafRow.of_face j g s r) =
      let end : Face j g ≡ Face i f = one_end m x d (Face j g) (Face i f) s stands in
      let p1 : j ≡ i = cc in
      let p2 : g ≡ f = cc in
      subst (λ n. IsFaceRow m host i n row) p2 (subst (λ n. IsFaceRow m host n g row) p1 r)
  of (IsLeafRow.of_outside node at s r) = absurd (let h = one_end m x d (Face i f) Outside stands s in cc)

  by : (z e : ℕ) → ReachesVia m x d z e → IsLeafRow m host z e row → IsFaceRow m host i f row
  by z e (ReachesVia.plain end s plain) leaf = of leaf
  by z e (ReachesVia.nested y k inner s is on) leaf = absurd (let h = one_end m x d (Face i f) (Xbar y) stands s in cc)

pub via_outside : (m : MergedTop) (host : HostId) (x d : ℕ) (node : NodeDesc) (row : Row) → NodeAt m x d node → EndAt m x d Outside → IsRangeRow host x d node.ranges row → IsRowVia m host x d row
via_outside m host x d node row at stands r = record { z = x; e = d; via = ReachesVia.plain Outside stands tt; leaf = IsLeafRow.of_outside node at stands r }

pub outside_via : (m : MergedTop) (host : HostId) (x d : ℕ) (node : NodeDesc) (row : Row) → NodeAt m x d node → EndAt m x d Outside → IsRowVia m host x d row → IsRangeRow host x d node.ranges row
outside_via m host x d node row at stands v = by v.z v.e v.via v.leaf where
  of : IsLeafRow m host x d row → IsRangeRow host x d node.ranges row
  of (IsLeafRow.of_face i f s r) = absurd (let h = one_end m x d (Face i f) Outside s stands in cc)
  of (IsLeafRow.of_outside other there s r) = subst (λ (n : NodeDesc). IsRangeRow host x d n.ranges row) (one_node m x d other node there at) r

  by : (z e : ℕ) → ReachesVia m x d z e → IsLeafRow m host z e row → IsRangeRow host x d node.ranges row
  by z e (ReachesVia.plain end s plain) leaf = of leaf
  by z e (ReachesVia.nested y k inner s is on) leaf = absurd (let h = one_end m x d Outside (Xbar y) stands s in cc)

pub via_nested : (m : MergedTop) (host : HostId) (x d y k : ℕ) (inner : NodeDesc) (row : Row) → EndAt m x d (Xbar y) → IsInnerHost m x y k inner → IsRowBehind m host y inner.to row → IsRowVia m host x d row
via_nested m host x d y k inner row stands is behind =
    let reached = behind_to m host y k inner row is.is is.is_host behind in
    record { z = reached.z; e = reached.e; via = ReachesVia.nested y k inner stands is reached.reaches; leaf = reached.leaf }

pub nested_via : (m : MergedTop) (host : HostId) (x d y k : ℕ) (inner : NodeDesc) (row : Row) → IsSound m → EndAt m x d (Xbar y) → IsInnerHost m x y k inner → IsRowVia m host x d row
    → IsRowBehind m host y inner.to row
nested_via m host x d y k inner row sound stands is v = by v.z v.e v.via v.leaf where
  by : (z e : ℕ) → ReachesVia m x d z e → IsLeafRow m host z e row → IsRowBehind m host y inner.to row
  by z e (ReachesVia.plain end s plain) leaf = absurd (subst (λ (v : NodeEnd). IsPlain v) (one_end m x d end (Xbar y) s stands) plain)
  by z e (ReachesVia.nested y' k' inner' s is' on) leaf =
      let end : Xbar y' ≡ Xbar y = one_end m x d (Xbar y') (Xbar y) s stands in
      let crossbar : y' ≡ y = cc in
      let number : k' ≡ k = sound.one_inner x y k' k inner' inner (subst (λ c. IsInnerHost m x c k' inner') crossbar is') is in
      behind_of m host y k inner row is.is
      (record { z = z; e = e; reaches = subst (λ j. Reaches m y j z e) number (subst (λ c. Reaches m c k' z e) crossbar on); leaf = leaf })

-- ---- rows of the map

id_of : ℕ → ℕ → HostId
id_of x h = record { xbar = x; node = h }

-- a row of the map for the host
pub record OfHost (m : MergedTop) (x h : ℕ) (row : Row) : Type 0 where
  pub host : IsMapHost m x h
  pub reached : Reached m (record { xbar = x; node = h }) x h row

moved : (m : MergedTop) (y k x h : ℕ) (row : Row) → ◌≡◌ {A = HostId} (record { xbar = y; node = k }) (record { xbar = x; node = h }) → OfHost m y k row → OfHost m x h row
moved m y k x h row same of =
    let p : y ≡ x = ap (λ (i : HostId). i.xbar) same in
    let q : k ≡ h = ap (λ (i : HostId). i.node) same in
    subst (λ i. OfHost m x i row) q (subst (λ i. OfHost m i k row) p of)

pub host_of : (m : MergedTop) (x h : ℕ) (row : Row) → IsRow m row → row.host ≡ record { xbar = x; node = h } → OfHost m x h row
host_of m x h row (IsRow.register y k i f r base face lrow reg host reach at item) same =
    moved m y k x h row same (record {
      host = host;
      reached = record {
        z = reach.z;
        e = reach.d;
        reaches = reach.reaches;
        leaf = IsLeafRow.of_face i f reach.stands (record { face = face; face_is = reach.face_is; base = base; base_is = reach.base_is; number = r; laid = lrow; laid_is = at; is = rw item refl });
      };
    })
host_of m x h row (IsRow.window y k i f r base face lrow w host reach at item) same =
    moved m y k x h row same (record {
      host = host;
      reached = record {
        z = reach.z;
        e = reach.d;
        reaches = reach.reaches;
        leaf = IsLeafRow.of_face i f reach.stands (record { face = face; face_is = reach.face_is; base = base; base_is = reach.base_is; number = r; laid = lrow; laid_is = at; is = rw item refl });
      };
    })
host_of m x h row (IsRow.outside y k z d node range host reaches at stands among) same =
    let there = among_at node.ranges range among in
    moved m y k x h row same (record {
      host = host;
      reached = record { z = z; e = d; reaches = reaches; leaf = IsLeafRow.of_outside node at stands (there.0, (range, there.1, refl)) };
    })

row_by : (m : MergedTop) (x h z e i f : ℕ) (row : Row) (item : Item) → IsMapHost m x h → Reaches m x h z e → EndAt m z e (Face i f) → IsMerged m
    → (r : IsFaceRow m (record { xbar = x; node = h }) i f row) → r.laid.item ≡ item → IsRow m (row_of x h (r.base + r.laid.first) (r.base + row_end r.laid - 1) (row_place i f r.number item))
row_by m x h z e i f row (Reg reg) host reaches stands merged r is =
    IsRow.register x h i f r.number r.base r.face r.laid reg host (record { z = z; d = e; reaches = reaches; stands = stands; face_is = r.face_is; base_is = r.base_is }) r.laid_is is
row_by m x h z e i f row (Window w) host reaches stands merged r is =
    IsRow.window x h i f r.number r.base r.face r.laid w host (record { z = z; d = e; reaches = reaches; stands = stands; face_is = r.face_is; base_is = r.base_is }) r.laid_is is
row_by m x h z e i f row (SkipTo to at) host reaches stands merged r is = absurd (rw is at (row_fits m i f r.number r.face r.laid merged r.face_is r.laid_is))
row_by m x h z e i f row (Reserved words at) host reaches stands merged r is = absurd (rw is at (row_fits m i f r.number r.face r.laid merged r.face_is r.laid_is))

pub row_from : (m : MergedTop) (x h : ℕ) (row : Row) → IsSound m → OfHost m x h row → IsRow m row × (row.host ≡ record { xbar = x; node = h })
row_from m x h row sound of = by of.reached.z of.reached.e of.reached.reaches of.reached.leaf where
  by : (z e : ℕ) → Reaches m x h z e → IsLeafRow m (record { xbar = x; node = h }) z e row → IsRow m row × (row.host ≡ record { xbar = x; node = h })
  by z e reaches (IsLeafRow.of_face i f stands r) = (
    subst (λ (l : Row). IsRow m l) (sym r.is) (row_by m x h z e i f row r.laid.item of.host reaches stands (sound.faces z e i f stands).0 r refl),
    ap (λ (l : Row). l.host) r.is,
  )
  by z e reaches (IsLeafRow.of_outside node at stands r) = (
    subst (λ (l : Row). IsRow m l) (sym r.1.2) (IsRow.outside x h z e node r.1.0 of.host reaches at stands (at_among node.ranges r.0 r.1.0 r.1.1)),
    ap (λ (l : Row). l.host) r.1.2,
  )

-- a host's rows are those behind its devices
pub for_behind : (m : MergedTop) (x h : ℕ) (node : NodeDesc) (row : Row) → NodeAt m x h node → IsRowFor m x h row → IsRowBehind m (record { xbar = x; node = h }) x node.to row
for_behind m x h node row at for = behind_of m (record { xbar = x; node = h }) x h node row at (host_of m x h row for.0 for.1).reached

pub behind_for : (m : MergedTop) (x h : ℕ) (node : NodeDesc) (row : Row) → IsSound m → IsMapHost m x h → NodeAt m x h node → IsRowBehind m (record { xbar = x; node = h }) x node.to row
    → IsRowFor m x h row
behind_for m x h node row sound host at behind =
    let is_host : node.host ≡ true = ap (λ (n : NodeDesc). n.host) (one_node m x h node host.host at host.is) ∙ host.is_host in
    row_from m x h row sound (record { host = host; reached = behind_to m (record { xbar = x; node = h }) x h node row at is_host behind })

-- ---- one row at each address

leaf_some : (m : MergedTop) (host : HostId) (z e : ℕ) (row : Row) → IsSound m → NoViolation m → IsDeviceAt m z e → IsLeafRow m host z e row → Holds row row.first
leaf_some m host z e row sound none device (IsLeafRow.of_face i f stands r) =
    let words = some_words r.face.rows r.laid (row_fits m i f r.number r.face r.laid (sound.faces z e i f stands).0 r.face_is r.laid_is) in
    subst (λ (l : Row). Holds l l.first) (sym r.is) (omega arith, omega (arith, words))
leaf_some m host z e row sound none device (IsLeafRow.of_outside node at stands r) =
    let some = outside_size m z e node r.1.0 none device at stands (at_among node.ranges r.0 r.1.0 r.1.1) in
    subst (λ (l : Row). Holds l l.first) (sym r.1.2) (omega arith, omega (arith, some))

pub one_row : (m : MergedTop) (x h a : ℕ) (row other : Row) → IsSound m → NoViolation m → EachHas m → IsRowFor m x h row → IsRowFor m x h other → Holds row a → Holds other a → row ≡ other
one_row m x h a row other sound none each p q holds held =
    let left = (host_of m x h row p.0 p.1).reached in
    let right = (host_of m x h other q.0 q.1).reached in
    one_reached m (record { xbar = x; node = h }) x h left.z left.e right.z right.e a row other sound none each left.reaches right.reaches left.leaf right.leaf holds held

pub row_some : (m : MergedTop) (x h : ℕ) (row : Row) → IsSound m → NoViolation m → IsRowFor m x h row → Holds row row.first
row_some m x h row sound none p =
    let left = (host_of m x h row p.0 p.1).reached in
    leaf_some m (record { xbar = x; node = h }) left.z left.e row sound none (reached_device m x h left.z left.e sound left.reaches) left.leaf

-- so a host's rows have different first addresses
pub firsts_differ : (m : MergedTop) (x h : ℕ) (rows : List Row) → IsSound m → NoViolation m → EachHas m → ((row : Row) → Among row rows ↔ IsRowFor m x h row) → FirstsDiffer rows
firsts_differ m x h rows sound none each all a b p q same =
    let r = (all a).0 p in
    let s = (all b).0 q in
    one_row m x h a.first a b sound none each r s (row_some m x h a sound none r)
    (subst (λ n. Holds b n) (sym same) (row_some m x h b sound none s))

-- ---- the rows of an interface, by its rows

pub some_face : (m : MergedTop) (host : HostId) (i f base : ℕ) (face : LaidFace) (row : Row) → FaceAt m i f face → BaseIs m i f base
    → AtSome (λ k laid row. row ≡ face_row host i f base k laid) face.rows row → IsFaceRow m host i f row
some_face m host i f base face row at is s = record { face = face; face_is = at; base = base; base_is = is; number = s.0; laid = s.1.0; laid_is = s.1.1; is = s.1.2 }

pub face_some : (m : MergedTop) (host : HostId) (i f base : ℕ) (face : LaidFace) (row : Row) → IsMerged m → FaceAt m i f face → BaseIs m i f base → IsFaceRow m host i f row
    → AtSome (λ k laid row. row ≡ face_row host i f base k laid) face.rows row
face_some m host i f base face row merged at is r =
    let faces : r.face ≡ face = one_face m i f r.face face r.face_is at in
    let bases : r.base ≡ base = base_once m merged i f r.base base r.base_is is in
    (r.number, (r.laid, subst (λ (g : LaidFace). slice_get g.rows r.number ≡ Some r.laid) faces r.laid_is, r.is ∙ ap (λ b. face_row host i f b r.number r.laid) bases))

-- ---- device by device

-- the rows over one device more
pub via_next : (m : MergedTop) (host : HostId) (x : ℕ) (to : List ℕ) (n : ℕ) (old now new : List Row) → n < length to → Adds old now (Below (AtPlace (λ k d row. IsRowVia m host x d row) to) n)
    → Adds now new (IsRowVia m host x (get_or to n 0)) → Adds old new (Below (AtPlace (λ k d row. IsRowVia m host x d row) to) (n + 1))
via_next m host x to n old now new less before here =
    adds_next old now new (AtPlace (λ k d row. IsRowVia m host x d row) to) n before
    (adds_at now new (λ k d row. IsRowVia m host x d row) to n (get_or to n 0) (slice_get-get_or to n 0 less) here)

pub host_devices : (m : MergedTop) (x h : ℕ) (node : NodeDesc) → IsSound m → IsMapHost m x h → NodeAt m x h node → AllOf (IsDeviceAt m x) node.to
host_devices m x h node sound host at =
    to_devices m x h node sound at (ap (λ (n : NodeDesc). n.host) (one_node m x h node host.host at host.is) ∙ host.is_host)

-- ---- the same rows in another order

contains_of : {X : Type 0} (xs : List X) (x : X) → Among x xs → Contains xs x
contains_of xs x among = let at = among_at xs x among in (at.0, slice_get_within xs at.0 x at.1, get_or_from_slice_get xs at.0 x x at.1)

of_contains : {X : Type 0} (xs : List X) (x : X) → Contains xs x → Among x xs
of_contains xs x contains = at_among xs contains.0 x (slice_get-get_or xs contains.0 x contains.1 ∙ ap Some contains.2)

pub among_moved : {X : Type 0} (xs ys : List X) (x : X) → IsPermutation xs ys → Among x xs → Among x ys
among_moved xs ys x moves among = of_contains ys x (Contains-permutation xs ys x moves (contains_of xs x among))

pub host_members : (m : MergedTop) (x h : ℕ) (node : NodeDesc) (to : List ℕ) (rows sorted : List Row) → IsSound m → IsMapHost m x h → NodeAt m x h node → to ≡ node.to
    → Adds [] rows (IsRowBehind m (record { xbar = x; node = h }) x to) → IsPermutation rows sorted → (row : Row) → Among row sorted ↔ IsRowFor m x h row
host_members m x h node to rows sorted sound host at same adds moves row = (
  λ among. elim ((here row).0 (among_moved sorted rows row (IsPermutation-sym rows sorted moves) among)) [
    | inl none ↦ absurd none
    | inr behind ↦ behind_for m x h node row sound host at behind
  ],
  λ for. among_moved rows sorted row moves ((here row).1 (inr (for_behind m x h node row at for))),
) where
  here : Adds [] rows (IsRowBehind m (record { xbar = x; node = h }) x node.to)
  here = subst (λ (l : List ℕ). Adds [] rows (IsRowBehind m (record { xbar = x; node = h }) x l)) same adds
