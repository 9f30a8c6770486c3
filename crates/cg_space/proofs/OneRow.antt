-- Rows of one host that hold one address are one.
use Rattle.std.proofs.Common.{◌≡◌, ℕ, ◌≤◌, List, [], ◌∷◌, ◌++◌, inl, inr, Some, slice_get, refl, sym, ap, ◌∙◌, subst, arith}
use Rattle.cg_svspec.specs.Names.{Among}
use Rattle.cg_desc.specs.Crossbar.{Connects, IsDevice, IsValidCrossbar}
use Rattle.cg_desc.specs.Laid.{IsLaid}
use Rattle.cg_desc.specs.Merged.{EndAt, FaceAt, IsMerged, IsValidLaidBlock, NodeAt}
use Rattle.cg_desc.specs.Ranges.{RangeHolds, SomeHolds}
use Rattle.cg_desc.specs.Reach.{ConnectsAt, HasRanges, HaveRanges, IsInnerHost, IsPlain, Reaches, interface, outside, nested, nothing, more}
use Rattle.cg_desc.specs.declared.block.LaidFace.{LaidFace}
use Rattle.cg_desc.specs.declared.crossbar.NodeDesc.{NodeDesc}
use Rattle.cg_desc.specs.declared.crossbar.Range.{Range}
use Rattle.cg_desc.specs.declared.crossbar.XbarDesc.{XbarDesc}
use Rattle.cg_desc.specs.declared.top.MergedTop.{MergedTop}
use Rattle.cg_desc.specs.declared.top.NodeEnd.{NodeEnd}
use Rattle.cg_desc.specs.declared.top.NodeEnd.TheVariants.{Face, Xbar, Outside}
use Rattle.cg_space.specs.Violations.{NoViolation}
use Rattle.cg_space.specs.Inner.Leaves.{IsFaceRow, IsLeafRow, IsRangeRow, face_row, range_row}
use Rattle.cg_space.specs.Inner.Sound.{IsDeviceAt, IsSound}
use Rattle.cg_space.specs.declared.row.HostId.{HostId}
use Rattle.cg_space.specs.declared.row.Row.{Row}
use Rattle.cg_space.proofs.LaidRows.{Over, one_laid, row_within, some_words}
use Rattle.cg_space.proofs.Looking.{at_among}
use Rattle.cg_space.proofs.Mapping.{connected, reached_device, outside_size, row_fits}
use Rattle.cg_space.proofs.OneList.{has_once, one_to}
use Rattle.cg_space.proofs.Sound.{one_end, one_face, one_node, one_there}
use Rattle.cg_space.proofs.Spacing.{alike, not_earlier, not_shared_within}
use Rattle.cg_space.proofs.Tabling.{all_at}

-- each device has ranges
abbrev pub EachHas : MergedTop → Type 0
EachHas m = (x n : ℕ) → IsDeviceAt m x n → (rs : List Range) × HasRanges m x n rs

-- ---- ranges of devices and of what is behind them

left_holds : (rs ss : List Range) (a : ℕ) → SomeHolds rs a → SomeHolds (rs ++ ss) a
left_holds rs ss a holds = (holds.0, first rs ss holds.0 holds.1, holds.2) where
  first : (rs ss : List Range) (r : Range) → Among r rs → Among r (rs ++ ss)
  first [] ss r among = absurd among
  first (x ∷ rs) ss r (inl is) = inl is
  first (x ∷ rs) ss r (inr among) = inr (first rs ss r among)

right_holds : (rs ss : List Range) (a : ℕ) → SomeHolds ss a → SomeHolds (rs ++ ss) a
right_holds [] ss a holds = holds
right_holds (r ∷ rs) ss a holds = let rest = right_holds rs ss a holds in (rest.0, inr rest.1, rest.2)

-- devices have what one of them has
part_holds : (m : MergedTop) → IsSound m → (x : ℕ) (ds : List ℕ) (rs : List Range) (d a : ℕ) (ls : List Range) → HaveRanges m x ds rs → Among d ds → HasRanges m x d ls → SomeHolds ls a
    → SomeHolds rs a
part_holds m sound x [] rs d a ls nothing among has holds = absurd among
part_holds m sound x (c ∷ ds) rs d a ls (more {rs = r1} {ss = r2} _ first have) (inl is) has holds =
    let same : ls ≡ r1 = has_once m sound x c ls r1 (subst (λ k. HasRanges m x k ls) is has) first in
    left_holds r1 r2 a (subst (λ (l : List Range). SomeHolds l a) same holds)
part_holds m sound x (c ∷ ds) rs d a ls (more {rs = r1} {ss = r2} _ first have) (inr among) has holds = right_holds r1 r2 a (part_holds m sound x ds r2 d a ls have among has holds)

-- a nested device has the ranges of what the inner host connects to
nested_have : (m : MergedTop) → IsSound m → (x d y k : ℕ) (inner : NodeDesc) (rs : List Range) → EndAt m x d (Xbar y) → IsInnerHost m x y k inner → HasRanges m x d rs
    → HaveRanges m y inner.to rs
nested_have m sound x d y k inner rs stands is (interface i f base face other face_is base_is) = absurd (let h = one_end m x d (Xbar y) (Face i f) stands other in cc)
nested_have m sound x d y k inner rs stands is (outside node at other) = absurd (let h = one_end m x d (Xbar y) Outside stands other in cc)
nested_have m sound x d y k inner rs stands is (nested z l host other is_host have) =
    let both = one_to m sound x z y l k host inner (one_end m x d (Xbar z) (Xbar y) other stands) is_host is in
    subst (λ c. HaveRanges m c inner.to rs) both.0 (subst (λ (to : List ℕ). HaveRanges m z to rs) both.1 have)

-- what a host connects to has the addresses of what it reaches
host_holds : (m : MergedTop) → IsSound m → EachHas m → (x h z e a : ℕ) (ls : List Range) → Reaches m x h z e → HasRanges m z e ls → SomeHolds ls a
    → (host : NodeDesc) → NodeAt m x h host → (rs : List Range) → HaveRanges m x host.to rs → SomeHolds rs a
host_holds m sound each x h z e a ls (Reaches.straight end c stands plain) has holds host at rs have =
    part_holds m sound x host.to rs e a ls have (subst (λ (n : NodeDesc). Among e n.to) (one_node m x h c.host host c.is at) c.connects) has holds
host_holds m sound each x h z e a ls (Reaches.nested d y k inner c stands is on) has holds host at rs have =
    let own = each x d (connected m x h d sound c) in
    let some = host_holds m sound each y k z e a ls on has holds inner is.is own.0 (nested_have m sound x d y k inner own.0 stands is own.1) in
    part_holds m sound x host.to rs d a own.0 have (subst (λ (n : NodeDesc). Among d n.to) (one_node m x h c.host host c.is at) c.connects) own.1 some

-- ---- one device is reached at an address

-- devices of one host that have one address are one
apart : (m : MergedTop) (x h d e a : ℕ) (rs ss : List Range) → IsSound m → NoViolation m → ConnectsAt m x h d → ConnectsAt m x h e → HasRanges m x d rs → HasRanges m x e ss
    → SomeHolds rs a → SomeHolds ss a → d ≡ e
apart m x h d e a rs ss sound none c b has_d has_e p q =
    alike d e (not_earlier m x h d e a xbar rs ss none c.is.crossbar_is (valid.devices_only h e to_e) to_d to_e has_d has_e p q)
    (not_earlier m x h e d a xbar ss rs none c.is.crossbar_is (valid.devices_only h d to_d) to_e to_d has_e has_d q p)
  where
    xbar : XbarDesc
    xbar = c.is.crossbar

    valid : IsValidCrossbar xbar
    valid = all_at IsValidCrossbar m.xbars x xbar sound.crossbars c.is.crossbar_is

    to_d : Connects xbar h d
    to_d = (c.host, c.is.is, c.is_host, c.connects)

    to_e : Connects xbar h e
    to_e = (c.host, c.is.is, c.is_host, subst (λ (n : NodeDesc). Among e n.to) (one_node m x h b.host c.host b.is c.is) b.connects)

-- a device has the addresses of what is reached over it
over_holds : (m : MergedTop) → IsSound m → EachHas m → (x d y k z e a : ℕ) (inner : NodeDesc) (ls rs : List Range) → EndAt m x d (Xbar y) → IsInnerHost m x y k inner → Reaches m y k z e
    → HasRanges m z e ls → SomeHolds ls a → HasRanges m x d rs → SomeHolds rs a
over_holds m sound each x d y k z e a inner ls rs stands is on has holds own =
    host_holds m sound each y k z e a ls on has holds inner is.is rs (nested_have m sound x d y k inner rs stands is own)

pub one_leaf : (m : MergedTop) → IsSound m → NoViolation m → EachHas m → (x h z e w g a : ℕ) (ls ks : List Range) → Reaches m x h z e → Reaches m x h w g
    → HasRanges m z e ls → HasRanges m w g ks → SomeHolds ls a → SomeHolds ks a → (z ≡ w) × (e ≡ g)
one_leaf m sound none each x h z e w g a ls ks (Reaches.straight p c s plain) (Reaches.straight q b t plain') has had holds held =
    (refl, apart m x h e g a ls ks sound none c b has had holds held)
one_leaf m sound none each x h z e w g a ls ks (Reaches.straight p c s plain) (Reaches.nested d y k inner b t is on) has had holds held =
    let own = each x d (connected m x h d sound b) in
    let same : e ≡ d = apart m x h e d a ls own.0 sound none c b has own.1 holds (over_holds m sound each x d y k w g a inner ks own.0 t is on had held own.1) in
    let end : p ≡ Xbar y = one_end m x d p (Xbar y) (subst (λ n. EndAt m x n p) same s) t in
    absurd (subst (λ (v : NodeEnd). IsPlain v) end plain)
one_leaf m sound none each x h z e w g a ls ks (Reaches.nested d y k inner c s is on) (Reaches.straight q b t plain) has had holds held =
    let own = each x d (connected m x h d sound c) in
    let same : g ≡ d = apart m x h g d a ks own.0 sound none b c had own.1 held (over_holds m sound each x d y k z e a inner ls own.0 s is on has holds own.1) in
    let end : q ≡ Xbar y = one_end m x d q (Xbar y) (subst (λ n. EndAt m x n q) same t) s in
    absurd (subst (λ (v : NodeEnd). IsPlain v) end plain)
one_leaf m sound none each x h z e w g a ls ks (Reaches.nested d y k inner c s is on) (Reaches.nested d' y' k' inner' b t is' on') has had holds held =
    let own = each x d (connected m x h d sound c) in
    let own' = each x d' (connected m x h d' sound b) in
    let same : d' ≡ d =
    apart m x h d' d a own'.0 own.0 sound none b c own'.1 own.1 (over_holds m sound each x d' y' k' w g a inner' ks own'.0 t is' on' had held own'.1)
    (over_holds m sound each x d y k z e a inner ls own.0 s is on has holds own.1) in
    let end : Xbar y' ≡ Xbar y = one_end m x d (Xbar y') (Xbar y) (subst (λ n. EndAt m x n (Xbar y')) same t) s in
    let crossbar : y' ≡ y = cc in
    let number : k' ≡ k = sound.one_inner x y k' k inner' inner (subst (λ c. IsInnerHost m x c k' inner') crossbar is') is in
    one_leaf m sound none each y k z e w g a ls ks on (subst (λ j. Reaches m y j w g) number (subst (λ c. Reaches m c k' w g) crossbar on')) has had holds held

-- ---- a row's addresses are its device's

-- the row holds the address
abbrev pub Holds : Row → ℕ → Type 0
Holds row a = (row.first ≤ a) × (a ≤ row.last)

pub laid_of : (m : MergedTop) (i f : ℕ) (face : LaidFace) → IsMerged m → FaceAt m i f face → IsLaid face
laid_of m i f face is at = all_at IsLaid at.0.faces f face (all_at IsValidLaidBlock m.blocks at.1.0 at.0 is.blocks at.1.2).laid at.2

face_over : (m : MergedTop) (host : HostId) (i f a : ℕ) (row : Row) → IsMerged m → (r : IsFaceRow m host i f row) → Holds row a → Over r.base r.laid a
face_over m host i f a row is r holds =
    let words = some_words r.face.rows r.laid (row_fits m i f r.number r.face r.laid is r.face_is r.laid_is) in
    let here : Holds (face_row host i f r.base r.number r.laid) a = subst (λ (l : Row). Holds l a) r.is holds in
    (here.0, omega (arith, here.1, words))

range_over : (m : MergedTop) (host : HostId) (z e k a : ℕ) (node : NodeDesc) (range : Range) (row : Row) → NoViolation m → IsDeviceAt m z e → NodeAt m z e node → EndAt m z e Outside
    → slice_get node.ranges k ≡ Some range → row ≡ range_row host z e range → Holds row a → RangeHolds range a
range_over m host z e k a node range row none device at stands there is holds =
    let here : Holds (range_row host z e range) a = subst (λ (l : Row). Holds l a) is holds in
    (here.0, omega (arith, here.1, outside_size m z e node range none device at stands (at_among node.ranges k range there)))

pub leaf_holds : (m : MergedTop) (host : HostId) (z e a : ℕ) (row : Row) → IsSound m → NoViolation m → IsDeviceAt m z e → IsLeafRow m host z e row → Holds row a
    → (ls : List Range) × HasRanges m z e ls × SomeHolds ls a
leaf_holds m host z e a row sound none device (IsLeafRow.of_face i f stands r) holds =
    let merged = (sound.faces z e i f stands).0 in
    let over = face_over m host i f a row merged r holds in
    let within = row_within r.face r.number r.laid (laid_of m i f r.face merged r.face_is) r.laid_is in
    let range : Range = record { base = r.base; size = r.face.size } in
    (range ∷ [], interface i f r.base r.face stands r.face_is r.base_is, (range, inl refl, (omega (arith, over.0), omega (arith, over.1, within))))
leaf_holds m host z e a row sound none device (IsLeafRow.of_outside node at stands r) holds =
    (node.ranges, outside node at stands, (r.1.0, at_among node.ranges r.0 r.1.0 r.1.1, range_over m host z e r.0 a node r.1.0 row none device at stands r.1.1 r.1.2 holds))

-- ---- one row of one device

one_face_row : (m : MergedTop) (host : HostId) (i f a : ℕ) (row other : Row) → IsSound m → IsMerged m → IsFaceRow m host i f row → IsFaceRow m host i f other → Holds row a → Holds other a
    → row ≡ other
one_face_row m host i f a row other sound merged r s holds held =
    let over = face_over m host i f a row merged r holds in
    let under = face_over m host i f a other merged s held in
    let faces : s.face ≡ r.face = one_face m i f s.face r.face s.face_is r.face_is in
    let bases : s.base ≡ r.base = sound.one_base i f s.base r.base s.base_is r.base_is in
    let there : slice_get r.face.rows s.number ≡ Some s.laid = subst (λ (g : LaidFace). slice_get g.rows s.number ≡ Some s.laid) faces s.laid_is in
    let laid = laid_of m i f r.face merged r.face_is in
    let numbers : s.number ≡ r.number =
    one_laid r.face.rows 0 r.face.rows r.base a s.number r.number s.laid r.laid laid.rows there r.laid_is (subst (λ b. Over b s.laid a) bases under) over in
    let rows : s.laid ≡ r.laid =
    one_there r.face.rows r.number s.laid r.laid (subst (λ k. slice_get r.face.rows k ≡ Some s.laid) numbers there) r.laid_is in
    r.is ∙ sym (s.is ∙ ap (λ b. face_row host i f b s.number s.laid) bases ∙ ap (λ k. face_row host i f r.base k s.laid) numbers ∙ ap (λ l. face_row host i f r.base r.number l) rows)

one_range_row : (m : MergedTop) (host : HostId) (z e a : ℕ) (node : NodeDesc) (row other : Row) → NoViolation m → IsDeviceAt m z e → NodeAt m z e node → EndAt m z e Outside
    → IsRangeRow host z e node.ranges row → IsRangeRow host z e node.ranges other → Holds row a → Holds other a → row ≡ other
one_range_row m host z e a node row other none device at stands r s holds held =
    let p = range_over m host z e r.0 a node r.1.0 row none device at stands r.1.1 r.1.2 holds in
    let q = range_over m host z e s.0 a node s.1.0 other none device at stands s.1.1 s.1.2 held in
    let has = outside node at stands in
    let is_device : IsDevice device.1.crossbar e = (device.0, device.1.is, device.2) in
    let same : s.0 ≡ r.0 =
    alike s.0 r.0 (not_shared_within m z e s.0 r.0 a device.1.crossbar node.ranges s.1.0 r.1.0 none device.1.crossbar_is is_device has s.1.1 r.1.1 q p)
    (not_shared_within m z e r.0 s.0 a device.1.crossbar node.ranges r.1.0 s.1.0 none device.1.crossbar_is is_device has r.1.1 s.1.1 p q) in
    let ranges : s.1.0 ≡ r.1.0 = one_there node.ranges r.0 s.1.0 r.1.0 (subst (λ k. slice_get node.ranges k ≡ Some s.1.0) same s.1.1) r.1.1 in
    r.1.2 ∙ sym (s.1.2 ∙ ap (λ l. range_row host z e l) ranges)

pub one_leaf_row : (m : MergedTop) (host : HostId) (z e a : ℕ) (row other : Row) → IsSound m → NoViolation m → IsDeviceAt m z e → IsLeafRow m host z e row → IsLeafRow m host z e other
    → Holds row a → Holds other a → row ≡ other
one_leaf_row m host z e a row other sound none device (IsLeafRow.of_face i f s r) (IsLeafRow.of_face j g t q) holds held =
    let end : Face j g ≡ Face i f = one_end m z e (Face j g) (Face i f) t s in
    let p1 : j ≡ i = cc in
    let p2 : g ≡ f = cc in
    one_face_row m host i f a row other sound (sound.faces z e i f s).0 r (subst (λ n. IsFaceRow m host i n other) p2 (subst (λ n. IsFaceRow m host n g other) p1 q)) holds held
one_leaf_row m host z e a row other sound none device (IsLeafRow.of_face i f s r) (IsLeafRow.of_outside node at t q) holds held = absurd (let h = one_end m z e (Face i f) Outside s t in cc)
one_leaf_row m host z e a row other sound none device (IsLeafRow.of_outside node at s r) (IsLeafRow.of_face i f t q) holds held = absurd (let h = one_end m z e Outside (Face i f) s t in cc)
one_leaf_row m host z e a row other sound none device (IsLeafRow.of_outside node at s r) (IsLeafRow.of_outside node' at' t q) holds held =
    let same : node' ≡ node = one_node m z e node' node at' at in
    one_range_row m host z e a node row other none device at s r (subst (λ (n : NodeDesc). IsRangeRow host z e n.ranges other) same q) holds held

-- ---- one row of one host

pub one_reached : (m : MergedTop) (host : HostId) (x h z e w g a : ℕ) (row other : Row) → IsSound m → NoViolation m → EachHas m → Reaches m x h z e → Reaches m x h w g
    → IsLeafRow m host z e row → IsLeafRow m host w g other → Holds row a → Holds other a → row ≡ other
one_reached m host x h z e w g a row other sound none each p q r s holds held =
    let device = reached_device m x h z e sound p in
    let has = leaf_holds m host z e a row sound none device r holds in
    let had = leaf_holds m host w g a other sound none (reached_device m x h w g sound q) s held in
    let same = one_leaf m sound none each x h z e w g a has.0 had.0 p q has.1 had.1 has.2 had.2 in
    let there : IsLeafRow m host z e other = subst (λ n. IsLeafRow m host z n other) (sym same.1) (subst (λ c. IsLeafRow m host c g other) (sym same.0) s) in
    one_leaf_row m host z e a row other sound none device r there holds held
