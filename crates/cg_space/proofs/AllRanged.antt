-- Where no crossbar leads back to itself, each device has a list of ranges.
use Rattle.std.proofs.Common.{◌≡◌, ◌↔◌, ℕ, zero, suc, ◌+◌, ◌<◌, ◌≤◌, ◌⊎◌, inl, inr, Bool, true, false, List, [], ◌∷◌, ◌++◌, Option, Some, None, length, get_or, slice_get, refl, sym, ap, ◌∙◌, subst, arith}
use Rattle.std.proofs.lemmas.Bool.{cases_lt, false≢true}
use Rattle.std.proofs.lemmas.Option.{slice_get_within}
use Rattle.cg_svspec.specs.Names.{Among}
use Rattle.cg_svspec.specs.Printable.{AllOf}
use Rattle.cg_desc.specs.Merged.{EndAt, NodeAt}
use Rattle.cg_desc.specs.Reach.{HasRanges, HaveRanges, NoCircle, Nests, interface, outside, nested, nothing, more}
use Rattle.cg_desc.specs.declared.crossbar.NodeDesc.{NodeDesc}
use Rattle.cg_desc.specs.declared.crossbar.Range.{Range}
use Rattle.cg_desc.specs.declared.crossbar.XbarDesc.{XbarDesc}
use Rattle.cg_desc.specs.declared.top.MergedTop.{MergedTop}
use Rattle.cg_desc.specs.declared.top.NodeEnd.{NodeEnd}
use Rattle.cg_desc.specs.declared.top.NodeEnd.TheVariants.{Face, Host, Xbar, Outside}
use Rattle.cg_desc.proofs.FoundBases.{has_base}
use Rattle.cg_desc.proofs.Numbered.{item_at}
use Rattle.cg_space.specs.Inner.Marks.{rank}
use Rattle.cg_space.specs.Inner.Sound.{IsDeviceAt, IsNestedAt, IsSound}
use Rattle.cg_space.specs.Inner.Tables.{AreLinks, those}
use Rattle.cg_space.proofs.Linking.{LinksBelow, NestsBelow, links_all, links_more, links_within, nests_all, nests_more, nests_start, no_loop, nodes_there}
use Rattle.cg_space.proofs.Marking.{rank_falls}
use Rattle.cg_space.proofs.OneRow.{EachHas}
use Rattle.cg_space.proofs.Sound.{one_end, one_node, one_there, xbar_within}
use Rattle.cg_space.proofs.Tabling.{to_devices}

-- ---- ends

-- a node has an end
end_of : (m : MergedTop) → IsSound m → (x n : ℕ) (node : NodeDesc) → NodeAt m x n node → (e : NodeEnd) × EndAt m x n e
end_of m sound x n node at =
    let ends = item_at m.ends x (omega (arith, sound.count, xbar_within m x n (node, at))) in
    let all = sound.counts x at.crossbar ends.0 at.crossbar_is ends.1 in
    let end = item_at ends.0.ends n (omega (arith, all, slice_get_within at.crossbar.nodes n node at.is)) in
    (end.0, (ends.0, ends.1, end.1))

-- ---- links

-- the crossbar for which node n of crossbar x stands, if it does
abbrev pub Stands : MergedTop → ℕ → ℕ → Option ℕ → Type 0
Stands m x n found = (y : ℕ) → (found ≡ Some y) ↔ IsNestedAt m x n y

stands_not : (m : MergedTop) (x n : ℕ) → ((y : ℕ) → ¬ IsNestedAt m x n y) → Stands m x n None
stands_not m x n none y = (λ e. absurd cc, λ nested. absurd (none y nested))

stands_by : (m : MergedTop) (x n : ℕ) (node : NodeDesc) (host : Bool) (e : NodeEnd) → NodeAt m x n node → node.host ≡ host → EndAt m x n e → (found : Option ℕ) × Stands m x n found
stands_by m x n node true e at is stands =
    (None, stands_not m x n (λ y nested. false≢true (sym nested.0.2 ∙ ap (λ (d : NodeDesc). d.host) (one_node m x n nested.0.0 node nested.0.1 at) ∙ is)))
stands_by m x n node false (Face i f) at is stands = (None, stands_not m x n (λ y nested. let h = one_end m x n (Face i f) (Xbar y) stands nested.1 in cc))
stands_by m x n node false (Host i f) at is stands = (None, stands_not m x n (λ y nested. let h = one_end m x n (Host i f) (Xbar y) stands nested.1 in cc))
stands_by m x n node false Outside at is stands = (None, stands_not m x n (λ y nested. let h = one_end m x n Outside (Xbar y) stands nested.1 in cc))
stands_by m x n node false (Xbar z) at is stands = (Some z, exact) where
  exact : Stands m x n (Some z)
  exact y = (
    λ e. let same : z ≡ y = cc in ((node, at, is), subst (λ c. EndAt m x n (Xbar c)) same stands),
    λ nested. let same : z ≡ y = (let h = one_end m x n (Xbar z) (Xbar y) stands nested.1 in cc) in ap Some same,
  )

stands_there : (m : MergedTop) → IsSound m → (x n : ℕ) (xbar : XbarDesc) → slice_get m.xbars x ≡ Some xbar → (found : Option ℕ) × Stands m x n found
stands_there m sound x n xbar is = by (cases_lt n (length xbar.nodes)) where
  by : (n < length xbar.nodes) ⊎ (length xbar.nodes ≤ n) → (found : Option ℕ) × Stands m x n found
  by (inl less) =
      let node = item_at xbar.nodes n less in
      let at : NodeAt m x n node.0 = record { crossbar = xbar; crossbar_is = is; is = node.1 } in
      let end = end_of m sound x n node.0 at in
      stands_by m x n node.0 node.0.host end.0 at refl end.1
  by (inr high) = (
    None,
    stands_not m x n (λ y nested.
        let at = nested.0.1 in
        let same : at.crossbar ≡ xbar = one_there m.xbars x at.crossbar xbar at.crossbar_is is in
        omega (arith, high, slice_get_within xbar.nodes n nested.0.0 (subst (λ (c : XbarDesc). slice_get c.nodes n ≡ Some nested.0.0) same at.is))),
  )

nests_of : (m : MergedTop) → IsSound m → (x k : ℕ) (xbar : XbarDesc) → slice_get m.xbars x ≡ Some xbar → (inner : List ℕ) × ((y : ℕ) → Among y inner ↔ NestsBelow m x k y)
nests_of m sound x zero xbar is = ([], λ y. nests_start m x y)
nests_of m sound x (suc k) xbar is =
    let before = nests_of m sound x k xbar is in
    let found = stands_there m sound x k xbar is in
    let next : k + 1 ≡ suc k = omega arith in
    (before.0 ++ those found.0, λ y. subst (λ n. Among y (before.0 ++ those found.0) ↔ NestsBelow m x n y) next (nests_more m x k before.0 (before.0 ++ those found.0) found.0 found.1 refl before.1 y))

links_of : (m : MergedTop) → IsSound m → (x : ℕ) → x ≤ length m.xbars → (links : List (List ℕ)) × LinksBelow m x links
links_of m sound zero within = ([], record { count = refl; each = λ z y less. absurd (omega (arith, less)) })
links_of m sound (suc x) within =
    let before = links_of m sound x (omega (arith, within)) in
    let xbar = item_at m.xbars x (omega (arith, within)) in
    let d = xbar.0 in
    let inner = nests_of m sound x (length (get_or m.xbars x d).nodes) d xbar.1 in
    let all = nests_all m x (length (get_or m.xbars x d).nodes) inner.0 (λ n. nodes_there m x n d (omega (arith, within))) inner.1 in
    let next : x + 1 ≡ suc x = omega arith in
    (before.0 ++ inner.0 ∷ [], subst (λ n. LinksBelow m n (before.0 ++ inner.0 ∷ [])) next (links_more m x before.0 (before.0 ++ inner.0 ∷ []) inner.0 all refl before.1))

there_are_links : (m : MergedTop) → IsSound m → (links : List (List ℕ)) × AreLinks m links
there_are_links m sound = let all = links_of m sound (length m.xbars) (omega arith) in (all.0, links_all m all.0 all.1)

-- ---- ranges, by ranks

have_all : (m : MergedTop) (y : ℕ) → ((d : ℕ) → IsDeviceAt m y d → (rs : List Range) × HasRanges m y d rs) → (ds : List ℕ) → AllOf (IsDeviceAt m y) ds → (rs : List Range) × HaveRanges m y ds rs
have_all m y has [] all = ([], nothing)
have_all m y has (d ∷ ds) all =
    let here = has d all.0 in
    let rest = have_all m y has ds all.1 in
    (here.0 ++ rest.0, more d here.1 rest.1)

-- by what the device stands for, where those behind it have ranges
has_by : (m : MergedTop) → IsSound m → (x d : ℕ) → (device : IsDeviceAt m x d) → ((y : ℕ) → Nests m x y → (c : ℕ) → IsDeviceAt m y c → (rs : List Range) × HasRanges m y c rs)
    → (e : NodeEnd) → EndAt m x d e → (rs : List Range) × HasRanges m x d rs
has_by m sound x d device behind (Face i f) stands =
    let known = sound.faces x d i f stands in
    let base = has_base m known.0 i f known.1 known.2 in
    (record { base = base.0; size = known.1.size } ∷ [], interface i f base.0 known.1 stands known.2 base.1)
has_by m sound x d device behind (Host i f) stands = absurd (sound.hosts x d i f stands device)
has_by m sound x d device behind (Xbar y) stands =
    let inner = sound.inner x d y (device, stands) in
    let nests : Nests m x y = record { number = d; device = device.0; is = device.1; is_device = device.2; stands = stands } in
    let have = have_all m y (behind y nests) inner.1.to (to_devices m y inner.0 inner.1 sound inner.2.is inner.2.is_host) in
    (have.0, nested y inner.0 inner.1 stands inner.2 have.1)
has_by m sound x d device behind Outside stands = (device.0.ranges, outside device.0 device.1 stands)

falls : (m : MergedTop) (links : List (List ℕ)) (x y : ℕ) → IsSound m → AreLinks m links → NoCircle m → Nests m x y → rank links y < rank links x
falls m links x y sound are free nests =
    let there : x < length links = omega (arith, are.count, xbar_within m x nests.number (nests.device, nests.is)) in
    rank_falls links x y (links_within m links sound are) (no_loop m links are free) there ((are.each x y).1 nests)

has_below : (m : MergedTop) (links : List (List ℕ)) → IsSound m → AreLinks m links → NoCircle m → (n x d : ℕ) → rank links x < n → IsDeviceAt m x d → (rs : List Range) × HasRanges m x d rs
has_below m links sound are free zero x d less device = absurd (omega (arith, less))
has_below m links sound are free (suc n) x d less device =
    let end = end_of m sound x d device.0 device.1 in
    has_by m sound x d device (λ y nests c at. has_below m links sound are free n y c (omega (arith, falls m links x y sound are free nests, less)) at) end.0 end.1

pub all_ranged : (m : MergedTop) → IsSound m → NoCircle m → EachHas m
all_ranged m sound free x d device =
    let links = there_are_links m sound in
    has_below m links.0 sound links.1 free (suc (rank links.0 x)) x d (omega arith) device
