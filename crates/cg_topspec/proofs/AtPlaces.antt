-- What stands at the address of a request, by the device that the request comes to.
use Rattle.std.proofs.Common.{List, Some, [], ap, arith, inl, inr, refl, slice_get, subst, sym, ℕ, ◌%◌, ◌+◌, ◌-◌, ◌/◌, ◌∷◌, ◌≡◌}
use Rattle.cg_desc.proofs.Numbered.{item_among}
use Rattle.cg_desc.specs.AddressMap.{HoldsFrom, IsPlaceFor, ReachesFace, StandsAt}
use Rattle.cg_desc.specs.Merged.{BaseIs, EndAt, FaceAt, IsMerged, NodeAt, of_top}
use Rattle.cg_desc.specs.Ranges.{IsRange, RangeHolds, SomeHolds}
use Rattle.cg_desc.specs.Reach.{HasRanges, Reaches, interface, nested, outside}
use Rattle.cg_desc.specs.Target.{HoldsAddress, IsTarget, Target, aligned}
use Rattle.cg_desc.specs.declared.address.Place.{Place}
use Rattle.cg_desc.specs.declared.address.Place.TheVariants.{Error, Outside as outside_at}
use Rattle.cg_desc.specs.declared.block.LaidFace.{LaidFace}
use Rattle.cg_desc.specs.declared.block.LaidRow.{LaidRow}
use Rattle.cg_desc.specs.declared.crossbar.NodeDesc.{NodeDesc}
use Rattle.cg_desc.specs.declared.crossbar.Range.{Range}
use Rattle.cg_desc.specs.declared.top.MergedTop.{MergedTop}
use Rattle.cg_desc.specs.declared.top.NodeEnd.TheVariants.{Face, Outside, Xbar}
use Rattle.cg_space.proofs.AllRanged.{all_ranged}
use Rattle.cg_space.proofs.LaidRows.{row_within}
use Rattle.cg_space.proofs.Mapping.{reached_device}
use Rattle.cg_space.proofs.Merged.{is_sound}
use Rattle.cg_space.proofs.OneRow.{laid_of, one_leaf}
use Rattle.cg_space.proofs.Sound.{one_end, one_face}
use Rattle.cg_space.proofs.Spacing.{unbroken_free}
use Rattle.cg_space.specs.Inner.Sound.{IsSound}
use Rattle.cg_space.specs.Violations.{NoViolation}
use Rattle.cg_svspec.specs.Names.{Among}
use Rattle.cg_topspec.proofs.Places.{IsLow, holds_aligned, holds_unaligned, is_low}
use Rattle.cg_topspec.proofs.Shapes.{good_range}
use Rattle.cg_topspec.specs.Ways.{target_place}

abbrev pub interface_range : ℕ → LaidFace → Range
interface_range base face = record { base = base; size = face.size }

-- the ranges of an interface are the one of its base and size
pub record HasInterface (m : MergedTop) (z d i f : ℕ) (rs : List Range) : Type 0 where
  pub face : LaidFace
  pub base : ℕ
  pub face_is : FaceAt m i f face
  pub base_is : BaseIs m i f base
  pub only : rs ≡ interface_range base face ∷ []

interface_of_range : (m : MergedTop) (z d i f : ℕ) (rs : List Range) → EndAt m z d (Face i f) → HasRanges m z d rs → HasInterface m z d i f rs
interface_of_range m z d i f rs stands (interface j g base face other face_is base_is) = by (one_end m z d (Face j g) (Face i f) other stands) where
  by : Face j g ≡ Face i f → HasInterface m z d i f (interface_range base face ∷ [])
  by e =
      let a : j ≡ i = cc in
      let b : g ≡ f = cc in
      record {
        face = face;
        base = base;
        face_is = subst (λ k. FaceAt m i k face) b (subst (λ k. FaceAt m k g face) a face_is);
        base_is = subst (λ k. BaseIs m i k base) b (subst (λ k. BaseIs m k g base) a base_is);
        only = refl;
      }
interface_of_range m z d i f rs stands (outside node at other) = absurd (let h = one_end m z d (Face i f) Outside stands other in cc)
interface_of_range m z d i f rs stands (nested y k host other inner have) = absurd (let h = one_end m z d (Face i f) (Xbar y) stands other in cc)

outside_ranges : (m : MergedTop) (z d : ℕ) (rs : List Range) → EndAt m z d Outside → HasRanges m z d rs → (node : NodeDesc) × NodeAt m z d node × (rs ≡ node.ranges)
outside_ranges m z d rs stands (interface j g base face other face_is base_is) = absurd (let h = one_end m z d Outside (Face j g) stands other in cc)
outside_ranges m z d rs stands (outside node at other) = (node, at, refl)
outside_ranges m z d rs stands (nested y k host other inner have) = absurd (let h = one_end m z d Outside (Xbar y) stands other in cc)

module _ (m : MergedTop) (merged : IsMerged m) (none : NoViolation m) (x h a : ℕ) where
  sound_top : IsSound m
  sound_top = is_sound m (of_top merged)

  -- a row of an interface that is reached is in the interface's range
  row_over : (i f r base : ℕ) (face : LaidFace) (row : LaidRow) → FaceAt m i f face → slice_get face.rows r ≡ Some row → HoldsFrom base row a → RangeHolds (interface_range base face) (aligned a)
  row_over i f r base face row at get holds =
      let within = row_within face r row (laid_of m i f face merged at) get in
      (omega (arith, holds.from_start), omega (arith, holds.before_end, within))

  -- what stands at the address is of a device that is reached and has the address
  pub record Over (place : Place) : Type 0 where
    pub z : ℕ
    pub d : ℕ
    pub reaches : Reaches m x h z d
    pub ranges : List Range
    pub has : HasRanges m z d ranges
    pub holds : SomeHolds ranges (aligned a)

  over : (place : Place) → StandsAt m x h a place → Over place
  over place (StandsAt.at_register i f r base face row reg reach get item holds) = record {
    z = reach.z;
    d = reach.d;
    reaches = reach.reaches;
    ranges = interface_range base face ∷ [];
    has = interface i f base face reach.stands reach.face_is reach.base_is;
    holds = (interface_range base face, inl refl, row_over i f r base face row reach.face_is get holds);
  }
  over place (StandsAt.at_word i f r base face row w reach get item holds) = record {
    z = reach.z;
    d = reach.d;
    reaches = reach.reaches;
    ranges = interface_range base face ∷ [];
    has = interface i f base face reach.stands reach.face_is reach.base_is;
    holds = (interface_range base face, inl refl, row_over i f r base face row reach.face_is get holds);
  }
  over place (StandsAt.at_outside z d node range reaches at stands among holds) = record {
    z = z;
    d = d;
    reaches = reaches;
    ranges = node.ranges;
    has = outside node at stands;
    holds = (range, among, holds);
  }

  -- a range of a device that is reached is of good shape
  good : (z d : ℕ) (rs : List Range) → Reaches m x h z d → HasRanges m z d rs → (r : Range) → Among r rs → IsRange r
  good z d rs reaches has r among = good_range m none z d (reached_device m x h z d sound_top reaches) rs has r among

  -- ---- nothing is reached

  pub place_of_none : ((z d : ℕ) (rs : List Range) → Reaches m x h z d → HasRanges m z d rs → SomeHolds rs a → ⊥) → IsPlaceFor m x h a Error
  place_of_none never = IsPlaceFor.nowhere (λ place s.
      let o = over place s in
      never o.z o.d o.ranges o.reaches o.has (o.holds.0, o.holds.1, holds_unaligned o.holds.0 a (good o.z o.d o.ranges o.reaches o.has o.holds.0 o.holds.1) o.holds.2))

  -- ---- a device outside

  pub place_outside : (z d : ℕ) (rs : List Range) → Reaches m x h z d → EndAt m z d Outside → HasRanges m z d rs → SomeHolds rs a → IsPlaceFor m x h a (outside_at z d)
  place_outside z d rs reaches stands has holds =
      let node = outside_ranges m z d rs stands has in
      let range = holds.0 in
      let among : Among range node.0.ranges = subst (Among range) node.2 holds.1 in
      IsPlaceFor.there (outside_at z d) (StandsAt.at_outside z d node.0 range reaches node.1 stands among (holds_aligned range a (good z d rs reaches has range holds.1) holds.2))

  -- ---- an interface

  -- the interface's range holds the address
  in_range : (z d i f : ℕ) (rs : List Range) (g : HasInterface m z d i f rs) → SomeHolds rs a → RangeHolds (interface_range g.base g.face) a
  in_range z d i f rs g holds = by (subst (λ (l : List Range). SomeHolds l a) g.only holds) where
    by : SomeHolds (interface_range g.base g.face ∷ []) a → RangeHolds (interface_range g.base g.face) a
    by (r, inl e, held) = subst (λ (s : Range). RangeHolds s a) e held
    by (r, inr b, held) = absurd b

  module _ (z d i f : ℕ) (rs : List Range) (reaches : Reaches m x h z d) (stands : EndAt m z d (Face i f)) (has : HasRanges m z d rs) (holds : SomeHolds rs a) where
    pub itself : HasInterface m z d i f rs
    itself = interface_of_range m z d i f rs stands has

    held_in : RangeHolds (interface_range itself.base itself.face) a
    held_in = in_range z d i f rs itself holds

    low : IsLow itself.base itself.face.size a
    low = is_low (interface_range itself.base itself.face) a (good z d rs reaches has _ (subst (Among (interface_range itself.base itself.face)) (sym itself.only) (inl refl))) held_in

    reach : ReachesFace m x h i f itself.base itself.face
    reach = record { z = z; d = d; reaches = reaches; stands = stands; face_is = itself.face_is; base_is = itself.base_is }

    -- a row of the interface that holds the low part holds the address
    from_low : (row : LaidRow) → HoldsAddress row low.low → HoldsFrom itself.base row a
    from_low row o = record { from_start = omega (arith, o.from_start, low.aligned_is, low.above); before_end = omega (arith, o.before_end, low.aligned_is, low.above) }

    to_low : (row : LaidRow) → HoldsFrom itself.base row a → HoldsAddress row low.low
    to_low row o = record { from_start = omega (arith, o.from_start, low.aligned_is, low.above); before_end = omega (arith, o.before_end, low.aligned_is, low.above) }

    -- what stands at the address is a row of this interface
    same_device : (place : Place) (s : StandsAt m x h a place) → let o = over place s in (z ≡ o.z) × (d ≡ o.d)
    same_device place s =
        let o = over place s in
        one_leaf m sound_top none (all_ranged m sound_top (unbroken_free m none)) x h z d o.z o.d (aligned a) rs o.ranges reaches o.reaches has o.has
        (holds.0, holds.1, holds_aligned holds.0 a (good z d rs reaches has holds.0 holds.1) holds.2) o.holds

    row_of_it : (j g r base : ℕ) (face : LaidFace) (row : LaidRow) (other : ReachesFace m x h j g base face) → (z ≡ other.z) × (d ≡ other.d) → slice_get face.rows r ≡ Some row → HoldsFrom base row a
        → Among row itself.face.rows × HoldsAddress row low.low
    row_of_it j g r base face row other same get o = by (one_end m z d (Face j g) (Face i f) ends stands) where
      ends : EndAt m z d (Face j g)
      ends = subst (λ k. EndAt m k d (Face j g)) (sym same.0) (subst (λ k. EndAt m other.z k (Face j g)) (sym same.1) other.stands)

      by : Face j g ≡ Face i f → Among row itself.face.rows × HoldsAddress row low.low
      by e =
          let p : j ≡ i = cc in
          let q : g ≡ f = cc in
          let faces : face ≡ itself.face = one_face m i f face itself.face (subst (λ k. FaceAt m i k face) q (subst (λ k. FaceAt m k g face) p other.face_is)) itself.face_is in
          let bases : base ≡ itself.base = sound_top.one_base i f base itself.base (subst (λ k. BaseIs m i k base) q (subst (λ k. BaseIs m k g base) p other.base_is)) itself.base_is in
          (subst (λ (l : LaidFace). Among row l.rows) faces (item_among face.rows r row get), to_low row (subst (λ b. HoldsFrom b row a) bases o))

    pub place_inside : (target : Target) → IsTarget itself.face (a % itself.face.size) target → IsPlaceFor m x h a (target_place i f target)
    unfolding over
    place_inside target t = by target (subst (λ k. IsTarget itself.face k target) low.is t) where
      none_there : ((row : LaidRow) → Among row itself.face.rows → HoldsAddress row low.low → ⊥) → (place : Place) → StandsAt m x h a place → ⊥
      none_there never place (StandsAt.at_register j g r base face row reg other get item o) =
          let it = row_of_it j g r base face row other (same_device place (StandsAt.at_register j g r base face row reg other get item o)) get o in never row it.0 it.1
      none_there never place (StandsAt.at_word j g r base face row w other get item o) =
          let it = row_of_it j g r base face row other (same_device place (StandsAt.at_word j g r base face row w other get item o)) get o in never row it.0 it.1
      none_there never place (StandsAt.at_outside w e node range far at ends among o) =
          let same = same_device place (StandsAt.at_outside w e node range far at ends among o) in
          let here : EndAt m z d Outside = subst (λ k. EndAt m k d Outside) (sym same.0) (subst (λ k. EndAt m w k Outside) (sym same.1) ends) in
          let both = one_end m z d Outside (Face i f) here stands in absurd cc

      by : (target : Target) → IsTarget itself.face low.low target → IsPlaceFor m x h a (target_place i f target)
      by target (IsTarget.at_register r row reg get item o) = IsPlaceFor.there _ (StandsAt.at_register i f r itself.base itself.face row reg reach get item (from_low row o))
      by target (IsTarget.at_word r row w get item o) =
          let from = from_low row o in
          let index : (aligned low.low - row.first) / 4 ≡ (aligned a - (itself.base + row.first)) / 4 = ap (λ k. k / 4) (omega (arith, low.aligned_is, low.above)) in
          subst (λ k. IsPlaceFor m x h a (target_place i f (Target.word r k))) (sym index)
          (IsPlaceFor.there _ (StandsAt.at_word i f r itself.base itself.face row w reach get item from))
      by target (IsTarget.nowhere never) = IsPlaceFor.nowhere (none_there never)
