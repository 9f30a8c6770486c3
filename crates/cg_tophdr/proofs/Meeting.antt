-- The base of an interface with an offset in it is an address of the interface.
use Rattle.std.proofs.Common.{◌≡◌, ℕ, ◌+◌, ◌-◌, ◌/◌, ◌<◌, ◌≤◌, ◌^◌, ◌∷◌, [], Some, inl, refl, ap, subst, arith}
use Rattle.std.specs.List.{slice_get}
use Rattle.cg_desc.specs.AddressMap.{HoldsFrom, IsPlaceFor, ReachesFace, StandsAt}
use Rattle.cg_desc.specs.Merged.{IsMerged, of_top}
use Rattle.cg_desc.specs.Ranges.{IsRange, RangeHolds}
use Rattle.cg_desc.specs.Reach.{interface}
use Rattle.cg_desc.specs.Target.{HoldsAddress, IsTarget, Target, aligned, error}
use Rattle.cg_desc.specs.declared.block.LaidFace.{LaidFace}
use Rattle.cg_desc.specs.declared.block.LaidRow.{LaidRow}
use Rattle.cg_desc.specs.declared.top.MergedTop.{MergedTop}
use Rattle.cg_space.proofs.LaidRows.{row_within}
use Rattle.cg_space.proofs.Mapping.{reached_device}
use Rattle.cg_space.proofs.Merged.{is_sound}
use Rattle.cg_space.proofs.OneRow.{laid_of}
use Rattle.cg_space.proofs.Shapes.{four_at_least}
use Rattle.cg_space.specs.Violations.{NoViolation}
use Rattle.cg_topspec.proofs.AtPlaces.{interface_range}
use Rattle.cg_topspec.proofs.Places.{holds_aligned, holds_unaligned}
use Rattle.cg_topspec.proofs.Shapes.{good_range}
use Rattle.cg_topspec.specs.Ways.{target_place}
use Rattle.cg_tophdr.specs.Laws.{BasesAndOffsetsMeet}

-- ---- numbers

-- an address above a multiple of 4
aligned_above : (base offset : ℕ) → base ≤ aligned base → aligned (base + offset) ≡ base + aligned offset
aligned_above base offset whole = omega (arith, whole)

module _ (m : MergedTop) (merged : IsMerged m) (none : NoViolation m) (x h i f base offset : ℕ) (face : LaidFace) (reach : ReachesFace m x h i f base face) where
  -- the interface's range is of good shape
  good : IsRange (interface_range base face)
  good =
      good_range m none reach.z reach.d (reached_device m x h reach.z reach.d (is_sound m (of_top merged)) reach.reaches) (interface_range base face ∷ [])
      (interface i f base face reach.stands reach.face_is reach.base_is) (interface_range base face) (inl refl)

  -- its base is a multiple of 4
  whole : base ≤ aligned base
  whole = (holds_aligned (interface_range base face) base good (omega arith, omega (arith, four_at_least (interface_range base face) good))).0

  address_aligned : aligned (base + offset) ≡ base + aligned offset
  address_aligned = aligned_above base offset whole

  module _ (r : ℕ) (row : LaidRow) (there : slice_get face.rows r ≡ Some row) (holds : HoldsAddress row offset) where
    within : RangeHolds (interface_range base face) (base + offset)
    within =
        holds_unaligned (interface_range base face) (base + offset) good
        (omega (arith, address_aligned), omega (arith, address_aligned, holds.before_end, row_within face r row (laid_of m i f face merged reach.face_is) there))

    small : base + offset < 2 ^ 32
    small = omega (arith, within.1, good.ends)

    held : HoldsFrom base row (base + offset)
    held = record { from_start = omega (arith, address_aligned, holds.from_start); before_end = omega (arith, address_aligned, holds.before_end) }

    -- the word of a window is the same
    same_word : (aligned (base + offset) - (base + row.first)) / 4 ≡ (aligned offset - row.first) / 4
    same_word = ap (λ n. n / 4) (omega (arith, address_aligned, holds.from_start))

  meets : (target : Target) → IsTarget face offset target → ¬ (target ≡ error) → (base + offset < 2 ^ 32) × IsPlaceFor m x h (base + offset) (target_place i f target)
  meets _ (IsTarget.at_register r row reg there item holds) some =
      (small r row there holds, IsPlaceFor.there _ (StandsAt.at_register i f r base face row reg reach there item (held r row there holds)))
  meets _ (IsTarget.at_word r row w there item holds) some = (
    small r row there holds,
    subst (λ k. IsPlaceFor m x h (base + offset) (target_place i f (Target.word r k))) (same_word r row there holds)
        (IsPlaceFor.there _ (StandsAt.at_word i f r base face row w reach there item (held r row there holds))),
  )
  meets _ (IsTarget.nowhere never) some = absurd (some refl)

-- The base of an interface with the offset of a register or of a window's word is the address at which the host finds it.
pub bases_and_offsets_meet : BasesAndOffsetsMeet
bases_and_offsets_meet m x h i f base offset face target merged none host reach is some = meets m merged none x h i f base offset face reach target is some
