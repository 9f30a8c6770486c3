-- Each address is one place for a host.
use Rattle.std.proofs.Common.{◌≡◌, ℕ, ◌-◌, ◌/◌, refl, sym, ap, ◌∙◌, arith}
use Rattle.cg_desc.specs.AddressMap.{IsPlaceFor, StandsAt}
use Rattle.cg_desc.specs.Reach.{Reaches}
use Rattle.cg_desc.specs.Target.{aligned}
use Rattle.cg_desc.specs.declared.address.Place.{Place}
use Rattle.cg_desc.specs.declared.top.MergedTop.{MergedTop}
use Rattle.cg_space.specs.Laws.{EachAddressIsOnePlace}
use Rattle.cg_space.specs.Rows.{with_index}
use Rattle.cg_space.specs.Violations.{NoViolation}
use Rattle.cg_space.specs.Inner.Leaves.{IsLeafRow, face_row, range_row}
use Rattle.cg_space.specs.Inner.Sound.{IsSound}
use Rattle.cg_space.specs.declared.row.Row.{Row}
use Rattle.cg_space.proofs.AllRanged.{all_ranged}
use Rattle.cg_space.proofs.Looking.{among_at}
use Rattle.cg_space.proofs.Merged.{is_sound}
use Rattle.cg_space.proofs.OneRow.{Holds, one_reached}
use Rattle.cg_space.proofs.Spacing.{unbroken_free}

-- a row of what the host reaches holds the address, and says the place
record Said (m : MergedTop) (x h address : ℕ) (place : Place) : Type 0 where
  z : ℕ
  e : ℕ
  reaches : Reaches m x h z e
  row : Row
  leaf : IsLeafRow m (record { xbar = x; node = h }) z e row
  holds : Holds row (aligned address)
  says : place ≡ with_index row.place ((aligned address - row.first) / 4)

said : (m : MergedTop) (x h a : ℕ) (place : Place) → StandsAt m x h a place → Said m x h a place
said m x h a place (StandsAt.at_register i f r base face lrow reg reach at item holds) = record {
  z = reach.z;
  e = reach.d;
  reaches = reach.reaches;
  row = face_row (record { xbar = x; node = h }) i f base r lrow;
  leaf = IsLeafRow.of_face i f reach.stands (record { face = face; face_is = reach.face_is; base = base; base_is = reach.base_is; number = r; laid = lrow; laid_is = at; is = refl });
  holds = (holds.from_start, omega (arith, holds.before_end));
  says = rw item refl;
}
said m x h a place (StandsAt.at_word i f r base face lrow w reach at item holds) = record {
  z = reach.z;
  e = reach.d;
  reaches = reach.reaches;
  row = face_row (record { xbar = x; node = h }) i f base r lrow;
  leaf = IsLeafRow.of_face i f reach.stands (record { face = face; face_is = reach.face_is; base = base; base_is = reach.base_is; number = r; laid = lrow; laid_is = at; is = refl });
  holds = (holds.from_start, omega (arith, holds.before_end));
  says = rw item refl;
}
said m x h a place (StandsAt.at_outside z d node range reaches at stands among holds) =
    let there = among_at node.ranges range among in
    record {
      z = z;
      e = d;
      reaches = reaches;
      row = range_row (record { xbar = x; node = h }) z d range;
      leaf = IsLeafRow.of_outside node at stands (there.0, (range, there.1, refl));
      holds = (holds.0, omega (arith, holds.1));
      says = refl;
    }

one_stands : (m : MergedTop) (x h a : ℕ) (p q : Place) → IsSound m → NoViolation m → StandsAt m x h a p → StandsAt m x h a q → p ≡ q
one_stands m x h a p q sound none s t =
    let left = said m x h a p s in
    let right = said m x h a q t in
    let same : left.row ≡ right.row =
    one_reached m (record { xbar = x; node = h }) x h left.z left.e right.z right.e (aligned a) left.row right.row sound none (all_ranged m sound (unbroken_free m none))
    left.reaches right.reaches left.leaf right.leaf left.holds right.holds in
    left.says ∙ ap (λ (row : Row). with_index row.place ((aligned a - row.first) / 4)) same ∙ sym right.says

pub each_address_is_one_place : EachAddressIsOnePlace
each_address_is_one_place m x h a p q valid none (IsPlaceFor.there _ s) (IsPlaceFor.there _ t) = one_stands m x h a p q (is_sound m valid) none s t
each_address_is_one_place m x h a p q valid none (IsPlaceFor.there _ s) (IsPlaceFor.nowhere nothing) = absurd (nothing p s)
each_address_is_one_place m x h a p q valid none (IsPlaceFor.nowhere nothing) (IsPlaceFor.there _ t) = absurd (nothing q t)
each_address_is_one_place m x h a p q valid none (IsPlaceFor.nowhere nothing) (IsPlaceFor.nowhere also) = refl
